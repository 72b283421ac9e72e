-- `asking::room_readout::room` meets its contract.
-- Assumes nothing.
use mathlib.Core.Path.{sym, ◌∙◌}
use Rattle.rules.specs.BoxSaysNo.{saying}
use Rattle.store.proofs.OnlyAsked.{left_as_it_was}
use Rattle.asking.specs.RoomCall.{said_use}
use Rattle.asking.proofs.CallLines.{room_by_1, room_read_lem}
use Rattle.asking.proofs.room_readout.room.Goals as goal

pub returns-then-not-sizes_right : goal.returns-then-not-sizes_right
returns-then-not-sizes_right c =
    left_as_it_was
    (room_by_1 _ (sym c.if-not-sizes_right.ensures))

pub returns : goal.returns
unfolding said_use
returns c =
    let nodes = c.node_word.ensures in
    let marks = c.node_word-2.ensures in
    left_as_it_was
    ((λ i. saying 0 (record { nodes = nodes i; marks = marks i }))
    ∙ room_read_lem _ (sym c.if-not-sizes_right.ensures))
