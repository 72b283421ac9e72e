-- `marking::walking::edge_within` meets its contract.
-- Assumes nothing.
use mathlib.Core.Path.{◌∙◌, ap₂}
use Rattle.std.specs.Bool.{then_some}
use Rattle.marking.proofs.WalkSteps.{tests_link}
use Rattle.marking.proofs.walking.edge_within.Goals as goal

pub returns : goal.returns
returns c =
    c.then_some.ensures
    ∙ ap₂ then_some (tests_link _ _ _ _ c.node_word-in_use.ensures c.node_word-next.ensures c.node_word-next_key.ensures) c.node_word-next.ensures
