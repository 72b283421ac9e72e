-- `search::taking::Taken::take_slot` meets its contract: the slot's fence says past how many marks its own stand, the next up to how many.
-- Assumes nothing.
use Prim.Native.Nat.{ℕ, suc, ◌+◌}
use native.Mathlib.Omega.{arith}
use mathlib.Core.Path.{◌≡◌, ap, ◌∙◌}
use mathlib.Core.List.{List}
use Rattle.store.specs.Places.{node_field}
use Rattle.store.specs.SaidMarks.{between, said_marks}
use Rattle.search.specs.Found.{with_taken}
use Rattle.search.proofs.taking.Taken.take_slot.Goals as goal

said_between : (nodes marks : List ℕ) (place slot from to : ℕ) → from ≡ node_field nodes place (10 + slot)
    → to ≡ node_field nodes place (10 + slot + 1) → between from to marks ≡ said_marks nodes marks place slot
unfolding said_marks
said_between nodes marks place slot from to e f =
    let next : 10 + slot + 1 ≡ 10 + suc slot = omega arith in rw (e, f, next)

pub returns : goal.returns
returns c =
    c.take.ensures
    ∙ ap (with_taken _) (said_between _ _ _ _ _ _ c.node_word-from.ensures c.node_word-to.ensures)
