-- `checking::mark_places::place_fences_at` meets its contract.
-- Assumes nothing.
use Rattle.std.proofs.Common.{rules, arith, suc}
use Rattle.rules.specs.Staircase.{slots_per_node, slot_number}
use Rattle.checking.specs.MarkPlaces.{fence_at, place_fences_at}
use Rattle.checking.proofs.AllOf.{all_up_to}
use Rattle.checking.proofs.mark_places.place_fences_at.Goals as goal

pub returns : goal.returns
unfolding place_fences_at slot_number
returns c =
    let args = c.args in
    all_up_to (fence_at args.nodes.now args.starts.now args.place) (λ x r f k. search rules) 0 (suc slots_per_node) _ c.all.ensures.runs c.new.ensures.start (omega arith) c.new.ensures.exhausted
