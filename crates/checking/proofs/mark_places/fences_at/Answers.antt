-- `checking::mark_places::fences_at` meets its contract.
-- Assumes nothing.
use Rattle.std.proofs.Common.{rules, arith}
use Rattle.store.specs.Places.{in_use}
use Rattle.checking.specs.MarkPlaces.{place_fences_at, fences_at}
use Rattle.checking.proofs.AllOf.{all_up_to}
use Rattle.checking.proofs.mark_places.fences_at.Goals as goal

pub returns : goal.returns
unfolding fences_at
returns c =
    let args = c.args in
    all_up_to (place_fences_at args.profile.nodes.now args.starts.now) (λ x r f k. search rules) 1 (in_use args.profile.nodes.now) _ c.all.ensures.runs c.new.ensures.start (omega arith) c.new.ensures.exhausted
