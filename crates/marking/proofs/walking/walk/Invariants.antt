-- `marking::walking::walk` meets its contract. The loop's invariant: the walk is midway, with the slots of the places passed written. The measure:
-- the places that it can still come to.
-- Assumes nothing.
use Prim.Native.Nat.{◌<◌}
use Rattle.std.specs.Prelude.{IfSome}
use Rattle.hall.specs.SaidBand.{said}
use Rattle.search.specs.PlaceOf.{place_said}
use Rattle.marking.proofs.WalkedSlots.{Midway, places_left}
use Rattle.marking.proofs.walking.walk.Given as goal

abbrev pub invariant-loop-here : goal.invariant-loop-here
invariant-loop-here l = record {
  midway : Midway l.nodes (said l.band) l.initial.slots l.slots l.count (place_said l.here);
  node : IfSome l.here (λ p. 0 < p);
}

abbrev pub decreases-loop-here : goal.decreases-loop-here
decreases-loop-here l = places_left l.nodes (place_said l.here)
