-- `marking::walking::walk` meets its contract. The loop's invariant: the walk is midway, with the slots of the places passed written. The measure:
-- the places that it can still come to.
-- Assumes nothing.
use native.Mathlib.Omega.{arith}
use mathlib.Core.Path.{◌≡◌, ap, ◌∙◌}
use borrow.Author.Rules.{rules}
use Rattle.hall.specs.SaidBand.{said}
use Rattle.search.specs.PlaceOf.{place_said}
use Rattle.marking.specs.Stairs.{stair_next}
use Rattle.marking.proofs.WalkedSlots.{walked_within, walk_begins, count_within, all_written, walk_steps, fewer_left}
use Rattle.marking.proofs.walking.walk.Goals as goal

pub loop-here-init : goal.loop-here-init
loop-here-init c = record { midway = rw c.place_of-here.ensures.place (walk_begins _ _ _); node = c.place_of-here.ensures.node }

pub visit-count-requires : goal.visit-count-requires
visit-count-requires c =
    let node = rw c.in-Some.is at c.loop-here.invariant.node in
    let mid = rw c.in-Some.is at c.loop-here.invariant.midway in
    let within = count_within _ _ mid in
    let most = walked_within _ (said c.args.band) c.args.profile.few in
    (omega arith, omega (arith, mid.in_use_lem), omega arith, c.stair_at-stair.ensures.lane)

pub loop-here-smaller : goal.loop-here-smaller
loop-here-smaller c =
    let node = rw c.in-Some.is at c.loop-here.invariant.node in
    let mid = rw c.in-Some.is at c.loop-here.invariant.midway in
    let onward : place_said c.map-here.result ≡ stair_next c.stair_at-stair.result = search rules in
    rw c.in-Some.is (fewer_left _ _ mid (λ e. omega arith) c.stair_at-stair.ensures.slot (onward ∙ c.stair_at-stair.ensures.next))

pub loop-here-preserved : goal.loop-here-preserved
loop-here-preserved c =
    let node = rw c.in-Some.is at c.loop-here.invariant.node in
    let mid = rw c.in-Some.is at c.loop-here.invariant.midway in
    let onward : place_said c.map-here.result ≡ stair_next c.stair_at-stair.result = search rules in
    record {
      midway =
          walk_steps _ _ mid (λ e. omega arith) c.stair_at-stair.ensures.slot (onward ∙ c.stair_at-stair.ensures.next)
          c.visit-count.ensures.0 c.visit-count.ensures.1;
      node = search rules;
    }

pub returns : goal.returns
returns c = all_written _ _ c.loop-here.invariant.midway c.args.profile.few (omega arith) (ap place_said c.in_default.is)
