-- Where the search over words stands as the paper's does, both drop the lane and stay, or both step on to the lane's next node and stand there.
-- Assumes nothing.
use Prim.Native.Nat.{ℕ, suc, ◌+◌, ◌≤◌, ◌<◌}
use mathlib.Core.Path.{◌≡◌, refl, ◌∙◌, ap, subst}
use mathlib.Core.Bool.{true, false}
use mathlib.Core.Logic.{◌⊎◌, inl, inr, ⊎_elim}
use mathlib.Core.List.{List}
use native.Mathlib.Omega.{arith}
use lib.Dec.{ltb}
use lib.ListN.{length, length-drop}
use borrow.Author.Tests.{lt-ltb, le-ltb}
use Rattle.rules.specs.Lists.{first_of}
use Rattle.rules.specs.NodesLanesEdges.{lane_of}
use Rattle.rules.specs.Profile.{Profile}
use Rattle.rules.specs.Search.{Spot, drop_in}
use Rattle.rules.proofs.Means.{at_most_or_above}
use Rattle.rules.proofs.Lists.{In, Each, first_least}
use Rattle.rules.proofs.NodesLanesEdges.{Asc, lane_ascends}
use Rattle.rules.proofs.SoundMemory.{Standing}
use Rattle.rules.proofs.Theory.EdgesNest.{in_own_lane}
use Rattle.store.specs.LaidNodes.{next_place}
use Rattle.store.proofs.Lays.{Lays}
use Rattle.search.specs.Descent.{next_of, is_below}
use Rattle.rules.proofs.Theory.Passed.{passed_drop, passed_in, passed_ascends, passed_to}
use Rattle.store.proofs.NextInLane.{onto, None, Next, none_or_next, next_there}
use Rattle.store.proofs.LinksLead.{none_passes, next_passes}
use Rattle.search.proofs.Stands.{Stands}
use Rattle.search.proofs.StandsOnNode.{stands_on_node}

-- both drop lane i and then stand where they stood
pub record Drops (p : Profile) (nodes marks : List ℕ) (k i place : ℕ) (at : Spot) : Type 0 where
  pub not_below : is_below nodes k (next_of nodes place i) ≡ false
  pub drops : drop_in i k at ≡ at
  pub stands : Stands p nodes marks k i place at

-- both step on in lane i and then stand at another spot, with fewer nodes ahead
pub record Steps (p : Profile) (nodes marks : List ℕ) (k i place : ℕ) (at : Spot) : Type 0 where
  pub is_below_lem : is_below nodes k (next_of nodes place i) ≡ true
  pub to : Spot
  pub drops : drop_in i k at ≡ drop_in i k to
  pub stands : Stands p nodes marks k (suc i) (next_of nodes place i) to
  pub one_step : to.steps ≡ at.steps + 1
  pub fewer_ahead : length to.ahead < length at.ahead

module _ {p : Profile} {nodes marks : List ℕ} {k m place : ℕ} {at : Spot} (s : Standing p) (st : Stands p nodes marks k m place at) where
  ahead_ascends : Asc 0 at.ahead
  ahead_ascends = passed_ascends st.passed 0 s.keys_ascend_lem

  -- no key of a lane ahead is below that of the lane's next node
  pub next_least : (i : ℕ) (x : Next i at.ahead) → Each (λ y. x.node.key ≤ y) (lane_of i at.ahead)
  next_least i x =
      ((first_least (λ y. y) 0 (lane_of i at.ahead) (lane_ascends i 0 at.ahead ahead_ascends) x.node.key).0 (ap first_of x.lane)).1

module _ {p : Profile} {nodes marks : List ℕ} {k i place : ℕ} {at : Spot}
    (laid : Lays p nodes marks) (s : Standing p) (st : Stands p nodes marks k (suc i) place at) where
  link : next_of nodes place i ≡ next_place i (suc place) at.ahead
  link = st.link i st.to_do

  -- a lane with no node ahead below k is done
  lane_done : Each (λ y. k ≤ y) (lane_of i at.ahead) → Stands p nodes marks k i place at
  lane_done none =
      record {
        passed = st.passed;
        low =
            λ n m l. ⊎_elim
            (λ h. h)
            (λ h. absurd (omega (arith, none n.key (in_own_lane i n at.ahead m h))))
            (at_most_or_above n.level i);
        height = st.height;
        to_do = omega arith;
        in_lane_zero = st.in_lane_zero;
        link = st.link;
        takes = st.takes;
      }

  drops_at_end : None i at.ahead → Drops p nodes marks k i place at
  unfolding is_below drop_in
  drops_at_end x =
      record {
        not_below = rw link (none_passes x nodes place (λ y. ltb y k));
        drops = x.drops k at;
        stands = lane_done (λ y m. absurd (subst (In y) x.lane m));
      }

  module _ (x : Next i at.ahead) where
    drops_before : k ≤ x.node.key → Drops p nodes marks k i place at
    unfolding is_below drop_in
    drops_before h =
        let fails = le-ltb x.node.key k h in
        record {
          not_below = rw link (next_passes laid x place (passed_drop st.passed) (λ y. ltb y k) ∙ fails);
          drops = x.drops k at ∙ rw fails;
          stands = lane_done (λ y m. omega (arith, next_least s st i x y m));
        }

    steps_onto : x.node.key < k → Steps p nodes marks k i place at
    unfolding is_below drop_in
    steps_onto h =
        let holds = lt-ltb x.node.key k h in
        let there = passed_drop st.passed in
        let after = passed_to k 0 x.skipped at.ahead x.node x.rest (ahead_ascends s st) x.there h in
        let stands_there = stands_on_node laid s k (place + x.skipped) x.node x.rest (next_there x place p.nodes there) h in
        record {
          is_below_lem = rw link (next_passes laid x place there (λ y. ltb y k) ∙ holds);
          to = onto at x.node x.rest;
          drops = x.drops k at ∙ rw holds;
          stands =
              rw (link, x.link place)
              (stands_there (suc i) (at.steps + 1) x.part (λ n m. st.low n (passed_in after n m)));
          one_step = refl;
          fewer_ahead = omega (arith, length-drop x.skipped at.ahead, ap length x.there);
        }

  pub drop_or_step : Drops p nodes marks k i place at ⊎ Steps p nodes marks k i place at
  drop_or_step =
      ⊎_elim
      (λ x. inl (drops_at_end x))
      (λ (x : Next i at.ahead). ⊎_elim (λ h. inl (drops_before x h)) (λ h. inr (steps_onto x h)) (at_most_or_above k x.node.key))
      (none_or_next i at.ahead)
