-- Where lane 0 is done, the search over words takes the marks of a node at the key, as the paper's does, and the nodes behind it are those below.
-- Assumes nothing.
use Prim.Native.Nat.{ℕ, ◌+◌, ◌≤◌}
use mathlib.Core.Path.{◌≡◌, refl, ap, subst}
use mathlib.Core.Bool.{Bool, true, false}
use mathlib.Core.Logic.{⊎_elim}
use mathlib.Core.List.{List}
use native.Mathlib.Omega.{arith}
use lib.Dec.{eqb}
use borrow.Author.Tests.{le-ltb, eqb-true}
use Rattle.rules.specs.Lists.{only_if}
use Rattle.rules.specs.NodesLanesEdges.{lane_of, stands_at}
use Rattle.rules.specs.Profile.{Profile}
use Rattle.rules.specs.Marks.{marked_on_node}
use Rattle.rules.specs.Search.{Spot, node_takes}
use Rattle.rules.proofs.Means.{denied, eq_means, same_means, at_most_or_above}
use Rattle.rules.proofs.Lists.{In, Each, in_at_place}
use Rattle.rules.proofs.Sums.{count_none}
use Rattle.rules.proofs.NodesLanesEdges.{NodeAt, stands_at_means}
use Rattle.rules.proofs.SoundMemory.{Standing}
use Rattle.rules.proofs.Theory.EdgesNest.{in_lane_zero}
use Rattle.store.specs.LaidMarks.{slot_marks}
use Rattle.store.proofs.Lays.{Lays}
use Rattle.search.specs.Descent.{is_at, taken_at_end}
use Rattle.rules.proofs.Theory.Passed.{below, passed_drop, passed_below, passed_in, at_key_ahead}
use Rattle.store.proofs.NextInLane.{None, Next, none_or_next, next_there}
use Rattle.store.proofs.LinksLead.{none_passes, next_passes}
use Rattle.search.proofs.Stands.{Stands}
use Rattle.search.proofs.DropOrStep.{next_least}

-- the marks on the node at y, taken only if y is k
only_at : (p : Profile) (y k : ℕ) → only_if (eqb y k) (marked_on_node p y) ≡ only_if (eqb y k) (marked_on_node p k)
only_at p y k = go (eqb y k) (eqb-true y k)
  where
    go : (t : Bool) → (t ≡ true → y ≡ k) → only_if t (marked_on_node p y) ≡ only_if t (marked_on_node p k)
    go true e = ap (marked_on_node p) (e refl)
    go false e = refl

module _ {p : Profile} {nodes marks : List ℕ} {k place : ℕ} {at : Spot}
    (laid : Lays p nodes marks) (s : Standing p) (st : Stands p nodes marks k 0 place at) where
  in_lane_zero_ahead : Each (λ n. 1 ≤ n.level) at.ahead
  in_lane_zero_ahead n m = (s.levels_right_lem n (passed_in st.passed n m)).0

  -- no node ahead is below k ..
  none_below : Each (λ n. k ≤ n.key) at.ahead
  none_below n m =
      ⊎_elim (λ h. h) (λ h. absurd (omega (arith, st.low n m h, in_lane_zero_ahead n m))) (at_most_or_above k n.key)

  -- .. so as many are behind as are below k
  pub place_at_end : place ≡ below k p.nodes
  place_at_end =
      let none = count_none at.ahead (λ n m. le-ltb n.key k (none_below n m)) in omega (arith, passed_below st.passed, none)

  -- a node at k stands in lane 0 ahead ..
  at_key_in_lane : NodeAt k p.nodes → In k (lane_of 0 at.ahead)
  at_key_in_lane h = in_lane_zero k at.ahead in_lane_zero_ahead (at_key_ahead st.passed h)

  -- .. and is the next
  next_at_key : (x : Next 0 at.ahead) → stands_at k p.nodes ≡ eqb x.node.key k
  next_at_key x =
      let next_ahead = in_at_place x.skipped at.ahead x.there in
      same_means (stands_at_means k p.nodes) (eq_means x.node.key k)
      (λ h. omega (arith, none_below x.node next_ahead, next_least s st 0 x k (at_key_in_lane h)))
      (λ e. (x.node, passed_in st.passed x.node next_ahead, e))

  pub taken_at_end_lem : taken_at_end nodes marks k place ≡ node_takes p k
  unfolding taken_at_end is_at node_takes slot_marks
  taken_at_end_lem =
      let there = passed_drop st.passed in
      rw (st.link 0 st.in_lane_zero)
      (⊎_elim
      (λ (x : None 0 at.ahead). rw (
        none_passes x nodes place (λ y. eqb y k),
        (denied (stands_at_means k p.nodes)).test (λ h. subst (In k) x.lane (at_key_in_lane h)),
      ))
      (λ (x : Next 0 at.ahead). rw (
        next_passes laid x place there (λ y. eqb y k),
        x.link place,
        laid.slot (place + x.skipped) x.node x.rest (next_there x place p.nodes there) 0 (omega arith),
        next_at_key x,
      )
      (only_at p x.node.key k))
      (none_or_next 0 at.ahead))
