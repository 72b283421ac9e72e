-- The search over the words of a laid profile that stands and has at most 2,048 nodes is the paper's search: it takes the same marks in the same order, looks as often, and ends with as
-- many nodes behind it as are below the key.
-- Assumes nothing.
use Prim.Native.Nat.{ℕ, zero, suc, ◌+◌, ◌≤◌}
use mathlib.Core.Path.{◌≡◌, refl, sym, ◌∙◌, ap, ap₂}
use mathlib.Core.Logic.{◌⊎◌, inl, inr}
use mathlib.Core.List.{List, [], ◌++◌}
use native.Mathlib.Omega.{arith}
use lib.ListN.{length}
use Rattle.rules.specs.NodesLanesEdges.{lanes, lane_of}
use Rattle.rules.specs.Profile.{Profile}
use Rattle.rules.specs.Room.{most_nodes}
use Rattle.rules.specs.Search.{Spot, drop_in, drop_takes, takes_from, steps_from, start, taken, steps_of, looks}
use Rattle.rules.proofs.SoundMemory.{Standing}
use Rattle.rules.proofs.Theory.LooksAreSteps.{looks_are_steps}
use Rattle.store.specs.Places.{header}
use Rattle.store.proofs.Lays.{Lays}
use Rattle.search.specs.Descent.{Descent, descent_of, looked, most_looks, next_of, descend, search_of}
use Rattle.rules.proofs.Theory.Passed.{below}
use Rattle.search.proofs.Stands.{Stands, stands_at_header}
use Rattle.search.proofs.DropOrStep.{Drops, Steps, drop_or_step}
use Rattle.search.proofs.AfterLaneZero.{place_at_end, taken_at_end_lem}

-- what a search over words comes to is what the paper's search comes to with the lowest m lanes to do from a spot on
record ComesTo (p : Profile) (k m : ℕ) (at : Spot) (d : Descent) : Type 0 where
  same_taken : d.taken ≡ takes_from p k m at
  same_looks : d.looks + at.steps ≡ m + steps_from k m at
  same_place : d.place ≡ below k p.nodes

module _ {p : Profile} {k i : ℕ} (at : Spot) {d : Descent} where
  -- one look before a step ..
  comes_by_step : {to : Spot} → drop_in i k at ≡ drop_in i k to → to.steps ≡ at.steps + 1 → ComesTo p k (suc i) to d
      → ComesTo p k (suc i) at (looked [] d)
  comes_by_step e t c =
      record { same_taken = rw e c.same_taken; same_looks = rw e (omega (arith, c.same_looks)); same_place = c.same_place }

  -- .. and one before a lane is dropped
  comes_by_drop : {xs : List ℕ} → drop_in i k at ≡ at → xs ≡ drop_takes p i k at.here (lane_of i at.ahead) → ComesTo p k i at d
      → ComesTo p k (suc i) at (looked xs d)
  comes_by_drop e t c =
      record {
        same_taken = rw e (ap₂ (λ (xs ys : List ℕ). xs ++ ys) t c.same_taken);
        same_looks = rw e (omega (arith, c.same_looks));
        same_place = c.same_place;
      }

-- what a search from the start comes to
from_start : {p : Profile} {k m : ℕ} {d : Descent} → ComesTo p k m (start p) d
    → d ≡ descent_of (takes_from p k m (start p)) (m + steps_from k m (start p)) (below k p.nodes)
from_start {p} {k} {m} {d} c =
    let looks : d.looks ≡ m + steps_from k m (start p) = omega (arith, c.same_looks) in
    λ t. descent_of (c.same_taken t) (looks t) (c.same_place t)

module _ {p : Profile} {nodes marks : List ℕ} (laid : Lays p nodes marks) (s : Standing p) (k : ℕ) where
  -- a look for each lane to do and each node ahead is enough
  comes : (m left place : ℕ) (at : Spot) → Stands p nodes marks k m place at → m + length at.ahead ≤ left
      → ComesTo p k m at (descend nodes marks k m left place)
  comes zero left place at st l =
      record { same_taken = taken_at_end_lem laid s st; same_looks = refl; same_place = place_at_end laid s st }
  comes (suc i) zero place at st l = absurd (omega arith)
  comes (suc i) (suc left) place at st l =
      go (drop_or_step laid s st) (comes i left place at) (comes (suc i) left (next_of nodes place i))
    where
      go : Drops p nodes marks k i place at ⊎ Steps p nodes marks k i place at
          → (Stands p nodes marks k i place at → i + length at.ahead ≤ left → ComesTo p k i at (descend nodes marks k i left place))
          → ((to : Spot) → Stands p nodes marks k (suc i) (next_of nodes place i) to → suc i + length to.ahead ≤ left
          → ComesTo p k (suc i) to (descend nodes marks k (suc i) left (next_of nodes place i)))
          → ComesTo p k (suc i) at (descend nodes marks k (suc i) (suc left) place)
      go (inl d) down onward = rw d.not_below (comes_by_drop at d.drops (st.takes i st.to_do) (down d.stands (omega arith)))
      go (inr g) down onward =
          rw g.is_below_lem (comes_by_step at g.drops g.one_step (onward g.to g.stands (omega (arith, g.fewer_ahead))))

-- the search over the words comes to what the paper's search takes, to its looks, and to as many nodes behind as are below the key
pub search_on_laid : (p : Profile) (nodes marks : List ℕ) → Lays p nodes marks → Standing p → length p.nodes ≤ most_nodes → (k : ℕ)
    → search_of nodes marks k ≡ descent_of (taken p k) (looks p k) (below k p.nodes)
unfolding search_of taken steps_of
search_on_laid p nodes marks laid s l k =
    from_start (comes laid s k lanes most_looks header (start p) (stands_at_header laid s k) (omega arith))
    ∙ ap (λ n. descent_of (taken p k) n (below k p.nodes)) (sym (looks_are_steps p k s.keys_ascend_lem s.levels_right_lem))
