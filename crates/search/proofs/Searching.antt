-- What holds in the midst of a search, in the code's own terms: what was taken so far is that of some numbers, looks are in range, and
-- finishing from here comes to what the whole search comes to. It holds at the header, as the search steps on and as it drops a lane.
-- Assumes nothing.
use Prim.Native.Nat.{ℕ, suc, ◌+◌, ◌*◌, ◌≤◌, ◌<◌}
use native.Mathlib.Omega.{arith}
use mathlib.Core.Path.{◌≡◌, sym, ap, ◌∙◌}
use mathlib.Core.Bool.{Bool, true, false}
use mathlib.Core.List.{List, [], ◌++◌}
use borrow.Author.Tests.{lt-ltb, le-ltb}
use lib.ListN.{length}
use Rattle.rules.specs.Lists.{only_if}
use Rattle.rules.specs.NodesLanesEdges.{lanes}
use Rattle.rules.specs.Room.{most_marks}
use Rattle.store.specs.Places.{header}
use Rattle.store.specs.SaidMarks.{said_marks}
use Rattle.store.proofs.Between.{between_at_most}
use Rattle.search.specs.declared.taking.Taken.{Taken}
use Rattle.search.specs.declared.descent.Found.{Found}
use Rattle.search.specs.Descent.{most_looks, next_of, is_below, is_above, taken_on_drop, taken_at_end, search_of}
use Rattle.search.specs.declared.next.Next.{Next}
use Rattle.search.specs.Next.{IsNext}
use Rattle.search.specs.Found.{with_taken, taken_of, found_of}
use Rattle.search.proofs.TakenMarks.{taken_where, untaken_where, taken_after}
use Rattle.search.proofs.NextNode.{tests_below, tests_above, none_below, none_above}
use Rattle.search.proofs.DescendSteps.{finished, finished_from_header, finished_on, finished_down, finished_short, finished_end}

-- at place i, with the lowest m lanes to go, when t was taken in l looks
pub record Searching (nodes marks : List ℕ) (k : ℕ) (t : Taken) (l i m : ℕ) : Type 0 where
  pub numbers : List ℕ
  pub taken_are : t ≡ taken_of numbers
  pub few_met : t.met + m * most_marks ≤ lanes * most_marks
  pub few_looks : l ≤ most_looks
  pub finish : finished nodes marks k numbers l i m ≡ search_of nodes marks k

abbrev pub found_at : Taken → ℕ → ℕ → Found
found_at t l i = record { taken = t; looks = l; place = i }

taken_more : {t u : Taken} (xs ns : List ℕ) → t ≡ taken_of xs → u ≡ with_taken t ns → u ≡ taken_of (xs ++ ns)
taken_more xs ns e f = f ∙ rw e (taken_after xs ns)

few_taken : (b : Bool) (nodes marks : List ℕ) (i s : ℕ) → length (only_if b (said_marks nodes marks i s)) ≤ length marks
unfolding said_marks
few_taken true nodes marks i s = between_at_most _ _ marks
few_taken false nodes marks i s = omega arith

module _ (nodes marks : List ℕ) (k : ℕ) where
  pub begins : {t : Taken} → t ≡ taken_of [] → Searching nodes marks k t 0 header lanes
  begins e =
      record {
        numbers = [];
        taken_are = e;
        few_met = omega (arith, ap (λ (t : Taken). t.met) e);
        few_looks = omega arith;
        finish = finished_from_header nodes marks k;
      }

  -- it drops a lane, and takes what is taken on dropping
  goes_down : {t u : Taken} {l i lane : ℕ} → Searching nodes marks k t l i (suc lane) → l < most_looks → length marks ≤ most_marks
      → is_below nodes k (next_of nodes i lane) ≡ false → u ≡ with_taken t (taken_on_drop nodes marks k i lane)
      → Searching nodes marks k u (l + 1) i lane
  unfolding taken_on_drop
  goes_down {t} {u} {l} {i} {lane} s h room e f =
      let few = few_taken (is_above nodes k (next_of nodes i lane)) nodes marks i (suc lane) in
      let met = ap (λ (t : Taken). t.met) f in
      record {
        numbers = s.numbers ++ taken_on_drop nodes marks k i lane;
        taken_are = taken_more s.numbers (taken_on_drop nodes marks k i lane) s.taken_are f;
        few_met = omega arith;
        few_looks = omega arith;
        finish = sym (finished_down nodes marks k s.numbers l i lane h e) ∙ s.finish;
      }

  module _ {t : Taken} {l i lane : ℕ} (s : Searching nodes marks k t l i (suc lane)) (h : l < most_looks) where
    -- the lane has no next node
    pub drops_at_end : length marks ≤ most_marks → next_of nodes i lane ≡ 0 → Searching nodes marks k t (l + 1) i lane
    unfolding taken_on_drop
    drops_at_end room none =
        goes_down s h room (none_below nodes k none) (untaken_where t (said_marks nodes marks i (suc lane)) (none_above nodes k none))

    module _ {next : Next} (n : IsNext nodes (next_of nodes i lane) next) where
      pub steps_on : next.key.0 < k → Searching nodes marks k t (l + 1) next.place (suc lane)
      steps_on below =
          record {
            numbers = s.numbers;
            taken_are = s.taken_are;
            few_met = s.few_met;
            few_looks = omega arith;
            finish = rw n.place (sym (finished_on nodes marks k s.numbers l i lane h (tests_below n k ∙ lt-ltb _ _ below))) ∙ s.finish;
          }

      pub drops_taking : {u : Taken} → length marks ≤ most_marks → k < next.key.0 → u ≡ with_taken t (said_marks nodes marks i (1 + lane))
          → Searching nodes marks k u (l + 1) i lane
      unfolding taken_on_drop
      drops_taking room above g =
          let slot : 1 + lane ≡ suc lane = omega arith in
          goes_down s h room (tests_below n k ∙ le-ltb _ _ (omega arith)) (taken_where t _ (tests_above n k ∙ lt-ltb _ _ above) (rw slot at g))

      pub drops_at : length marks ≤ most_marks → k ≤ next.key.0 → next.key.0 ≤ k → Searching nodes marks k t (l + 1) i lane
      unfolding taken_on_drop
      drops_at room not_below not_above =
          goes_down s h room (tests_below n k ∙ le-ltb _ _ not_below)
          (untaken_where t (said_marks nodes marks i (suc lane)) (tests_above n k ∙ le-ltb _ _ not_above))

  -- the lanes are done
  pub ends : {t u : Taken} {l i : ℕ} → Searching nodes marks k t l i 0 → u ≡ with_taken t (taken_at_end nodes marks k i)
      → found_at u l i ≡ found_of (search_of nodes marks k)
  ends {t} {u} {l} {i} s f =
      rw (← s.finish, finished_end nodes marks k s.numbers l i, taken_more s.numbers (taken_at_end nodes marks k i) s.taken_are f)

  -- the looks are up
  pub ends_short : {t : Taken} {l i m : ℕ} → Searching nodes marks k t l i m → 0 < m → most_looks ≤ l
      → found_at t l i ≡ found_of (search_of nodes marks k)
  ends_short {t} {l} {i} {m} s p h =
      rw (← s.finish, finished_short nodes marks k s.numbers l i m p h, s.taken_are)
