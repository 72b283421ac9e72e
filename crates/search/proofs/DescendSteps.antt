-- The search step by step: what it comes to when it is finished from a place, with so much taken and so many looks behind it, stays the same
-- as it steps on and as it drops a lane; it is known where the lanes are done and where the looks are up.
-- Assumes nothing.
use Prim.Native.Nat.{ℕ, zero, suc, ◌+◌, ◌-◌, ◌≤◌, ◌<◌}
use native.Mathlib.Nat.{add-zero, zero-add}
use native.Mathlib.Omega.{arith}
use mathlib.Core.Path.{◌≡◌}
use mathlib.Core.Bool.{true, false}
use mathlib.Core.List.{List, [], ◌++◌, append-nil, append_assoc}
use Rattle.rules.specs.NodesLanesEdges.{lanes}
use Rattle.store.specs.Places.{header}
use Rattle.search.specs.Descent.{Descent, descent_of, looked, most_looks, next_of, is_below, taken_on_drop, taken_at_end, descend, search_of}

-- a descent after others: what is taken before it, and the looks before it
abbrev after : List ℕ → ℕ → Descent → Descent
after xs l d = descent_of (xs ++ d.taken) (l + d.looks) d.place

-- one look more before it
after_look : (xs ns : List ℕ) (l : ℕ) (d : Descent) → after xs l (looked ns d) ≡ after (xs ++ ns) (l + 1) d
after_look xs ns l d =
    let more : l + suc d.looks ≡ l + 1 + d.looks = omega arith in rw (more, append_assoc)

after_nothing : (d : Descent) → after [] 0 d ≡ d
after_nothing d = rw zero-add

module _ (nodes marks : List ℕ) (k : ℕ) where
  -- the search finished from place i in the lowest m lanes, when it has taken xs and looked l times
  unfoldable pub finished : List ℕ → ℕ → ℕ → ℕ → Descent
  finished xs l i m = after xs l (descend nodes marks k m (most_looks - l) i)

  pub finished_from_header : finished [] 0 header lanes ≡ search_of nodes marks k
  unfolding finished search_of
  finished_from_header = after_nothing (descend nodes marks k lanes most_looks header)

  module _ (xs : List ℕ) (l i : ℕ) where
    one_look : l < most_looks → most_looks - l ≡ suc (most_looks - (l + 1))
    one_look h = omega arith

    pub finished_on : (lane : ℕ) → l < most_looks → is_below nodes k (next_of nodes i lane) ≡ true
        → finished xs l i (suc lane) ≡ finished xs (l + 1) (next_of nodes i lane) (suc lane)
    unfolding finished
    finished_on lane h e =
        rw (one_look h, e)
        (rw append-nil at (after_look xs [] l (descend nodes marks k (suc lane) (most_looks - (l + 1)) (next_of nodes i lane))))

    pub finished_down : (lane : ℕ) → l < most_looks → is_below nodes k (next_of nodes i lane) ≡ false
        → finished xs l i (suc lane) ≡ finished (xs ++ taken_on_drop nodes marks k i lane) (l + 1) i lane
    unfolding finished
    finished_down lane h e =
        rw (one_look h, e)
        (after_look xs (taken_on_drop nodes marks k i lane) l (descend nodes marks k lane (most_looks - (l + 1)) i))

    -- the looks are up
    pub finished_short : (m : ℕ) → 0 < m → most_looks ≤ l → finished xs l i m ≡ descent_of xs l i
    unfolding finished
    finished_short zero p h = absurd (omega arith)
    finished_short (suc lane) p h =
        let none : most_looks - l ≡ 0 = omega arith in rw (none, append-nil, add-zero)

    -- the lanes are done
    pub finished_end : finished xs l i 0 ≡ descent_of (xs ++ taken_at_end nodes marks k i) l i
    unfolding finished
    finished_end = rw add-zero
