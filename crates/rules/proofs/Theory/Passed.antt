-- Nodes passed on the way to a key: the first so many of some nodes are below it, and the others are ahead. From there it is known of those ahead
-- that they ascend, how many are below the key, and that one at the key is among them.
-- Assumes nothing.
use Prim.Native.Nat.{ℕ, zero, suc, ◌+◌, ◌<◌}
use mathlib.Core.Path.{◌≡◌, refl, ap, subst}
use mathlib.Core.Logic.{inr, ⊎_elim}
use mathlib.Core.List.{List, [], ◌∷◌}
use native.Mathlib.Omega.{arith}
use lib.Dec.{ltb}
use lib.ListN.{drop}
use borrow.Author.Tests.{lt-ltb}
use Rattle.rules.specs.Lists.{count_if}
use Rattle.rules.specs.NodesLanesEdges.{Node}
use Rattle.rules.proofs.Lists.{In, some_cons, in_at_place, ascends_lower, ascends_from}
use Rattle.rules.proofs.NodesLanesEdges.{Asc, NodeAt}

-- how many of the nodes are below the key
abbrev pub below : ℕ → List Node → ℕ
below k ns = count_if (λ n. ltb n.key k) ns

-- the first j of the nodes are below k, and the others are ahead
pub data Passed (k : ℕ) : ℕ → List Node → List Node → Type 0 where
  none : {ns : List Node} → Passed k 0 ns ns
  past : {j : ℕ} {n : Node} {ns ahead : List Node} → n.key < k → Passed k j ns ahead → Passed k (suc j) (n ∷ ns) ahead

module _ {k : ℕ} where
  pub passed_drop : {j : ℕ} {ns ahead : List Node} → Passed k j ns ahead → drop j ns ≡ ahead
  passed_drop none = refl
  passed_drop (past l h) = passed_drop h

  pub passed_below : {j : ℕ} {ns ahead : List Node} → Passed k j ns ahead → below k ns ≡ j + below k ahead
  passed_below none = omega arith
  passed_below (past {n} l h) = rw (lt-ltb n.key k l) (omega (arith, passed_below h))

  -- who is ahead is one of all
  pub passed_in : {j : ℕ} {ns ahead : List Node} → Passed k j ns ahead → (n : Node) → In n ahead → In n ns
  passed_in none n i = i
  passed_in (past l h) n i = inr (passed_in h n i)

  pub passed_ascends : {j : ℕ} {ns ahead : List Node} → Passed k j ns ahead → (c : ℕ) → Asc c ns → Asc 0 ahead
  passed_ascends {ns} none c a = ascends_lower (λ n. n.key) 0 c ns (omega arith) a
  passed_ascends (past {n} l h) c a = passed_ascends h (suc n.key) a.1

  -- a node at k is ahead
  pub at_key_ahead : {j : ℕ} {ns ahead : List Node} → Passed k j ns ahead → NodeAt k ns → NodeAt k ahead
  at_key_ahead none s = s
  at_key_ahead (past {n} {ns} l h) s = ⊎_elim (λ e. absurd (omega arith)) (at_key_ahead h) ((some_cons n ns).0 s)

-- a node below k, of nodes in key order, is passed with all before it
pub passed_to : (k c d : ℕ) (ms : List Node) (n : Node) (rest : List Node) → Asc c ms → drop d ms ≡ n ∷ rest → n.key < k → Passed k (suc d) ms rest
passed_to k c d [] n rest a e l = absurd (in_at_place d [] e)
passed_to k c zero (m ∷ ms) n rest a e l =
    let first : n ≡ m = cc in
    let others : ms ≡ rest = cc in
    past {n = m} (omega (arith, ap (λ z. z.key) first)) (subst (Passed k 0 ms) others none)
passed_to k c (suc d) (m ∷ ms) n rest a e l =
    let after = ascends_from (λ z. z.key) (suc m.key) ms a.1 n (in_at_place d ms e) in
    past {n = m} (omega arith) (passed_to k (suc m.key) d ms n rest a.1 e l)
