-- The highest stair out of a node, as it is looked for: what is found is the edge of the highest lane that leads no further than the high end; where
-- nothing is found, every lane leads beyond it.
-- Assumes nothing.
use Prim.Native.Nat.{ℕ, zero, suc, ◌≤◌, ◌<◌}
use mathlib.Core.Path.{◌≡◌, refl, sym, subst}
use mathlib.Core.Bool.{Bool, true, false, cond}
use mathlib.Core.Logic.{◌↔◌, ⊎_elim}
use mathlib.Core.List.{List, [], ◌∷◌}
use mathlib.Core.Option.{Option, none, some}
use native.Mathlib.Omega.{arith}
use native.Mathlib.Nat.{eq-or-lt_of_le}
use lib.Dec.{leb}
use borrow.Author.Tests.{leb-true, leb-false}
use Rattle.rules.specs.Lists.{first_of}
use Rattle.rules.specs.HallLine.{Band}
use Rattle.rules.specs.NodesLanesEdges.{Node, edge_of, takes_part, lane_of, edges_in}
use Rattle.rules.specs.Staircase.{Stair, stair_of, stair_in, or_else, highest_stair}
use Rattle.rules.proofs.Means.{Means, never}
use Rattle.rules.proofs.Lists.{In, first_in}
use Rattle.rules.proofs.NodesLanesEdges.{Asc, takes_part_means}
use Rattle.rules.proofs.Theory.Stops.{Beyond}
use Rattle.rules.proofs.Theory.EdgesOut.{Ahead, next_edge}

module _ (ns : List Node) (b : Band) (x : ℕ) where
  -- the lanes from i up to below m lead from x beyond the high end
  abbrev pub AllBeyond : ℕ → ℕ → Type 0
  AllBeyond i m = (k : ℕ) → i ≤ k → k < m → Beyond ns b x k

  -- the answer is the highest of the lowest m lanes that leads from x no further than the high end
  abbrev pub Found : ℕ → Option Stair → Type 0
  Found m none = AllBeyond 0 m
  Found m (some s) = (s.lane < m) × In (edge_of x s.to) (edges_in s.lane ns) × (s.to ≤ b.high) × AllBeyond (suc s.lane) m

  -- it stays the answer where the next lane leads beyond
  still_found : (i : ℕ) → Beyond ns b x i → (o : Option Stair) → Found i o → Found (suc i) o
  still_found i far = still
    where
      up : (k : ℕ) → AllBeyond k i → AllBeyond k (suc i)
      up k h w l u = let z : w ≤ i = omega arith in ⊎_elim (λ p. subst (Beyond ns b x) (sym p) far) (h w l) (eq-or-lt_of_le z)

      still : (o : Option Stair) → Found i o → Found (suc i) o
      still none g = up 0 g
      still (some s) g = (omega (arith, g.0), g.1, g.2, up (suc s.lane) g.3)

module _ (b : Band) {ns : List Node} {c : ℕ} {n : Node} {rest : List Node} (f : Ahead ns c (n ∷ rest)) (a : Asc 0 ns) where
  -- the highest stair is found
  pub stair_found : (m : ℕ) → Found ns b n.key m (highest_stair b.high n rest m)
  stair_found zero = λ k l u. absurd (omega arith)
  stair_found (suc i) =
      go (takes_part i n) (lane_of i rest) (takes_part_means i n) (next_edge f a i) (highest_stair b.high n rest i) (stair_found i)
    where
      go : (t : Bool) (ys : List ℕ) → Means t (i < n.level)
          → ((y : ℕ) → ((i < n.level) × (first_of ys ≡ some y)) ↔ In (edge_of n.key y) (edges_in i ns)) → (o : Option Stair)
          → Found ns b n.key i o → Found ns b n.key (suc i) (or_else (cond t (stair_in b.high i ys) none) o)
      go false ys m e o g = still_found ns b n.key i (λ y h. never (m.test ((e y).1 h).0)) o g
      go true [] m e o g = still_found ns b n.key i (λ y h. absurd (first_in y [] ((e y).1 h).1)) o g
      go true (z ∷ zs) m e o g = reach (leb z b.high) refl
        where
          reach : (t : Bool) → leb z b.high ≡ t → Found ns b n.key (suc i) (or_else (cond t (some (stair_of i z)) none) o)
          reach true q = (omega arith, (e z).0 (m.fact refl, refl), leb-true z b.high q, λ k l u. absurd (omega arith))
          reach false q =
              still_found ns b n.key i (λ y h. let p : y ≡ z = cc ((e y).1 h).1 in omega (arith, leb-false z b.high q)) o g
