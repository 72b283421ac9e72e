-- One band and one key: on ascending nodes with levels of at least 1 where both ends of the band stand, the edges over the key and a node at the key bear the band's
-- mark once in all if the band holds the key, and never otherwise.
-- Assumes nothing.
use Prim.Native.Nat.{ℕ, ◌+◌, ◌≤◌}
use mathlib.Core.Path.{◌≡◌, refl, sym, ◌∙◌, subst}
use mathlib.Core.Bool.{Bool, true, false, not}
use mathlib.Core.Logic.{inl, ⊎_elim}
use mathlib.Core.List.{List}
use native.Mathlib.Omega.{arith}
use Rattle.rules.specs.Connectives.{◌and◌, one_if}
use Rattle.rules.specs.Lists.{sum_lanes}
use Rattle.rules.specs.HallLine.{Band, holds}
use Rattle.rules.specs.NodesLanesEdges.{Node, edges_in, lanes, in_some_lane, stands_at}
use Rattle.rules.specs.Marks.{passed_over_in_lane, node_marked}
use Rattle.rules.proofs.Means.{never, denied}
use Rattle.rules.proofs.Lists.{Some, Each, lane_means}
use Rattle.rules.proofs.HallLine.{Past, Before, holds_means}
use Rattle.rules.proofs.NodesLanesEdges.{Asc, NodeAt, in_lane, stands_at_means}
use Rattle.rules.proofs.Marks.{PassesOver, passed_over_in_lane_means}
use Rattle.rules.proofs.Theory.EdgesNest.{in_lane_zero, edge_over}
use Rattle.rules.proofs.Theory.OverInLane.{times_over_in, times_in_lane}
use Rattle.rules.proofs.Sums.{lanes_same, highest_once}

-- how often it is marked on a node at k
abbrev pub times_on_node : List Node → Band → ℕ → ℕ
times_on_node ns b k = one_if (stands_at k ns and node_marked ns b k)

-- how often it is marked on edges that pass over k, of all lanes, and on a node at k
abbrev pub times_over : List Node → Band → ℕ → ℕ
times_over ns b k = sum_lanes (times_over_in ns b k) 0 lanes + times_on_node ns b k

-- ---- one in all

-- a mark on an edge over the key, or else on a node there
one_in_all : (over stands held : Bool) → (over ≡ true → held ≡ true) → (stands ≡ false → held ≡ true → over ≡ true)
    → one_if over + one_if (stands and held and not over) ≡ one_if held
unfolding ◌and◌
one_in_all true true true f g = refl
one_in_all true false true f g = refl
one_in_all true stands false f g = never (f refl)
one_in_all false true true f g = refl
one_in_all false true false f g = refl
one_in_all false false true f g = never (g refl refl)
one_in_all false false false f g = refl

module _ (ns : List Node) (b : Band) (k : ℕ) (a : Asc 0 ns) where
  -- over all lanes it is marked once where an edge over k lies inside the band, in the highest lane that has one, else never
  pub times_in_lanes : sum_lanes (times_over_in ns b k) 0 lanes ≡ one_if (in_some_lane (passed_over_in_lane ns b k))
  times_in_lanes = lanes_same 0 lanes (λ i l u. times_in_lane ns b k a i) ∙ highest_once (passed_over_in_lane ns b k) lanes 0 lanes refl

  -- a band with an edge over k inside it holds k
  pub over_then_holds : in_some_lane (passed_over_in_lane ns b k) ≡ true → holds b k ≡ true
  over_then_holds h =
      let s = (lane_means (passed_over_in_lane_means ns b k) 0 lanes).fact h in
      let inside = s.3.2 in
      (holds_means b k).test (inl (omega arith), inl (omega arith))

  module _ (levels : Each (λ n. 1 ≤ n.level) ns) (low : NodeAt b.low ns) (high : NodeAt b.high ns) where
    -- a band that holds k, where no node stands, has an edge over k inside it, in lane 0 at least
    pub holds_then_over : stands_at k ns ≡ false → holds b k ≡ true → in_some_lane (passed_over_in_lane ns b k) ≡ true
    holds_then_over none h =
        (lane_means (passed_over_in_lane_means ns b k) 0 lanes).test (0, omega arith, omega arith, (s.0, s.1, (s.2.0, (s.2.1, s.2.2))))
      where
        off : NodeAt k ns → ⊥
        off = (denied (stands_at_means k ns)).fact none

        -- k is no end of the band
        away : (x : ℕ) → NodeAt x ns → k ≡ x → ⊥
        away x n e = off (subst (λ z. NodeAt z ns) (sym e) n)

        f : Past b k × Before b k
        f = (holds_means b k).fact h

        s : Some (λ e. PassesOver e k × (b.low ≤ e.from) × (e.to ≤ b.high)) (edges_in 0 ns)
        s =
            edge_over 0 ns a 0 b.low b.high k (in_lane_zero b.low ns levels low) (in_lane_zero b.high ns levels high)
            (⊎_elim (λ l. l) (λ e. absurd (away b.low low e.0)) f.0)
            (⊎_elim (λ l. l) (λ e. absurd (away b.high high e.0)) f.1)
            (λ i. let n = (in_lane 0 k ns).0 i in off (n.0, n.1, n.2.1))

    -- the band is marked over k, or on a node at k, once if it holds k and never otherwise
    pub over_once : times_over ns b k ≡ one_if (holds b k)
    unfolding node_marked
    over_once = rw times_in_lanes (one_in_all _ _ _ over_then_holds holds_then_over)
