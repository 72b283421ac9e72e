-- One band, one key and one lane: on ascending nodes at most one edge of the lane passes over the key, and it bears the band's mark exactly where it
-- lies inside the band and no edge over the key does in a higher lane.
-- Assumes nothing.
use Prim.Native.Nat.{ℕ, suc, ◌-◌}
use mathlib.Core.Path.{◌≡◌, ◌∙◌, ap}
use mathlib.Core.Bool.{true, not}
use mathlib.Core.List.{List}
use native.Mathlib.Omega.{arith}
use Rattle.rules.specs.Connectives.{◌and◌, one_if}
use Rattle.rules.specs.Lists.{any, count_if}
use Rattle.rules.specs.HallLine.{Band}
use Rattle.rules.specs.NodesLanesEdges.{Node, Edge, edges_in, lanes, in_some_lane_above}
use Rattle.rules.specs.Marks.{edge_marked, passes_over, passed_over_in_lane}
use Rattle.rules.proofs.Means.{and_both, same_means, denied, not_means, and_means}
use Rattle.rules.proofs.Lists.{any_means, lane_fails}
use Rattle.rules.proofs.NodesLanesEdges.{Asc, edges_ascend}
use Rattle.rules.proofs.Marks.{PassesOver, passes_over_means, passed_over_in_lane_means, edge_mark_rule}
use Rattle.rules.proofs.Theory.EdgesNest.{nested, one_over}
use Rattle.rules.proofs.Sums.{count_one}

-- how often the band is marked on the edges of lane i that pass over k
abbrev pub times_over_in : List Node → Band → ℕ → ℕ → ℕ
times_over_in ns b k i = count_if (λ e. passes_over e k and edge_marked ns b i e) (edges_in i ns)

module _ (ns : List Node) (b : Band) (k : ℕ) (a : Asc 0 ns) where
  -- of lane i an edge over k bears the band's mark exactly when one lies inside the band and none over k does in a higher lane
  pub marked_over_lem : (i : ℕ)
      → any (λ e. passes_over e k and edge_marked ns b i e) (edges_in i ns)
      ≡ passed_over_in_lane ns b k i and not (in_some_lane_above i (passed_over_in_lane ns b k))
  marked_over_lem i =
      same_means
      (any_means (λ e. and_means (passes_over_means e k) (edge_mark_rule ns b i e)) (edges_in i ns))
      (and_means
      (passed_over_in_lane_means ns b k i)
      (not_means (lane_fails (λ j. denied (passed_over_in_lane_means ns b k j)) (suc i) (lanes - suc i))))
      (λ s. (
        (s.0, s.1, (s.2.0, s.2.1.0)),
        λ j l u h. s.2.1.1 j l (omega arith) h.0 h.1
            (nested 0 ns a i j s.0 h.0 (omega arith) s.1 h.1 (omega arith) (omega arith))
            h.2.1,
      ))
      (λ s. (
        s.0.0,
        s.0.1,
        (s.0.2.0, (s.0.2.1, λ j l u f m c n. s.1 j l (omega arith) (f, m, ((omega arith, omega arith), n)))),
      ))

  -- at most one edge of the lane passes over k, so the band is marked over k in lane i once or never
  pub times_in_lane : (i : ℕ) → times_over_in ns b k i ≡ one_if (passed_over_in_lane ns b k i and not (in_some_lane_above i (passed_over_in_lane ns b k)))
  times_in_lane i =
      count_one (λ e. e.from) (λ e. passes_over e k and edge_marked ns b i e) 0 (edges_in i ns) (edges_ascend i 0 ns a)
      (λ e f p q u v. ap (λ g. g.from) (one_over 0 ns a i k e f p q (over e u) (over f v)))
      ∙ ap one_if (marked_over_lem i)
    where
      over : (e : Edge) → passes_over e k and edge_marked ns b i e ≡ true → PassesOver e k
      over e u = (passes_over_means e k).fact (and_both (passes_over e k) (edge_marked ns b i e) u).0
