-- The links out of a node: the rule marks a link exactly when it marks the lane's edge out of the node; and the slots of a node with no
-- marked link, or with one alone.
-- Assumes nothing.
use Prim.Native.Nat.{ℕ, zero, suc, ◌+◌, ◌≤◌, ◌<◌}
use mathlib.Core.Path.{◌≡◌, refl, sym, ◌∙◌, ap, subst}
use mathlib.Core.Bool.{true, false}
use mathlib.Core.Logic.{⊎_elim}
use mathlib.Core.List.{List, [], ◌∷◌}
use mathlib.Core.Option.{some}
use native.Mathlib.Omega.{arith}
use native.Mathlib.Nat.{eq-or-lt_of_le}
use Rattle.rules.specs.Lists.{first_of}
use Rattle.rules.specs.HallLine.{Band}
use Rattle.rules.specs.NodesLanesEdges.{Node, edge_of, lane_of, edges_in}
use Rattle.rules.specs.Marks.{edge_marked}
use Rattle.rules.specs.Staircase.{slot_number, link_marked, out_marked, marked_links}
use Rattle.rules.proofs.Means.{Means, reworded, denied, and_means, never}
use Rattle.rules.proofs.Lists.{In, EachLane, first_in}
use Rattle.rules.proofs.NodesLanesEdges.{Asc, takes_part_means}
use Rattle.rules.proofs.Theory.EdgesOut.{Ahead, next_edge}

-- the link to the first key ahead is marked exactly when that edge is
pub first_link_means : (ns : List Node) (b : Band) (i x : ℕ) (ys : List ℕ)
    → Means (link_marked ns b i x ys) ((y : ℕ) × (first_of ys ≡ some y) × (edge_marked ns b i (edge_of x y) ≡ true))
unfolding link_marked
first_link_means ns b i x [] = record { fact = never; test = λ s. absurd (first_in s.0 [] s.1) }
first_link_means ns b i x (y ∷ ys) =
    record {
      fact = λ t. (y, refl, t);
      test = λ s. let p : s.0 ≡ y = cc s.1 in subst (λ z. edge_marked ns b i (edge_of x z) ≡ true) p s.2;
    }

module _ (b : Band) {ns : List Node} {c : ℕ} {n : Node} {rest : List Node} (f : Ahead ns c (n ∷ rest)) (a : Asc 0 ns) (i : ℕ) where
  -- a link is marked exactly when the lane's edge out of the node is ..
  pub link_means : Means (out_marked ns b n rest i)
      ((y : ℕ) × In (edge_of n.key y) (edges_in i ns) × (edge_marked ns b i (edge_of n.key y) ≡ true))
  link_means =
      reworded
      (and_means (takes_part_means i n) (first_link_means ns b i n.key (lane_of i rest)))
      (λ h. (h.1.0, (next_edge f a i h.1.0).0 (h.0, h.1.1), h.1.2))
      (λ s. let e = (next_edge f a i s.0).1 s.1 in (e.0, (s.0, e.1, s.2)))

  -- .. so it is not where the edge is not marked, or there is none
  pub link_bare : ((y : ℕ) → In (edge_of n.key y) (edges_in i ns) → edge_marked ns b i (edge_of n.key y) ≡ false)
      → out_marked ns b n rest i ≡ false
  link_bare h = (denied link_means).test (λ s. never (sym (h s.0 s.1) ∙ s.2))

module _ (ns : List Node) (b : Band) (j : ℕ) (n : Node) (rest : List Node) where
  -- where no link is marked no slot is listed ..
  pub no_links : (i m : ℕ) → EachLane (λ k. out_marked ns b n rest k ≡ false) i m → marked_links ns b j n rest i m ≡ []
  no_links i zero h = refl
  no_links i (suc m) h = rw (h i (omega arith) (omega arith)) (no_links (suc i) m (λ k l u. h k (omega arith) (omega arith)))

  -- .. and where one alone is marked its slot alone is
  pub one_link : (k i m : ℕ) → i ≤ k → k < i + m → out_marked ns b n rest k ≡ true
      → EachLane (λ l. (l ≡ k → ⊥) → out_marked ns b n rest l ≡ false) i m
      → marked_links ns b j n rest i m ≡ slot_number j (suc k) ∷ []
  one_link k i zero l u t h = absurd (omega arith)
  one_link k i (suc m) l u t h =
      ⊎_elim
      here
      (λ g. rw (h i (omega arith) (omega arith) (λ q. omega arith))
      (one_link k (suc i) m g (omega arith) t (λ w v z. h w (omega arith) (omega arith))))
      (eq-or-lt_of_le l)
    where
      here : i ≡ k → marked_links ns b j n rest i (suc m) ≡ slot_number j (suc k) ∷ []
      here p =
          let others = no_links (suc i) m (λ w g v. h w (omega arith) (omega arith) (λ q. omega arith)) in
          rw (subst (λ w. out_marked ns b n rest w ≡ true) (sym p) t, others) (ap (λ w. slot_number j (suc w) ∷ []) p)
