-- "What one call can reach": which nodes are made, dropped or present throughout, how far a reach runs, what lies in one, what bears a
-- mark and when answers are alike, to and from membership and arithmetic; so that the Bool rule says what the paper says with its quantifiers.
-- These laws and the rows of the table are what keep the rule as strong as the paper's: Theory shows that calls meet it, and so would a weaker one.
-- Assumes nothing.
use Prim.Native.Nat.{ℕ, max, min, ◌≤◌, ◌<◌}
use mathlib.Core.Path.{◌≡◌, refl, sym, ◌∙◌, ap, subst}
use mathlib.Core.Bool.{Bool, true, false, not, cond}
use mathlib.Core.Logic.Iff
use mathlib.Core.Logic.{◌↔◌, ◌⊎◌, inl, inr, ⊎_elim, ⊎_map}
use mathlib.Core.List.{List, [], ◌∷◌}
use native.Mathlib.Omega.{arith}
use lib.Dec.{eqb}
use Rattle.rules.specs.Connectives.{◌and◌}
use Rattle.rules.specs.Lists.{keep}
use Rattle.rules.specs.HallLine.{Band, highest_key, machines, parts_in_range, key_of}
use Rattle.rules.specs.NodesLanesEdges.{Node, node_of, Edge, edge_of, edges_in, lanes}
use Rattle.rules.specs.Profile.{Profile}
use Rattle.rules.specs.Marks.{marked_on_edge, marked_on_node}
use Rattle.rules.specs.Search.{stab_of}
use Rattle.rules.specs.Reach.{present, present_both, made_or_dropped, Reach, nearest_before, nearest_after, reach_of, lies_in, strictly_inside, edge_reached, key_reached, edge_bears, node_bears, answers_alike, OthersAlike, loses_in_lane, loses_on_node, keeps_marks, others_keep_marks, keeps_outside_reaches}
use Rattle.rules.proofs.Means.{Means, Fails, reworded, denied, not_means, and_means, and3_means, or_means, then_fails, implies_fails, lt_means, le_means, eq_means, at_most_or_above}
use Rattle.rules.proofs.Lists.{In, Some, Each, each_cons, any_means, any_fails, all_means, find_means, member_means, same_numbers_means, in_kept, some_or_none, in_append, lane_fails}
use Rattle.rules.proofs.HallLine.{parts_in_range_means, key_is_its_machines}
use Rattle.rules.proofs.NodesLanesEdges.{NodeAt, stands_at_means}

-- ---- nodes made, dropped and present throughout

pub present_means : (ns : List Node) (n : Node) → Means (present ns n) (In n ns)
unfolding present
present_means ns n =
    find_means
    (λ m. reworded
    (and_means (eq_means m.key n.key) (eq_means m.level n.level))
    (λ h i. node_of (h.0 i) (h.1 i))
    (λ e. (ap (λ t. t.key) e, ap (λ t. t.level) e)))
    ns

module _ (before after : List Node) (n : Node) where
  pub in_present_both : In n (present_both before after) ↔ (In n before × In n after)
  unfolding present_both
  in_present_both = in_kept (present_means after) n before

  pub in_made_or_dropped : In n (made_or_dropped before after) ↔ ((In n after × (In n before → ⊥)) ⊎ (In n before × (In n after → ⊥)))
  unfolding made_or_dropped
  in_made_or_dropped =
      let made = in_kept (λ m. not_means (denied (present_means before m))) n after in
      let dropped = in_kept (λ m. not_means (denied (present_means after m))) n before in
      Iff.trans
      (in_append n (keep (λ m. not (present before m)) after) (keep (λ m. not (present after m)) before))
      (⊎_map made.0 dropped.0, ⊎_map made.1 dropped.1)

-- ---- how far a reach runs

-- x is the end of the line where no node is so; else the key of such a node, and no such node is nearer
abbrev pub Nearest : (Node → Type 0) → (ℕ → ℕ → Type 0) → ℕ → List Node → ℕ → Type 0
Nearest P NoNearer end ns x =
    (Each (λ n. P n → ⊥) ns × (x ≡ end)) ⊎ (Some (λ n. P n × (n.key ≡ x)) ns × Each (λ n. P n → NoNearer n.key x) ns)

-- one law for both directions: of two keys `pick` takes the nearer
module _ {f : Node → Bool} {P : Node → Type 0} (m : (n : Node) → Means (f n) (P n))
    (NoNearer : ℕ → ℕ → Type 0) (pick : ℕ → ℕ → ℕ)
    (first : (x y : ℕ) → NoNearer x (pick x y)) (second : (x y z : ℕ) → NoNearer x z → NoNearer x (pick y z))
    (one : (x y : ℕ) → (pick x y ≡ x) ⊎ (pick x y ≡ y))
    (end : ℕ) (nearest : List Node → ℕ) (none : nearest [] ≡ end)
    (more : (n : Node) (ns : List Node) → nearest (n ∷ ns) ≡ pick (cond (f n) n.key end) (nearest ns)) where
  none_nearer : (ns : List Node) → Each (λ n. P n → NoNearer n.key (nearest ns)) ns
  none_nearer [] = λ n i. absurd i
  none_nearer (n ∷ ns) =
      rw (more n ns)
      ((each_cons n ns).1 (
        λ p. rw ((m n).test p) (first n.key (nearest ns)),
        λ t i p. second t.key (cond (f n) n.key end) (nearest ns) (none_nearer ns t i p),
      ))

  end_or_key : (ns : List Node) → (nearest ns ≡ end) ⊎ Some (λ n. P n × (n.key ≡ nearest ns)) ns
  end_or_key [] = inl none
  end_or_key (n ∷ ns) =
      ⊎_elim
      (λ e. here (f n) refl (more n ns ∙ e))
      (λ e. later (more n ns ∙ e) (end_or_key ns))
      (one (cond (f n) n.key end) (nearest ns))
    where
      here : (t : Bool) → f n ≡ t → nearest (n ∷ ns) ≡ cond t n.key end
          → (nearest (n ∷ ns) ≡ end) ⊎ Some (λ t. P t × (t.key ≡ nearest (n ∷ ns))) (n ∷ ns)
      here true q e = inr (n, inl refl, ((m n).fact q, sym e))
      here false q e = inl e

      later : nearest (n ∷ ns) ≡ nearest ns → (nearest ns ≡ end) ⊎ Some (λ t. P t × (t.key ≡ nearest ns)) ns
          → (nearest (n ∷ ns) ≡ end) ⊎ Some (λ t. P t × (t.key ≡ nearest (n ∷ ns))) (n ∷ ns)
      later e = ⊎_map (λ z. e ∙ z) (λ s. (s.0, inr s.1, (s.2.0, s.2.1 ∙ sym e)))

  -- for nodes on the line: one that is no nearer than its end stands at the end
  nearest_is : (ns : List Node) → Each (λ n. NoNearer n.key end → n.key ≡ end) ns → Nearest P NoNearer end ns (nearest ns)
  nearest_is ns far = ⊎_elim (λ s. inr (found s, none_nearer ns)) (λ h. inl (h, not_found h)) (some_or_none m ns)
    where
      found : Some P ns → Some (λ n. P n × (n.key ≡ nearest ns)) ns
      found s =
          ⊎_elim
          (λ z. (s.0, s.1, (s.2, far s.0 s.1 (subst (NoNearer s.0.key) z (none_nearer ns s.0 s.1 s.2)) ∙ sym z)))
          (λ t. t)
          (end_or_key ns)

      not_found : Each (λ n. P n → ⊥) ns → nearest ns ≡ end
      not_found h = ⊎_elim (λ z. z) (λ s. absurd (h s.0 s.1 s.2.0)) (end_or_key ns)

-- a node of level h or more, before k or after it
abbrev pub TallBefore : ℕ → ℕ → Node → Type 0
TallBefore h k n = (h ≤ n.level) × (n.key < k)

abbrev pub TallAfter : ℕ → ℕ → Node → Type 0
TallAfter h k n = (h ≤ n.level) × (k < n.key)

pub nearest_before_lem : (h k : ℕ) (ns : List Node) → Nearest (TallBefore h k) (λ x y. x ≤ y) 0 ns (nearest_before h k ns)
nearest_before_lem h k ns =
    nearest_is (λ n. and_means (le_means h n.level) (lt_means n.key k))
    (λ x y. x ≤ y) max (λ x y. omega arith) (λ x y z l. omega arith)
    (λ x y. ⊎_elim (λ l. inr (omega arith)) (λ l. inl (omega arith)) (at_most_or_above x y))
    0 (nearest_before h k) refl (λ n ns. refl) ns (λ n i l. omega arith)

pub nearest_after_lem : (h k : ℕ) (ns : List Node) → Each (λ n. n.key ≤ highest_key) ns
    → Nearest (TallAfter h k) (λ x y. y ≤ x) highest_key ns (nearest_after h k ns)
nearest_after_lem h k ns on_line =
    nearest_is (λ n. and_means (le_means h n.level) (lt_means k n.key))
    (λ x y. y ≤ x) min (λ x y. omega arith) (λ x y z l. omega arith)
    (λ x y. ⊎_elim (λ l. inl (omega arith)) (λ l. inr (omega arith)) (at_most_or_above x y))
    highest_key (nearest_after h k) refl (λ n ns. refl) ns (λ n i l. omega (arith, on_line n i))

-- the reach of a node runs from the one to the other
pub reach_runs : (both : List Node) → Each (λ m. m.key ≤ highest_key) both → (n : Node)
    → Nearest (TallBefore n.level n.key) (λ x y. x ≤ y) 0 both (reach_of both n).from
    × Nearest (TallAfter n.level n.key) (λ x y. y ≤ x) highest_key both (reach_of both n).to
unfolding reach_of
reach_runs both on_line n = (nearest_before_lem n.level n.key both, nearest_after_lem n.level n.key both on_line)

-- ---- what lies in a reach

-- the edge lies in the reach
abbrev pub LiesIn : Edge → Reach → Type 0
LiesIn e r = (r.from ≤ e.from) × (e.to ≤ r.to)

pub lies_in_means : (e : Edge) (r : Reach) → Means (lies_in e r) (LiesIn e r)
unfolding lies_in
lies_in_means e r = and_means (le_means r.from e.from) (le_means e.to r.to)

-- the key is strictly inside the reach
abbrev pub StrictlyInside : ℕ → Reach → Type 0
StrictlyInside k r = (r.from < k) × (k < r.to)

pub strictly_inside_means : (k : ℕ) (r : Reach) → Means (strictly_inside k r) (StrictlyInside k r)
unfolding strictly_inside
strictly_inside_means k r = and_means (lt_means r.from k) (lt_means k r.to)

module _ (both touched : List Node) where
  pub edge_reached_means : (e : Edge) → Means (edge_reached both touched e) (Some (λ n. LiesIn e (reach_of both n)) touched)
  unfolding edge_reached
  edge_reached_means e = any_means (λ n. lies_in_means e (reach_of both n)) touched

  pub key_reached_means : (k : ℕ) → Means (key_reached both touched k) (Some (λ n. StrictlyInside k (reach_of both n)) touched)
  unfolding key_reached
  key_reached_means k = any_means (λ n. strictly_inside_means k (reach_of both n)) touched

-- ---- what bears a mark

module _ (p : Profile) (number : ℕ) where
  pub edge_bears_means : (i : ℕ) (e : Edge) → Means (edge_bears p i e number) (In e (edges_in i p.nodes) × In number (marked_on_edge p i e))
  unfolding edge_bears
  edge_bears_means i e = and_means (find_means same (edges_in i p.nodes)) (member_means number (marked_on_edge p i e))
    where
      same : (f : Edge) → Means (eqb f.from e.from and eqb f.to e.to) (f ≡ e)
      same f =
          reworded
          (and_means (eq_means f.from e.from) (eq_means f.to e.to))
          (λ h j. edge_of (h.0 j) (h.1 j))
          (λ q. (ap (λ g. g.from) q, ap (λ g. g.to) q))

  pub node_bears_means : (k : ℕ) → Means (node_bears p k number) (NodeAt k p.nodes × In number (marked_on_node p k))
  unfolding node_bears
  node_bears_means k = and_means (stands_at_means k p.nodes) (member_means number (marked_on_node p k))

-- ---- what is kept

module _ (both touched : List Node) (p q : Profile) (number : ℕ) where
  -- each mark of the number on an edge of lane i that is not reached stands after the call too
  abbrev pub KeepsInLane : ℕ → Type 0
  KeepsInLane i =
      Each
      (λ e. (Some (λ n. LiesIn e (reach_of both n)) touched → ⊥)
      → In e (edges_in i p.nodes) × In number (marked_on_edge p i e)
      → In e (edges_in i q.nodes) × In number (marked_on_edge q i e))
      (edges_in i p.nodes)

  -- and so does each mark on a node that is not reached
  abbrev pub KeepsOnNodes : Type 0
  KeepsOnNodes =
      Each
      (λ n. (Some (λ m. StrictlyInside n.key (reach_of both m)) touched → ⊥)
      → NodeAt n.key p.nodes × In number (marked_on_node p n.key)
      → NodeAt n.key q.nodes × In number (marked_on_node q n.key))
      p.nodes

  pub loses_in_lane_fails : (i : ℕ) → Fails (loses_in_lane both touched p q number i) (KeepsInLane i)
  unfolding loses_in_lane
  loses_in_lane_fails i =
      any_fails
      (λ e. then_fails (not_means (denied (edge_reached_means both touched e)))
      (implies_fails (edge_bears_means p number i e) (edge_bears_means q number i e)))
      (edges_in i p.nodes)

  pub loses_on_node_fails : Fails (loses_on_node both touched p q number) KeepsOnNodes
  unfolding loses_on_node
  loses_on_node_fails =
      any_fails
      (λ n. then_fails (not_means (denied (key_reached_means both touched n.key)))
      (implies_fails (node_bears_means p number n.key) (node_bears_means q number n.key)))
      p.nodes

  -- all such marks, in every lane and on every node
  abbrev pub KeepsMarks : Type 0
  KeepsMarks = ((i : ℕ) → i < lanes → KeepsInLane i) × KeepsOnNodes

  pub keeps_marks_means : Means (keeps_marks both touched p q number) KeepsMarks
  unfolding keeps_marks
  keeps_marks_means =
      reworded
      (and_means (not_means (lane_fails loses_in_lane_fails 0 lanes)) (not_means loses_on_node_fails))
      (λ h. (λ i l. h.0 i (omega arith) (omega arith), h.1))
      (λ h. (λ i l u. h.0 i (omega arith), h.1))

-- bands other than the call's own keep all such marks from p to q, and gain none
abbrev pub OthersKeepMarks : (Band → Type 0) → List Node → List Node → Profile → Profile → Type 0
OthersKeepMarks Own both touched p q =
    Each (λ b. Own b ⊎ KeepsMarks both touched p q b.number) p.bands
    × Each (λ b. Own b ⊎ KeepsMarks both touched q p b.number) q.bands

-- .. with the nodes present both before and after and those made or dropped
abbrev pub KeepsOutsideReaches : (Band → Type 0) → Profile → Profile → Type 0
KeepsOutsideReaches Own p q = OthersKeepMarks Own (present_both p.nodes q.nodes) (made_or_dropped p.nodes q.nodes) p q

module _ {own : Band → Bool} {Own : Band → Type 0} (m : (b : Band) → Means (own b) (Own b)) where
  pub others_keep_marks_means : (both touched : List Node) (p q : Profile)
      → Means (others_keep_marks own both touched p q) (OthersKeepMarks Own both touched p q)
  unfolding others_keep_marks
  others_keep_marks_means both touched p q =
      and_means
      (all_means (λ b. or_means (m b) (keeps_marks_means both touched p q b.number)) p.bands)
      (all_means (λ b. or_means (m b) (keeps_marks_means both touched q p b.number)) q.bands)

  pub keeps_outside_reaches_means : (p q : Profile) → Means (keeps_outside_reaches own p q) (KeepsOutsideReaches Own p q)
  unfolding keeps_outside_reaches
  keeps_outside_reaches_means p q = others_keep_marks_means (present_both p.nodes q.nodes) (made_or_dropped p.nodes q.nodes) p q

-- two profiles answer the same at a key
pub answers_alike_means : (p q : Profile) (k : ℕ)
    → Means (answers_alike p q k)
    (((stab_of p k).flags ≡ (stab_of q k).flags) × ((stab_of p k).count ≡ (stab_of q k).count) × ((stab_of p k).met ≡ (stab_of q k).met))
unfolding answers_alike
answers_alike_means p q k =
    and3_means
    (same_numbers_means (stab_of p k).flags (stab_of q k).flags)
    (eq_means (stab_of p k).count (stab_of q k).count)
    (eq_means (stab_of p k).met (stab_of q k).met)

-- every key of every other machine: at each machine but m, each sensor and each reading
pub others_at_every_key : (m : ℕ) (p q : Profile) → OthersAlike m p q → m < machines
    → (n s r : ℕ) → parts_in_range n s r ≡ true → (n ≡ m → ⊥) → answers_alike p q (key_of n s r) ≡ true
others_at_every_key m p q alike l n s r h other =
    alike l n ((parts_in_range_means n s r).fact h).0 other (key_of n s r) (key_is_its_machines n s r h)
