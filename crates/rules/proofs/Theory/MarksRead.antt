-- Marks as the readouts tell them: on a standing profile a number is flagged on an edge, or on a node, exactly where it is marked there. So a number
-- that keeps its marks outside the reaches keeps them in what is read, and between two standing profiles that is each number of no band that has
-- come or gone. What is flagged or leads on is read where the readout is not refused.
-- Assumes nothing.
use Prim.Native.Nat.{ℕ, zero, suc, ◌<◌}
use mathlib.Core.Path.{◌≡◌, refl, sym, ◌∙◌, ap, subst}
use mathlib.Core.Bool.{Bool, true, false}
use mathlib.Core.Logic.{◌↔◌}
use mathlib.Core.List.{List, []}
use mathlib.Core.Option.{Option, none, some}
use native.Mathlib.Omega.{arith}
use Rattle.rules.specs.HallLine.{Band}
use Rattle.rules.specs.NodesLanesEdges.{Node, edge_of, lane_of, edges_in, level_at, lanes}
use Rattle.rules.specs.Profile.{Profile}
use Rattle.rules.specs.Marks.{marked_on_edge, marked_on_node}
use Rattle.rules.specs.Flags.{flag_count, flag_at}
use Rattle.rules.specs.Readouts.{EdgeRead, NodeRead, edge_read, node_read}
use Rattle.rules.specs.BoxSaysNo.{Answered, saying, answered, no_flags, no_edge_read, no_node_read, edge_read_refusal, edge_read_answer, node_read_refusal, node_read_answer}
use Rattle.rules.specs.Reach.{present_both, made_or_dropped}
use Rattle.rules.proofs.Means.{never}
use Rattle.rules.proofs.Lists.{In}
use Rattle.rules.proofs.NodesLanesEdges.{NodeAt, in_lane, edge_rule, level_there}
use Rattle.rules.proofs.Profile.{SameBut, NoneBy}
use Rattle.rules.proofs.Marks.{in_marked_on_edge, in_marked_on_node}
use Rattle.rules.proofs.Flags.{flag_set_where_in, flags_of_none}
use Rattle.rules.proofs.Readouts.{next_by_edge, edge_flag, node_flag}
use Rattle.rules.proofs.BoxSaysNo.{edge_accepted, node_accepted, accepted_answers, refused_zeros}
use Rattle.rules.proofs.SoundMemory.{Standing, nodes_on_line}
use Rattle.rules.proofs.Reach.{KeepsMarks}
use Rattle.rules.proofs.Theory.Reaches.{Clear, ClearAt}
use Rattle.rules.proofs.Theory.ReachesOfCalls.{standing_sides, other_number_keeps_marks}

-- ---- what is read is not refused

-- zeros flag no number
no_flag : (number : ℕ) → number < flag_count → flag_at no_flags number ≡ 1 → ⊥
no_flag number h e = (flag_set_where_in [] number h).0 (rw flags_of_none e)

-- a next key is read
leads : Option ℕ → Bool
leads none = false
leads (some y) = true

-- where a next key is read the edge readout is not refused ..
pub edge_unrefused : (refusal : ℕ) (a : EdgeRead) (y : ℕ) → (answered refusal no_edge_read a).read.next ≡ some y → refusal ≡ 0
unfolding leads
edge_unrefused zero a y e = refl
edge_unrefused (suc r) a y e =
    never (ap leads (sym (ap (λ x. x.read.next) (refused_zeros (suc r) no_edge_read a (λ z. omega arith))) ∙ e))

-- .. nor is the node readout where a number is flagged
pub node_unrefused : (refusal : ℕ) (a : NodeRead) (number : ℕ) → number < flag_count
    → flag_at (answered refusal no_node_read a).read.flags number ≡ 1 → refusal ≡ 0
node_unrefused zero a number h e = refl
node_unrefused (suc r) a number h e =
    absurd (no_flag number h (sym (ap (λ x. flag_at x.read.flags number) (refused_zeros (suc r) no_node_read a (λ z. omega arith))) ∙ e))

-- ---- a mark is read exactly where it stands

module _ (p : Profile) (s : Standing p) where
  -- the edge readout of a node and a lane of its own is not refused ..
  pub edge_answered : (n : Node) → In n p.nodes → (lane : ℕ) → lane < n.level
      → edge_read_answer true p n.key lane ≡ saying 0 (edge_read p n.key lane)
  unfolding edge_read_answer
  edge_answered n i lane h =
      let below : lane < level_at n.key p.nodes = omega (arith, level_there 0 p.nodes s.keys_ascend_lem n i) in
      accepted_answers (edge_read_refusal true p n.key lane) no_edge_read (edge_read p n.key lane)
      ((edge_accepted true p n.key lane).1 (refl, (nodes_on_line p s n i, ((n, i, refl), below))))

  -- .. nor is the node readout of a node
  pub node_answered : (n : Node) → In n p.nodes → node_read_answer true p n.key ≡ saying 0 (node_read p n.key)
  unfolding node_read_answer
  node_answered n i =
      accepted_answers (node_read_refusal true p n.key) no_node_read (node_read p n.key)
      ((node_accepted true p n.key).1 (refl, (nodes_on_line p s n i, (n, i, refl))))

  module _ (number : ℕ) (h : number < flag_count) where
    module _ (x y lane : ℕ) where
      -- the readout leads from x to y and flags the number there
      abbrev pub EdgeFlagged : Type 0
      EdgeFlagged = ((edge_read_answer true p x lane).read.next ≡ some y) × (flag_at (edge_read_answer true p x lane).read.flags number ≡ 1)

      -- an edge of the lane joins them and bears the number
      abbrev pub EdgeBears : Type 0
      EdgeBears = In (edge_of x y) (edges_in lane p.nodes) × In number (marked_on_edge p lane (edge_of x y))

      -- from a node of the lane
      from_node : In x (lane_of lane p.nodes) → EdgeFlagged ↔ EdgeBears
      unfolding edge_read
      from_node j =
          let n = (in_lane lane x p.nodes).0 j in
          let read = subst (λ k. edge_read_answer true p k lane ≡ saying 0 (edge_read p k lane)) n.2.1 (edge_answered n.0 n.1 lane n.2.0) in
          let next = next_by_edge p x lane 0 s.keys_ascend_lem y j in
          let marked = in_marked_on_edge p number lane (edge_of x y) in
          rw read (
            λ f. (next.0 f.0, marked.1 ((edge_flag p x lane y number f.0 h).0 f.1)),
            λ g. (next.1 g.0, (edge_flag p x lane y number (next.1 g.0) h).1 (marked.0 g.1)),
          )

      pub edge_mark_read : EdgeFlagged ↔ EdgeBears
      unfolding edge_read_answer
      edge_mark_read = (
        λ f. (from_node (in_its_lane (edge_unrefused (edge_read_refusal true p x lane) (edge_read p x lane) y f.0))).0 f,
        λ g. (from_node ((edge_rule lane 0 (edge_of x y) p.nodes s.keys_ascend_lem).0 g.0).from_in).1 g,
      )
        where
          in_its_lane : edge_read_refusal true p x lane ≡ 0 → In x (lane_of lane p.nodes)
          in_its_lane z =
              let a = ((edge_accepted true p x lane).0 z).1.1 in
              let n = a.0 in
              let level = level_there 0 p.nodes s.keys_ascend_lem n.0 n.1 in
              (in_lane lane x p.nodes).1 (n.0, n.1, (omega (arith, a.1, ap (λ k. level_at k p.nodes) n.2, level), n.2))

    module _ (k : ℕ) where
      -- the readout flags the number
      abbrev pub NodeFlagged : Type 0
      NodeFlagged = flag_at (node_read_answer true p k).read.flags number ≡ 1

      -- a node stands there and bears the number
      abbrev pub NodeBears : Type 0
      NodeBears = NodeAt k p.nodes × In number (marked_on_node p k)

      at_node : NodeAt k p.nodes → ((node_read_answer true p k).refusal ≡ 0) × (NodeFlagged ↔ In number (marked_on_node p k))
      unfolding node_read
      at_node n =
          let read = subst (λ j. node_read_answer true p j ≡ saying 0 (node_read p j)) n.2 (node_answered n.0 n.1) in
          let marked = in_marked_on_node p number k in
          rw read (refl, (λ f. marked.1 ((node_flag p k number h).0 f), λ g. (node_flag p k number h).1 (marked.0 g)))

      pub node_mark_read : (((node_read_answer true p k).refusal ≡ 0) × NodeFlagged) ↔ NodeBears
      unfolding node_read_answer
      node_mark_read = (
        λ f. let n = ((node_accepted true p k).0 f.0).1.1 in (n, (at_node n).1.0 f.1),
        λ g. ((at_node g.0).0, (at_node g.0).1.1 g.1),
      )

-- ---- what is kept is read

-- of two ways to read edges and nodes: a number's marks on edges that lie in the reach of no touched node, and on nodes strictly inside none, are read
-- by the one and, of the same edge or node, by the other
pub record ReadsKept (both touched : List Node) (number : ℕ) (edges edges' : ℕ → ℕ → Answered EdgeRead) (nodes nodes' : ℕ → Answered NodeRead) : Type 0 where
  pub on_edge : (x y lane : ℕ) → Clear both touched (edge_of x y)
      → (edges x lane).read.next ≡ some y → flag_at (edges x lane).read.flags number ≡ 1
      → ((edges' x lane).read.next ≡ some y) × (flag_at (edges' x lane).read.flags number ≡ 1)
  pub on_node : (k : ℕ) → ClearAt both touched k → flag_at (nodes k).read.flags number ≡ 1
      → ((nodes' k).refusal ≡ 0) × (flag_at (nodes' k).read.flags number ≡ 1)

-- .. by the readouts of two profiles
abbrev pub ProfileReadsKept : List Node → List Node → ℕ → Profile → Profile → Type 0
ProfileReadsKept both touched number p q =
    ReadsKept both touched number (edge_read_answer true p) (edge_read_answer true q) (node_read_answer true p) (node_read_answer true q)

module _ (both touched : List Node) (p q : Profile) (before : Standing p) (after : Standing q) (number : ℕ) (h : number < flag_count) where
  -- a number that keeps its marks outside the reaches keeps them in what is read
  pub marks_kept_read : KeepsMarks both touched p q number → ProfileReadsKept both touched number p q
  unfolding node_read_answer
  marks_kept_read keeps = record { on_edge = on_edge; on_node = on_node }
    where
      on_edge : (x y lane : ℕ) → Clear both touched (edge_of x y)
          → (edge_read_answer true p x lane).read.next ≡ some y → flag_at (edge_read_answer true p x lane).read.flags number ≡ 1
          → ((edge_read_answer true q x lane).read.next ≡ some y) × (flag_at (edge_read_answer true q x lane).read.flags number ≡ 1)
      on_edge x y lane clear next flag =
          let marked = (edge_mark_read p before number h x y lane).0 (next, flag) in
          let from = ((edge_rule lane 0 (edge_of x y) p.nodes before.keys_ascend_lem).0 marked.0).from_in in
          let n = (in_lane lane x p.nodes).0 from in
          let in_range : lane < lanes = omega (arith, before.levels_right_lem n.0 n.1, n.2.0) in
          (edge_mark_read q after number h x y lane).1 (keeps.0 lane in_range (edge_of x y) marked.0 clear marked)

      on_node : (k : ℕ) → ClearAt both touched k → flag_at (node_read_answer true p k).read.flags number ≡ 1
          → ((node_read_answer true q k).refusal ≡ 0) × (flag_at (node_read_answer true q k).read.flags number ≡ 1)
      on_node k clear flag =
          let marked = (node_mark_read p before number h k).0 (node_unrefused (node_read_refusal true p k) (node_read p k) number h flag, flag) in
          let n = marked.0 in
          let kept = subst (λ j. ClearAt both touched j → NodeBears p before number h j → NodeBears q after number h j) n.2 (keeps.1 n.0 n.1) in
          (node_mark_read q after number h k).1 (kept clear marked)

-- both ways, for each number that no live band that has come or gone has
pub other_number_reads_kept : {P : Band → Type 0} (p q : Profile) → Standing p → Standing q → SameBut P p q
    → (number : ℕ) → number < flag_count → NoneBy P number p → NoneBy P number q
    → ProfileReadsKept (present_both p.nodes q.nodes) (made_or_dropped p.nodes q.nodes) number p q
    × ProfileReadsKept (present_both p.nodes q.nodes) (made_or_dropped p.nodes q.nodes) number q p
other_number_reads_kept p q before after same number h none_before none_after =
    let s = standing_sides p q before after in
    let keeps = other_number_keeps_marks _ _ p q before after s.0 s.1 same number none_before none_after in
    (marks_kept_read _ _ p q before after number h keeps.0, marks_kept_read _ _ q p after before number h keeps.1)
