-- "It is the level given in the call that made the node and stays while the node stands": of any two lists of nodes in key order, where each node of the
-- one at whose key the other has a node stands in the other too; and so by the node readout. Insert and remove are such changes, and a node that an insert
-- makes has the level given.
-- Assumes nothing.
use Prim.Native.Nat.{ℕ}
use mathlib.Core.Path.{◌≡◌, sym, ◌∙◌, ap, subst}
use mathlib.Core.Bool.{Bool, true}
use mathlib.Core.Logic.{inl, inr}
use mathlib.Core.List.{List}
use Rattle.rules.specs.HallLine.{Band}
use Rattle.rules.specs.NodesLanesEdges.{Node, level_at}
use Rattle.rules.specs.Profile.{Profile, has_number}
use Rattle.rules.specs.Changes.{inserted, without_where, removed}
use Rattle.rules.specs.Readouts.{node_read}
use Rattle.rules.specs.BoxSaysNo.{no_node_read, node_read_refusal, node_read_answer}
use Rattle.rules.proofs.Lists.{In, Each, ascends_once}
use Rattle.rules.proofs.NodesLanesEdges.{NodeAt, Asc, level_there}
use Rattle.rules.proofs.BoxSaysNo.{node_accepted, accepted_answers}
use Rattle.rules.proofs.Changes.{MadeAtEnd, in_with_ends, inserted_nodes, in_nodes_left}

-- each node before at whose key one stands after stands after as it was, with its level
abbrev pub LevelsStay : List Node → List Node → Type 0
LevelsStay before after = Each (λ n. NodeAt n.key after → In n after) before

-- so at each key where a node stands before and after it has the same level
pub levels_same : (before after : List Node) → Asc 0 before → Asc 0 after → LevelsStay before after
    → (k : ℕ) → NodeAt k before → NodeAt k after → level_at k after ≡ level_at k before
levels_same before after a c stay k n m =
    let still = stay n.0 n.1 (m.0, m.1, m.2 ∙ sym n.2) in
    subst (λ j. level_at j after ≡ level_at j before) n.2 (level_there 0 after c n.0 still ∙ sym (level_there 0 before a n.0 n.1))

-- ---- by the node readout

-- where it is not refused it gives the level there
level_read_there : (p : Profile) (k : ℕ) → (node_read_answer true p k).refusal ≡ 0 → (node_read_answer true p k).read.level ≡ level_at k p.nodes
unfolding node_read_answer node_read
level_read_there p k z = ap (λ a. a.read.level) (accepted_answers (node_read_refusal true p k) no_node_read (node_read p k) z)

-- the same level is read before and after
pub levels_read_same : (p q : Profile) → Asc 0 p.nodes → Asc 0 q.nodes → LevelsStay p.nodes q.nodes
    → (k : ℕ) → (node_read_answer true p k).refusal ≡ 0 → (node_read_answer true q k).refusal ≡ 0
    → (node_read_answer true q k).read.level ≡ (node_read_answer true p k).read.level
unfolding node_read_answer
levels_read_same p q a c stay k before after =
    let n = ((node_accepted true p k).0 before).1.1 in
    let m = ((node_accepted true q k).0 after).1.1 in
    level_read_there q k after ∙ levels_same p.nodes q.nodes a c stay k n m ∙ sym (level_read_there p k before)

-- ---- insert and remove

module _ (p : Profile) (b : Band) (lo hi : ℕ) where
  -- a node that stood before an insert stands after it
  pub insert_levels_stay : LevelsStay p.nodes (inserted p b lo hi).nodes
  insert_levels_stay n i there = rw (inserted_nodes p b lo hi) ((in_with_ends b lo hi p.nodes n).1 (inl i))

  -- a node that it makes stands after it, with the level given for its end
  pub made_stands : (n : Node) → MadeAtEnd b lo hi p.nodes n → In n (inserted p b lo hi).nodes
  made_stands n e = rw (inserted_nodes p b lo hi) ((in_with_ends b lo hi p.nodes n).1 (inr e))

-- a node that is left without some bands is one that stood
pub without_levels_stay : (f : Band → Bool) (p : Profile) → Asc 0 p.nodes → LevelsStay p.nodes (without_where f p).nodes
without_levels_stay f p ascend n i m =
    let was = ((in_nodes_left f p m.0).0 m.1).0 in
    subst (λ x. In x (without_where f p).nodes) (ascends_once (λ x. x.key) 0 p.nodes ascend m.0 n was i m.2) m.1

pub remove_levels_stay : (p : Profile) (number : ℕ) → Asc 0 p.nodes → LevelsStay p.nodes (removed p number).nodes
unfolding removed
remove_levels_stay p number = without_levels_stay (has_number number) p
