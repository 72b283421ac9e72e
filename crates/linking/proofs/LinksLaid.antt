-- Node words that have the links of the nodes that they say: what that means, that the links due are these, and that the words of a profile have them.
-- Assumes nothing.
use Prim.Native.Nat.{ℕ, suc, ◌<◌}
use mathlib.Core.Path.{◌≡◌, sym, subst}
use mathlib.Core.Bool.{cond}
use mathlib.Core.List.{List, ◌∷◌}
use native.Mathlib.Omega.{arith}
use borrow.Author.Tests.{lt-ltb}
use lib.ListN.{drop}
use Rattle.rules.specs.NodesLanesEdges.{Node, lanes, takes_part}
use Rattle.rules.proofs.Lists.{rest_follows}
use Rattle.store.specs.Places.{node_field, link_field, header}
use Rattle.store.specs.SaidProfile.{said_node, said_nodes, said_by}
use Rattle.store.specs.LaidNodes.{next_place, link_of, laid_nodes}
use Rattle.store.proofs.SaidNodes.{said_at}
use Rattle.store.proofs.NodeWords.{NodeWords, laid_node_words}
use Rattle.linking.specs.LinksDue.{linked_lanes, link_due_at}
use Rattle.linking.proofs.NextPlaces.{node_lanes, next_among_said}

-- the links of the header and of each node, as a profile of the nodes that the words say has them
pub record LinksLaid (nodes : List ℕ) : Type 0 where
  pub first_link : (i : ℕ) → i < lanes → node_field nodes header (link_field i) ≡ next_place i 1 (said_nodes nodes)
  pub link : (j : ℕ) (n : Node) (rest : List Node) → drop j (said_nodes nodes) ≡ n ∷ rest → (i : ℕ) → i < lanes
      → node_field nodes (suc j) (link_field i) ≡ link_of (suc j) n rest i

module _ (nodes : List ℕ) where
  -- what is due is the next place of the lane: for the header the first ..
  pub due_first : (lane : ℕ) → lane < lanes → link_due_at nodes header lane ≡ next_place lane 1 (said_nodes nodes)
  unfolding link_due_at linked_lanes
  due_first lane h = rw (lt-ltb lane lanes h, next_among_said nodes lane 0)

  -- .. and for a node the first after it
  pub due_at : (j : ℕ) {n : Node} {rest : List Node} → drop j (said_nodes nodes) ≡ n ∷ rest → (lane : ℕ)
      → link_due_at nodes (suc j) lane ≡ cond (takes_part lane n) (next_place lane (suc (suc j)) rest) 0
  unfolding link_due_at takes_part said_node
  due_at j at lane =
      rw (← said_at nodes j at, node_lanes nodes (suc j) (omega arith), next_among_said nodes lane (suc j), rest_follows j (said_nodes nodes) at)

-- the words of the profile that they say have its links, of the header and of each node
pub laid_links : (bands nodes : List ℕ) (words : ℕ) → nodes ≡ laid_nodes words (said_by bands nodes) → LinksLaid nodes
laid_links bands nodes words laid =
    let fields = subst (NodeWords (said_by bands nodes)) (sym laid) (laid_node_words words (said_by bands nodes)) in
    record { first_link = fields.first_link; link = λ j n rest at. (fields.place j n rest at).link }
