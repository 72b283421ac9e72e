-- Node words that are linked: their places in use have keys in order, and the links of those nodes. Nothing is said of the header's links, of
-- fences, or of what stands past the places in use.
-- Assumes nothing.
use Prim.Native.Nat.{ℕ, suc, ◌-◌, ◌/◌, ◌≤◌, ◌<◌}
use mathlib.Core.Path.{◌≡◌}
use mathlib.Core.List.{List, ◌∷◌}
use lib.ListN.{length, drop}
use Rattle.rules.specs.NodesLanesEdges.{Node, lanes}
use Rattle.rules.proofs.NodesLanesEdges.{Asc}
use Rattle.store.specs.Sizes.{node_place_words}
use Rattle.store.specs.Places.{node_field, link_field, in_use}
use Rattle.store.specs.SaidProfile.{said_nodes}
use Rattle.store.specs.LaidNodes.{link_of}

pub record Linked (nodes : List ℕ) : Type 0 where
  pub fits : in_use nodes ≤ length nodes / node_place_words - 1
  pub ascend : Asc 0 (said_nodes nodes)
  pub link :
      (j : ℕ) (n : Node) (rest : List Node) → drop j (said_nodes nodes) ≡ n ∷ rest → (i : ℕ) → i < lanes
      → node_field nodes (suc j) (link_field i) ≡ link_of (suc j) n rest i
