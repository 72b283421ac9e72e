-- What node and mark words that lay a profile say at each place. A place is known by what follows it: the node of place j + 1 is n, with `rest`
-- after it, when `drop j` of the nodes is `n ∷ rest`. So they say the profile's nodes.
-- Assumes nothing.
use Prim.Native.Nat.{ℕ, suc, ◌≤◌, ◌<◌}
use mathlib.Core.Path.{◌≡◌, refl}
use mathlib.Core.List.{List, [], ◌∷◌}
use lib.ListN.{length, drop}
use Rattle.rules.specs.NodesLanesEdges.{Node, lanes}
use Rattle.rules.specs.Profile.{Profile}
use Rattle.rules.specs.Marks.{marks_in_use}
use Rattle.store.specs.Places.{node_field, key_field, level_field, link_field, header, marks_in_use_field, in_use}
use Rattle.store.specs.SaidProfile.{said_node, said_nodes_from, said_nodes}
use Rattle.store.specs.SaidMarks.{said_marks}
use Rattle.store.specs.LaidNodes.{next_place, link_of}
use Rattle.store.specs.LaidMarks.{slot_marks}
use Rattle.rules.proofs.Lists.{rest_follows}

pub record Lays (p : Profile) (nodes marks : List ℕ) : Type 0 where
  pub in_use_lem : in_use nodes ≡ length p.nodes
  pub marks_in_use_lem : node_field nodes header marks_in_use_field ≡ marks_in_use p
  pub first_link : (i : ℕ) → i < lanes → node_field nodes header (link_field i) ≡ next_place i 1 p.nodes
  -- the header's links carry no marks
  pub header_slot : (i : ℕ) → i < lanes → said_marks nodes marks header (suc i) ≡ []
  pub key : (j : ℕ) (n : Node) (rest : List Node) → drop j p.nodes ≡ n ∷ rest → node_field nodes (suc j) key_field ≡ n.key
  pub level : (j : ℕ) (n : Node) (rest : List Node) → drop j p.nodes ≡ n ∷ rest → node_field nodes (suc j) level_field ≡ n.level
  pub link :
      (j : ℕ) (n : Node) (rest : List Node) → drop j p.nodes ≡ n ∷ rest → (i : ℕ) → i < lanes
      → node_field nodes (suc j) (link_field i) ≡ link_of (suc j) n rest i
  pub slot :
      (j : ℕ) (n : Node) (rest : List Node) → drop j p.nodes ≡ n ∷ rest → (s : ℕ) → s ≤ lanes
      → said_marks nodes marks (suc j) s ≡ slot_marks p n rest s

module _ {p : Profile} {nodes marks : List ℕ} (l : Lays p nodes marks) where
  said_from : (j : ℕ) (ms : List Node) → drop j p.nodes ≡ ms → said_nodes_from nodes (suc j) (length ms) ≡ ms
  unfolding said_node
  said_from j [] at = refl
  said_from j (n ∷ rest) at = rw (l.key j n rest at, l.level j n rest at, said_from (suc j) rest (rest_follows j p.nodes at))

  pub lays_says_nodes : said_nodes nodes ≡ p.nodes
  unfolding said_nodes
  lays_says_nodes = rw l.in_use_lem (said_from 0 p.nodes refl)
