-- On sound memory the edge and node readouts show exactly the marks that the rule gives, for every node, lane, edge and number, and the room readout
-- the rule's own count of them.
-- Assumes nothing.
use Prim.Native.Nat.{ℕ, ◌<◌}
use mathlib.Core.Path.{◌≡◌}
use mathlib.Core.Bool.{true}
use lib.ListN.{length}
use Rattle.rules.specs.NodesLanesEdges.{Node}
use Rattle.rules.specs.Marks.{marks_in_use}
use Rattle.rules.specs.BoxSaysNo.{saying}
use Rattle.rules.proofs.Lists.{In}
use Rattle.store.specs.Memory.{Memory}
use Rattle.store.specs.SaidProfile.{said_profile}
use Rattle.store.specs.Sound.{sound}
use Rattle.asking.specs.EdgeCall.{edge_in}
use Rattle.asking.specs.NodeCall.{node_in}
use Rattle.asking.specs.RoomCall.{room_read_in}
use Rattle.asking.proofs.EdgeExact.{ExactEdge, edge_exact}
use Rattle.asking.proofs.NodeExact.{ExactNode, node_exact}
use Rattle.asking.proofs.RoomExact.{room_exact}
use Rattle.asking.proofs.AskingRefused.{EdgeGivesOf, edge_refused_on_sound, NodeGivesOf, node_refused_on_sound}

pub record MarkedByRule (m : Memory) : Type 0 where
  -- of each node and each lane of its own the edge readout tells where the edge leads, and flags a number exactly when the rule marks
  -- a live band of that number on that edge; a link to nothing carries no marks
  pub edges : (n : Node) → In n (said_profile m).nodes → (lane : ℕ) → lane < n.level
      → ((edge_in m n.key lane).refusal ≡ 0) × ExactEdge (said_profile m) n.key lane (edge_in m n.key lane).read
  -- elsewhere there is no edge readout: on the line 13 exactly where no node stands at the key or the node has no such lane
  pub no_other_edge : (k lane : ℕ) → EdgeGivesOf (said_profile m) k lane (edge_in m k lane).refusal
  -- of each node the node readout tells the level, and flags a number exactly when the rule marks a live band of that number on the node
  pub nodes : (n : Node) → In n (said_profile m).nodes
      → ((node_in m n.key).refusal ≡ 0) × ExactNode (said_profile m) n (node_in m n.key).read
  -- elsewhere there is no node readout: on the line 13 exactly where no node stands at the key
  pub no_other_node : (k : ℕ) → NodeGivesOf (said_profile m) k (node_in m k).refusal
  -- the room readout tells how many nodes there are, and the rule's own count of all edge and node marks
  pub room : room_read_in m ≡ saying 0 (record { nodes = length (said_profile m).nodes; marks = marks_in_use (said_profile m) })

pub marked_by_rule : (m : Memory) → sound m ≡ true → MarkedByRule m
marked_by_rule m s =
    record {
      edges = λ n i lane h. edge_exact m s n i lane h;
      no_other_edge = λ k lane. edge_refused_on_sound m k lane s;
      nodes = λ n i. node_exact m s n i;
      no_other_node = λ k. node_refused_on_sound m k s;
      room = room_exact m s;
    }
