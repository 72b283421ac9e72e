-- "What is marked is what stands there": two memories of right sizes, sound or not, alike in header, node and mark places, give the same stab
-- and the same edge and node readouts, whatever their band words.
-- Assumes nothing.
use Prim.Native.Nat.{ℕ}
use mathlib.Core.Path.{◌≡◌}
use mathlib.Core.Bool.{true}
use Rattle.store.specs.Sizes.{sizes_right}
use Rattle.store.specs.Memory.{Memory, lengths_in}
use Rattle.asking.specs.StabCall.{stab_in}
use Rattle.asking.specs.EdgeCall.{edge_refusal_in, edge_in}
use Rattle.asking.specs.NodeCall.{node_refusal_in, node_in}

module _ (m w : Memory) (right_m : sizes_right (lengths_in m) ≡ true) (right_w : sizes_right (lengths_in w) ≡ true)
    (nodes : m.nodes ≡ w.nodes) (marks : m.marks ≡ w.marks) where
  pub stabs_alike : (k : ℕ) → stab_in m k ≡ stab_in w k
  unfolding stab_in
  stabs_alike k = rw (right_m, right_w, nodes, marks)

  pub edges_alike : (k lane : ℕ) → edge_in m k lane ≡ edge_in w k lane
  unfolding edge_in edge_refusal_in
  edges_alike k lane = rw (right_m, right_w, nodes, marks)

  pub nodes_alike : (k : ℕ) → node_in m k ≡ node_in w k
  unfolding node_in node_refusal_in
  nodes_alike k = rw (right_m, right_w, nodes, marks)
