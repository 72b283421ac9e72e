-- The edge readout on sound memory, in plain words: at a key on the line 13 is given exactly where no node stands or the node there has no such
-- lane; of a node and a lane of its own the key is read that the lane's edge leads to, or none, and the flags of the live bands marked on that edge.
-- Assumes nothing.
use Prim.Native.Nat.{ℕ, ◌≤◌, ◌<◌}
use mathlib.Core.Path.{◌≡◌, refl, ◌∙◌}
use mathlib.Core.Bool.{true}
use mathlib.Core.Logic.{◌↔◌, ◌⊎◌}
use mathlib.Core.Option.{none, some}
use native.Mathlib.Omega.{arith}
use Rattle.rules.specs.HallLine.{highest_key}
use Rattle.rules.specs.NodesLanesEdges.{Node, edge_of, lane_of, edges_in, level_at}
use Rattle.rules.specs.Profile.{Profile}
use Rattle.rules.specs.Marks.{edge_marked}
use Rattle.rules.specs.Flags.{flag_count, flag_at}
use Rattle.rules.specs.Readouts.{EdgeRead, edge_read}
use Rattle.rules.specs.BoxSaysNo.{saying, no_flags, no_edge_read, edge_read_refusal, edge_read_answer}
use Rattle.rules.proofs.Lists.{In, Some, Each}
use Rattle.rules.proofs.NodesLanesEdges.{level_there, no_lane_rule}
use Rattle.rules.proofs.Readouts.{next_none, next_by_edge, edge_flag, no_edge_flags}
use Rattle.rules.proofs.BoxSaysNo.{edge_accepted, edge_gives_13, accepted_answers}
use Rattle.rules.proofs.SoundMemory.{Standing, nodes_on_line}
use Rattle.rules.proofs.Theory.EdgesNest.{in_own_lane}
use Rattle.store.specs.Memory.{Memory}
use Rattle.store.specs.SaidProfile.{said_profile}
use Rattle.store.specs.Sound.{sound}
use Rattle.store.proofs.SaidStands.{said_stands}
use Rattle.asking.specs.EdgeCall.{edge_in}
use Rattle.asking.proofs.OnSound.{edge_on_sound}

-- what is read of the link out of key k in a lane
pub record ExactEdge (p : Profile) (k lane : ℕ) (a : EdgeRead) : Type 0 where
  -- it leads to a key exactly when an edge of the lane does, from k
  pub leads : (y : ℕ) → (a.next ≡ some y) ↔ In (edge_of k y) (edges_in lane p.nodes)
  -- it leads nowhere exactly when no node of the lane is above k
  pub ends : (a.next ≡ none) ↔ Each (λ x. x ≤ k) (lane_of lane p.nodes)
  -- on an edge a number is flagged exactly when a live band of that number is marked on it
  pub flags : (y number : ℕ) → a.next ≡ some y → number < flag_count
      → (flag_at a.flags number ≡ 1) ↔ Some (λ b. (edge_marked p.nodes b lane (edge_of k y) ≡ true) × (b.number ≡ number)) p.bands
  -- a link to nothing carries no marks
  pub no_flags_lem : a.next ≡ none → a.flags ≡ no_flags

-- the rules' own readout is such, of a node of a standing profile and a lane of its own
exact : (p : Profile) → Standing p → (n : Node) → In n p.nodes → (lane : ℕ) → lane < n.level
    → ExactEdge p n.key lane (edge_read p n.key lane)
unfolding edge_read
exact p s n i lane h =
    record {
      leads = λ y. next_by_edge p n.key lane 0 s.keys_ascend_lem y (in_own_lane lane n p.nodes i h);
      ends = next_none p n.key lane;
      flags = edge_flag p n.key lane;
      no_flags_lem = no_edge_flags p n.key lane;
    }

module _ (m : Memory) (s : sound m ≡ true) where
  pub edge_refused_13 : (k lane : ℕ) → k ≤ highest_key
      → ((edge_in m k lane).refusal ≡ 13)
      ↔ (Each (λ n. n.key ≡ k → ⊥) (said_profile m).nodes ⊎ Some (λ n. (n.key ≡ k) × (n.level ≤ lane)) (said_profile m).nodes)
  unfolding edge_read_answer
  edge_refused_13 k lane h =
      let given = edge_gives_13 true (said_profile m) k lane in
      let rule = no_lane_rule k lane 0 (said_profile m).nodes (said_stands m s).keys_ascend_lem in
      rw (edge_on_sound m s k lane) (λ e. rule.0 (given.0 e).1.1, λ n. given.1 (refl, (h, rule.1 n)))

  module _ (n : Node) (i : In n (said_profile m).nodes) (lane : ℕ) (h : lane < n.level) where
    accepted : edge_in m n.key lane ≡ saying 0 (edge_read (said_profile m) n.key lane)
    unfolding edge_read_answer
    accepted =
        let p = said_profile m in
        let stands = said_stands m s in
        let below : lane < level_at n.key p.nodes = omega (arith, level_there 0 p.nodes stands.keys_ascend_lem n i) in
        edge_on_sound m s n.key lane
        ∙ accepted_answers (edge_read_refusal true p n.key lane) no_edge_read (edge_read p n.key lane)
        ((edge_accepted true p n.key lane).1 (refl, (nodes_on_line p stands n i, ((n, i, refl), below))))

    pub edge_exact : ((edge_in m n.key lane).refusal ≡ 0) × ExactEdge (said_profile m) n.key lane (edge_in m n.key lane).read
    edge_exact = rw accepted (refl, exact (said_profile m) (said_stands m s) n i lane h)
