-- The node readout on sound memory, in plain words: at a key on the line 13 is given exactly where no node stands; of a node its level
-- is read, and the flags of the live bands marked on it.
-- Assumes nothing.
use Prim.Native.Nat.{ℕ, ◌≤◌, ◌<◌}
use mathlib.Core.Path.{◌≡◌, refl, ◌∙◌}
use mathlib.Core.Bool.{true}
use mathlib.Core.Logic.{◌↔◌}
use Rattle.rules.specs.HallLine.{highest_key}
use Rattle.rules.specs.NodesLanesEdges.{Node}
use Rattle.rules.specs.Profile.{Profile}
use Rattle.rules.specs.Marks.{node_marked}
use Rattle.rules.specs.Flags.{flag_count, flag_at}
use Rattle.rules.specs.Readouts.{NodeRead, node_read}
use Rattle.rules.specs.BoxSaysNo.{saying, no_node_read, node_read_refusal, node_read_answer}
use Rattle.rules.proofs.Lists.{In, Some, Each}
use Rattle.rules.proofs.Readouts.{node_read_level, node_flag}
use Rattle.rules.proofs.BoxSaysNo.{node_accepted, node_gives_13, accepted_answers}
use Rattle.rules.proofs.SoundMemory.{nodes_on_line}
use Rattle.store.specs.Memory.{Memory}
use Rattle.store.specs.SaidProfile.{said_profile}
use Rattle.store.specs.Sound.{sound}
use Rattle.store.proofs.SaidStands.{said_stands}
use Rattle.asking.specs.NodeCall.{node_in}
use Rattle.asking.proofs.OnSound.{node_on_sound}

-- what is read of a node of a profile
pub record ExactNode (p : Profile) (n : Node) (a : NodeRead) : Type 0 where
  -- its level
  pub level : a.level ≡ n.level
  -- a number is flagged exactly when a live band of that number is marked on the node
  pub flags : (number : ℕ) → number < flag_count
      → (flag_at a.flags number ≡ 1) ↔ Some (λ b. (node_marked p.nodes b n.key ≡ true) × (b.number ≡ number)) p.bands

module _ (m : Memory) (s : sound m ≡ true) where
  pub node_refused_13 : (k : ℕ) → k ≤ highest_key → ((node_in m k).refusal ≡ 13) ↔ Each (λ n. n.key ≡ k → ⊥) (said_profile m).nodes
  unfolding node_read_answer
  node_refused_13 k h =
      let given = node_gives_13 true (said_profile m) k in
      rw (node_on_sound m s k) (λ e. (given.0 e).1.1, λ n. given.1 (refl, (h, n)))

  module _ (n : Node) (i : In n (said_profile m).nodes) where
    accepted : node_in m n.key ≡ saying 0 (node_read (said_profile m) n.key)
    unfolding node_read_answer
    accepted =
        let p = said_profile m in
        let on_line = nodes_on_line p (said_stands m s) n i in
        node_on_sound m s n.key
        ∙ accepted_answers (node_read_refusal true p n.key) no_node_read (node_read p n.key)
        ((node_accepted true p n.key).1 (refl, (on_line, (n, i, refl))))

    pub node_exact : ((node_in m n.key).refusal ≡ 0) × ExactNode (said_profile m) n (node_in m n.key).read
    node_exact =
        let p = said_profile m in
        rw accepted (refl, record { level = node_read_level p 0 (said_stands m s).keys_ascend_lem n i; flags = node_flag p n.key })
