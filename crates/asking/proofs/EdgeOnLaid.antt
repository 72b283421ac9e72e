-- The edge readout on words that lay a standing profile, with a place for each of its nodes, is the rules' own.
-- Assumes nothing.
use Prim.Native.Nat.{ℕ, suc, ◌+◌, ◌≤◌, ◌<◌, ◌-◌, ◌/◌}
use mathlib.Core.Path.{◌≡◌, sym, ◌∙◌}
use mathlib.Core.Bool.{Bool}
use mathlib.Core.Logic.{⊎_elim}
use mathlib.Core.List.{List, ◌∷◌}
use native.Mathlib.Omega.{arith}
use lib.Dec.{ltb}
use lib.ListN.{length, drop}
use borrow.Author.Tests.{ne_eqb}
use Rattle.rules.specs.Connectives.{◌and◌}
use Rattle.rules.specs.Lists.{first_of}
use Rattle.rules.specs.NodesLanesEdges.{Node, lanes, lane_of, stands_at}
use Rattle.rules.specs.Profile.{Profile}
use Rattle.rules.specs.Readouts.{edge_read}
use Rattle.rules.specs.BoxSaysNo.{no_edge_read, edge_read_refusal, edge_read_answer}
use Rattle.rules.proofs.Means.{never, and_means, lt_means, same_means}
use Rattle.rules.proofs.Lists.{in_at_place, rest_follows}
use Rattle.rules.proofs.NodesLanesEdges.{takes_part_means, stands_at_means, level_at_place}
use Rattle.rules.proofs.BoxSaysNo.{edge_accepted, same_answered}
use Rattle.rules.proofs.SoundMemory.{Standing}
use Rattle.rules.proofs.Theory.EdgesOut.{next_at_place}
use Rattle.store.specs.Sizes.{node_place_words, sizes_right}
use Rattle.store.specs.Memory.{Memory, lengths_in}
use Rattle.store.specs.LaidNodes.{next_place}
use Rattle.store.proofs.Lays.{Lays}
use Rattle.store.proofs.LinkMarks.{link_marks}
use Rattle.store.proofs.NextInLane.{None, Next, none_or_next, next_there}
use Rattle.search.specs.Descent.{next_of}
use Rattle.search.specs.PlaceOf.{place_of}
use Rattle.search.proofs.PlaceAmongSaid.{PlaceFound, nowhere, at_place}
use Rattle.search.proofs.PlaceOnLaid.{place_on_laid}
use Rattle.asking.specs.EdgeCall.{edge_refusal_in, key_at, edge_at, edge_in}

-- the link to the lane's first node, of those from place j + 1 on, leads to its key
first_key_lem : {p : Profile} {nodes marks : List ℕ} → Lays p nodes marks → (i j : ℕ) (ms : List Node) → drop j p.nodes ≡ ms
    → key_at nodes (next_place i (suc j) ms) ≡ first_of (lane_of i ms)
unfolding key_at
first_key_lem {p} l i j ms at =
    ⊎_elim
    (λ (x : None i ms). rw (x.link j, x.lane))
    (λ (x : Next i ms).
    let key = l.key (j + x.skipped) x.node x.rest (next_there x j p.nodes at) in
    rw (x.link j, x.lane, ne_eqb (suc (j + x.skipped)) 0 (λ z. omega arith), key))
    (none_or_next i ms)

-- where a level is at most 8, a lane below it is one of the eight
within_lanes : (i h : ℕ) → h ≤ lanes → ltb i lanes and ltb i h ≡ ltb i h
within_lanes i h top =
    same_means (and_means (lt_means i lanes) (lt_means i h)) (lt_means i h) (λ b. b.1) (λ b. (omega arith, b))

module _ (p : Profile) (m : Memory) (l : Lays p m.nodes m.marks) (s : Standing p) where
  module _ (j : ℕ) (n : Node) (rest : List Node) (at : drop j p.nodes ≡ n ∷ rest) where
    -- its lanes are among the eight
    top : n.level ≤ lanes
    top = (s.levels_right_lem n (in_at_place j p.nodes at)).1

    edge_at_place : (i : ℕ) → i < n.level → edge_at m.nodes m.marks (suc j) i ≡ edge_read p n.key i
    unfolding edge_at next_of edge_read
    edge_at_place i part =
        rw (
          l.link j n rest at i (omega (arith, top)),
          (takes_part_means i n).test part,
          first_key_lem l i (suc j) rest (rest_follows j p.nodes at),
          l.slot j n rest at (suc i) (omega (arith, top)),
          link_marks p i n rest part,
          next_at_place p s.keys_ascend_lem i j n rest at part,
        )

  module _ (k lane : ℕ) where
    -- the same lines refuse
    same_refusal : PlaceFound p.nodes k (place_of m.nodes k) (stands_at k p.nodes)
        → edge_refusal_in m k lane ≡ edge_read_refusal (sizes_right (lengths_in m)) p k lane
    unfolding edge_refusal_in edge_read_refusal
    same_refusal (nowhere e f) = rw (e, f)
    same_refusal (at_place j n rest at f e t) =
        let level = l.level j n rest at in
        let within = within_lanes lane n.level (top j n rest at) in
        rw (e, t, ← f, level, level_at_place 0 j p.nodes s.keys_ascend_lem n rest at, within, ne_eqb (suc j) 0 (λ z. omega arith))

    -- where none does, the same is read
    edge_found : (right : Bool) → PlaceFound p.nodes k (place_of m.nodes k) (stands_at k p.nodes) → edge_read_refusal right p k lane ≡ 0
        → edge_at m.nodes m.marks (place_of m.nodes k) lane ≡ edge_read p k lane
    edge_found right (nowhere e f) z = never (sym f ∙ (stands_at_means k p.nodes).test ((edge_accepted right p k lane).0 z).1.1.0)
    edge_found right (at_place j n rest at f e t) z =
        let below = ((edge_accepted right p k lane).0 z).1.1.1 in
        rw (e, ← f) (edge_at_place j n rest at lane (rw (← f, level_at_place 0 j p.nodes s.keys_ascend_lem n rest at) at below))

  pub edge_on_laid : length p.nodes ≤ length m.nodes / node_place_words - 1 → (k lane : ℕ)
      → edge_in m k lane ≡ edge_read_answer (sizes_right (lengths_in m)) p k lane
  unfolding edge_in edge_read_answer
  edge_on_laid h k lane =
      let right : Bool = sizes_right (lengths_in m) in
      let found = place_on_laid l k h s.keys_ascend_lem in
      rw (same_refusal k lane found) (same_answered (edge_read_refusal right p k lane) no_edge_read _ _ (edge_found k lane right found))
