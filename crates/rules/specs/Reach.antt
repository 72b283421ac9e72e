-- "What one call can reach": answers at other machines' keys, and the reaches outside which other bands keep their marks.
-- Assumes nothing.
use Rattle.std.specs.Prelude.{ℕ, max, min, ◌<◌, ◌≡◌, Bool, true, false, not, cond, List, [], ◌∷◌, ◌++◌, leb, ltb, eqb}
use Rattle.rules.specs.Connectives.{◌and◌, ◌or◌}
use Rattle.rules.specs.Lists.{any, all, keep, member, same_numbers}
use Rattle.rules.specs.HallLine.{Band, highest_key, machines, own_key}
use Rattle.rules.specs.NodesLanesEdges.{Node, Edge, edges_in, in_some_lane, stands_at}
use Rattle.rules.specs.Profile.{Profile, has_number}
use Rattle.rules.specs.Marks.{marked_on_edge, marked_on_node}
use Rattle.rules.specs.Search.{stab_of}
use Rattle.rules.specs.Calls.{Call, emptying, inserting, removing, checking, stabbing, reading_band, reading_edge, reading_node, reading_room}

-- two profiles answer the same at a key: flags, count and marks met. Looks may differ
unfoldable pub answers_alike : Profile → Profile → ℕ → Bool
answers_alike p q k =
    same_numbers (stab_of p k).flags (stab_of q k).flags
    and eqb (stab_of p k).count (stab_of q k).count
    and eqb (stab_of p k).met (stab_of q k).met

-- from p to q, where m is a machine, flags, count and marks met are the same at every key of every other machine
abbrev pub OthersAlike : ℕ → Profile → Profile → Type 0
OthersAlike m p q =
    m < machines → (n : ℕ) → n < machines → (n ≡ m → ⊥) → (k : ℕ) → own_key n k ≡ true → answers_alike p q k ≡ true

-- the node is present in the list: at its key, with its level
unfoldable pub present : List Node → Node → Bool
present ns n = any (λ m. eqb m.key n.key and eqb m.level n.level) ns

-- the nodes present both before and after the call
unfoldable pub present_both : List Node → List Node → List Node
present_both before after = keep (present after) before

-- the nodes made or dropped by the call
unfoldable pub made_or_dropped : List Node → List Node → List Node
made_or_dropped before after = keep (λ n. not (present before n)) after ++ keep (λ n. not (present after n)) before

-- the reach of a node made or dropped, which the paper calls its stretch, runs from one key to another
pub record Reach : Type 0 where
  pub from : ℕ
  pub to : ℕ

abbrev pub reach_from : ℕ → ℕ → Reach
reach_from a c = record { from = a; to = c }

-- the nearest node of level h or more before k, or the end of the line
abbrev pub nearest_before : ℕ → ℕ → List Node → ℕ
nearest_before h k [] = 0
nearest_before h k (n ∷ ns) = max (cond (leb h n.level and ltb n.key k) n.key 0) (nearest_before h k ns)

-- the nearest node of level h or more after k, or the end of the line
abbrev pub nearest_after : ℕ → ℕ → List Node → ℕ
nearest_after h k [] = highest_key
nearest_after h k (n ∷ ns) = min (cond (leb h n.level and ltb k n.key) n.key highest_key) (nearest_after h k ns)

-- to the nearest nodes of the node's level or more, among those present both before and after
unfoldable pub reach_of : List Node → Node → Reach
reach_of both n = reach_from (nearest_before n.level n.key both) (nearest_after n.level n.key both)

-- the edge lies in the reach
unfoldable pub lies_in : Edge → Reach → Bool
lies_in e r = leb r.from e.from and leb e.to r.to

-- the key is strictly inside the reach
unfoldable pub strictly_inside : ℕ → Reach → Bool
strictly_inside k r = ltb r.from k and ltb k r.to

-- the edge lies in the reach of some node made or dropped
unfoldable pub edge_reached : List Node → List Node → Edge → Bool
edge_reached both touched e = any (λ n. lies_in e (reach_of both n)) touched

-- the key is strictly inside the reach of some node made or dropped
unfoldable pub key_reached : List Node → List Node → ℕ → Bool
key_reached both touched k = any (λ n. strictly_inside k (reach_of both n)) touched

-- the number is marked on e, an edge of lane i
unfoldable pub edge_bears : Profile → ℕ → Edge → ℕ → Bool
edge_bears p i e number =
    any (λ f. eqb f.from e.from and eqb f.to e.to) (edges_in i p.nodes) and member number (marked_on_edge p i e)

-- the number is marked on a node, at k
unfoldable pub node_bears : Profile → ℕ → ℕ → Bool
node_bears p k number = stands_at k p.nodes and member number (marked_on_node p k)

-- the number loses a mark, from p to q, on some edge of lane i that is not reached
unfoldable pub loses_in_lane : List Node → List Node → Profile → Profile → ℕ → ℕ → Bool
loses_in_lane both touched p q number i =
    any
    (λ e. not (edge_reached both touched e) and edge_bears p i e number and not (edge_bears q i e number))
    (edges_in i p.nodes)

-- the number loses a mark, from p to q, on some node that is not reached
unfoldable pub loses_on_node : List Node → List Node → Profile → Profile → ℕ → Bool
loses_on_node both touched p q number =
    any
    (λ n. not (key_reached both touched n.key) and node_bears p n.key number and not (node_bears q n.key number))
    p.nodes

-- the number keeps every mark on edges not lying in such a reach and on nodes not strictly inside one
unfoldable pub keeps_marks : List Node → List Node → Profile → Profile → ℕ → Bool
keeps_marks both touched p q number =
    not (in_some_lane (loses_in_lane both touched p q number)) and not (loses_on_node both touched p q number)

-- bands other than the call's own keep every such mark, and gain none: the same read backwards
unfoldable pub others_keep_marks : (Band → Bool) → List Node → List Node → Profile → Profile → Bool
others_keep_marks own both touched p q =
    all (λ b. own b or keeps_marks both touched p q b.number) p.bands
    and all (λ b. own b or keeps_marks both touched q p b.number) q.bands

-- so it is from p to q, with the nodes present both before and after and those made or dropped
unfoldable pub keeps_outside_reaches : (Band → Bool) → Profile → Profile → Bool
keeps_outside_reaches own p q = others_keep_marks own (present_both p.nodes q.nodes) (made_or_dropped p.nodes q.nodes) p q

-- which bands are the call's own. Making an empty profile is under no rule on reaches, so to it every band is its own
abbrev pub of_call : Call → Band → Bool
of_call emptying b = true
of_call (inserting c low_level high_level) b = has_number c.number b
of_call (removing number scope) b = has_number number b
of_call checking b = false
of_call (stabbing key) b = false
of_call (reading_band number) b = false
of_call (reading_edge key lane) b = false
of_call (reading_node key) b = false
of_call reading_room b = false
