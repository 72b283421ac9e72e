-- "When the box says no": each line of the table as a condition, and for each call the lines that can be given, in their order. In each list here
-- the numbers ascend, so that the first line that applies is the lowest.
-- Whether sizes are right and memory is sound is given here as two Bools: these rules know no memory.
-- Assumes nothing.
use Rattle.std.specs.Prelude.{ℕ, Bool, not, cond, List, [], ◌∷◌, ◌++◌, ltb, eqb, length, replicate}
use Rattle.std.proofs.Math.Option.{none}
use Rattle.rules.specs.Connectives.{◌and◌, ◌or◌}
use Rattle.rules.specs.Lists.{any}
use Rattle.rules.specs.HallLine.{Band, highest_key, highest_band_number, house, holds_whole_key, within_scope}
use Rattle.rules.specs.NodesLanesEdges.{is_level, stands_at, level_at}
use Rattle.rules.specs.Profile.{Profile, has_number, is_live}
use Rattle.rules.specs.Marks.{marks_in_use}
use Rattle.rules.specs.Flags.{flag_word_count}
use Rattle.rules.specs.Search.{Stab, stab_of}
use Rattle.rules.specs.Room.{Room}
use Rattle.rules.specs.Changes.{inserted, removed}
use Rattle.rules.specs.Readouts.{BandRead, band_read_of, band_read, EdgeRead, edge_read, NodeRead, node_read, RoomRead, room_read}

-- a line of the table: its number, and whether it applies
pub record TableLine : Type 0 where
  pub refusal : ℕ
  pub applies : Bool

abbrev pub line : ℕ → Bool → TableLine
line n c = record { refusal = n; applies = c }

-- the number of the first line that applies; 0 where none does
abbrev pub refusal_by : List TableLine → ℕ
refusal_by [] = 0
refusal_by (l ∷ ls) = cond l.applies l.refusal (refusal_by ls)

-- 1: sizes are out of range; for insert and remove, also memory not sound
abbrev pub sizes_wrong : Bool → TableLine
sizes_wrong sizes_right = line 1 (not sizes_right)

abbrev pub not_sound : Bool → Bool → TableLine
not_sound sizes_right sound = line 1 (not (sizes_right and sound))

-- 2: scope above 64
abbrev pub scope_above : ℕ → TableLine
scope_above scope = line 2 (ltb house scope)

-- 3: band number above 1,023
abbrev pub number_above : ℕ → TableLine
number_above number = line 3 (ltb highest_band_number number)

-- 4: a key above 2,097,151
abbrev pub key_above : ℕ → TableLine
key_above k = line 4 (ltb highest_key k)

abbrev pub end_above : Band → TableLine
end_above b = line 4 (ltb highest_key b.low or ltb highest_key b.high)

-- 5: band holds no whole key
abbrev pub holds_none : Band → TableLine
holds_none b = line 5 (not (holds_whole_key b))

-- 6: scope is a machine and an end is not among its keys
abbrev pub end_elsewhere : Band → TableLine
end_elsewhere b = line 6 (not (within_scope b))

-- 7: a given level is not 1 to 8, even if it would not be used
abbrev pub level_wrong : ℕ → ℕ → TableLine
level_wrong low_level high_level = line 7 (not (is_level low_level and is_level high_level))

-- 8: insert: number is live
abbrev pub number_live : Profile → ℕ → TableLine
number_live p number = line 8 (is_live number p.bands)

-- 9: remove or band readout: number is not live
abbrev pub not_live : Bool → TableLine
not_live live = line 9 (not live)

abbrev pub number_not_live : Profile → ℕ → TableLine
number_not_live p number = not_live (is_live number p.bands)

-- 10: remove: the band's scope is another
abbrev pub scope_other : Profile → ℕ → ℕ → TableLine
scope_other p number scope = line 10 (any (λ b. has_number number b and not (eqb b.scope scope)) p.bands)

-- 11: nodes after the call would exceed the node room
abbrev pub nodes_exceed : Room → Profile → TableLine
nodes_exceed room after = line 11 (ltb room.nodes (length after.nodes))

-- 12: marks that the rule gives after the call would exceed the mark room
abbrev pub marks_exceed : Room → Profile → TableLine
marks_exceed room after = line 12 (ltb room.marks (marks_in_use after))

-- 13: edge or node readout: no node at the key, or it has no such lane
abbrev pub not_there : Bool → TableLine
not_there there = line 13 (not there)

-- the faults of a band by itself: 2 to 6
abbrev pub band_lines : Band → List TableLine
band_lines b = scope_above b.scope ∷ number_above b.number ∷ end_above b ∷ holds_none b ∷ end_elsewhere b ∷ []

-- 4, for a key asked for
unfoldable pub key_fault : ℕ → ℕ
key_fault k = refusal_by (key_above k ∷ [])

-- the first of 2 to 6 that applies to a band
unfoldable pub band_fault : Band → ℕ
band_fault b = refusal_by (band_lines b)

-- the faults of a band and the levels given for its ends: 2 to 7
abbrev pub fault_lines : Band → ℕ → ℕ → List TableLine
fault_lines b low_level high_level = band_lines b ++ level_wrong low_level high_level ∷ []

-- the first of 2 to 7 that applies to a band and the levels given for its ends
unfoldable pub fault_of : Band → ℕ → ℕ → ℕ
fault_of b low_level high_level = refusal_by (fault_lines b low_level high_level)

-- an empty profile is refused only by 1 (sizes), whatever the memory held
abbrev pub empty_lines : Bool → List TableLine
empty_lines sizes_right = sizes_wrong sizes_right ∷ []

unfoldable pub empty_refusal : Bool → ℕ
empty_refusal sizes_right = refusal_by (empty_lines sizes_right)

-- 11, then 12: nothing but the state after the call decides them
abbrev pub fit_lines : Room → Profile → List TableLine
fit_lines room after = nodes_exceed room after ∷ marks_exceed room after ∷ []

unfoldable pub fit_refusal : Room → Profile → ℕ
fit_refusal room after = refusal_by (fit_lines room after)

-- what an insert is judged by before anything is made ready: 1 to 8
abbrev pub insert_judged_lines : Bool → Bool → Profile → Band → ℕ → ℕ → List TableLine
insert_judged_lines sizes_right sound p b low_level high_level =
    not_sound sizes_right sound ∷ fault_lines b low_level high_level ++ number_live p b.number ∷ []

-- insert: 1 to 8, 11, 12
abbrev pub insert_lines : Bool → Bool → Room → Profile → Band → ℕ → ℕ → List TableLine
insert_lines sizes_right sound room p b low_level high_level =
    insert_judged_lines sizes_right sound p b low_level high_level ++ fit_lines room (inserted p b low_level high_level)

unfoldable pub insert_refusal : Bool → Bool → Room → Profile → Band → ℕ → ℕ → ℕ
insert_refusal sizes_right sound room p b low_level high_level =
    refusal_by (insert_lines sizes_right sound room p b low_level high_level)

-- what a remove is judged by before anything is made ready: 1, 2, 3, 9, 10
abbrev pub remove_judged_lines : Bool → Bool → Profile → ℕ → ℕ → List TableLine
remove_judged_lines sizes_right sound p number scope =
    not_sound sizes_right sound
    ∷ scope_above scope
    ∷ number_above number
    ∷ number_not_live p number
    ∷ scope_other p number scope
    ∷ []

-- remove: 1, 2, 3, 9, 10, 12; nodes never grow, so 11 is never given
abbrev pub remove_lines : Bool → Bool → Room → Profile → ℕ → ℕ → List TableLine
remove_lines sizes_right sound room p number scope =
    remove_judged_lines sizes_right sound p number scope ++ marks_exceed room (removed p number) ∷ []

unfoldable pub remove_refusal : Bool → Bool → Room → Profile → ℕ → ℕ → ℕ
remove_refusal sizes_right sound room p number scope = refusal_by (remove_lines sizes_right sound room p number scope)

-- what a change comes to: the number it answers, 0 where it is accepted, and what stands after it
pub record Change (A : Type 0) : Type 0 where
  pub refusal : ℕ
  pub after : A

abbrev pub leaving : {A : Type 0} → ℕ → A → Change A
leaving refusal a = record { refusal = refusal; after = a }

-- a refused change leaves all as it was
abbrev pub changed : {A : Type 0} → ℕ → A → A → Change A
changed refusal before after = leaving refusal (cond (eqb refusal 0) after before)

-- stab: 1 (sizes), 4
abbrev pub stab_lines : Bool → ℕ → List TableLine
stab_lines sizes_right k = sizes_wrong sizes_right ∷ key_above k ∷ []

unfoldable pub stab_refusal : Bool → ℕ → ℕ
stab_refusal sizes_right k = refusal_by (stab_lines sizes_right k)

-- band readout: 1 (sizes), 3, 9, where it is known whether the number is live
abbrev pub band_read_lines : Bool → ℕ → Bool → List TableLine
band_read_lines sizes_right number live = sizes_wrong sizes_right ∷ number_above number ∷ not_live live ∷ []

unfoldable pub band_read_refusal : Bool → Profile → ℕ → ℕ
band_read_refusal sizes_right p number = refusal_by (band_read_lines sizes_right number (is_live number p.bands))

-- edge readout: 1 (sizes), 4, 13, where it is known whether a node stands at the key and has the lane
abbrev pub edge_read_lines : Bool → ℕ → Bool → Bool → List TableLine
edge_read_lines sizes_right k stands has_lane = sizes_wrong sizes_right ∷ key_above k ∷ not_there stands ∷ not_there has_lane ∷ []

unfoldable pub edge_read_refusal : Bool → Profile → ℕ → ℕ → ℕ
edge_read_refusal sizes_right p k i =
    refusal_by (edge_read_lines sizes_right k (stands_at k p.nodes) (ltb i (level_at k p.nodes)))

-- node readout: 1 (sizes), 4, 13, where it is known whether a node stands at the key
abbrev pub node_read_lines : Bool → ℕ → Bool → List TableLine
node_read_lines sizes_right k stands = sizes_wrong sizes_right ∷ key_above k ∷ not_there stands ∷ []

unfoldable pub node_read_refusal : Bool → Profile → ℕ → ℕ
node_read_refusal sizes_right p k = refusal_by (node_read_lines sizes_right k (stands_at k p.nodes))

-- room readout: 1 (sizes)
abbrev pub room_read_lines : Bool → List TableLine
room_read_lines sizes_right = sizes_wrong sizes_right ∷ []

unfoldable pub room_read_refusal : Bool → ℕ
room_read_refusal sizes_right = refusal_by (room_read_lines sizes_right)

-- a stab or a readout answers its number, 0 where it is not refused, and what is read
pub record Answered (A : Type 0) : Type 0 where
  pub refusal : ℕ
  pub read : A

abbrev pub saying : {A : Type 0} → ℕ → A → Answered A
saying refusal a = record { refusal = refusal; read = a }

-- a refused stab or readout answers zeros throughout beside its number
abbrev pub answered : {A : Type 0} → ℕ → A → A → Answered A
answered refusal zeros a = saying refusal (cond (eqb refusal 0) a zeros)

abbrev pub no_flags : List ℕ
no_flags = replicate flag_word_count 0

-- zeros throughout, for each of them
abbrev pub no_stab : Stab
no_stab = record { flags = no_flags; count = 0; met = 0; looks = 0 }

abbrev pub no_edge_read : EdgeRead
no_edge_read = record { next = none; flags = no_flags }

abbrev pub no_node_read : NodeRead
no_node_read = record { level = 0; flags = no_flags }

abbrev pub no_room_read : RoomRead
no_room_read = record { nodes = 0; marks = 0 }

unfoldable pub stab_answer : Bool → Profile → ℕ → Answered Stab
stab_answer sizes_right p k = answered (stab_refusal sizes_right k) no_stab (stab_of p k)

unfoldable pub band_read_answer : Bool → Profile → ℕ → Answered BandRead
band_read_answer sizes_right p number = answered (band_read_refusal sizes_right p number) (band_read_of none) (band_read p number)

unfoldable pub edge_read_answer : Bool → Profile → ℕ → ℕ → Answered EdgeRead
edge_read_answer sizes_right p k i = answered (edge_read_refusal sizes_right p k i) no_edge_read (edge_read p k i)

unfoldable pub node_read_answer : Bool → Profile → ℕ → Answered NodeRead
node_read_answer sizes_right p k = answered (node_read_refusal sizes_right p k) no_node_read (node_read p k)

unfoldable pub room_read_answer : Bool → Profile → Answered RoomRead
room_read_answer sizes_right p = answered (room_read_refusal sizes_right) no_room_read (room_read p)
