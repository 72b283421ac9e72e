-- What a row of the bench table asks of the rules, and when they answer as the row expects.
-- Assumes nothing.
use Rattle.std.specs.Prelude.{ℕ, ◌+◌, Bool, true, false, List, [], ◌∷◌, map, eqb, length}
use Rattle.std.specs.Bool.{beq}
use Rattle.std.proofs.Math.Option.{Option, none, some}
use Rattle.rules.specs.Connectives.{◌and◌}
use Rattle.rules.specs.Lists.{add_if, failed_from, same_numbers}
use Rattle.rules.specs.HallLine.{Band, band_of, holds}
use Rattle.rules.specs.NodesLanesEdges.{Node, Edge, edges_in}
use Rattle.rules.specs.Profile.{Profile}
use Rattle.rules.specs.Marks.{marks_of, marks_in_use, numbers_where}
use Rattle.rules.specs.Staircase.{marked_slots, walk}
use Rattle.rules.specs.Flags.{flags_of}
use Rattle.rules.specs.Search.{steps_of}
use Rattle.rules.specs.Readouts.{BandRead}
use Rattle.rules.specs.Room.{Room}
use Rattle.rules.specs.SoundMemory.{sound_in}
use Rattle.rules.specs.BoxSaysNo.{stab_answer, band_read_answer, edge_read_answer, node_read_answer, room_read_answer}
use Rattle.rules.specs.BenchCard.{scan_of}
use Rattle.rules.specs.Wheel.{turn_answer}
use Rattle.rules.specs.Calls.{Call}
use Rattle.rules.specs.Reach.{answers_alike, reach_of, keeps_outside_reaches, of_call}
use Rattle.rules.specs.BenchProfile.{call_of}

-- a question and the answer expected; a Bool before a profile says whether sizes are right
pub data Row : Type 0 where
  -- a number, a test
  gives : ℕ → ℕ → Row
  says : Bool → Bool → Row
  -- of the listed keys the band holds these
  held : Band → List ℕ → List ℕ → Row
  -- the profile is sound in the room, with these bands, nodes and so many marks in use
  is : Room → Profile → List Band → List Node → ℕ → Row
  -- the profile is sound in the room, or is not
  sound : Room → Profile → Bool → Row
  -- the marks of each band, in number order, and in all
  marks : Profile → List ℕ → ℕ → Row
  -- the edges of a lane
  lane : Profile → ℕ → List Edge → Row
  -- the band's marks stand at these slots, and the staircase visits them
  walked : Profile → Band → List ℕ → Row
  -- a stab at a key gives these bands, each met once, and so many looks; the bands that hold the key are these, and the looks are 8 plus the search's steps
  stab : Profile → ℕ → List ℕ → ℕ → Row
  -- a stab at a key flags these numbers, counts and meets so many, and looks so often
  meets : Profile → ℕ → List ℕ → ℕ → ℕ → ℕ → Row
  -- a stab is refused by the number, with zeros throughout
  no_stab : Bool → Profile → ℕ → ℕ → Row
  -- the band readout of the band's number gives its scope, ends and closed ends; or is refused by the number, with zeros
  band : Profile → Band → Row
  no_band : Bool → Profile → ℕ → ℕ → Row
  -- the edge readout of a key and a lane: the next node's key or none, and the numbers marked there; or refused
  edge : Profile → ℕ → ℕ → Option ℕ → List ℕ → Row
  no_edge : Bool → Profile → ℕ → ℕ → ℕ → Row
  -- the node readout of a key: its level and the numbers marked there; or refused
  node : Profile → ℕ → ℕ → List ℕ → Row
  no_node : Bool → Profile → ℕ → ℕ → Row
  -- the room readout: nodes and marks in use; or refused
  in_use : Profile → ℕ → ℕ → Row
  no_in_use : Profile → ℕ → Row
  -- the call is accepted, leaves these bands, nodes and so many marks in use, and other bands keep their marks outside its reaches
  accepted : Room → Profile → Call → List Band → List Node → ℕ → Row
  -- the call is refused by the number and leaves the profile as it was
  refused : Room → Profile → Call → ℕ → Row
  -- among these nodes the reach of the node runs from the one key to the other
  runs : List Node → Node → ℕ → ℕ → Row
  -- from the one profile to the other, bands but those that pass keep their marks outside the reaches, or do not
  near : (Band → Bool) → Profile → Profile → Bool → Row
  -- both profiles answer alike at the key, or do not
  alike : Profile → Profile → ℕ → Bool → Row
  -- the bench card of these bands, asked for a key: refusal, place, numbers flagged
  card : List Band → ℕ → ℕ → ℕ → List ℕ → Row
  -- the wheel's place gives the level and the next place; or is refused by the number, with zeros
  turns : ℕ → ℕ → ℕ → Row
  no_turn : ℕ → ℕ → Row

abbrev pub same_bands : List Band → List Band → Bool
same_bands [] [] = true
same_bands [] (y ∷ ys) = false
same_bands (x ∷ xs) [] = false
same_bands (x ∷ xs) (y ∷ ys) =
    eqb x.number y.number
    and eqb x.scope y.scope
    and eqb x.low y.low
    and eqb x.high y.high
    and beq x.low_closed y.low_closed
    and beq x.high_closed y.high_closed
    and same_bands xs ys

abbrev pub same_nodes : List Node → List Node → Bool
same_nodes ms ns = same_numbers (map (λ n. n.key) ms) (map (λ n. n.key) ns) and same_numbers (map (λ n. n.level) ms) (map (λ n. n.level) ns)

abbrev pub same_edges : List Edge → List Edge → Bool
same_edges ds es = same_numbers (map (λ e. e.from) ds) (map (λ e. e.from) es) and same_numbers (map (λ e. e.to) ds) (map (λ e. e.to) es)

abbrev pub same_key : Option ℕ → Option ℕ → Bool
same_key none none = true
same_key none (some y) = false
same_key (some x) none = false
same_key (some x) (some y) = eqb x y

-- the readout has the band's scope, ends and closed ends
abbrev pub reads_as : BandRead → Band → Bool
reads_as r b =
    eqb r.scope b.scope
    and eqb r.low b.low
    and eqb r.high b.high
    and beq r.low_closed b.low_closed
    and beq r.high_closed b.high_closed

-- the listed keys that the band holds
abbrev pub keys_held : Band → List ℕ → List ℕ
keys_held b [] = []
keys_held b (k ∷ ks) = add_if (holds b k) k (keys_held b ks)

abbrev pub profile_is : Room → Profile → List Band → List Node → ℕ → Bool
profile_is room p bs ns m =
    same_bands p.bands bs and same_nodes p.nodes ns and eqb (marks_in_use p) m and sound_in room p

abbrev pub stab_is : Bool → Profile → ℕ → ℕ → List ℕ → ℕ → ℕ → ℕ → Bool
stab_is sizes_right p k refusal ns count met looks =
    eqb (stab_answer sizes_right p k).refusal refusal
    and same_numbers (stab_answer sizes_right p k).read.flags (flags_of ns)
    and eqb (stab_answer sizes_right p k).read.count count
    and eqb (stab_answer sizes_right p k).read.met met
    and eqb (stab_answer sizes_right p k).read.looks looks

abbrev pub band_is : Bool → Profile → ℕ → ℕ → Band → Bool
band_is sizes_right p number refusal b =
    eqb (band_read_answer sizes_right p number).refusal refusal and reads_as (band_read_answer sizes_right p number).read b

abbrev pub edge_is : Bool → Profile → ℕ → ℕ → ℕ → Option ℕ → List ℕ → Bool
edge_is sizes_right p k i refusal y ns =
    eqb (edge_read_answer sizes_right p k i).refusal refusal
    and same_key (edge_read_answer sizes_right p k i).read.next y
    and same_numbers (edge_read_answer sizes_right p k i).read.flags (flags_of ns)

abbrev pub node_is : Bool → Profile → ℕ → ℕ → ℕ → List ℕ → Bool
node_is sizes_right p k refusal l ns =
    eqb (node_read_answer sizes_right p k).refusal refusal
    and eqb (node_read_answer sizes_right p k).read.level l
    and same_numbers (node_read_answer sizes_right p k).read.flags (flags_of ns)

abbrev pub in_use_is : Bool → Profile → ℕ → ℕ → ℕ → Bool
in_use_is sizes_right p refusal n m =
    eqb (room_read_answer sizes_right p).refusal refusal
    and eqb (room_read_answer sizes_right p).read.nodes n
    and eqb (room_read_answer sizes_right p).read.marks m

abbrev pub turn_is : ℕ → ℕ → ℕ → ℕ → Bool
turn_is place refusal level next =
    eqb (turn_answer place).refusal refusal
    and eqb (turn_answer place).read.level level
    and eqb (turn_answer place).read.next next

-- the rules answer as expected
abbrev pub row_right : Row → Bool
row_right (gives given expected) = eqb given expected
row_right (says given expected) = beq given expected
row_right (held b ks ns) = same_numbers (keys_held b ks) ns
row_right (is room p bs ns m) = profile_is room p bs ns m
row_right (sound room p expected) = beq (sound_in room p) expected
row_right (marks p each all) = same_numbers (map (marks_of p.nodes) p.bands) each and eqb (marks_in_use p) all
row_right (lane p i es) = same_edges (edges_in i p.nodes) es
row_right (walked p b slots) = same_numbers (marked_slots p.nodes b) slots and same_numbers (walk p.nodes b) slots
row_right (stab p k ns l) =
    stab_is true p k 0 ns (length ns) (length ns) l
    and eqb (8 + steps_of p k) l
    and same_numbers (numbers_where (λ b. holds b k) p.bands) ns
row_right (meets p k ns count met l) = stab_is true p k 0 ns count met l
row_right (no_stab sizes_right p k refusal) = stab_is sizes_right p k refusal [] 0 0 0
row_right (band p b) = band_is true p b.number 0 b
row_right (no_band sizes_right p number refusal) = band_is sizes_right p number refusal (band_of 0 0 0 0 false false)
row_right (edge p k i y ns) = edge_is true p k i 0 y ns
row_right (no_edge sizes_right p k i refusal) = edge_is sizes_right p k i refusal none []
row_right (node p k l ns) = node_is true p k 0 l ns
row_right (no_node sizes_right p k refusal) = node_is sizes_right p k refusal 0 []
row_right (in_use p n m) = in_use_is true p 0 n m
row_right (no_in_use p refusal) = in_use_is false p refusal 0 0
row_right (accepted room p c bs ns m) =
    eqb (call_of room p c).refusal 0
    and profile_is room (call_of room p c).after bs ns m
    and keeps_outside_reaches (of_call c) p (call_of room p c).after
row_right (refused room p c number) =
    eqb (call_of room p c).refusal number
    and same_bands (call_of room p c).after.bands p.bands
    and same_nodes (call_of room p c).after.nodes p.nodes
row_right (runs ns n from to) = eqb (reach_of ns n).from from and eqb (reach_of ns n).to to
row_right (near own p q expected) = beq (keeps_outside_reaches own p q) expected
row_right (alike p q k expected) = beq (answers_alike p q k) expected
row_right (card bs k number place ns) =
    eqb (scan_of bs k).refusal number
    and eqb (scan_of bs k).place place
    and same_numbers (scan_of bs k).flags (flags_of ns)
    and eqb (scan_of bs k).count (length ns)
row_right (turns place level next) = turn_is place 0 level next
row_right (no_turn place refusal) = turn_is place refusal 0 0

-- the places of the rows that are not right, counted from 1
abbrev pub wrong_from : ℕ → List Row → List ℕ
wrong_from place rs = failed_from row_right place rs
