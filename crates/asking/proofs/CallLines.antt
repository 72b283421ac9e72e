-- What each call answers, from plain facts on the memory and its arguments: a law for each place where its code returns.
-- Assumes nothing.
use Prim.Native.Nat.{ℕ, ◌≤◌, ◌<◌}
use mathlib.Core.Path.{◌≡◌, sym, ◌∙◌}
use mathlib.Core.Bool.{true, false}
use mathlib.Core.List.{List, ◌++◌}
use mathlib.Core.Option.{none, some}
use borrow.Author.Tests.{lt-ltb, le-ltb, ne_eqb}
use Rattle.rules.specs.Connectives.{says_yes}
use Rattle.rules.specs.HallLine.{highest_key, highest_band_number}
use Rattle.rules.specs.Readouts.{band_read_of}
use Rattle.rules.specs.BoxSaysNo.{TableLine, refusal_by, saying, stab_lines, stab_refusal, room_read_refusal, no_stab, no_edge_read, no_node_read, no_room_read}
use Rattle.rules.proofs.FirstLine.{refusal_enough}
use Rattle.rules.proofs.BoxSaysNo.{stab_accepted}
use Rattle.rules.specs.Room.{most_marks}
use Rattle.hall.specs.Says.{refusal_says}
use Rattle.hall.specs.declared.answers.Refusal.{Refusal}
use Rattle.hall.proofs.OneToOne.{no_refusal_says_0}
use Rattle.store.specs.Sizes.{lengths_of, sizes_right}
use Rattle.store.specs.Memory.{Memory, lengths_in}
use Rattle.store.specs.Places.{band_field, live_field}
use Rattle.store.specs.SaidProfile.{said_band}
use Rattle.store.proofs.RightSizes.{sizes_in_numbers}
use Rattle.search.specs.Descent.{search_of}
use Rattle.search.specs.PlaceOf.{place_of}
use Rattle.asking.specs.StabCall.{stab_found, stab_in}
use Rattle.asking.specs.BandCall.{band_refusal_in, band_in}
use Rattle.asking.specs.EdgeCall.{has_lane, edge_refusal_in, edge_at, edge_in}
use Rattle.asking.specs.NodeCall.{node_refusal_in, node_at, node_in}
use Rattle.asking.specs.RoomCall.{said_use, room_read_in}

-- 1: sizes are out of range
module _ (m : Memory) (wrong : sizes_right (lengths_in m) ≡ false) where
  pub band_by_1 : (number : ℕ) → saying 1 (band_read_of none) ≡ band_in m number
  unfolding band_in band_refusal_in
  band_by_1 number = rw wrong

  pub room_by_1 : saying 1 no_room_read ≡ room_read_in m
  unfolding room_read_in room_read_refusal
  room_by_1 = rw wrong

module _ (m : Memory) (right : sizes_right (lengths_in m) ≡ true) where
  pub room_read_lem : saying 0 (said_use m.nodes) ≡ room_read_in m
  unfolding room_read_in room_read_refusal
  room_read_lem = rw right

  -- 3: band number above 1,023
  pub band_by_3 : (number : ℕ) → highest_band_number < number → saying 3 (band_read_of none) ≡ band_in m number
  unfolding band_in band_refusal_in
  band_by_3 number above = rw (right, lt-ltb _ _ above)

  -- 9: number is not live
  module _ (number : ℕ) (in_range : number ≤ highest_band_number) where
    pub band_by_9 : says_yes (band_field m.bands number live_field) ≡ false → saying 9 (band_read_of none) ≡ band_in m number
    unfolding band_in band_refusal_in
    band_by_9 free = rw (right, le-ltb _ _ in_range, free)

    pub band_read_lem : says_yes (band_field m.bands number live_field) ≡ true
        → saying 0 (band_read_of (some (said_band m.bands number))) ≡ band_in m number
    unfolding band_in band_refusal_in
    band_read_lem live = rw (right, le-ltb _ _ in_range, live)

-- 1 (sizes) and 4 are judged first where a key is given, and what they give stands
module _ (m : Memory) (k : ℕ) (r : Refusal) (judged : refusal_says r ≡ stab_refusal (sizes_right (lengths_in m)) k) where
  pub stab_refused : saying (refusal_says r) no_stab ≡ stab_in m k
  unfolding stab_in
  stab_refused = rw (← judged, ne_eqb (refusal_says r) 0 (no_refusal_says_0 r))

  -- lines after them play no part
  first_lines : (ls : List TableLine) → refusal_by (stab_lines (sizes_right (lengths_in m)) k ++ ls) ≡ refusal_says r
  unfolding stab_refusal
  first_lines ls =
      refusal_enough (stab_lines (sizes_right (lengths_in m)) k) ls (λ z. no_refusal_says_0 r (judged ∙ z)) ∙ sym judged

  pub edge_refused : (lane : ℕ) → saying (refusal_says r) no_edge_read ≡ edge_in m k lane
  unfolding edge_in edge_refusal_in
  edge_refused lane = rw (first_lines _, ne_eqb (refusal_says r) 0 (no_refusal_says_0 r))

  pub node_refused : saying (refusal_says r) no_node_read ≡ node_in m k
  unfolding node_in node_refusal_in
  node_refused = rw (first_lines _, ne_eqb (refusal_says r) 0 (no_refusal_says_0 r))

-- where they give nothing there are no more marks than the largest room has
pub marks_fit : (b n m k : ℕ) → 0 ≡ stab_refusal (sizes_right (lengths_of b n m)) k → m ≤ most_marks
marks_fit b n m k judged = ((sizes_in_numbers b n m).fact ((stab_accepted (sizes_right (lengths_of b n m)) k).0 (sym judged)).0).5

module _ (m : Memory) (k : ℕ) (judged : 0 ≡ stab_refusal (sizes_right (lengths_in m)) k) where
  key_accepted : (sizes_right (lengths_in m) ≡ true) × (k ≤ highest_key)
  key_accepted = (stab_accepted (sizes_right (lengths_in m)) k).0 (sym judged)

  pub stabbed : saying 0 (stab_found (search_of m.nodes m.marks k)) ≡ stab_in m k
  unfolding stab_in
  stabbed = rw (← judged)

  -- 13: no node at the key
  module _ (none : place_of m.nodes k ≡ 0) where
    pub edge_by_13 : (lane : ℕ) → saying 13 no_edge_read ≡ edge_in m k lane
    unfolding edge_in edge_refusal_in
    edge_by_13 lane = rw (key_accepted.0, le-ltb _ _ key_accepted.1, none)

    pub node_by_13 : saying 13 no_node_read ≡ node_in m k
    unfolding node_in node_refusal_in
    node_by_13 = rw (key_accepted.0, le-ltb _ _ key_accepted.1, none)

  module _ (place : ℕ) (at : place ≡ place_of m.nodes k) (some : place ≡ 0 → ⊥) where
    pub node_read_lem : saying 0 (node_at m.nodes m.marks place) ≡ node_in m k
    unfolding node_in node_refusal_in
    node_read_lem = rw (key_accepted.0, le-ltb _ _ key_accepted.1, ← at, ne_eqb _ _ some)

    -- 13: it has no such lane
    pub edge_by_13_lane : (lane : ℕ) → has_lane m.nodes place lane ≡ false → saying 13 no_edge_read ≡ edge_in m k lane
    unfolding edge_in edge_refusal_in
    edge_by_13_lane lane no_lane = rw (key_accepted.0, le-ltb _ _ key_accepted.1, ← at, ne_eqb _ _ some, no_lane)

    pub edge_read_lem : (lane : ℕ) → has_lane m.nodes place lane ≡ true → saying 0 (edge_at m.nodes m.marks place lane) ≡ edge_in m k lane
    unfolding edge_in edge_refusal_in
    edge_read_lem lane has_lane = rw (key_accepted.0, le-ltb _ _ key_accepted.1, ← at, ne_eqb _ _ some, has_lane)
