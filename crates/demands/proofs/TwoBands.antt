-- Two bands of one open stretch, and a second band of one key, by the rules alone: in which room each goes in, from an empty profile on; in less it is
-- refused, by 11 or by 12. Proved by computing, and so apart from the rules' own laws, to which their edits are held.
-- Assumes nothing.
use Prim.Native.Nat.{ℕ, ◌≤◌, ◌<◌}
use mathlib.Core.Path.{◌≡◌}
use mathlib.Core.Bool.{true}
use native.Mathlib.Omega.{arith}
use borrow.Author.Tests.{lt-ltb, le-ltb}
use Rattle.rules.specs.HallLine.{Band, band_of, house}
use Rattle.rules.specs.Profile.{Profile, empty_profile}
use Rattle.rules.specs.Changes.{inserted}
use Rattle.rules.specs.Room.{Room, room_in_range}
use Rattle.rules.specs.BoxSaysNo.{insert_refusal}
use Rattle.rules.specs.BenchProfile.{open'}
use Rattle.rules.specs.Computes.{computes}
use Rattle.rules.proofs.BoxSaysNo.{room_in_range_means}
use Rattle.rules.proofs.Theory.OneBand.{zero_band}

-- the house band (10,20) of that number: it holds neither of its ends, so it is marked on edges alone
abbrev pub span_band : ℕ → Band
span_band number = open' number house 10 20

-- number 1 alone, its nodes with level 3 ..
abbrev pub one_span : Profile
one_span = inserted empty_profile (span_band 1) 3 3

-- .. and with it number 2, whose nodes stand already
abbrev pub two_spans : Profile
two_spans = inserted one_span (span_band 2) 3 3

module _ (room : Room) where
  -- two ends take two nodes, so with room for fewer number 1 is refused by 11
  pub first_span_refused : room.nodes < 2 → insert_refusal true true room empty_profile (span_band 1) 3 3 ≡ 11
  unfolding computes
  first_span_refused few = rw (lt-ltb room.nodes 2 few)

  module _ (nodes : 2 ≤ room.nodes) where
    -- it takes one mark, for which every room in range has a place ..
    pub first_span_goes_in : room_in_range room ≡ true → insert_refusal true true room empty_profile (span_band 1) 3 3 ≡ 0
    unfolding computes
    first_span_goes_in in_range =
        let some_marks : 1 ≤ room.marks = omega (arith, (room_in_range_means room).fact in_range) in
        rw (le-ltb room.nodes 2 nodes, le-ltb room.marks 1 some_marks)

    -- .. and both together two, so that with room for fewer number 2 is refused by 12
    pub second_span_goes_in : 2 ≤ room.marks → insert_refusal true true room one_span (span_band 2) 3 3 ≡ 0
    unfolding computes
    second_span_goes_in marks = rw (le-ltb room.nodes 2 nodes, le-ltb room.marks 2 marks)

    pub second_span_refused : room.marks < 2 → insert_refusal true true room one_span (span_band 2) 3 3 ≡ 12
    unfolding computes
    second_span_refused few = rw (le-ltb room.nodes 2 nodes, lt-ltb room.marks 2 few)

-- number 0, the house band [0,0], alone, its one node with level 1 ..
abbrev pub one_key : Profile
one_key = inserted empty_profile zero_band 1 1

-- .. and number 1, of the same key, whose node stands already
abbrev pub same_key : Band
same_key = band_of 1 house 0 0 true true

abbrev pub two_on_key : Profile
two_on_key = inserted one_key same_key 1 1

module _ (room : Room) (in_range : room_in_range room ≡ true) where
  some_node : 1 ≤ room.nodes
  some_node = omega (arith, (room_in_range_means room).fact in_range)

  -- one node is enough for both, and each takes one mark, so that with room for one mark number 1 is refused by 12
  pub same_key_goes_in : 2 ≤ room.marks → insert_refusal true true room one_key same_key 1 1 ≡ 0
  unfolding computes
  same_key_goes_in marks = rw (le-ltb room.nodes 1 some_node, le-ltb room.marks 2 marks)

  pub same_key_refused : room.marks < 2 → insert_refusal true true room one_key same_key 1 1 ≡ 12
  unfolding computes
  same_key_refused few = rw (le-ltb room.nodes 1 some_node, lt-ltb room.marks 2 few)
