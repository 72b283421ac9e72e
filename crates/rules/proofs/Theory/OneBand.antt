-- A box that refuses everything is no box of these rules: into an empty profile, in every room that is in range, however small, a right one-key band
-- goes in, and out again.
-- Assumes nothing.
use Prim.Native.Nat.{ℕ, ◌≤◌}
use mathlib.Core.Path.{◌≡◌, refl, sym, ap, ◌∙◌}
use mathlib.Core.Bool.{true}
use mathlib.Core.Logic.{inl, inr}
use mathlib.Core.List.{List, [], ◌∷◌}
use native.Mathlib.Omega.{arith}
use lib.ListN.{length}
use borrow.Author.Tests.{eq-eqb}
use Rattle.rules.specs.Connectives.{◌or◌}
use Rattle.rules.specs.Lists.{sum_lanes}
use Rattle.rules.specs.HallLine.{Band, band_of, house}
use Rattle.rules.specs.NodesLanesEdges.{Node, node_of, lanes, stands_at, with_node, is_end_of_some}
use Rattle.rules.specs.Profile.{Profile, profile_of, empty_profile, has_number}
use Rattle.rules.specs.Marks.{node_marked, edge_marks_in, marks_of, marks_in_use}
use Rattle.rules.specs.Changes.{with_band, with_ends, inserted, nodes_at_ends, without_where, removed}
use Rattle.rules.specs.Room.{Room, room_in_range}
use Rattle.rules.specs.BoxSaysNo.{insert_refusal, remove_refusal}
use Rattle.rules.specs.Computes.{computes}
use Rattle.rules.proofs.Lists.{In}
use Rattle.rules.proofs.NodesLanesEdges.{Level}
use Rattle.rules.proofs.Marks.{no_edge_marks}
use Rattle.rules.proofs.Sums.{lanes_same, sum_by_lanes, count_no_more}
use Rattle.rules.proofs.BoxSaysNo.{room_in_range_means, not_sound_fails, BandRight, band_fault_zero, insert_accepted, remove_accepted}

-- a band alone, with a node at its one key
abbrev pub alone : Band → ℕ → Profile
alone b level = profile_of (b ∷ []) (node_of b.low level ∷ [])

-- that is what an insert of a one-key band makes of the empty profile
pub inserted_alone : (b : Band) (lo hi : ℕ) → b.low ≡ b.high → inserted empty_profile b lo hi ≡ alone b lo
unfolding inserted with_band with_ends with_node stands_at ◌or◌
inserted_alone b lo hi one = rw (eq-eqb b.low b.high one)

module _ (b : Band) (level : ℕ) where
  -- a band alone is marked at most on its node
  pub alone_marks : marks_in_use (alone b level) ≤ 1
  unfolding marks_in_use marks_of
  alone_marks =
      let ns : List Node = node_of b.low level ∷ [] in
      let none : sum_lanes (edge_marks_in ns b) 0 lanes ≡ 0 =
      lanes_same 0 lanes (λ i l u. no_edge_marks (node_of b.low level) b i) ∙ sym (sum_by_lanes (edge_marks_in ns) [] 0 lanes) in
      omega (arith, none, count_no_more (λ n. node_marked ns b n.key) ns)

  -- without its one band nothing is left
  pub removed_alone : removed (alone b level) b.number ≡ empty_profile
  unfolding removed without_where nodes_at_ends has_number is_end_of_some
  removed_alone = rw (eq-eqb b.number b.number refl)

module _ (room : Room) (in_range : room_in_range room ≡ true) (b : Band) (right : BandRight b) (lo hi : ℕ) (levels : Level lo × Level hi) where
  -- nothing refuses its insert into an empty profile ..
  pub one_key_goes_in : b.low ≡ b.high → insert_refusal true true room empty_profile b lo hi ≡ 0
  one_key_goes_in one =
      let after = inserted_alone b lo hi one in
      let wide = (room_in_range_means room).fact in_range in
      (insert_accepted true true (not_sound_fails true true) room empty_profile b lo hi).1
      record {
        judged = record { memory_right = (refl, refl); band_right = right; levels_right_lem = levels; number_free = λ c i. absurd i };
        nodes_fit_lem = omega (arith, ap (λ p. length p.nodes) after, wide);
        marks_fit = omega (arith, ap marks_in_use after, alone_marks b lo, wide);
      }

  -- .. and nothing its remove where it is the only band
  pub one_key_goes_out : remove_refusal true true room (alone b lo) b.number b.scope ≡ 0
  unfolding marks_in_use
  one_key_goes_out =
      (remove_accepted true true (not_sound_fails true true) room (alone b lo) b.number b.scope).1
      record {
        judged =
            record {
              memory_right = (refl, refl);
              scope_right = right.scope_right;
              number_right = right.number_right;
              number_live_lem = (b, inl refl, refl);
              scope_same = λ c i e. omega (arith, ap (λ d. d.scope) (only c i));
            };
        marks_fit = omega (arith, ap marks_in_use (removed_alone b lo));
      }
    where
      only : (c : Band) → In c (b ∷ []) → c ≡ b
      only c (inl q) = q
      only c (inr j) = absurd j

-- the house band of number 0, [0,0]
abbrev pub zero_band : Band
zero_band = band_of 0 house 0 0 true true

pub zero_band_right : BandRight zero_band
unfolding computes
zero_band_right = (band_fault_zero zero_band).0 refl
