-- Standing is kept: the profile after an accepted insert or remove is standing again, so that every call, accepted or refused,
-- leaves a standing profile standing and a sound one sound in its room. What an accepted call owes is said once, with one case for each call (`call_owed`).
-- Assumes nothing.
use Prim.Native.Nat.{ℕ, ◌≤◌}
use mathlib.Core.Path.{◌≡◌, refl, ap}
use mathlib.Core.Bool.{Bool, true}
use mathlib.Core.Logic.Iff
use mathlib.Core.Logic.{inl, inr, ⊎_elim, ⊎_map}
use native.Mathlib.Omega.{arith}
use lib.ListN.{length}
use Rattle.rules.specs.HallLine.{Band}
use Rattle.rules.specs.NodesLanesEdges.{is_end_of_some}
use Rattle.rules.specs.Profile.{Profile, empty_profile, has_number}
use Rattle.rules.specs.Marks.{marks_in_use}
use Rattle.rules.specs.Changes.{inserted, nodes_at_ends, without_where, removed}
use Rattle.rules.specs.Room.{Room}
use Rattle.rules.specs.BoxSaysNo.{insert_refusal, remove_refusal}
use Rattle.rules.specs.SoundMemory.{sound_in}
use Rattle.rules.specs.Calls.{Call, emptying, inserting, removing, checking, stabbing, reading_band, reading_edge, reading_node, reading_room}
use Rattle.rules.specs.RuledCalls.{after_accepted, call_outcome}
use Rattle.rules.specs.Reach.{of_call}
use Rattle.rules.specs.Computes.{computes}
use Rattle.rules.proofs.Means.{itself}
use Rattle.rules.proofs.Lists.{In, Each, keep_all}
use Rattle.rules.proofs.NodesLanesEdges.{Level, NodeAt, EndOf, is_end_of_some_means}
use Rattle.rules.proofs.Profile.{SameBut, has_number_means}
use Rattle.rules.proofs.Changes.{at_with_ends, in_with_ends, with_ends_ascend, in_inserted_bands, inserted_bands_ascend, insert_keeps_others, in_bands_left, in_nodes_left, bands_left_ascend, nodes_left_ascend, removed_nodes_no_more, remove_keeps_others}
use Rattle.rules.proofs.BoxSaysNo.{not_sound_fails, BandRight, insert_accepted, remove_accepted, change_keeps}
use Rattle.rules.proofs.SoundMemory.{Standing, standing_means, sound_in_means}

-- all nodes of a standing profile are at ends
pub all_at_ends : (p : Profile) → Standing p → nodes_at_ends p.bands p.nodes ≡ p.nodes
unfolding nodes_at_ends
all_at_ends p s =
    keep_all (λ n. is_end_of_some p.bands n.key) p.nodes
    (λ n i. (is_end_of_some_means p.bands n.key).test (s.only_ends_stand_lem n i))

-- ---- the profile after a call that is accepted

-- an empty profile stands
pub empty_stands : Standing empty_profile
unfolding computes
empty_stands = (standing_means empty_profile).fact refl

-- a right band of a free number, with right levels, put into a standing profile leaves it standing
pub inserted_stands : (p : Profile) (b : Band) (lo hi : ℕ) → Standing p → BandRight b → Level lo → Level hi
    → Each (λ c. c.number ≡ b.number → ⊥) p.bands → Standing (inserted p b lo hi)
unfolding inserted
inserted_stands p b lo hi s right low_right high_right free =
    let bands = in_inserted_bands p b lo hi in
    let nodes = in_with_ends b lo hi p.nodes in
    let at = at_with_ends b lo hi p.nodes in
    record {
      numbers_ascend_lem = inserted_bands_ascend p b lo hi free s.numbers_ascend_lem;
      bands_right_lem = λ c i. ⊎_elim (λ e. rw e right) (s.bands_right_lem c) ((bands c).0 i);
      keys_ascend_lem = with_ends_ascend b lo hi p.nodes s.keys_ascend_lem;
      levels_right_lem =
          λ n i. ⊎_elim
          (s.levels_right_lem n)
          (⊎_elim (λ m. rw m.0 low_right) (λ m. rw m.0 high_right))
          ((nodes n).0 i);
      ends_stand_lem =
          λ c i. ⊎_elim
          (λ e. ((at c.low).1 (inl (inl (ap (λ d. d.low) e))), (at c.high).1 (inl (inr (ap (λ d. d.high) e)))))
          (λ j. let t = s.ends_stand_lem c j in ((at c.low).1 (inr t.0), (at c.high).1 (inr t.1)))
          ((bands c).0 i);
      only_ends_stand_lem =
          λ n i. ⊎_elim
          (λ j. let t = s.only_ends_stand_lem n j in (t.0, (bands t.0).1 (inr t.1), t.2))
          (λ m. (b, (bands b).1 (inl refl), ⊎_map (λ l. ap (λ z. z.key) l.0) (λ h. ap (λ z. z.key) h.0) m))
          ((nodes n).0 i);
    }

-- a standing profile without the bands that pass a test, whatever the test, is standing
pub without_stands : (f : Band → Bool) (p : Profile) → Standing p → Standing (without_where f p)
without_stands f p s =
    record {
      numbers_ascend_lem = bands_left_ascend f p 0 s.numbers_ascend_lem;
      bands_right_lem = λ b i. s.bands_right_lem b (was b i);
      keys_ascend_lem = nodes_left_ascend f p 0 s.keys_ascend_lem;
      levels_right_lem = λ n i. s.levels_right_lem n ((in_nodes_left f p n).0 i).0;
      ends_stand_lem = λ b i. let t = s.ends_stand_lem b (was b i) in (stays b i b.low (inl refl) t.0, stays b i b.high (inr refl) t.1);
      only_ends_stand_lem = λ n i. ((in_nodes_left f p n).0 i).1;
    }
  where
    was : (b : Band) → In b (without_where f p).bands → In b p.bands
    was b i = ((in_bands_left f p (λ c. itself (f c)) b).0 i).0

    stays : (b : Band) → In b (without_where f p).bands → (k : ℕ) → EndOf k b → NodeAt k p.nodes → NodeAt k (without_where f p).nodes
    stays b i k e t = (t.0, (in_nodes_left f p t.0).1 (t.1, (b, i, rw t.2 e)), t.2)

-- a standing profile without the band of a number is standing
pub removed_stands : (p : Profile) (number : ℕ) → Standing p → Standing (removed p number)
unfolding removed
removed_stands p number = without_stands (has_number number) p

-- ---- what a call owes

-- the profile q after an accepted call on p: it stands where p does and keeps within the room where p does, and only the call's own bands have come
-- or gone
pub record Owed (room : Room) (own : Band → Bool) (p q : Profile) : Type 0 where
  pub stands : Standing p → Standing q
  pub nodes_fit_lem : length p.nodes ≤ room.nodes → length q.nodes ≤ room.nodes
  pub marks_fit : marks_in_use p ≤ room.marks → marks_in_use q ≤ room.marks
  pub others_stay : SameBut (λ b. own b ≡ true) p q

-- a call that only reads owes nothing
unchanged : (room : Room) (own : Band → Bool) (p : Profile) → Owed room own p p
unchanged room own p = record { stands = λ s. s; nodes_fit_lem = λ h. h; marks_fit = λ h. h; others_stay = λ b off. Iff.rfl }

module _ (sizes_right sound : Bool) (room : Room) (p : Profile) where
  -- nodes and marks fit by 11 and 12
  insert_owed : (b : Band) (lo hi : ℕ) → insert_refusal sizes_right sound room p b lo hi ≡ 0
      → Owed room (has_number b.number) p (inserted p b lo hi)
  insert_owed b lo hi z =
      let a = (insert_accepted sizes_right sound (not_sound_fails sizes_right sound) room p b lo hi).0 z in
      let j = a.judged in
      record {
        stands = λ s. inserted_stands p b lo hi s j.band_right j.levels_right_lem.0 j.levels_right_lem.1 j.number_free;
        nodes_fit_lem = λ h. a.nodes_fit_lem;
        marks_fit = λ h. a.marks_fit;
        others_stay = insert_keeps_others p b lo hi (λ c. has_number b.number c ≡ true) ((has_number_means b.number b).test refl);
      }

  -- nodes fit since they are no more than before, marks by 12
  remove_owed : (number scope : ℕ) → remove_refusal sizes_right sound room p number scope ≡ 0 → Owed room (has_number number) p (removed p number)
  remove_owed number scope z =
      record {
        stands = removed_stands p number;
        nodes_fit_lem = λ h. omega (arith, removed_nodes_no_more p number);
        marks_fit = λ h. ((remove_accepted sizes_right sound (not_sound_fails sizes_right sound) room p number scope).0 z).marks_fit;
        others_stay = remove_keeps_others p number (λ c. has_number number c ≡ true) (λ c i e. (has_number_means number c).test e);
      }

  -- every call that nothing refuses: the one case for each call, from which the laws over all calls follow
  pub call_owed : (c : Call) → (call_outcome sizes_right sound room p c).refusal ≡ 0 → Owed room (of_call c) p (after_accepted p c)
  unfolding insert_refusal remove_refusal marks_in_use
  call_owed emptying z =
      record { stands = λ s. empty_stands; nodes_fit_lem = λ h. omega arith; marks_fit = λ h. omega arith; others_stay = λ b off. absurd (off refl) }
  call_owed (inserting b lo hi) z = insert_owed b lo hi z
  call_owed (removing number scope) z = remove_owed number scope z
  call_owed checking z = unchanged room _ p
  call_owed (stabbing key) z = unchanged room _ p
  call_owed (reading_band number) z = unchanged room _ p
  call_owed (reading_edge key lane) z = unchanged room _ p
  call_owed (reading_node key) z = unchanged room _ p
  call_owed reading_room z = unchanged room _ p

  -- ---- every call, accepted or refused

  module _ (c : Call) where
    -- the profile after a call that nothing refuses is sound where the one before it was
    pub accepted_sound : (call_outcome sizes_right sound room p c).refusal ≡ 0 → sound_in room p ≡ true → sound_in room (after_accepted p c) ≡ true
    accepted_sound z e =
        let was = (sound_in_means room p).fact e in
        let owed = call_owed c z in
        (sound_in_means room (after_accepted p c)).test (
          owed.stands was.0,
          record {
            node_room = was.1.node_room;
            mark_room = was.1.mark_room;
            nodes_fit_lem = owed.nodes_fit_lem was.1.nodes_fit_lem;
            marks_fit = owed.marks_fit was.1.marks_fit;
          },
        )

    -- every call leaves a standing profile standing ..
    pub call_keeps_standing : Standing p → Standing (call_outcome sizes_right sound room p c).after
    call_keeps_standing s = change_keeps Standing _ p (after_accepted p c) s (λ z. (call_owed c z).stands s)

    -- .. and a sound one sound
    pub call_keeps_sound : sound_in room p ≡ true → sound_in room (call_outcome sizes_right sound room p c).after ≡ true
    call_keeps_sound e = change_keeps (λ q. sound_in room q ≡ true) _ p (after_accepted p c) e (λ z. accepted_sound z e)
