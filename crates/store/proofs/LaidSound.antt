-- The memory laid for a profile that may soundly stand in a room is sound there and says that profile: so each such profile has its one sound memory.
-- Assumes nothing.
use mathlib.Core.Path.{◌≡◌, sym, ◌∙◌, ap, subst}
use mathlib.Core.Bool.{true}
use Rattle.rules.specs.Profile.{Profile, profile_of}
use Rattle.rules.specs.Room.{Room, room_in_range}
use Rattle.rules.specs.SoundMemory.{sound_in}
use Rattle.rules.proofs.BoxSaysNo.{room_in_range_means}
use Rattle.rules.proofs.SoundMemory.{SoundIn, sound_in_means}
use Rattle.store.specs.Sizes.{lengths_of, lengths_for, room_for, sizes_right}
use Rattle.store.specs.Memory.{Memory, lengths_in, room_in}
use Rattle.store.specs.SaidProfile.{said_profile}
use Rattle.store.specs.LaidMemory.{laid_memory}
use Rattle.store.specs.Sound.{sound}
use Rattle.store.proofs.RightSizes.{room_has_lengths}
use Rattle.store.proofs.LaidBands.{laid_bands_length, laid_bands_say}
use Rattle.store.proofs.LaidNodes.{laid_nodes_length}
use Rattle.store.proofs.LaidMarks.{laid_marks_length}
use Rattle.store.proofs.LaidLays.{laid_lays, said_nodes_laid}
use Rattle.store.proofs.Lays.{Lays}
use Rattle.store.proofs.Sound.{Sound, sound_means}

module _ (room : Room) (p : Profile) (s : sound_in room p ≡ true) where
  facts : SoundIn room p
  facts = (sound_in_means room p).fact s

  -- the laid memory has the room's lengths
  pub laid_lengths : lengths_in (laid_memory room p) ≡ lengths_for room
  unfolding laid_memory lengths_for
  laid_lengths =
      let n = laid_nodes_length room.nodes p facts.1.nodes_fit_lem in
      let m = laid_marks_length room.marks p facts.1.marks_fit in
      λ i. lengths_of (laid_bands_length p.bands i) (n i) (m i)

  pub laid_room : room_in (laid_memory room p) ≡ room
  unfolding room_in
  laid_room = ap room_for laid_lengths ∙ (room_has_lengths room in_range).1
    where
      in_range : room_in_range room ≡ true
      in_range = (room_in_range_means room).test (facts.1.node_room, facts.1.mark_room)

  -- it says the profile
  pub laid_says : said_profile (laid_memory room p) ≡ p
  unfolding said_profile laid_memory
  laid_says =
      let stands = facts.0 in
      let bands = laid_bands_say p.bands stands.numbers_ascend_lem (λ b i. (stands.bands_right_lem b i).number_right) in
      let nodes = said_nodes_laid (lengths_for room).nodes p in
      λ i. profile_of (bands i) (nodes i)

  -- and it is sound
  pub laid_sound : sound (laid_memory room p) ≡ true
  laid_sound =
      let sizes = (room_has_lengths room ((room_in_range_means room).test (facts.1.node_room, facts.1.mark_room))).0 in
      (sound_means (laid_memory room p)).test
      (record {
        sizes = ap sizes_right laid_lengths ∙ sizes;
        in_room = (λ i. sound_in (laid_room i) (laid_says i)) ∙ s;
        laid = sym (λ i. laid_memory (laid_room i) (laid_says i));
      })

-- node and mark words of a sound memory lay the profile that it says
pub sound_lays : (m : Memory) → Sound m → Lays (said_profile m) m.nodes m.marks
unfolding laid_memory
sound_lays m s =
    let l = lengths_for (room_in m) in
    subst (λ w. Lays (said_profile m) w.nodes w.marks) (sym s.laid) (laid_lays l.nodes l.marks (said_profile m))
