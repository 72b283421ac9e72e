-- What is so of every change of memory: it leaves memory as it was or the one memory of the profile after it; and where it is accepted only if sizes
-- are right and the profile after it may soundly stand in the room, it keeps sound memory sound and every memory as long as it was, and does to
-- the profile that memory says what it does to memory.
-- Assumes nothing.
use Prim.Native.Nat.{ℕ, zero, suc, ◌≤◌}
use mathlib.Core.Path.{◌≡◌, refl, sym, ◌∙◌, ap, subst}
use mathlib.Core.Bool.{true}
use native.Mathlib.Omega.{arith}
use lib.ListN.{length}
use Rattle.rules.specs.Profile.{Profile}
use Rattle.rules.specs.Marks.{marks_in_use}
use Rattle.rules.specs.BoxSaysNo.{changed}
use Rattle.rules.specs.SoundMemory.{sound_in}
use Rattle.rules.proofs.BoxSaysNo.{fit_refusal_zero, refused_unchanged, accepted_changes, change_keeps}
use Rattle.rules.proofs.SoundMemory.{Standing, standing_means, sound_where_fits}
use Rattle.store.specs.Sizes.{sizes_right}
use Rattle.store.specs.Memory.{Memory, lengths_in, room_in}
use Rattle.store.specs.SaidProfile.{said_profile}
use Rattle.store.specs.LaidMemory.{laid_memory}
use Rattle.store.specs.Sound.{sound}
use Rattle.store.specs.ChangeIn.{change_in}
use Rattle.store.proofs.RightSizes.{right_lengths}
use Rattle.store.proofs.LaidSound.{laid_lengths, laid_says, laid_sound}

-- what a change owes: it is accepted only where sizes are right and the profile after it may soundly stand in the memory's room
pub record Fitting (m : Memory) (refusal : ℕ) (after : Profile) : Type 0 where
  pub sizes : refusal ≡ 0 → sizes_right (lengths_in m) ≡ true
  pub fits : refusal ≡ 0 → sound_in (room_in m) after ≡ true

-- what stands after an accepted change of m: memory w, which says the profile p
pub record LeavesSound (m : Memory) (p : Profile) (w : Memory) : Type 0 where
  pub is_sound : sound w ≡ true
  pub says : said_profile w ≡ p
  pub same_lengths : lengths_in w ≡ lengths_in m

module _ (m : Memory) (refusal : ℕ) (after : Profile) where
  -- a call shows it by parts: where sizes are right the room is in range, so it is enough that the profile after it stands and is within the room
  pub fitting_by_parts : (refusal ≡ 0 → sizes_right (lengths_in m) ≡ true) → (refusal ≡ 0 → Standing after)
      → (refusal ≡ 0 → (length after.nodes ≤ (room_in m).nodes) × (marks_in_use after ≤ (room_in m).marks)) → Fitting m refusal after
  unfolding room_in
  fitting_by_parts sizes stands within =
      record {
        sizes = sizes;
        fits = λ z. sound_where_fits (room_in m) after (right_lengths (lengths_in m) (sizes z)).0 ((standing_means after).test (stands z))
            ((fit_refusal_zero (room_in m) after).1 (within z));
      }

  -- refused, it leaves all memory as it was
  pub change_refused : (refusal ≡ 0 → ⊥) → (change_in m refusal after).after ≡ m
  unfolding change_in
  change_refused h = refused_unchanged refusal m (laid_memory (room_in m) after) h

  -- accepted, the one memory of the profile after it
  pub change_accepted : refusal ≡ 0 → (change_in m refusal after).after ≡ laid_memory (room_in m) after
  unfolding change_in
  change_accepted z = accepted_changes refusal m (laid_memory (room_in m) after) z

  -- what is so of memory as it was, and of what the change leaves where nothing refuses it, is so of what it leaves, accepted or refused
  pub change_leaves_so : (P : Memory → Type 0) → P m → (refusal ≡ 0 → P (change_in m refusal after).after) → P (change_in m refusal after).after
  unfolding change_in
  change_leaves_so P before then =
      change_keeps P refusal m (laid_memory (room_in m) after) before
      (λ z. subst P (accepted_changes refusal m (laid_memory (room_in m) after) z) (then z))

  module _ (owed : Fitting m refusal after) where
    pub change_leaves : refusal ≡ 0 → LeavesSound m after (change_in m refusal after).after
    unfolding room_in
    change_leaves z =
        let e = change_accepted z in
        let fits = owed.fits z in
        record {
          is_sound = ap sound e ∙ laid_sound (room_in m) after fits;
          says = ap said_profile e ∙ laid_says (room_in m) after fits;
          same_lengths = ap lengths_in e ∙ laid_lengths (room_in m) after fits ∙ (right_lengths (lengths_in m) (owed.sizes z)).1;
        }

    pub change_keeps_sound : sound m ≡ true → sound (change_in m refusal after).after ≡ true
    change_keeps_sound s = change_leaves_so (λ w. sound w ≡ true) s (λ z. (change_leaves z).is_sound)

    pub change_keeps_lengths : lengths_in (change_in m refusal after).after ≡ lengths_in m
    change_keeps_lengths = change_leaves_so (λ w. lengths_in w ≡ lengths_in m) refl (λ z. (change_leaves z).same_lengths)

    -- it does to the profile what it does to memory
    pub change_says : said_profile (change_in m refusal after).after ≡ (changed refusal (said_profile m) after).after
    change_says = go refusal refl
      where
        go : (n : ℕ) → refusal ≡ n → said_profile (change_in m refusal after).after ≡ (changed refusal (said_profile m) after).after
        go zero z = (change_leaves z).says ∙ sym (accepted_changes refusal (said_profile m) after z)
        go (suc n) e =
            let given : refusal ≡ 0 → ⊥ = λ z. omega arith in
            ap said_profile (change_refused given) ∙ sym (refused_unchanged refusal (said_profile m) after given)
