-- Making an empty profile, in plain words: in memory of right sizes, whatever it held, it leaves a sound memory of the same lengths that says the
-- empty profile. And what its code answers at each return.
-- Assumes nothing.
use mathlib.Core.Path.{◌≡◌}
use mathlib.Core.Bool.{true, false}
use Rattle.rules.specs.Profile.{empty_profile}
use Rattle.rules.specs.BoxSaysNo.{Change, leaving, empty_refusal}
use Rattle.rules.proofs.BoxSaysNo.{empty_accepted}
use Rattle.store.specs.Sizes.{sizes_right}
use Rattle.store.specs.Memory.{Memory, lengths_in, room_in}
use Rattle.store.specs.SaidProfile.{said_profile}
use Rattle.store.specs.LaidMemory.{laid_memory}
use Rattle.store.specs.Sound.{sound}
use Rattle.store.specs.ChangeIn.{change_in}
use Rattle.store.proofs.ChangeIn.{change_leaves}
use Rattle.emptying.specs.EmptyCall.{empty_in}
use Rattle.emptying.proofs.Accepted.{empty_fitting}

-- what making an empty profile in a memory comes to
pub record EmptyMade (m : Memory) (o : Change Memory) : Type 0 where
  -- it is accepted
  pub accepted : o.refusal ≡ 0
  -- an empty profile is sound
  pub is_sound : sound o.after ≡ true
  -- and has no live band and no node
  pub is_empty : said_profile o.after ≡ empty_profile
  -- the memory is as long as it was
  pub same_lengths : lengths_in o.after ≡ lengths_in m

module _ (m : Memory) where
  pub empty_makes : sizes_right (lengths_in m) ≡ true → EmptyMade m (empty_in m)
  unfolding empty_in change_in
  empty_makes right =
      let z = (empty_accepted (sizes_right (lengths_in m))).1 right in
      let left = change_leaves m (empty_refusal (sizes_right (lengths_in m))) empty_profile (empty_fitting m) z in
      record { accepted = z; is_sound = left.is_sound; is_empty = left.says; same_lengths = left.same_lengths }

  -- ---- where the code returns

  pub empty_by_1 : sizes_right (lengths_in m) ≡ false → leaving 1 m ≡ empty_in m
  unfolding empty_in change_in empty_refusal
  empty_by_1 wrong = rw wrong

  pub emptied : sizes_right (lengths_in m) ≡ true → leaving 0 (laid_memory (room_in m) empty_profile) ≡ empty_in m
  unfolding empty_in change_in empty_refusal
  emptied right = rw right
