-- Sound memory as a record of plain facts; two sound memories of the same lengths that say the same profile are equal; and when 1 applies to an
-- insert or a remove.
-- Assumes nothing.
use mathlib.Core.Path.{◌≡◌, sym, ◌∙◌}
use mathlib.Core.Bool.{true, false}
use mathlib.Core.Logic.{inr, ⊎_elim}
use Rattle.rules.specs.Connectives.{◌and◌}
use Rattle.rules.specs.BoxSaysNo.{not_sound}
use Rattle.rules.specs.SoundMemory.{sound_in}
use Rattle.rules.proofs.Means.{Means, Fails, reworded, not_fails, and_means, and3_means, itself}
use Rattle.rules.proofs.BoxSaysNo.{not_sound_means}
use Rattle.store.specs.Sizes.{sizes_right, room_for}
use Rattle.store.specs.Memory.{Memory, lengths_in, room_in}
use Rattle.store.specs.SaidProfile.{said_profile}
use Rattle.store.specs.LaidMemory.{laid_memory}
use Rattle.store.specs.Sound.{sound}
use Rattle.store.proofs.SameMemory.{same_memory_means}

pub record Sound (m : Memory) : Type 0 where
  pub sizes : sizes_right (lengths_in m) ≡ true
  pub in_room : sound_in (room_in m) (said_profile m) ≡ true
  pub laid : m ≡ laid_memory (room_in m) (said_profile m)

pub sound_means : (m : Memory) → Means (sound m) (Sound m)
unfolding sound
sound_means m =
    reworded
    (and3_means
    (itself (sizes_right (lengths_in m)))
    (itself (sound_in (room_in m) (said_profile m)))
    (same_memory_means m (laid_memory (room_in m) (said_profile m))))
    (λ h. record { sizes = h.0; in_room = h.1; laid = h.2 })
    (λ s. (s.sizes, s.in_room, s.laid))

pub one_memory : (m w : Memory) → sound m ≡ true → sound w ≡ true → lengths_in m ≡ lengths_in w → said_profile m ≡ said_profile w → m ≡ w
unfolding room_in
one_memory m w s t e p = ((sound_means m).fact s).laid ∙ (λ i. laid_memory (room_for (e i)) (p i)) ∙ sym ((sound_means w).fact t).laid

-- 1, of insert and remove: memory is not sound, as it never is where sizes are out of range
module _ (m : Memory) where
  pub unsound_means : Means (not_sound (sizes_right (lengths_in m)) (sound m)).applies (sound m ≡ false)
  unfolding sound ◌and◌
  unsound_means = reworded (not_sound_means (sizes_right (lengths_in m)) (sound m)) (⊎_elim (λ w. rw w) (λ e. e)) (λ e. inr e)

  pub unsound_fails : Fails (not_sound (sizes_right (lengths_in m)) (sound m)).applies (sound m ≡ true)
  unsound_fails =
      reworded (not_fails (and_means (itself (sizes_right (lengths_in m))) (itself (sound m)))) (λ h. h.1) (λ s. (((sound_means m).fact s).sizes, s))
