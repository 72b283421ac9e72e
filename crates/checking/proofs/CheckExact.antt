-- The check in plain words: whatever answer meets its promise, which is what its `ensures` says, is yes exactly when the memory lent is the one memory of
-- some profile in some room, where the profile stands and fits; and all three slices are as they were.
-- Assumes nothing.
use Prim.{Unit}
use contract.Lifetimes.{Lfts}
use mathlib.Core.Path.{◌≡◌, sym, ◌∙◌, subst}
use mathlib.Core.Bool.{Bool, true}
use Rattle.rules.specs.Profile.{Profile}
use Rattle.rules.specs.Room.{Room}
use Rattle.rules.specs.SoundMemory.{sound_in}
use Rattle.rules.proofs.Means.{Means}
use Rattle.store.specs.Memory.{Memory, room_in}
use Rattle.store.specs.SaidProfile.{said_profile}
use Rattle.store.specs.LaidMemory.{laid_memory}
use Rattle.store.specs.Sound.{sound}
use Rattle.store.proofs.Sound.{sound_means}
use Rattle.store.proofs.LaidSound.{laid_sound}
use Rattle.store.proofs.LentWords.{Lent, lent_memory, SameWords}
use Rattle.store.proofs.OnlyAsked.{what_was_told, words_left}
use Rattle.checking.proofs.Promise.{CheckPromise}

-- the memory is the one memory of a profile that is sound in a room
abbrev pub OneMemory : Memory → Type 0
OneMemory m = (room : Room) × (p : Profile) × (sound_in room p ≡ true) × (m ≡ laid_memory room p)

sound_exact : (m : Memory) (answer : Bool) → answer ≡ sound m → Means answer (OneMemory m)
sound_exact m answer says =
    record {
      fact = λ e. let s = (sound_means m).fact (sym says ∙ e) in (room_in m, said_profile m, s.in_room, s.laid);
      test = λ s. says ∙ subst (λ w. sound w ≡ true) (sym s.3) (laid_sound s.0 s.1 s.2);
    }

pub check_exact : (κs : Lfts 1) (given after : Lent (Unit {0})) (answer : Bool) → CheckPromise κs given answer after
    → Means answer (OneMemory (lent_memory given)) × SameWords after given
check_exact κs given after answer met = (sound_exact (lent_memory given) answer (what_was_told given after met), words_left given after met)
