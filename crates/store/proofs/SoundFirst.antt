-- A change that asks for sound memory: what it is judged by first, the line of soundness; and that it owes what every change does.
-- Assumes nothing.
use mathlib.Core.Path.{◌≡◌}
use mathlib.Core.Bool.{true, false}
use mathlib.Core.List.{List, ◌∷◌}
use Rattle.rules.specs.BoxSaysNo.{TableLine, refusal_by, not_sound}
use Rattle.rules.specs.Calls.{Call}
use Rattle.rules.specs.RuledCalls.{after_accepted, call_outcome}
use Rattle.rules.proofs.FirstLine.{refusal_here, refusal_next}
use Rattle.rules.proofs.Theory.StandingKept.{accepted_sound}
use Rattle.store.specs.Sizes.{sizes_right}
use Rattle.store.specs.Memory.{Memory, lengths_in, room_in}
use Rattle.store.specs.SaidProfile.{said_profile}
use Rattle.store.specs.Sound.{sound}
use Rattle.store.proofs.Sound.{sound_means, unsound_means, unsound_fails}
use Rattle.store.proofs.SaidStands.{sizes_of_sound}
use Rattle.store.proofs.ChangeIn.{Fitting}

module _ (m : Memory) (ls : List TableLine) where
  -- memory that is not sound is given 1 ..
  pub unsound_given : sound m ≡ false → refusal_by (not_sound (sizes_right (lengths_in m)) (sound m) ∷ ls) ≡ 1
  unsound_given e = refusal_here (not_sound (sizes_right (lengths_in m)) (sound m)) ls ((unsound_means m).test e)

  -- .. and for sound memory the lines after it decide
  pub sound_passed : sound m ≡ true → refusal_by (not_sound (sizes_right (lengths_in m)) (sound m) ∷ ls) ≡ refusal_by ls
  sound_passed s = refusal_next (not_sound (sizes_right (lengths_in m)) (sound m)) ls ((unsound_fails m).test s)

-- what a call comes to on the profile that memory says fits, where it is accepted only on sound memory
pub sound_call_fits : (m : Memory) (c : Call)
    → ((call_outcome (sizes_right (lengths_in m)) (sound m) (room_in m) (said_profile m) c).refusal ≡ 0 → sound m ≡ true)
    → Fitting m (call_outcome (sizes_right (lengths_in m)) (sound m) (room_in m) (said_profile m) c).refusal (after_accepted (said_profile m) c)
sound_call_fits m c was_sound =
    record {
      sizes = λ z. sizes_of_sound m (was_sound z);
      fits = λ z. accepted_sound (sizes_right (lengths_in m)) (sound m) (room_in m) (said_profile m) c z ((sound_means m).fact (was_sound z)).in_room;
    }
