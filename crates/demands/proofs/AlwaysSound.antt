-- From an empty profile in any memory of right sizes, after any calls: memory is sound, the profile that it says stands, a stab flags exactly the live
-- bands that hold the key, and in the edge and node readouts a number is flagged exactly where the rule marks a live band of that number, for every
-- node, lane, edge and number; marks in use are the rule's own count.
-- Assumes nothing.
use Prim.Native.Nat.{ℕ, ◌≤◌}
use mathlib.Core.Path.{◌≡◌, refl, ◌∙◌}
use mathlib.Core.Bool.{true}
use mathlib.Core.Logic.{◌↔◌}
use mathlib.Core.List.{List, [], ◌∷◌}
use mathlib.Core.Option.{some}
use Rattle.rules.specs.HallLine.{highest_key, highest_band_number}
use Rattle.rules.specs.Readouts.{band_read_of}
use Rattle.rules.specs.BoxSaysNo.{saying}
use Rattle.rules.specs.Calls.{Call}
use Rattle.rules.proofs.Lists.{Each}
use Rattle.rules.proofs.SoundMemory.{Standing}
use Rattle.store.specs.Sizes.{sizes_right}
use Rattle.store.specs.Memory.{Memory, lengths_in}
use Rattle.store.specs.SaidProfile.{said_profile}
use Rattle.store.specs.Sound.{sound}
use Rattle.store.proofs.SaidStands.{sizes_of_sound, said_stands}
use Rattle.emptying.specs.EmptyCall.{empty_in}
use Rattle.asking.specs.BandCall.{band_in}
use Rattle.asking.specs.StabCall.{stab_in}
use Rattle.demands.specs.Calls.{after_call, after_calls}
use Rattle.emptying.proofs.EmptyExact.{empty_makes}
use Rattle.asking.proofs.StabExact.{ExactStab, stab_exact}
use Rattle.asking.proofs.BandExact.{band_exact, band_refused_9}
use Rattle.asking.proofs.MarkedByRule.{MarkedByRule, marked_by_rule}
use Rattle.demands.proofs.KeepsSound.{keeps_sound, keeps_lengths}

-- what is so of a memory w that the box has kept, from when it was lent as m
pub record Kept (m w : Memory) : Type 0 where
  -- it is sound
  pub is_sound : sound w ≡ true
  -- and as long as it was
  pub same_lengths : lengths_in w ≡ lengths_in m
  -- its live bands are those that the band readout gives, each as it stands, and at every other number up to 1,023 9 is given
  pub bands : Each (λ b. band_in w b.number ≡ saying 0 (band_read_of (some b))) (said_profile w).bands
  pub no_other_band : (number : ℕ) → number ≤ highest_band_number
      → ((band_in w number).refusal ≡ 9) ↔ Each (λ b. b.number ≡ number → ⊥) (said_profile w).bands
  -- its readouts show exactly the marks that the rule gives, and their number
  pub marked : MarkedByRule w
  -- nodes stand at each end of a live band and nowhere else, in key order, with levels 1 to 8; live bands are right by themselves, in number order
  pub stands : Standing (said_profile w)
  -- at every key of the line a stab flags exactly the live bands that hold it; marks met equal the count, and the looks are the paper's
  pub stabs : (k : ℕ) → k ≤ highest_key → ((stab_in w k).refusal ≡ 0) × ExactStab (said_profile w) k (stab_in w k).read

-- a sound memory of the same lengths is such
kept : (m w : Memory) → lengths_in w ≡ lengths_in m → sound w ≡ true → Kept m w
kept m w l s =
    let right = sizes_of_sound w s in
    record {
      is_sound = s;
      same_lengths = l;
      bands = band_exact w right;
      no_other_band = band_refused_9 w right;
      marked = marked_by_rule w s;
      stands = said_stands w s;
      stabs = stab_exact w s;
    }

calls_keep_sound : (w : Memory) → sound w ≡ true → (cs : List Call) → sound (after_calls w cs) ≡ true
calls_keep_sound w s [] = s
calls_keep_sound w s (c ∷ cs) = calls_keep_sound (after_call w c) (keeps_sound w s c) cs

calls_keep_lengths : (w : Memory) (cs : List Call) → lengths_in (after_calls w cs) ≡ lengths_in w
calls_keep_lengths w [] = refl
calls_keep_lengths w (c ∷ cs) = calls_keep_lengths (after_call w c) cs ∙ keeps_lengths w c

-- any calls, accepted or refused, empty, stabs and readouts among them; and so after each call of a list, for what has been called up to there is
-- such a list itself
pub always_sound : (m : Memory) → sizes_right (lengths_in m) ≡ true → (cs : List Call) → Kept m (after_calls (empty_in m).after cs)
always_sound m right cs =
    let made = empty_makes m right in
    let first = (empty_in m).after in
    kept m (after_calls first cs) (calls_keep_lengths first cs ∙ made.same_lengths) (calls_keep_sound first made.is_sound cs)
