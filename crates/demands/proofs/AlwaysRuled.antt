-- From an empty profile in any memory of right sizes, after any calls: memory is, to the last word, the one memory of the profile that the rules
-- themselves come to by those calls, and each further call answers the number that the rules give on that profile. So every band inserted, and neither
-- removed nor emptied since, is in what the words say, and no other.
-- Assumes nothing.
use mathlib.Core.Path.{◌≡◌, refl, sym, ◌∙◌, ap}
use mathlib.Core.Bool.{true}
use mathlib.Core.Logic.{⊎_elim}
use mathlib.Core.List.{List, [], ◌∷◌}
use Rattle.rules.specs.Profile.{empty_profile}
use Rattle.rules.specs.BoxSaysNo.{refusal_by, Change, changed}
use Rattle.rules.specs.Calls.{Call}
use Rattle.rules.specs.RuledCalls.{after_accepted, call_outcome, ruled_after_call, ruled_after_calls}
use Rattle.rules.proofs.BoxSaysNo.{change_keeps}
use Rattle.store.specs.Sizes.{room_for, sizes_right}
use Rattle.store.specs.Memory.{Memory, lengths_in, room_in}
use Rattle.store.specs.SaidProfile.{said_profile}
use Rattle.store.specs.LaidMemory.{laid_memory}
use Rattle.store.specs.Sound.{sound}
use Rattle.store.specs.ChangeIn.{change_in}
use Rattle.store.proofs.Sound.{sound_means}
use Rattle.store.proofs.ChangeIn.{change_says}
use Rattle.emptying.specs.EmptyCall.{empty_in}
use Rattle.emptying.proofs.EmptyExact.{empty_makes}
use Rattle.demands.specs.Calls.{refusal_of, after_call, after_calls}
use Rattle.demands.specs.Lines.{lines_of}
use Rattle.demands.proofs.AsksOrChanges.{sound_known, asks_or_changes}
use Rattle.demands.proofs.KeepsSound.{keeps_sound, keeps_lengths}
use Rattle.demands.proofs.AlwaysSound.{always_sound}

-- each call on sound memory answers the number that the rules give on the profile that the words say ..
pub answers_ruled : (m : Memory) → sound m ≡ true → (c : Call) → refusal_of m c ≡ (call_outcome true true (room_in m) (said_profile m) c).refusal
unfolding change_in
answers_ruled m s c =
    ⊎_elim
    (λ a. ap (λ (o : Change Memory). o.refusal) a.comes_to ∙ a.judged_as_ruled s)
    (λ a. ap (λ (o : Change Memory). o.refusal) a.comes_to
    ∙ ap refusal_by a.judged_as_ruled
    ∙ ap (λ o. o.refusal) (sound_known m s c))
    (asks_or_changes m c)

-- .. and does to the profile what the rules do
says_ruled : (m : Memory) → sound m ≡ true → (c : Call) → said_profile (after_call m c) ≡ ruled_after_call (room_in m) (said_profile m) c
says_ruled m s c =
    let p = said_profile m in
    ⊎_elim
    (λ a. ap (λ (o : Change Memory). said_profile o.after) a.comes_to
    ∙ sym (change_keeps (λ q. q ≡ p) (call_outcome true true (room_in m) p c).refusal p (after_accepted p c) refl (λ z. a.leaves_profile)))
    (λ a. ap (λ (o : Change Memory). said_profile o.after) a.comes_to
    ∙ change_says m (refusal_by (lines_of m c)) (after_accepted p c) a.fitting
    ∙ ap (λ ls. (changed (refusal_by ls) p (after_accepted p c)).after) a.judged_as_ruled
    ∙ ap (λ o. o.after) (sound_known m s c))
    (asks_or_changes m c)

-- and so do calls one after the other
say_ruled : (m : Memory) → sound m ≡ true → (cs : List Call) → said_profile (after_calls m cs) ≡ ruled_after_calls (room_in m) (said_profile m) cs
unfolding room_in
say_ruled m s [] = refl
say_ruled m s (c ∷ cs) =
    say_ruled (after_call m c) (keeps_sound m s c) cs ∙ (λ i. ruled_after_calls (room_for (keeps_lengths m c i)) (says_ruled m s c i) cs)

pub always_ruled : (m : Memory) → sizes_right (lengths_in m) ≡ true → (cs : List Call)
    → after_calls (empty_in m).after cs ≡ laid_memory (room_in m) (ruled_after_calls (room_in m) empty_profile cs)
unfolding room_in
always_ruled m right cs =
    let made = empty_makes m right in
    let kept = always_sound m right cs in
    let said = say_ruled (empty_in m).after made.is_sound cs in
    ((sound_means (after_calls (empty_in m).after cs)).fact kept.is_sound).laid
    ∙ (λ i. laid_memory (room_for (kept.same_lengths i)) (said i))
    ∙ (λ i. laid_memory (room_for (lengths_in m)) (ruled_after_calls (room_for (made.same_lengths i)) (made.is_empty i) cs))

pub always_answers_ruled : (m : Memory) → sizes_right (lengths_in m) ≡ true → (cs : List Call) (c : Call)
    → refusal_of (after_calls (empty_in m).after cs) c ≡ (call_outcome true true (room_in m) (ruled_after_calls (room_in m) empty_profile cs) c).refusal
unfolding room_in
always_answers_ruled m right cs c =
    let made = empty_makes m right in
    let kept = always_sound m right cs in
    let said = say_ruled (empty_in m).after made.is_sound cs in
    answers_ruled (after_calls (empty_in m).after cs) kept.is_sound c
    ∙ (λ i. (call_outcome true true (room_for (kept.same_lengths i)) (said i) c).refusal)
    ∙ (λ i. (call_outcome true true (room_for (lengths_in m)) (ruled_after_calls (room_for (made.same_lengths i)) (made.is_empty i) cs) c).refusal)
