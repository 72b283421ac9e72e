-- `removing::remove_judged` meets its contract: the remove is drafted, and what comes of the draft is the remove.
-- Assumes nothing.
use mathlib.Core.Path.{refl, ap, ◌∙◌}
use Rattle.rules.specs.Changes.{removed}
use Rattle.store.specs.SaidProfile.{said_profile}
use Rattle.store.specs.Sound.{sound}
use Rattle.store.specs.LentMemory.{words_in_mut}
use Rattle.store.proofs.Sound.{sound_means}
use Rattle.committing.specs.Committed.{committed}
use Rattle.removing.proofs.RemoveSteps.{remove_on_sound, number_has_place, remove_committed}
use Rattle.removing.proofs.remove_judged.Goals as goal

pub draft-requires : goal.draft-requires
draft-requires c = (ap sound c.to_ask.ensures ∙ remove_on_sound _ _ _ c.requires, number_has_place _ _ _ c.requires, refl, refl)

pub commit-requires : goal.commit-requires
commit-requires c = (((sound_means _).fact (remove_on_sound _ _ _ c.requires)).sizes, (_, c.draft.ensures))

pub returns-clause-removes : goal.returns-clause-removes
returns-clause-removes c =
    c.commit.ensures.commits _ c.draft.ensures
    ∙ ap (λ m. committed (words_in_mut c.args.memory.now) (removed (said_profile m) c.args.number)) c.to_ask.ensures
    ∙ remove_committed _ _ _ c.requires
