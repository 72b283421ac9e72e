-- `inserting::insert_judged` meets its contract: the insert is drafted, and what comes of the draft is the insert.
-- Assumes nothing.
use mathlib.Core.Path.{refl, ap, ◌∙◌}
use Rattle.rules.specs.Changes.{inserted}
use Rattle.hall.specs.SaidBand.{said}
use Rattle.store.specs.SaidProfile.{said_profile}
use Rattle.store.specs.LentMemory.{words_in_mut}
use Rattle.store.proofs.Sound.{sound_means}
use Rattle.committing.specs.Committed.{committed}
use Rattle.inserting.specs.InsertCall.{insert_judged}
use Rattle.inserting.proofs.InsertSteps.{insert_on_sound, insert_committed}
use Rattle.inserting.proofs.insert_judged.Goals as goal

pub draft-requires : goal.draft-requires
draft-requires c = (ap (λ m. insert_judged m (said c.args.entry.band) c.args.entry.low_level c.args.entry.high_level) c.to_ask.ensures ∙ c.requires, refl, refl)

pub commit-requires : goal.commit-requires
commit-requires c = (((sound_means _).fact (insert_on_sound _ _ _ _ c.requires)).sizes, (_, c.draft.ensures))

pub returns-clause-inserts : goal.returns-clause-inserts
returns-clause-inserts c =
    c.commit.ensures.commits _ c.draft.ensures
    ∙ ap (λ m. committed (words_in_mut c.args.memory.now) (inserted (said_profile m) (said c.args.entry.band) c.args.entry.low_level c.args.entry.high_level)) c.to_ask.ensures
    ∙ insert_committed _ _ _ _ c.requires
