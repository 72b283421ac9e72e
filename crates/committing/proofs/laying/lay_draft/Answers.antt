-- `committing::laying::lay_draft` meets its contract: what is copied and laid is the one memory of the profile that the draft says.
-- Assumes nothing.
use native.Mathlib.Omega.{arith}
use borrow.Author.Rules.{rules}
use Rattle.store.proofs.RightSizes.{sizes_in_numbers}
use Rattle.committing.proofs.DraftCommitted.{drafted_within, draft_laid_lem}
use Rattle.committing.proofs.laying.lay_draft.Goals as goal

pub invariant_of-profile : goal.invariant_of-profile
invariant_of-profile c =
    let pre = c.requires in
    record { few = drafted_within _ _ _ _ _ pre.0 pre.1 pre.2 pre.3 }

pub lay-requires : goal.lay-requires
lay-requires c =
    let size = (sizes_in_numbers _ _ _).fact c.requires.0 in
    search rules

pub returns-clause-laid : goal.returns-clause-laid
returns-clause-laid c =
    let pre = c.requires in
    draft_laid_lem _ _ _ _ _ pre.0 pre.1 pre.2 pre.3 _ _ _ _ _ _ pre.4 (omega arith)
    c.copy.ensures c.copy-2.ensures c.clear.ensures c.lay.ensures
