-- `committing::laying::commit_words` meets its contract: what was judged of the draft stands, and else memory is that of the profile drafted.
-- Assumes nothing.
use mathlib.Core.Path.{◌≡◌, sym, ap, ◌∙◌}
use native.Mathlib.Omega.{arith}
use borrow.Author.Rules.{rules}
use Rattle.std.specs.Prelude.{Err}
use Rattle.rules.specs.BoxSaysNo.{leaving}
use Rattle.hall.specs.Says.{answer_says}
use Rattle.hall.proofs.OneToOne.{no_refusal_says_0}
use Rattle.store.proofs.RightSizes.{sizes_in_numbers}
use Rattle.drafting.proofs.Drafts.{drafts_say, drafts_own, of_every}
use Rattle.committing.specs.Committed.{committed}
use Rattle.committing.proofs.DraftCommitted.{draft_refused, draft_completed, draft_in_room, draft_accepted, counted_from_zero}
use Rattle.committing.proofs.laying.commit_words.Goals as goal

pub overflow_sub-node_room : goal.overflow_sub-node_room
overflow_sub-node_room c = let size = (sizes_in_numbers _ _ _).fact c.requires.0 in omega arith

pub complete-requires : goal.complete-requires
complete-requires c =
    let pre = c.requires in
    let own = drafts_own pre.1.1 in
    let size = (sizes_in_numbers _ _ _).fact pre.0 in
    (own.1, own.2, omega arith, omega arith, search rules)

pub lay_draft-requires : goal.lay_draft-requires
lay_draft-requires c =
    let pre = c.requires in
    let own = drafts_own pre.1.1 in
    let done = ap answer_says c.in_ok-complete.was in
    let completed = c.complete.ensures.1 done in (
      pre.0,
      draft_in_room _ _ _ _ _ _ c.complete.ensures.0 done _ completed.0 pre.0 own.2,
      own.0,
      draft_completed _ _ _ completed.0,
      counted_from_zero _ _ _ _ (search rules) completed.1,
    )

pub returns-in_err-complete-clause-commits : goal.returns-in_err-complete-clause-commits
returns-in_err-complete-clause-commits c =
    let drafted = c.requires.1.1 in
    let answered : c.from_residual.result ≡ Err c.in_err-complete.field-0.0 = search rules in
    let judged = ap answer_says answered ∙ c.in_err-complete.ensures.0 in
    of_every (λ p. leaving _ _ ≡ committed _ p) drafted
    (draft_refused _ _ _ _ _ _ judged (λ none. no_refusal_says_0 _ (sym (ap answer_says answered) ∙ none)) ∙ ap (committed _) (drafts_say drafted))

pub returns-clause-commits : goal.returns-clause-commits
returns-clause-commits c =
    let drafted = c.requires.1.1 in
    let done = ap answer_says c.in_ok-complete.was in
    of_every (λ p. leaving _ _ ≡ committed _ p) drafted
    (draft_accepted _ _ _ _ _ _ c.complete.ensures.0 done _ (c.complete.ensures.1 done).0 _ _ _ c.lay_draft.ensures.laid ∙ ap (committed _) (drafts_say drafted))
