-- `checking::zeros::zeros_between` meets its contract.
-- Assumes nothing.
use Rattle.std.proofs.Common.{rules, ◌∙◌, eqb}
use Rattle.std.proofs.lemmas.Iterator.{YieldsList-from_slice}
use Rattle.std.proofs.lemmas.Iterator.Search.{all_from_yields_List}
use Rattle.checking.proofs.FreeWords.{zeros_among}
use Rattle.checking.proofs.zeros.zeros_between.Goals as goal

pub returns : goal.returns
returns c =
    all_from_yields_List (λ w. eqb w 0) _ _ _ c.all.ensures.ran (YieldsList-from_slice _ c.iter.ensures.rest) (λ x b q k. search rules)
    ∙ zeros_among c.args.from c.args.to c.args.words.now c.min-end.ensures c.min-start.ensures
