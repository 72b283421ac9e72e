-- `checking::ends::all_noted` meets its contract.
-- Assumes nothing.
use Rattle.std.proofs.Common.{rules, arith, ◌∙◌}
use Rattle.std.proofs.lemmas.Iterator.{YieldsList-from_slice}
use Rattle.std.proofs.lemmas.Iterator.Search.{all_from_yields_List}
use Rattle.rules.specs.Connectives.{says_yes}
use Rattle.checking.specs.Ends.{all_noted}
use Rattle.checking.proofs.AllOf.{all_read}
use Rattle.checking.proofs.ends.all_noted.Goals as goal

pub returns : goal.returns
unfolding all_noted
returns c =
    all_from_yields_List says_yes _ _ _ c.all.ensures.ran (YieldsList-from_slice _ c.iter.ensures.rest) (λ x b q k. search rules)
    ∙ all_read says_yes c.args.found.now 1 c.args.in_use _ (omega arith) (omega arith)
