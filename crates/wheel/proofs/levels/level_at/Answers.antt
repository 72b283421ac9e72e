-- `wheel::levels::level_at` meets its contract: the table is right at every place, so also at this one.
-- Assumes nothing.
use mathlib.Core.Path.{◌∙◌}
use Rattle.wheel.proofs.TableTest.{table_right, entry_by_rule}
use Rattle.wheel.proofs.levels.level_at.Goals as goal

pub returns : goal.returns
returns c = c.from.ensures ∙ entry_by_rule table_right c.args.index c.requires
