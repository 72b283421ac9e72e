-- Every row of the bench table is right: the rules answer as the paper's worked examples do. Proved by computing.
-- Assumes nothing.
use mathlib.Core.Path.{◌≡◌, refl}
use mathlib.Core.List.{[]}
use Rattle.rules.specs.Computes.{computes}
use Rattle.rules.specs.BenchRow.{wrong_from}
use Rattle.rules.specs.BenchTable.{table}

-- no row of the table is wrong; where the check refuses this, stating it of a part of the table finds the row
pub bench_table : wrong_from 1 table ≡ []
unfolding computes
bench_table = refl
