-- What the outcome of a call that is lent memory says: of one that changes, the number of the paper and the memory that it leaves; of one that only asks,
-- what it tells and the memory that it leaves. The promise of each goes through these definitions.
-- Assumes nothing.
use Rattle.std.specs.Prelude.{Result}
use Rattle.rules.specs.BoxSaysNo.{Change, leaving}
use Rattle.hall.specs.Says.{answer_says}
use Rattle.hall.specs.declared.answers.Refusal.{Refusal}
use Rattle.store.specs.Memory.{Memory}

abbrev pub came : Result Unit Refusal → Memory → Change Memory
came a after = leaving (answer_says a) after

-- what comes of a call that only asks: what it tells, and what stands after it
pub record Asked (A : Type 0) : Type 0 where
  pub told : A
  pub after : Memory

abbrev pub asked : {A : Type 0} → A → Memory → Asked A
asked a after = record { told = a; after = after }

-- what is told is what f gives of the memory lent, and that stands after it as it was
abbrev pub telling : {A : Type 0} → (Memory → A) → Memory → Asked A
telling f m = record { told = f m; after = m }
