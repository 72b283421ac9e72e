-- What a turn of the wheel says: the number of the paper, the level and the next place; beside a refusal zeros.
-- Assumes nothing.
use Rattle.std.specs.Prelude.{Result, Ok, Err}
use Rattle.rules.specs.BoxSaysNo.{Answered, saying}
use Rattle.rules.specs.Wheel.{Turn, turn_of, no_turn}
use Rattle.hall.specs.Says.{refusal_says}
use Rattle.hall.specs.declared.answers.Refusal.{Refusal}
use Rattle.wheel.specs.declared.turning.Turned.{Turned}

abbrev pub turned_says : Result Turned Refusal → Answered Turn
turned_says (Ok t) = saying 0 (turn_of t.level t.next.0)
turned_says (Err r) = saying (refusal_says r) no_turn
