-- What each case of an answer says: its number of the paper, and every value beside it. Every promise of an answer, a next node or a made key goes
-- through these definitions.
-- Assumes nothing.
use Rattle.std.specs.Prelude.{ℕ, Option, None, Some, Result, Ok, Err, cond, eqb}
use Rattle.std.proofs.Math.Option.{Option as Maybe, none, some}
use Rattle.hall.specs.declared.answers.Refusal.{Refusal}
use Rattle.hall.specs.declared.keys.Key.{Key}

-- the number of the refusal's line in the paper's table
abbrev pub refusal_says : Refusal → ℕ
refusal_says Refusal.MemoryUnfit = 1
refusal_says Refusal.ScopeAbove = 2
refusal_says Refusal.NumberAbove = 3
refusal_says Refusal.KeyAbove = 4
refusal_says Refusal.HoldsNoKey = 5
refusal_says Refusal.EndElsewhere = 6
refusal_says Refusal.LevelWrong = 7
refusal_says Refusal.NumberLive = 8
refusal_says Refusal.NumberNotLive = 9
refusal_says Refusal.ScopeOther = 10
refusal_says Refusal.NodesExceed = 11
refusal_says Refusal.MarksExceed = 12
refusal_says Refusal.NoNodeOrLane = 13

-- an accepted call answers 0, a refused one its refusal's number
abbrev pub answer_says : Result Unit Refusal → ℕ
answer_says (Ok done) = 0
answer_says (Err r) = refusal_says r

-- a key, where there is one: 1 and the key, or 0 and 0
pub record MaybeKey : Type 0 where
  pub given : ℕ
  pub key : ℕ

abbrev pub a_key : ℕ → MaybeKey
a_key k = record { given = 1; key = k }

abbrev pub no_key : MaybeKey
no_key = record { given = 0; key = 0 }

-- the same as the rules have it: a key, or none
abbrev pub key_said : MaybeKey → Maybe ℕ
key_said m = cond (eqb m.given 0) none (some m.key)

-- a key that is told, be it the next node's or one that was made, or none
abbrev pub key_says : Option Key → MaybeKey
key_says None = no_key
key_says (Some k) = a_key k.0
