-- Which key is made of a machine, a sensor and a reading: the one of the rules, or none where a number is out of its range.
-- Assumes nothing.
use Rattle.std.specs.Prelude.{ℕ, cond, ltb}
use Rattle.rules.specs.HallLine.{machines, first_key, parts_in_range, key_of}
use Rattle.hall.specs.Says.{MaybeKey, a_key, no_key}

-- a machine's first key
unfoldable pub first_made : ℕ → MaybeKey
first_made machine = cond (ltb machine machines) (a_key (first_key machine)) no_key

-- the key of a machine's sensor at a reading
unfoldable pub key_made : ℕ → ℕ → ℕ → MaybeKey
key_made machine sensor reading = cond (parts_in_range machine sensor reading) (a_key (key_of machine sensor reading)) no_key
