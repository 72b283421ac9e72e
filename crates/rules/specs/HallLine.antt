-- "The hall line": keys, bands, which keys a band holds, whose keys they are.
-- Assumes nothing.
use Rattle.std.specs.Prelude.{ℕ, ◌+◌, ◌*◌, Bool, not, cond, leb, ltb, eqb}
use Rattle.rules.specs.Connectives.{◌and◌, ◌or◌}

-- machine 0 to 63, sensor 0 to 31, reading 0 to 1,023
abbrev pub machines : ℕ
machines = 64

abbrev pub sensors : ℕ
sensors = 32

abbrev pub readings : ℕ
readings = 1024

-- keys are 0 to 2,097,151
abbrev pub highest_key : ℕ
highest_key = 2097151

-- how many keys a machine has
abbrev pub keys_per_machine : ℕ
keys_per_machine = 32768

-- the three numbers are in their ranges
unfoldable pub parts_in_range : ℕ → ℕ → ℕ → Bool
parts_in_range machine sensor reading = ltb machine machines and ltb sensor sensors and ltb reading readings

-- key = machine x 32,768 + sensor x 1,024 + reading
unfoldable pub key_of : ℕ → ℕ → ℕ → ℕ
key_of machine sensor reading = machine * keys_per_machine + sensor * readings + reading

-- a machine's first key is its number times 32,768
unfoldable pub first_key : ℕ → ℕ
first_key machine = machine * keys_per_machine

-- the key is among the machine's own: not below its first, and below the next machine's first
unfoldable pub own_key : ℕ → ℕ → Bool
own_key machine k = leb (first_key machine) k and ltb k (first_key (machine + 1))

-- band numbers are 0 to 1,023
abbrev pub highest_band_number : ℕ
highest_band_number = 1023

-- the scope of a house band, over any stretch
abbrev pub house : ℕ
house = 64

-- a band: its number, its scope (a machine, or 64), its two ends, and for each whether it is closed
pub record Band : Type 0 where
  pub number : ℕ
  pub scope : ℕ
  pub low : ℕ
  pub high : ℕ
  pub low_closed : Bool
  pub high_closed : Bool

abbrev pub band_of : ℕ → ℕ → ℕ → ℕ → Bool → Bool → Band
band_of n s l h lc hc = record { number = n; scope = s; low = l; high = h; low_closed = lc; high_closed = hc }

-- the key is above the low end, or equal to a closed low end
unfoldable pub past_low : Band → ℕ → Bool
past_low b k = ltb b.low k or (eqb k b.low and b.low_closed)

-- the key is below the high end, or equal to a closed high end
unfoldable pub before_high : Band → ℕ → Bool
before_high b k = ltb k b.high or (eqb k b.high and b.high_closed)

-- the band holds the key
unfoldable pub holds : Band → ℕ → Bool
holds b k = past_low b k and before_high b k

-- the first whole key past the low end, which is the end itself where it is closed
unfoldable pub first_past : Band → ℕ
first_past b = cond b.low_closed b.low (b.low + 1)

-- the band holds at least one whole key: it holds the first past its low end if it holds any
unfoldable pub holds_whole_key : Band → Bool
holds_whole_key b = holds b (first_past b)

-- the scope is a machine
unfoldable pub is_machine : ℕ → Bool
is_machine scope = ltb scope machines

-- a machine's band has both written ends among that machine's own keys, open ends too
unfoldable pub within_scope : Band → Bool
within_scope b = not (is_machine b.scope) or (own_key b.scope b.low and own_key b.scope b.high)
