-- The stab on any memory: 1 (sizes), 4, else what the search over node and mark words finds. No band word is read.
-- Assumes nothing.
use Rattle.std.specs.Prelude.{ℕ, length}
use Rattle.rules.specs.Flags.{flags_of, count_of}
use Rattle.rules.specs.Search.{Stab}
use Rattle.rules.specs.BoxSaysNo.{Answered, answered, stab_refusal, no_stab}
use Rattle.store.specs.Sizes.{sizes_right}
use Rattle.store.specs.Memory.{Memory, lengths_in}
use Rattle.search.specs.Descent.{Descent, search_of}

-- flags and count of the numbers taken, how many marks were taken, and the looks
abbrev pub stab_found : Descent → Stab
stab_found d = record { flags = flags_of d.taken; count = count_of d.taken; met = length d.taken; looks = d.looks }

unfoldable pub stab_in : Memory → ℕ → Answered Stab
stab_in m k = answered (stab_refusal (sizes_right (lengths_in m)) k) no_stab (stab_found (search_of m.nodes m.marks k))
