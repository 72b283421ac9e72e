-- What `flags::count` promises of any sixteen words of 64 bits, as which the kit reads a `[u64; 16]`: the count made a bit at a time, and no other
-- number.
-- Assumes nothing.
use Prim.Native.Nat.{ℕ, ◌^◌, ◌<◌}
use native.Mathlib.Omega.{arith}
use mathlib.Core.Path.{◌≡◌, refl, sym, ◌∙◌}
use mathlib.Core.Logic.{◌↔◌}
use mathlib.Core.List.{List, [], ◌∷◌}
use lib.Count.{ones}
use lib.ListN.{length}
use Rattle.rules.specs.Connectives.{◌or◌}
use Rattle.rules.specs.Flags.{bits_per_word, flag_word_count, flags_of, set_flags}
use Rattle.rules.proofs.Lists.{Each}
use Rattle.rules.proofs.Flags.{ones_bit_at_a_time, set_flags_at_most_all}
use Rattle.flags.specs.FlagWords.{Counted}

module _ (ws : List ℕ) (sixteen : length ws ≡ flag_word_count) (below : Each (λ w. w < 2 ^ bits_per_word) ws) (r : ℕ) where
  pub counted_bit_at_a_time : Counted ws r ↔ (r ≡ set_flags ws)
  counted_bit_at_a_time =
      let same = ones_bit_at_a_time ws below sixteen in (
        (λ counted. counted.sum ∙ same),
        (λ e. record { sum = e ∙ sym same; at_most_all = omega (arith, set_flags_at_most_all ws) }),
      )

-- computed, with a flag in the first word and in the last
pub four_flags_counted : Counted (flags_of (0 ∷ 2 ∷ 129 ∷ 963 ∷ [])) 4
unfolding flags_of ◌or◌ ones
four_flags_counted = record { sum = refl; at_most_all = omega arith }
