-- `flags::count` meets its contract: what its chain sums is what the rules do, and at most 64 for each word.
-- Assumes nothing.
use Prim.Native.Nat.{ℕ, suc, ◌*◌, ◌^◌, ◌≤◌, ◌<◌}
use native.Mathlib.Omega.{arith}
use mathlib.Core.Path.{◌≡◌, refl, ◌∙◌}
use mathlib.Core.List.{List, [], ◌∷◌}
use Rattle.std.proofs.Common.{rules, tests}
use Rattle.std.proofs.iter.runs.Made.{chains}
use Rattle.std.specs.List.{sum_by}
use Rattle.std.proofs.lemmas.List.Sums.{sum_by-cons}
use Rattle.std.proofs.lemmas.Iterator.{YieldsList-from_slice, YieldsList-from_map}
use Rattle.std.proofs.lemmas.Iterator.Consumers.{fits_by_from_yields_list}
use lib.Count.{ones, ones-le}
use lib.ListN.{length, get_or}
use Rattle.rules.specs.Lists.{sum_of}
use Rattle.flags.proofs.count.Goals as goal

-- what is counted of a word
abbrev in_word : ℕ → ℕ
in_word = ones

at_most_64 : (w : ℕ) → w < 2 ^ 64 → in_word w ≤ 64
at_most_64 = ones-le 64

-- the chain's sum is the rules' ..
as_ruled : (ws : List ℕ) → sum_by in_word ws ≡ sum_of in_word ws
as_ruled [] = refl
as_ruled (w ∷ ws) = rw (sum_by-cons in_word w ws, as_ruled ws)

-- .. and at most 64 for each word
few : (ws : List ℕ) → ((i : ℕ) → get_or ws i 0 < 2 ^ 64) → sum_of in_word ws ≤ 64 * length ws
few [] h = omega arith
few (w ∷ ws) h = omega (arith, at_most_64 w (h 0), few ws (λ i. h (suc i)))

pub sum-requires-clause-fits : goal.sum-requires-clause-fits
sum-requires-clause-fits c =
    let ws = c.args.flags.now in
    fits_by_from_yields_list in_word ws c.map.result _
    (YieldsList-from_map _ in_word (YieldsList-from_slice ws cc) c.map.ensures.closure (λ x r q k. search (rules, tests)))
    (omega (arith, as_ruled ws, few ws c.fits-flags))

pub returns : goal.returns
returns c =
    let ws = c.args.flags.now in
    let sum : c.sum.result ≡ sum_by in_word ws = search (rules, chains) in
    record { sum = sum ∙ as_ruled ws; at_most_all = omega (arith, as_ruled ws, few ws c.fits-flags) }
