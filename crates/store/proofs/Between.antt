-- The words past one count, up to another: one word more while there is one, then none, never more than there are, also where the counts are cut to those;
-- and which they are.
-- Assumes nothing.
use Prim.Native.Nat.{ℕ, suc, ◌+◌, ◌-◌, ◌≤◌, ◌<◌, min}
use native.Mathlib.Nat.{sub-zero}
use native.Mathlib.Omega.{arith}
use native.Mathlib.Numerals.{add-one}
use mathlib.Core.Path.{◌≡◌, refl, sym, ◌∙◌}
use mathlib.Core.Logic.{⊎_elim}
use mathlib.Core.List.{List, [], ◌∷◌, ◌++◌}
use lib.ListN.{length, get_or, take, drop, length-take, length-drop}
use lib.Seq.{drop-cons, drop_at, take_at, take_all}
use Rattle.rules.proofs.Means.{at_most_or_above}
use Rattle.store.specs.SaidMarks.{between}

none_of : (words : List ℕ) → length words ≡ 0 → words ≡ []
none_of [] e = refl
none_of (w ∷ ws) e = absurd (omega (arith, e))

pub next_between : (from to : ℕ) (words : List ℕ) → from < min to (length words)
    → between from to words ≡ get_or words from 0 ∷ between (from + 1) to words
unfolding between
next_between from to words h =
    let more : to - from ≡ suc (to - suc from) = omega arith in
    rw (add-one, more, drop-cons words from 0 (omega arith))

pub none_between : (from to : ℕ) (words : List ℕ) → min to (length words) ≤ from → between from to words ≡ []
unfolding between
none_between from to words h = none_of _ (simp (length-take, length-drop) (omega arith))

-- from the first word on
pub between_from_first : (to : ℕ) (words : List ℕ) → between 0 to words ≡ take to words
unfolding between
between_from_first to words = rw sub-zero

pub between_at_most : (from to : ℕ) (words : List ℕ) → length (between from to words) ≤ length words
unfolding between
between_at_most from to words = simp (length-take, length-drop) (omega arith)

-- where it is known what stands before them and what they are
pub between_at : (words xs ys zs : List ℕ) (from to : ℕ) → words ≡ xs ++ (ys ++ zs) → length xs ≡ from → from + length ys ≡ to
    → between from to words ≡ ys
unfolding between
between_at words xs ys zs from to e f t = rw (e, drop_at xs (ys ++ zs) from f) (take_at ys zs (to - from) (omega arith))

-- cut to the words that there are, they are the same
pub between_in_reach : (from to start end : ℕ) (words : List ℕ) → end ≡ min to (length words) → start ≡ min from end
    → between start end words ≡ between from to words
unfolding between
between_in_reach from to start end words e f =
    ⊎_elim
    (λ (h : from ≤ end).
    let s : start ≡ from = omega arith in
    ⊎_elim
    (λ (near : to ≤ length words). let t : end ≡ to = omega arith in rw (s, t))
    (λ (far : length words < to).
    let t : end ≡ length words = omega arith in
    rw (
      s,
      t,
      take_all (length words - from) (drop from words) (simp length-drop (omega arith)),
      take_all (to - from) (drop from words) (simp length-drop (omega arith)),
    ))
    (at_most_or_above to (length words)))
    (λ past. none_between start end words (omega arith) ∙ sym (none_between from to words (omega arith)))
    (at_most_or_above from end)
