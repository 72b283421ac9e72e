-- The records that a slice has, whatever they are kept as: as many as it has values, each said by the value at its index.
-- Assumes nothing.
use Prim.Native.Nat.{ℕ, suc, ◌+◌, ◌<◌}
use native.Mathlib.Numerals.{add-one}
use mathlib.Core.Path.{◌≡◌, sym, ap, ◌∙◌}
use mathlib.Core.List.{List, ◌∷◌}
use Rattle.std.specs.Prelude.{map}
use lib.ListN.{length, get_or, drop, length-map, get_or-map}
use lib.Seq.{drop-cons}
use Rattle.rules.specs.HallLine.{Band}

module _ {A : Type 0} (says : A → Band) (kept : List A) where
  pub records_length : length (map says kept) ≡ length kept
  records_length = length-map kept says

  -- the value there is as it is read, whatever would stand past the end
  pub record_here : (i : ℕ) (value : A) (b : Band) → i < length kept → value ≡ get_or kept i value → b ≡ says value
      → drop i (map says kept) ≡ b ∷ drop (i + 1) (map says kept)
  record_here i value b h read said =
      rw add-one
      (drop-cons (map says kept) i (says value) (rw records_length h)
      ∙ ap (λ (r : Band). r ∷ drop (suc i) (map says kept)) (get_or-map says kept i value ∙ sym (said ∙ ap says read)))
