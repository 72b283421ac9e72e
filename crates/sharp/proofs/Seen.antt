-- The memory that the table starts from is sound; and whether a row is right, by a test that goes through the first band places alone.
-- Assumes nothing.
use Prim.Native.Nat.{ℕ, ◌+◌, ◌-◌, ◌*◌, ◌≤◌}
use mathlib.Core.Path.{◌≡◌, refl, sym, ◌∙◌, ap}
use mathlib.Core.Bool.{Bool, true, not}
use native.Mathlib.Omega.{arith}
use lib.Dec.{eqb, ltb}
use lib.ListN.{length, length-set}
use borrow.Author.Tests.{ltb-true}
use Rattle.rules.specs.Connectives.{◌and◌}
use Rattle.rules.specs.Computes.{computes}
use Rattle.rules.proofs.Means.{and_both, both_and}
use Rattle.store.specs.Sizes.{band_places, band_place_words, lengths_for, room_for, sizes_right}
use Rattle.store.specs.Places.{band_field, node_field}
use Rattle.store.specs.Memory.{Memory, lent}
use Rattle.store.specs.SaidProfile.{said_node, said_nodes}
use Rattle.store.specs.Padded.{padded}
use Rattle.store.specs.LaidNodes.{laid_header, laid_node, laid_nodes}
use Rattle.store.specs.LaidMarks.{slot_marks, node_marks, laid_marks}
use Rattle.store.specs.Sound.{sound}
use Rattle.store.proofs.Padded.{padded_length, padded_twice, set_padded, zeros_read}
use Rattle.sharp.specs.Base.{band_words, node_words, mark_words, base}
use Rattle.sharp.specs.Row.{Row, band, node, mark, changed, differs, row_right}
use Rattle.sharp.proofs.ZeroPast.{all_band_words, sound_zero_past, with_zeros, sound_zero_past_lem}

-- ---- a row changes memory with zeros as it changes memory without them

-- the row's word has its place in memory of n band words
abbrev within : ℕ → Row → Bool
within n (band b f word) = ltb (b * band_place_words + f) n
within n (node i f word) = true
within n (mark i word) = true

module _ (m : Memory) where
  differs_with_zeros : (r : Row) → differs r (with_zeros m) ≡ differs r m
  unfolding with_zeros padded band_field
  differs_with_zeros (band b f word) =
      ap (λ stood. not (eqb stood word)) (zeros_read m.bands (all_band_words - length m.bands) (b * band_place_words + f))
  differs_with_zeros (node i f word) = refl
  differs_with_zeros (mark i word) = refl

  changed_with_zeros : (r : Row) → within (length m.bands) r ≡ true → changed r (with_zeros m) ≡ with_zeros (changed r m)
  unfolding with_zeros
  changed_with_zeros (band b f word) h =
      let at : ℕ = b * band_place_words + f in
      ap (λ words. lent words m.nodes m.marks) (set_padded all_band_words m.bands at word (ltb-true at (length m.bands) h))
  changed_with_zeros (node i f word) h = refl
  changed_with_zeros (mark i word) h = refl

  changed_size : (r : Row) → length (changed r m).bands ≡ length m.bands
  changed_size (band b f word) = length-set m.bands (b * band_place_words + f) word
  changed_size (node i f word) = refl
  changed_size (mark i word) = refl

-- ---- the memory of the table, by its first p band places

unfoldable pub first_places : ℕ → Memory
first_places p = lent (padded (p * band_place_words) band_words) node_words mark_words

-- the row's word is another than the one that stood there, and memory with it is not sound
abbrev pub seen : ℕ → Row → Bool
seen p r =
    within (p * band_place_words) r
    and differs r (first_places p)
    and not (sound_zero_past p (changed r (first_places p)))

-- one name that opens every definition that is computed
unfoldable pub opened : Unit {0}
unfolding computes lengths_for room_for sizes_right band_field node_field said_node said_nodes padded laid_header laid_node laid_nodes slot_marks node_marks laid_marks band_words node_words mark_words sound_zero_past first_places
opened = tt

-- the places whose words are written out
abbrev pub written : ℕ
written = 5

written_size : length band_words ≡ written * band_place_words
unfolding band_words
written_size = refl

written_sound : sound_zero_past written (first_places written) ≡ true
unfolding opened
written_sound = refl

module _ (p : ℕ) (enough : written ≤ p) (few : p ≤ band_places) where
  first_size : length (first_places p).bands ≡ p * band_place_words
  unfolding first_places
  first_size = padded_length (p * band_place_words) band_words (omega (arith, written_size))

  base_first : base ≡ with_zeros (first_places p)
  unfolding base first_places with_zeros
  base_first =
      let twice = padded_twice all_band_words (p * band_place_words) band_words (omega (arith, written_size)) (omega arith) in
      ap (λ words. lent words node_words mark_words) (sym twice)

  -- a row that is seen changes memory that is sound to memory that is not
  seen_spoils : (r : Row) → seen p r ≡ true → differs r base and not (sound (changed r base)) ≡ true
  seen_spoils r s =
      let first = first_places p in
      let parts = and_both (within (p * band_place_words) r) (differs r first and not (sound_zero_past p (changed r first))) s in
      let put = changed_with_zeros first r (ap (λ n. within n r) first_size ∙ parts.0) in
      let found = sound_zero_past_lem p (changed r first) (changed_size first r ∙ first_size) few in
      (λ i. differs r (base_first i) and not (sound (changed r (base_first i))))
      ∙ (λ i. differs_with_zeros first r i and not (sound (put i)))
      ∙ ap (λ t. differs r first and not t) found
      ∙ parts.1

pub base_sound : sound base ≡ true
base_sound =
    ap sound (base_first written (omega arith) (omega arith))
    ∙ sound_zero_past_lem written (first_places written) (first_size written (omega arith) (omega arith)) (omega arith)
    ∙ written_sound

-- so it is right
pub seen_right : (p : ℕ) → written ≤ p → p ≤ band_places → (r : Row) → seen p r ≡ true → row_right r ≡ true
unfolding row_right
seen_right p enough few r s = both_and (sound base) (differs r base and not (sound (changed r base))) base_sound (seen_spoils p enough few r s)
