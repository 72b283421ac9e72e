-- The records kept as words: each at its index, the first of them in the first words; and the words taken six by six are the records.
-- Assumes nothing.
use Prim.Native.Nat.{ℕ, zero, suc, ◌+◌, ◌*◌, ◌/◌, ◌≤◌, ◌<◌}
use native.Mathlib.Nat.{zero-add, add-zero}
use native.Mathlib.Omega.{arith}
use mathlib.Core.Path.{◌≡◌, refl, sym, ap, ◌∙◌}
use mathlib.Core.List.{List, ◌∷◌, map}
use lib.ListN.{length, get_or, take, drop, length-take}
use lib.Seq.{get_or-take, get_or-drop, drop-drop, ext_get_or}
use Rattle.std.specs.Simd.{first_chunks}
use Rattle.rules.specs.HallLine.{Band}
use Rattle.rules.specs.BenchCard.{scan_of}
use Rattle.rules.proofs.Lists.{made_length, made_at}
use Rattle.rules.proofs.BenchCard.{enough_records}
use Rattle.card.specs.Records.{record_at, record_of, records_from, records_in}
use Rattle.card.specs.declared.laying.TheConstants.{MOST_RECORDS}

module _ (ws : List ℕ) where
  pub records_length : length (records_in ws) ≡ length ws / 6
  unfolding records_in
  records_length = made_length (record_at ws) (records_from ws) (λ i. refl) (λ i m. refl) 0 (length ws / 6)

  pub record_at_index : (d : Band) (i : ℕ) → i < length ws / 6 → get_or (records_in ws) i d ≡ record_at ws i
  unfolding records_in
  record_at_index d i h =
      made_at (record_at ws) (records_from ws) (λ j. refl) (λ j m. refl) d 0 (length ws / 6) i h ∙ ap (record_at ws) (zero-add i)

-- ---- the first words

module _ (ws : List ℕ) (m : ℕ) where
  first_record_stands : (i : ℕ) → i < m → record_at (take (m * 6) ws) i ≡ record_at ws i
  unfolding record_at
  first_record_stands i h =
      rw (
        get_or-take (m * 6) ws (i * 6) 0 (omega arith),
        get_or-take (m * 6) ws (i * 6 + 1) 0 (omega arith),
        get_or-take (m * 6) ws (i * 6 + 2) 0 (omega arith),
        get_or-take (m * 6) ws (i * 6 + 3) 0 (omega arith),
        get_or-take (m * 6) ws (i * 6 + 4) 0 (omega arith),
        get_or-take (m * 6) ws (i * 6 + 5) 0 (omega arith),
      )

  -- the first words hold the first records
  pub records_in_first_words : m ≤ length ws / 6 → records_in (take (m * 6) ws) ≡ take m (records_in ws)
  records_in_first_words h =
      ext_get_or d (records_in (take (m * 6) ws)) (take m (records_in ws))
      (omega (arith, size, length-take m (records_in ws), records_length ws))
      (λ i l. record_at_index (take (m * 6) ws) d i (omega (arith, size, long))
      ∙ first_record_stands i (omega (arith, size))
      ∙ sym (get_or-take m (records_in ws) i d (omega (arith, size)) ∙ record_at_index ws d i (omega (arith, size))))
    where
      d : Band
      d = record_at ws 0

      long : length (take (m * 6) ws) ≡ m * 6
      long = omega (arith, length-take (m * 6) ws)

      size : length (records_in (take (m * 6) ws)) ≡ m
      size = omega (arith, long, records_length (take (m * 6) ws))

-- ---- the words six by six

module _ (ws : List ℕ) where
  -- the six words at an index are the record there
  six_here : (i : ℕ) → record_of (take 6 (drop (i * 6) ws)) ≡ record_at ws i
  unfolding record_at
  six_here i =
      let word : (k : ℕ) → k < 6 → get_or (take 6 (drop (i * 6) ws)) k 0 ≡ get_or ws (i * 6 + k) 0 =
      λ k h. get_or-take 6 (drop (i * 6) ws) k 0 h ∙ get_or-drop (i * 6) ws k 0 in
      rw (
        word 0 (omega arith),
        word 1 (omega arith),
        word 2 (omega arith),
        word 3 (omega arith),
        word 4 (omega arith),
        word 5 (omega arith),
        add-zero,
      )

  chunks_from : (m i : ℕ) → map record_of (first_chunks 6 m (drop (i * 6) ws)) ≡ records_from ws i m
  chunks_from zero i = refl
  chunks_from (suc m) i =
      let further : drop 6 (drop (i * 6) ws) ≡ drop (suc i * 6) ws = drop-drop 6 (i * 6) ws ∙ ap (λ (n : ℕ). drop n ws) (omega arith) in
      rw (six_here i, further) (ap (λ (bs : List Band). record_at ws i ∷ bs) (chunks_from m (suc i)))

  pub records_of_chunks : map record_of (first_chunks 6 (length ws / 6) ws) ≡ records_in ws
  unfolding records_in
  records_of_chunks = chunks_from (length ws / 6) 0

-- ---- how many records a card needs room for

-- of any number of records the first so many tell what all tell
pub most_enough : (records : List Band) (k : ℕ) → scan_of (take MOST_RECORDS records) k ≡ scan_of records k
most_enough records k = enough_records records MOST_RECORDS k (omega arith)
