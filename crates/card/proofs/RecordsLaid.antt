-- A record that was laid among the words is read back, and the other records stand as they did: among all records it alone is set. So a card kept
-- in the first words has one record more, at its end, where one is laid next.
-- Assumes nothing.
use Prim.Native.Nat.{ℕ, ◌+◌, ◌*◌, ◌/◌, ◌<◌}
use native.Mathlib.Nat.{add-zero}
use native.Mathlib.Numerals.{add-one}
use native.Mathlib.Omega.{arith}
use mathlib.Core.Path.{◌≡◌, refl, sym, ap, ◌∙◌}
use mathlib.Core.Bool.{Bool, true, false}
use mathlib.Core.List.{List, [], ◌∷◌, ◌++◌}
use borrow.Author.Tests.{ltb-true, ltb-false, eqb-true, eqb-false}
use lib.Dec.{ltb, eqb}
use lib.ListN.{length, get_or, take, set, length-set}
use lib.Seq.{length-sets, get_or-set_same, get_or-set_other, set_out, take-suc-set, ext_get_or}
use Rattle.rules.specs.HallLine.{Band}
use Rattle.rules.proofs.Connectives.{one_if_says}
use Rattle.rules.proofs.Lists.{stored_before, stored_after, stored_at}
use Rattle.card.specs.Records.{record_at, records_in, words_of, with_record}
use Rattle.card.proofs.RecordStored.{laid, record_out, with_record_lem}
use Rattle.card.proofs.Records.{records_length, record_at_index, records_in_first_words}

-- ---- a record

module _ (ws : List ℕ) (i : ℕ) (b : Band) where
  module _ (h : i < length ws / 6) where
    word : (k : ℕ) → k < 6 → get_or (laid ws i b) (i * 6 + k) 0 ≡ get_or (words_of b) k 0
    word k m = stored_at ws (words_of b) (i * 6) k 0 (omega arith) m

    record_laid : record_at (with_record ws i b) i ≡ b
    unfolding record_at
    record_laid =
        let first : get_or (laid ws i b) (i * 6) 0 ≡ b.number = ap (λ (j : ℕ). get_or (laid ws i b) j 0) (sym (add-zero (i * 6))) ∙ word 0 (omega arith) in
        rw (
          with_record_lem ws i b h,
          first,
          word 1 (omega arith),
          word 2 (omega arith),
          word 3 (omega arith),
          word 4 (omega arith),
          word 5 (omega arith),
          one_if_says b.low_closed,
          one_if_says b.high_closed,
        )

    other_word : (j k : ℕ) → (j ≡ i → ⊥) → k < 6 → get_or (laid ws i b) (j * 6 + k) 0 ≡ get_or ws (j * 6 + k) 0
    other_word j k n m = go (ltb j i) refl
      where
        go : (t : Bool) → ltb j i ≡ t → get_or (laid ws i b) (j * 6 + k) 0 ≡ get_or ws (j * 6 + k) 0
        go true e = let l = ltb-true j i e in stored_before ws (words_of b) (i * 6) (j * 6 + k) 0 (omega arith)
        go false e = let l = ltb-false j i e in stored_after ws (words_of b) (i * 6) (j * 6 + k) 0 (omega arith)

    other_record_kept : (j : ℕ) → (j ≡ i → ⊥) → record_at (with_record ws i b) j ≡ record_at ws j
    unfolding record_at
    other_record_kept j n =
        let first : get_or (laid ws i b) (j * 6) 0 ≡ get_or ws (j * 6) 0 = rw add-zero at (other_word j 0 n (omega arith)) in
        rw (
          with_record_lem ws i b h,
          first,
          other_word j 1 n (omega arith),
          other_word j 2 n (omega arith),
          other_word j 3 n (omega arith),
          other_word j 4 n (omega arith),
          other_word j 5 n (omega arith),
        )

-- ---- all records

module _ (ws : List ℕ) (i : ℕ) (b : Band) where
  module _ (h : i < length ws / 6) where
    same_length : length (with_record ws i b) ≡ length ws
    same_length = ap length (with_record_lem ws i b h) ∙ length-sets ws (i * 6) (words_of b)

    -- what stands at an index after the record is laid
    stands : (j : ℕ) → j < length ws / 6 → record_at (with_record ws i b) j ≡ get_or (set (records_in ws) i b) j b
    stands j l = go (eqb j i) refl
      where
        go : (t : Bool) → eqb j i ≡ t → record_at (with_record ws i b) j ≡ get_or (set (records_in ws) i b) j b
        go true e =
            rw (eqb-true j i e) (record_laid ws i b h ∙ sym (get_or-set_same (records_in ws) i b b (omega (arith, records_length ws))))
        go false e =
            let other = eqb-false j i e in
            other_record_kept ws i b h j other
            ∙ sym (get_or-set_other (records_in ws) i j b b other ∙ record_at_index ws b j l)

    set_among_records : records_in (with_record ws i b) ≡ set (records_in ws) i b
    set_among_records =
        ext_get_or b (records_in (with_record ws i b)) (set (records_in ws) i b)
        (omega (arith, size, length-set (records_in ws) i b, records_length ws))
        (λ j l. record_at_index (with_record ws i b) b j (omega (arith, size, same_length)) ∙ stands j (omega (arith, size)))
      where
        size : length (records_in (with_record ws i b)) ≡ length ws / 6
        size = records_length (with_record ws i b) ∙ ap (λ (n : ℕ). n / 6) same_length

  -- the record laid is set at its index, and nothing else; past the last whole place neither changes anything
  pub records_with_record : records_in (with_record ws i b) ≡ set (records_in ws) i b
  records_with_record = go (ltb i (length ws / 6)) refl
    where
      go : (t : Bool) → ltb i (length ws / 6) ≡ t → records_in (with_record ws i b) ≡ set (records_in ws) i b
      go true e = set_among_records (ltb-true i (length ws / 6) e)
      go false e =
          let out = ltb-false i (length ws / 6) e in
          ap records_in (record_out ws i b out) ∙ sym (set_out (records_in ws) i b (omega (arith, records_length ws)))

  -- a card of the first i records, and a record laid after them: the card with that record at its end
  pub record_added : i < length ws / 6 → records_in (take ((i + 1) * 6) (with_record ws i b)) ≡ records_in (take (i * 6) ws) ++ b ∷ []
  record_added h =
      records_in_first_words (with_record ws i b) (i + 1) (omega (arith, same_length h))
      ∙ ap (take (i + 1)) records_with_record
      ∙ rw add-one (take-suc-set (records_in ws) i b (omega (arith, records_length ws)))
      ∙ ap (λ (bs : List Band). bs ++ b ∷ []) (sym (records_in_first_words ws i (omega arith)))
