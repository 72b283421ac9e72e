-- The pass over the card is the rules' scan: judging by the flags seen is judging by the numbers seen, and what is told after a step for
-- each record is `scan_of` of them. Assumes nothing.
use Prim.Native.Nat.{ℕ, ◌+◌}
use native.Mathlib.Numerals.{add-one}
use native.Mathlib.Omega.{arith}
use mathlib.Core.Path.{◌≡◌, refl, sym, ap, ◌∙◌}
use mathlib.Core.Bool.{Bool, true, false, cond}
use mathlib.Core.List.{List, [], ◌∷◌}
use borrow.Author.Tests.{eqb-true, eqb-false, ne_eqb}
use lib.Count.{ones}
use lib.Dec.{eqb}
use Rattle.rules.specs.Lists.{add_if, member, sum_of}
use Rattle.rules.specs.HallLine.{Band, holds}
use Rattle.rules.specs.Flags.{flags_of}
use Rattle.rules.specs.BoxSaysNo.{line, band_lines, band_fault, key_fault, no_flags}
use Rattle.rules.specs.BenchCard.{Bad, bad, Scan, record_fault, first_bad, card_bad, scanned, scan_of}
use Rattle.rules.proofs.FirstLine.{refusal_then}
use Rattle.rules.proofs.BoxSaysNo.{band_fault_zero}
use Rattle.rules.proofs.BenchCard.{record_fault_of_band, first_bad_past, first_bad_here}
use Rattle.rules.proofs.Marks.{numbers_holding}
use Rattle.rules.proofs.Flags.{flags_of_none, ones_of_flags}
use Rattle.flags.specs.FlagWords.{with_flag, with_flags, flag_is_set}
use Rattle.flags.proofs.FlagWords.{flag_added, flags_added, flag_is_member}
use Rattle.card.specs.Pass.{Pass, bare, begin_of, judge_of, entered_of, step_of, pass_over, told_of}

-- ---- judging a record

module _ (seen : List ℕ) (b : Band) where
  -- a band's own fault comes first ..
  pub judged_by_band : (band_fault b ≡ 0 → ⊥) → judge_of seen b ≡ band_fault b
  unfolding judge_of
  judged_by_band h = rw (ne_eqb (band_fault b) 0 h)

  -- .. and where it has none its number's flag decides
  pub judged_by_number : band_fault b ≡ 0 → judge_of seen b ≡ cond (flag_is_set seen b.number) 8 0
  unfolding judge_of
  judged_by_number z = rw z

  fault_of_number : band_fault b ≡ 0 → record_fault seen b ≡ cond (member b.number seen) 8 0
  unfolding band_fault record_fault
  fault_of_number z =
      refusal_then (band_lines b) (line 8 (member b.number seen) ∷ []) (omega arith) z

-- where the flags are those of the numbers seen, a record is judged as by the rules: the flag is asked only of a number that has one
judged_as_ruled : (seen : List ℕ) (b : Band) → judge_of (flags_of seen) b ≡ record_fault seen b
judged_as_ruled seen b = go (eqb (band_fault b) 0) refl
  where
    go : (t : Bool) → eqb (band_fault b) 0 ≡ t → judge_of (flags_of seen) b ≡ record_fault seen b
    go true e =
        let z = eqb-true (band_fault b) 0 e in
        let right = (band_fault_zero b).0 z in
        judged_by_number (flags_of seen) b z
        ∙ ap (λ (t : Bool). cond t 8 0) (flag_is_member seen b.number (omega arith))
        ∙ sym (fault_of_number seen b z)
    go false e =
        let h = eqb-false (band_fault b) 0 e in
        judged_by_band (flags_of seen) b h ∙ sym (record_fault_of_band seen b h)

-- ---- one step

module _ (p : Pass) (place : ℕ) (b : Band) (k : ℕ) where
  -- once something is wrong nothing changes any more
  pub step_wrong : (p.refusal ≡ 0 → ⊥) → step_of p place b k ≡ p
  unfolding step_of
  step_wrong h = rw (ne_eqb p.refusal 0 h)

  module _ (right : p.refusal ≡ 0) where
    pub step_entered : judge_of p.seen b ≡ 0 → step_of p place b k ≡ entered_of p b k
    unfolding step_of
    step_entered z = rw (right, z)

    pub step_told : (judge_of p.seen b ≡ 0 → ⊥) → step_of p place b k ≡ bare (judge_of p.seen b) place
    unfolding step_of
    step_told h = rw (right, ne_eqb (judge_of p.seen b) 0 h)

pub pass_wrong : (p : Pass) (place : ℕ) (bs : List Band) (k : ℕ) → (p.refusal ≡ 0 → ⊥) → pass_over p place bs k ≡ p
pass_wrong p place [] k h = refl
pass_wrong p place (b ∷ bs) k h = rw (step_wrong p place b k h) (pass_wrong p (place + 1) bs k h)

-- ---- the pass over right records, and the first bad one

-- nothing is wrong after those numbers were seen
right : List ℕ → List ℕ → Pass
right seen flags = record { refusal = 0; place = 0; seen = flags_of seen; flags = flags }

-- what is told of those flags, beside what is wrong
told_with : Bad → List ℕ → Scan
told_with w flags = record { refusal = w.refusal; place = w.place; flags = flags; count = sum_of ones flags }

module _ (k : ℕ) where
  step_right : (seen flags : List ℕ) (place : ℕ) (b : Band) → record_fault seen b ≡ 0
      → step_of (right seen flags) place b k ≡ right (b.number ∷ seen) (cond (holds b k) (with_flag flags b.number) flags)
  unfolding right entered_of
  step_right seen flags place b z =
      step_entered (right seen flags) place b k refl (judged_as_ruled seen b ∙ z) ∙ rw (flag_added seen b.number)

  step_bad : (seen flags : List ℕ) (place : ℕ) (b : Band) → (record_fault seen b ≡ 0 → ⊥)
      → step_of (right seen flags) place b k ≡ bare (record_fault seen b) place
  unfolding right
  step_bad seen flags place b h =
      let e = judged_as_ruled seen b in
      step_told (right seen flags) place b k refl (λ z. h (sym e ∙ z)) ∙ ap (λ (r : ℕ). bare r place) e

  -- what the rules tell of the records from a place on, after those numbers were seen and those flags set
  abbrev ruled_from : List ℕ → List ℕ → ℕ → List Band → Scan
  ruled_from seen flags place bs =
      told_with (first_bad seen place bs) (cond (eqb (first_bad seen place bs).refusal 0) (with_flags flags (numbers_holding bs k)) no_flags)

  held_first : (t : Bool) (flags : List ℕ) (n : ℕ) (ns : List ℕ)
      → with_flags flags (add_if t n ns) ≡ with_flags (cond t (with_flag flags n) flags) ns
  held_first true flags n ns = refl
  held_first false flags n ns = refl

  ruled_right : (seen flags : List ℕ) (place : ℕ) (b : Band) (bs : List Band) → record_fault seen b ≡ 0
      → ruled_from seen flags place (b ∷ bs)
      ≡ ruled_from (b.number ∷ seen) (cond (holds b k) (with_flag flags b.number) flags) (place + 1) bs
  ruled_right seen flags place b bs z =
      rw (first_bad_past seen place b bs z, held_first (holds b k) flags b.number (numbers_holding bs k), add-one)

  ruled_bad : (seen flags : List ℕ) (place : ℕ) (b : Band) (bs : List Band) → (record_fault seen b ≡ 0 → ⊥)
      → ruled_from seen flags place (b ∷ bs) ≡ told_of (bare (record_fault seen b) place)
  unfolding told_with
  ruled_bad seen flags place b bs h = rw (first_bad_here seen place b bs h, ne_eqb (record_fault seen b) 0 h)

  told_from : (seen flags : List ℕ) (place : ℕ) (bs : List Band)
      → told_of (pass_over (right seen flags) place bs k) ≡ ruled_from seen flags place bs
  unfolding right told_with
  told_from seen flags place [] = refl
  told_from seen flags place (b ∷ bs) = go (eqb (record_fault seen b) 0) refl (λ ws p. told_from (b.number ∷ seen) ws p bs)
    where
      go : (t : Bool) → eqb (record_fault seen b) 0 ≡ t
          → ((ws : List ℕ) (p : ℕ) → told_of (pass_over (right (b.number ∷ seen) ws) p bs k) ≡ ruled_from (b.number ∷ seen) ws p bs)
          → told_of (pass_over (right seen flags) place (b ∷ bs) k) ≡ ruled_from seen flags place (b ∷ bs)
      go true e later =
          let z = eqb-true (record_fault seen b) 0 e in
          ap (λ (p : Pass). told_of (pass_over p (place + 1) bs k)) (step_right seen flags place b z)
          ∙ later (cond (holds b k) (with_flag flags b.number) flags) (place + 1)
          ∙ sym (ruled_right seen flags place b bs z)
      go false e later =
          let h = eqb-false (record_fault seen b) 0 e in
          ap (λ (p : Pass). told_of (pass_over p (place + 1) bs k)) (step_bad seen flags place b h)
          ∙ ap told_of (pass_wrong (bare (record_fault seen b) place) (place + 1) bs k h)
          ∙ sym (ruled_bad seen flags place b bs h)

-- ---- the whole card

-- flags set one after the other are those of the list, and their ones its count
told_flags : (w : Bad) (ns : List ℕ) → told_with w (with_flags no_flags ns) ≡ scanned w ns
unfolding told_with
told_flags w ns = rw (← flags_of_none, flags_added [] ns, ones_of_flags ns)

told_card : (w : Bad) (t : Bool) (ns : List ℕ) → told_with w (cond t (with_flags no_flags ns) no_flags) ≡ scanned w (cond t ns [])
told_card w true ns = told_flags w ns
told_card w false ns = told_flags w []

module _ (cards : List Band) (k : ℕ) where
  begins_right : key_fault k ≡ 0 → begin_of k ≡ right [] no_flags
  unfolding begin_of right
  begins_right z = rw (z, flags_of_none)

  scan_by_records : key_fault k ≡ 0
      → scan_of cards k
      ≡ scanned (first_bad [] 1 cards) (cond (eqb (first_bad [] 1 cards).refusal 0) (numbers_holding cards k) [])
  unfolding scan_of card_bad
  scan_by_records z = rw z

  scan_by_key : (key_fault k ≡ 0 → ⊥) → scan_of cards k ≡ scanned (bad (key_fault k) 0) []
  unfolding scan_of card_bad
  scan_by_key h = simp (ne_eqb (key_fault k) 0 h)

  -- what is told after the pass over the card is what the rules say of it
  pub pass_is_scan : told_of (pass_over (begin_of k) 1 cards k) ≡ scan_of cards k
  unfolding begin_of told_with
  pass_is_scan = go (eqb (key_fault k) 0) refl
    where
      go : (t : Bool) → eqb (key_fault k) 0 ≡ t → told_of (pass_over (begin_of k) 1 cards k) ≡ scan_of cards k
      go true e =
          let z = eqb-true (key_fault k) 0 e in
          ap (λ (p : Pass). told_of (pass_over p 1 cards k)) (begins_right z)
          ∙ told_from k [] no_flags 1 cards
          ∙ told_card (first_bad [] 1 cards) (eqb (first_bad [] 1 cards).refusal 0) (numbers_holding cards k)
          ∙ sym (scan_by_records z)
      go false e =
          let h = eqb-false (key_fault k) 0 e in
          ap told_of (pass_wrong (begin_of k) 1 cards k h) ∙ told_flags (bad (key_fault k) 0) [] ∙ sym (scan_by_key h)
