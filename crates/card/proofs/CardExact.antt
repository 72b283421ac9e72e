-- What the card's answer means, of any answer that meets the promise: it is Ok exactly where key and card are right, and then a flag stands
-- exactly where a record of that number holds the key, and the count is how many records do; where something is bad it says no flags and 0 for
-- the count, and what is told is 4 with place 0 of a key above the line, else the fault and the place of the first bad record. Assumes nothing.
use Prim.Native.Nat.{ℕ, ◌+◌, ◌≤◌, ◌<◌}
use native.Mathlib.Omega.{arith}
use mathlib.Core.Path.{◌≡◌, refl, sym, ap, ◌∙◌}
use mathlib.Core.Bool.{Bool, false, true}
use mathlib.Core.Logic.{◌↔◌, ◌⊎◌, inl, inr, ⊎_elim}
use mathlib.Core.List.{List, [], ◌∷◌, ◌++◌}
use borrow.Author.Tests.{eqb-true, eqb-false}
use lib.Dec.{eqb}
use lib.ListN.{length}
use Rattle.std.specs.Prelude.{Result, Ok, Err, IsOk, IsErr, is_err}
use Rattle.rules.specs.Lists.{count_if, member}
use Rattle.rules.specs.HallLine.{Band, highest_key, holds}
use Rattle.rules.specs.Flags.{flag_count, flag_at}
use Rattle.rules.specs.BoxSaysNo.{band_lines, band_fault}
use Rattle.rules.specs.BenchCard.{Scan as RuledScan, Bad, bad, record_fault, card_bad, scan_of}
use Rattle.rules.proofs.Means.{passes_or_fails, denied, at_most_or_above}
use Rattle.rules.proofs.Lists.{In, Some, member_means, in_map}
use Rattle.rules.proofs.Marks.{numbers_of}
use Rattle.rules.proofs.FirstLine.{ordered_from, Lowest, lowest_given}
use Rattle.rules.proofs.BoxSaysNo.{BandRight, band_fault_zero}
use Rattle.rules.proofs.Zeros.{sixteen_zeros, no_flags_zeros}
use Rattle.rules.proofs.BenchCard.{record_fault_zero, record_fault_of_band, record_fault_twice, CardRight, FirstBad, right_or_bad, card_key_bad, card_first_bad, card_bad_zero, scan_tells, scan_zeros, scan_right, scan_flag, scan_count}
use Rattle.hall.specs.Says.{refusal_says}
use Rattle.hall.specs.declared.answers.Refusal.{Refusal}
use Rattle.hall.proofs.OneToOne.{refusal_one_to_one, no_refusal_says_0}
use Rattle.card.specs.Says.{scan_says}
use Rattle.card.specs.declared.pass.Held.{Held}
use Rattle.card.specs.declared.pass.Wrong.{Wrong}

-- the key is on the line, each record is right by 2 to 6, no number stands twice, and nothing is told but the records that hold the key
pub record ExactScan (records : List Band) (k : ℕ) (said : RuledScan) : Type 0 where
  pub key_on_line : k ≤ highest_key
  pub card_right : CardRight records
  pub no_place : said.place ≡ 0
  pub flags_exact : (n : ℕ) → n < flag_count → (flag_at said.flags n ≡ 1) ↔ Some (λ b. (holds b k ≡ true) × (b.number ≡ n)) records
  pub count_exact : said.count ≡ count_if (λ b. holds b k) records

-- the fault of a record after those before it: the lowest of 2 to 6 that applies to it, or, where none does, 8 where one before it has its number
abbrev pub FaultAfter : List Band → Band → ℕ → Type 0
FaultAfter before b fault = Lowest (band_lines b) fault ⊎ (BandRight b × Some (λ c. c.number ≡ b.number) before × (fault ≡ 8))

-- the records before that place, counted from 1, are right, and the one there has that fault after them
pub record FirstBadRecord (records : List Band) (fault place : ℕ) : Type 0 where
  pub before : List Band
  pub here : Band
  pub after : List Band
  pub split : records ≡ before ++ here ∷ after
  pub before_right : CardRight before
  pub fault_here : FaultAfter before here fault
  pub place_here : place ≡ 1 + length before

-- ---- the first bad record is the rules' one

band_fault_given : (b : Band) (fault : ℕ) → 0 < fault → (band_fault b ≡ fault) ↔ Lowest (band_lines b) fault
unfolding band_fault
band_fault_given b fault = lowest_given (band_lines b) (omega arith) fault

module _ (before : List Band) (b : Band) where
  seen_before : In b.number (numbers_of before) ↔ Some (λ c. c.number ≡ b.number) before
  seen_before = in_map (λ c. c.number) b.number before

  fault_as_ruled : (fault : ℕ) → FaultAfter before b fault → (record_fault (numbers_of before) b ≡ fault) × (0 < fault)
  fault_as_ruled fault (inl g) =
      let line_above = ordered_from 1 (band_lines b) (omega arith) g.0.0 g.0.1 in
      let line_number = g.0.2.1 in
      let above : 0 < fault = omega arith in
      let e = (band_fault_given b fault above).1 g in
      (record_fault_of_band (numbers_of before) b (λ z. omega arith) ∙ e, above)
  fault_as_ruled fault (inr t) = let e = t.2 in (record_fault_twice (numbers_of before) b t.0 (seen_before.1 t.1) ∙ sym e, omega arith)

  module _ (h : record_fault (numbers_of before) b ≡ 0 → ⊥) where
    by_band : (band_fault b ≡ 0 → ⊥) → Lowest (band_lines b) (record_fault (numbers_of before) b)
    by_band own = rw (record_fault_of_band (numbers_of before) b own) ((band_fault_given b (band_fault b) (omega arith)).0 refl)

    number_seen : BandRight b → In b.number (numbers_of before)
    number_seen right =
        let m = member_means b.number (numbers_of before) in
        ⊎_elim
        m.fact
        (λ f. absurd (h ((record_fault_zero (numbers_of before) b).1 (right, (denied m).fact f))))
        (passes_or_fails (member b.number (numbers_of before)))

    by_number : BandRight b → BandRight b × Some (λ c. c.number ≡ b.number) before × (record_fault (numbers_of before) b ≡ 8)
    by_number right = (right, seen_before.0 (number_seen right), record_fault_twice (numbers_of before) b right (number_seen right))

    ruled_fault : FaultAfter before b (record_fault (numbers_of before) b)
    ruled_fault =
        ⊎_elim
        (λ t. inr (by_number ((band_fault_zero b).0 (eqb-true (band_fault b) 0 t))))
        (λ f. inl (by_band (eqb-false (band_fault b) 0 f)))
        (passes_or_fails (eqb (band_fault b) 0))

module _ (records : List Band) where
  as_ruled : (fault place : ℕ) → FirstBadRecord records fault place → FirstBad [] records
  as_ruled fault place w =
      let f = fault_as_ruled w.before w.here fault w.fault_here in
      record {
        before = w.before;
        here = w.here;
        after = w.after;
        split = w.split;
        before_right = (w.before_right, λ b i j. j);
        here_bad = λ z. omega (arith, f);
      }

  in_plain_words : (w : FirstBad [] records)
      → FirstBadRecord records (record_fault (numbers_of w.before) w.here) (1 + length w.before)
  in_plain_words w =
      record {
        before = w.before;
        here = w.here;
        after = w.after;
        split = w.split;
        before_right = w.before_right.0;
        fault_here = ruled_fault w.before w.here w.here_bad;
        place_here = refl;
      }

-- ---- what the rules' scan says

module _ (records : List Band) (k : ℕ) where
  accepted : ((scan_of records k).refusal ≡ 0) ↔ ((k ≤ highest_key) × CardRight records)
  accepted = rw (scan_tells records k).0 (card_bad_zero records k)

  exact : (scan_of records k).refusal ≡ 0 → ExactScan records k (scan_of records k)
  exact z =
      let both = accepted.0 z in
      record {
        key_on_line = both.0;
        card_right = both.1;
        no_place = ap (λ (s : RuledScan). s.place) (scan_right records k both.0 both.1);
        flags_exact = scan_flag records k both.0 both.1;
        count_exact = scan_count records k both.0 both.1;
      }

-- ---- an answer and the number that it says

ok_says_0 : (r : Result Held Wrong) → IsOk r ↔ ((scan_says r).refusal ≡ 0)
ok_says_0 (Ok h) = (λ ok. refl, λ z. refl)
ok_says_0 (Err w) = (λ ok. absurd (let never : ◌≡◌ {A = Bool} false true = ok in cc), λ z. absurd (no_refusal_says_0 w.refusal z))

err_says : (r : Result Held Wrong) → IsErr r → (scan_says r).refusal ≡ 0 → ⊥
err_says (Ok h) err z = let never : ◌≡◌ {A = Bool} false true = err in cc
err_says (Err w) err z = no_refusal_says_0 w.refusal z

-- any number but 0 is said of something wrong
wrong_of : (r : Result Held Wrong) → ((scan_says r).refusal ≡ 0 → ⊥) → (w : Wrong) × (r ≡ Err w)
wrong_of (Ok h) some = absurd (some refl)
wrong_of (Err w) some = (w, refl)

-- ---- what an answer means that meets the promise

module _ (records : List Band) (k : ℕ) (r : Result Held Wrong) (meets : scan_says r ≡ scan_of records k) where
  pub accepted_where_right : IsOk r ↔ ((k ≤ highest_key) × CardRight records)
  accepted_where_right =
      let number = ap (λ (s : RuledScan). s.refusal) meets in (
        λ ok. (accepted records k).0 (sym number ∙ (ok_says_0 r).0 ok),
        λ right. (ok_says_0 r).1 (number ∙ (accepted records k).1 right),
      )

  pub scan_exact : IsOk r → ExactScan records k (scan_says r)
  scan_exact ok = rw meets (exact records k (ap (λ (s : RuledScan). s.refusal) (sym meets) ∙ (ok_says_0 r).0 ok))

  -- beside something bad the sixteen words of flags are 0, and the count is
  pub bad_card_zeros : IsErr r → ((scan_says r).flags ≡ sixteen_zeros) × ((scan_says r).count ≡ 0)
  bad_card_zeros err =
      let zeros = scan_zeros records k (λ z. err_says r err (ap (λ (s : RuledScan). s.refusal) meets ∙ (scan_tells records k).0 ∙ z)) in
      (ap (λ (s : RuledScan). s.flags) meets ∙ zeros.0 ∙ no_flags_zeros, ap (λ (s : RuledScan). s.count) meets ∙ zeros.1)

  -- the answer tells what the rules find bad
  told : (b : Bad) → (b.refusal ≡ 0 → ⊥) → card_bad records k ≡ b
      → (w : Wrong) × (r ≡ Err w) × (refusal_says w.refusal ≡ b.refusal) × (w.place ≡ b.place)
  told b some e =
      let number : (scan_says r).refusal ≡ b.refusal =
      ap (λ (s : RuledScan). s.refusal) meets ∙ (scan_tells records k).0 ∙ ap (λ (c : Bad). c.refusal) e in
      let place : (scan_says r).place ≡ b.place =
      ap (λ (s : RuledScan). s.place) meets ∙ (scan_tells records k).1 ∙ ap (λ (c : Bad). c.place) e in
      let w = wrong_of r (λ z. some (sym number ∙ z)) in (
        w.0,
        w.1,
        ap (λ s. (scan_says s).refusal) (sym w.1) ∙ number,
        ap (λ s. (scan_says s).place) (sym w.1) ∙ place,
      )

  -- a key above the line is told by the refusal of number 4, with place 0, whatever the records
  pub key_above_told : highest_key < k → r ≡ Err (record { refusal = Refusal.KeyAbove; place = 0 })
  key_above_told above =
      let t = told (bad 4 0) (λ z. omega arith) (card_key_bad records k above) in
      let same = refusal_one_to_one t.0.refusal Refusal.KeyAbove t.2 in
      t.1 ∙ (λ i. Err (record { refusal = same i; place = t.3 i }))

  -- with a key on the line the first bad record is told, by its fault and its place ..
  pub first_bad_record_told : k ≤ highest_key → (fault place : ℕ) → FirstBadRecord records fault place
      → (w : Wrong) × (r ≡ Err w) × (refusal_says w.refusal ≡ fault) × (w.place ≡ place)
  unfolding as_ruled
  first_bad_record_told on_line fault place first =
      let f = fault_as_ruled first.before first.here fault first.fault_here in
      let t = told _ (λ z. omega (arith, z, f)) (card_first_bad records k on_line (as_ruled records fault place first)) in
      (t.0, t.1, t.2 ∙ f.0, t.3 ∙ sym first.place_here)

  -- .. and anything wrong is told for one of these two
  pub refusal_explained : (w : Wrong) → r ≡ Err w
      → ((highest_key < k) × (refusal_says w.refusal ≡ 4) × (w.place ≡ 0))
      ⊎ ((k ≤ highest_key) × FirstBadRecord records (refusal_says w.refusal) w.place)
  refusal_explained w e =
      ⊎_elim
      (λ on_line. inr (on_line, found on_line))
      (λ above. let same = number_and_place (key_above_told above) in inl (above, same.0, same.1))
      (at_most_or_above k highest_key)
    where
      number_and_place : {v : Wrong} → r ≡ Err v → (refusal_says w.refusal ≡ refusal_says v.refusal) × (w.place ≡ v.place)
      number_and_place f = (ap (λ s. (scan_says s).refusal) (sym e ∙ f), ap (λ s. (scan_says s).place) (sym e ∙ f))

      found : k ≤ highest_key → FirstBadRecord records (refusal_says w.refusal) w.place
      found on_line =
          ⊎_elim
          (λ right. absurd (err_says r (ap (λ s. is_err s) e) ((ok_says_0 r).0 (accepted_where_right.1 (on_line, right.0)))))
          (λ first. let t = told _ first.here_bad (card_first_bad records k on_line first) in
          let n = number_and_place t.1 in rw (n.0 ∙ t.2, n.1 ∙ t.3) (in_plain_words records first))
          (right_or_bad [] records)
