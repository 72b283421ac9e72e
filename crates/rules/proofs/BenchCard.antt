-- "When the box says no", the bench card: a card is right when each record is right by 2 to 6 and no number stands twice; else the first
-- bad place is told, with the fault of the record there; flags and count are of the records that hold the key, and zero where something is bad.
-- Of more records than there are numbers one is bad, so those that come after them play no part.
-- Assumes nothing.
use Prim.Native.Nat.{ℕ, suc, ◌+◌, ◌≤◌, ◌<◌}
use mathlib.Core.Path.{◌≡◌, refl, sym, ◌∙◌, ap, ap₂}
use mathlib.Core.Bool.{true}
use mathlib.Core.Logic.Iff
use mathlib.Core.Logic.{◌↔◌, ◌⊎◌, inl, inr, ⊎_elim, ⊎_map}
use mathlib.Core.List.{List, [], ◌∷◌, ◌++◌, append-nil, append_assoc}
use native.Mathlib.Omega.{arith}
use borrow.Author.Tests.{eqb-true, eqb-false, eq-eqb, ne_eqb, lt-ltb}
use lib.Dec.{eqb}
use lib.ListN.{length, take, drop, replicate, length-map, length-take, take-append-drop}
use lib.Seq.{take_all}
use Rattle.rules.specs.Lists.{member, count_if}
use Rattle.rules.specs.HallLine.{Band, highest_key, holds}
use Rattle.rules.specs.Flags.{flag_count, flag_at}
use Rattle.rules.specs.BoxSaysNo.{line, key_above, band_lines, key_fault, band_fault}
use Rattle.rules.specs.BenchCard.{bad, record_fault, first_bad, card_bad, scanned, scan_of}
use Rattle.rules.proofs.Means.{passes_or_fails, itself, denied, same_means, lt_means, at_most_or_above}
use Rattle.rules.proofs.Lists.{In, Some, Each, each_cons, all_means, member_means, Distinct, distinct_means, in_middle, in_map}
use Rattle.rules.proofs.Marks.{in_numbers, numbers_of, length_of_numbers, numbers_stay_apart, numbers_holding}
use Rattle.rules.proofs.Flags.{so_many_below, flag_set_where_in, count_without_repeats, flags_of_none, count_of_nothing}
use Rattle.rules.proofs.FirstLine.{refusal_here, refusal_first, refusal_enough, refusal_zero, last_zero}
use Rattle.rules.proofs.BoxSaysNo.{BandRight, numbers_right, band_lines_zero, key_fault_zero, band_fault_zero}

-- ---- one record, after some numbers were seen

module _ (seen : List ℕ) (b : Band) where
  pub record_fault_zero : (record_fault seen b ≡ 0) ↔ (BandRight b × (In b.number seen → ⊥))
  unfolding record_fault
  record_fault_zero =
      band_lines_zero b (line 8 (member b.number seen) ∷ []) (last_zero 8 (omega arith) (denied (member_means b.number seen)))

  -- a band's own fault comes first ..
  pub record_fault_of_band : (band_fault b ≡ 0 → ⊥) → record_fault seen b ≡ band_fault b
  unfolding band_fault record_fault
  record_fault_of_band h = refusal_enough (band_lines b) (line 8 (member b.number seen) ∷ []) h

  -- .. and where it has none a number seen before is told by 8
  pub record_fault_twice : BandRight b → In b.number seen → record_fault seen b ≡ 8
  unfolding band_fault record_fault
  record_fault_twice r i =
      refusal_first (band_lines b) (line 8 (member b.number seen)) []
      ((refusal_zero (band_lines b) (omega arith)).0 ((band_fault_zero b).1 r)) ((member_means b.number seen).test i)

-- the order in which numbers were seen plays no part
fault_in_any_order : (x : ℕ) (xs ys : List ℕ) (b : Band) → record_fault (x ∷ xs ++ ys) b ≡ record_fault (xs ++ x ∷ ys) b
unfolding record_fault
fault_in_any_order x xs ys b =
    let e = in_middle x b.number xs ys in
    rw (same_means (member_means b.number (x ∷ xs ++ ys)) (member_means b.number (xs ++ x ∷ ys)) e.1 e.0)

-- ---- the first bad place

-- each record is right by 2 to 6, and no number stands twice
pub record CardRight (cards : List Band) : Type 0 where
  pub records_right : Each BandRight cards
  pub numbers_apart : Distinct (numbers_of cards)

-- the same, and no number was seen before
abbrev pub RightAfter : List ℕ → List Band → Type 0
RightAfter seen cards = CardRight cards × Each (λ b. In b.number seen → ⊥) cards

nothing_wrong : (seen : List ℕ) → RightAfter seen []
nothing_wrong seen = (record { records_right = λ b i. absurd i; numbers_apart = tt }, λ b i. absurd i)

right_after_cons : (seen : List ℕ) (b : Band) (bs : List Band)
    → RightAfter seen (b ∷ bs) ↔ ((BandRight b × (In b.number seen → ⊥)) × RightAfter (b.number ∷ seen) bs)
right_after_cons seen b bs =
    let m = in_map (λ c. c.number) b.number bs in (
      λ h. let r = (each_cons b bs).0 h.0.records_right in
          let u = (each_cons b bs).0 h.1 in
          let d = h.0.numbers_apart in
          ((r.0, u.0), (record { records_right = r.1; numbers_apart = d.1 }, λ c i. ⊎_elim (λ e. d.0 (m.1 (c, i, e))) (u.1 c i))),
      λ h. (
        record {
          records_right = (each_cons b bs).1 (h.0.0, h.1.0.records_right);
          numbers_apart = (λ i. let s = m.0 i in h.1.1 s.0 s.1 (inl s.2), h.1.0.numbers_apart);
        },
        (each_cons b bs).1 (h.0.1, λ c i j. h.1.1 c i (inr j)),
      ),
    )

-- a right record is passed over ..
pub first_bad_past : (seen : List ℕ) (place : ℕ) (b : Band) (bs : List Band) → record_fault seen b ≡ 0
    → first_bad seen place (b ∷ bs) ≡ first_bad (b.number ∷ seen) (suc place) bs
first_bad_past seen place b bs z = rw (eq-eqb (record_fault seen b) 0 z)

-- .. and a bad one is told
pub first_bad_here : (seen : List ℕ) (place : ℕ) (b : Band) (bs : List Band) → (record_fault seen b ≡ 0 → ⊥)
    → first_bad seen place (b ∷ bs) ≡ bad (record_fault seen b) place
first_bad_here seen place b bs h = rw (ne_eqb (record_fault seen b) 0 h)

pub first_bad_none : (seen : List ℕ) (place : ℕ) (cards : List Band) → RightAfter seen cards → first_bad seen place cards ≡ bad 0 0
first_bad_none seen place [] r = refl
first_bad_none seen place (b ∷ bs) r =
    let h = (right_after_cons seen b bs).0 r in
    first_bad_past seen place b bs ((record_fault_zero seen b).1 h.0) ∙ first_bad_none (b.number ∷ seen) (suc place) bs h.1

-- the first bad record of a card: those before it are right and new, and it is bad after them
pub record FirstBad (seen : List ℕ) (cards : List Band) : Type 0 where
  pub before : List Band
  pub here : Band
  pub after : List Band
  pub split : cards ≡ before ++ here ∷ after
  pub before_right : RightAfter seen before
  pub here_bad : record_fault (seen ++ numbers_of before) here ≡ 0 → ⊥

module _ (seen : List ℕ) (b : Band) (bs : List Band) where
  bad_here : (record_fault seen b ≡ 0 → ⊥) → FirstBad seen (b ∷ bs)
  bad_here h =
      record {
        before = [];
        here = b;
        after = bs;
        split = refl;
        before_right = nothing_wrong seen;
        here_bad = λ z. h (ap (λ s. record_fault s b) (sym (append-nil seen)) ∙ z);
      }

  bad_later : record_fault seen b ≡ 0 → FirstBad (b.number ∷ seen) bs → FirstBad seen (b ∷ bs)
  bad_later z w =
      record {
        before = b ∷ w.before;
        here = w.here;
        after = w.after;
        split = ap (λ cs. b ∷ cs) w.split;
        before_right = (right_after_cons seen b w.before).1 ((record_fault_zero seen b).0 z, w.before_right);
        here_bad = λ y. w.here_bad (fault_in_any_order b.number seen (numbers_of w.before) w.here ∙ y);
      }

-- a card is right, or some record of it is the first bad one
pub right_or_bad : (seen : List ℕ) (cards : List Band) → RightAfter seen cards ⊎ FirstBad seen cards
right_or_bad seen [] = inl (nothing_wrong seen)
right_or_bad seen (b ∷ bs) =
    ⊎_elim
    (λ t. let z = eqb-true (record_fault seen b) 0 t in
    ⊎_map
    (λ r. (right_after_cons seen b bs).1 ((record_fault_zero seen b).0 z, r))
    (bad_later seen b bs z)
    (right_or_bad (b.number ∷ seen) bs))
    (λ t. inr (bad_here seen b bs (eqb-false (record_fault seen b) 0 t)))
    (passes_or_fails (eqb (record_fault seen b) 0))

first_bad_at : (seen : List ℕ) (place : ℕ) (before : List Band) (here : Band) (after : List Band)
    → RightAfter seen before
    → (record_fault (seen ++ numbers_of before) here ≡ 0 → ⊥)
    → first_bad seen place (before ++ here ∷ after) ≡ bad (record_fault (seen ++ numbers_of before) here) (place + length before)
first_bad_at seen place [] here after r h =
    first_bad_here seen place here after (rw append-nil at h) ∙ ap₂ bad (rw append-nil) (omega arith)
first_bad_at seen place (b ∷ bs) here after r h =
    let f = (right_after_cons seen b bs).0 r in
    let same = fault_in_any_order b.number seen (numbers_of bs) here in
    first_bad_past seen place b (bs ++ here ∷ after) ((record_fault_zero seen b).1 f.0)
    ∙ first_bad_at (b.number ∷ seen) (suc place) bs here after f.1 (λ z. h (sym same ∙ z))
    ∙ ap₂ bad same (omega arith)

-- the first bad record is told, at its place, counted on from the place of the card's first
pub first_bad_told : (seen : List ℕ) (place : ℕ) (cards : List Band) (w : FirstBad seen cards)
    → first_bad seen place cards ≡ bad (record_fault (seen ++ numbers_of w.before) w.here) (place + length w.before)
first_bad_told seen place cards w =
    ap (first_bad seen place) w.split ∙ first_bad_at seen place w.before w.here w.after w.before_right w.here_bad

pub first_bad_zero : (seen : List ℕ) (place : ℕ) (cards : List Band) → ((first_bad seen place cards).refusal ≡ 0) ↔ RightAfter seen cards
first_bad_zero seen place cards = (
  λ z. ⊎_elim (λ r. r) (λ w. absurd (w.here_bad (sym (ap (λ b. b.refusal) (first_bad_told seen place cards w)) ∙ z))) (right_or_bad seen cards),
  λ r. ap (λ b. b.refusal) (first_bad_none seen place cards r),
)

-- where a record is bad those that come after play no part
first_bad_stays : (seen : List ℕ) (place : ℕ) (cards more : List Band) → FirstBad seen cards
    → first_bad seen place (cards ++ more) ≡ first_bad seen place cards
first_bad_stays seen place cards more w =
    ap (λ cs. first_bad seen place (cs ++ more)) w.split
    ∙ ap (first_bad seen place) (append_assoc w.before (w.here ∷ w.after) more)
    ∙ first_bad_at seen place w.before w.here (w.after ++ more) w.before_right w.here_bad
    ∙ sym (first_bad_told seen place cards w)

-- ---- the card and its key

module _ (cards : List Band) (k : ℕ) where
  -- the key is judged before the records, with place 0
  pub card_key_bad : highest_key < k → card_bad cards k ≡ bad 4 0
  unfolding card_bad key_fault
  card_key_bad l = rw (refusal_here (key_above k) [] (lt-ltb highest_key k l))

  pub card_records_bad : k ≤ highest_key → card_bad cards k ≡ first_bad [] 1 cards
  unfolding card_bad
  card_records_bad l = rw ((key_fault_zero k).1 l)

  -- the first bad place is counted from 1
  pub card_first_bad : k ≤ highest_key → (w : FirstBad [] cards)
      → card_bad cards k ≡ bad (record_fault (numbers_of w.before) w.here) (1 + length w.before)
  card_first_bad l w = card_records_bad l ∙ first_bad_told [] 1 cards w

  -- a right card and key: nothing is bad, and the place is 0
  pub card_right : k ≤ highest_key → CardRight cards → card_bad cards k ≡ bad 0 0
  card_right l r = card_records_bad l ∙ first_bad_none [] 1 cards (r, λ b i j. j)

  pub card_bad_zero : ((card_bad cards k).refusal ≡ 0) ↔ ((k ≤ highest_key) × CardRight cards)
  card_bad_zero = (
    λ z. ⊎_elim
        (λ l. (l, ((first_bad_zero [] 1 cards).0 (sym (ap (λ b. b.refusal) (card_records_bad l)) ∙ z)).0))
        (λ l. absurd (omega (arith, ap (λ b. b.refusal) (card_key_bad l))))
        (at_most_or_above k highest_key),
    λ h. ap (λ b. b.refusal) (card_right h.0 h.1),
  )

-- ---- flags and count

module _ (cards : List Band) (k : ℕ) where
  -- the card tells what is bad
  pub scan_tells : ((scan_of cards k).refusal ≡ (card_bad cards k).refusal) × ((scan_of cards k).place ≡ (card_bad cards k).place)
  unfolding scan_of
  scan_tells = (refl, refl)

  -- where something is bad flags and count are zero throughout ..
  pub scan_zeros : ((card_bad cards k).refusal ≡ 0 → ⊥) → ((scan_of cards k).flags ≡ replicate 16 0) × ((scan_of cards k).count ≡ 0)
  unfolding scan_of
  scan_zeros h = rw (ne_eqb (card_bad cards k).refusal 0 h) (flags_of_none, count_of_nothing)

  module _ (l : k ≤ highest_key) (r : CardRight cards) where
    -- .. and where nothing is bad those of the records that hold the key
    pub scan_right : scan_of cards k ≡ scanned (bad 0 0) (numbers_holding cards k)
    unfolding scan_of
    scan_right = rw (card_right cards k l r)

    pub scan_flag : (n : ℕ) → n < 1024 → (flag_at (scan_of cards k).flags n ≡ 1) ↔ Some (λ b. (holds b k ≡ true) × (b.number ≡ n)) cards
    scan_flag n h =
        rw scan_right (Iff.trans (flag_set_where_in (numbers_holding cards k) n h) (in_numbers (λ b. itself (holds b k)) n cards))

    pub scan_count : (scan_of cards k).count ≡ count_if (λ b. holds b k) cards
    scan_count =
        ap (λ s. s.count) scan_right
        ∙ count_without_repeats (numbers_holding cards k)
        ((all_means (λ n. lt_means n 1024) (numbers_holding cards k)).test below)
        ((distinct_means (numbers_holding cards k)).test (numbers_stay_apart (λ b. holds b k) cards r.numbers_apart))
        ∙ length_of_numbers (λ b. holds b k) cards
      where
        below : Each (λ n. n < 1024) (numbers_holding cards k)
        below n i =
            let s = (in_numbers (λ b. itself (holds b k)) n cards).0 i in
            let right = r.records_right s.0 s.1 in
            omega arith

-- ---- a card of more records than there are numbers

-- a right card has at most one record for each number
right_card_short : (cards : List Band) → CardRight cards → length cards ≤ flag_count
right_card_short cards r =
    omega (
      arith,
      so_many_below flag_count (numbers_of cards) (numbers_right cards r.records_right) r.numbers_apart,
      length-map cards (λ b. b.number),
    )

module _ (cards more : List Band) (k : ℕ) (w : FirstBad [] cards) where
  not_right : (card_bad cards k).refusal ≡ 0 → ⊥
  not_right z =
      let right = (card_bad_zero cards k).0 z in
      let told = ap (λ b. b.refusal) (card_first_bad cards k right.0 w) in
      w.here_bad (sym told ∙ z)

  bad_as_first : card_bad (cards ++ more) k ≡ card_bad cards k
  unfolding card_bad
  bad_as_first = rw (first_bad_stays [] 1 cards more w)

  scan_as_first : scan_of (cards ++ more) k ≡ scan_of cards k
  unfolding scan_of
  scan_as_first = rw (bad_as_first, ne_eqb (card_bad cards k).refusal 0 not_right)

-- more records than there are numbers tell what all tell: they are all, or one of them is bad
pub enough_records : (cards : List Band) (m k : ℕ) → flag_count < m → scan_of (take m cards) k ≡ scan_of cards k
enough_records cards m k h =
    ⊎_elim
    (λ r. let short = right_card_short (take m cards) r.0 in
    ap (λ cs. scan_of cs k) (take_all m cards (omega (arith, length-take m cards))))
    (λ w. sym (scan_as_first (take m cards) (drop m cards) k w) ∙ ap (λ cs. scan_of cs k) (take-append-drop m cards))
    (right_or_bad [] (take m cards))
