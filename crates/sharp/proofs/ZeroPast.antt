-- Memory whose band words are zero past some place: whether it is sound, by a test that goes through the words before that place alone, and once.
-- Assumes nothing.
use Prim.Native.Nat.{ℕ, zero, suc, ◌+◌, ◌-◌, ◌*◌, ◌/◌, ◌%◌, ◌≤◌, ◌<◌}
use mathlib.Core.Path.{◌≡◌, refl, sym, ◌∙◌, ap}
use mathlib.Core.Bool.{Bool, false}
use mathlib.Core.List.{List, [], ◌∷◌, ◌++◌}
use mathlib.Core.Option.{none}
use native.Mathlib.Nat.{sub-zero, suc-sub-suc}
use native.Mathlib.Omega.{arith}
use lib.ListN.{length, get_or, drop, replicate, get_or-eq_default}
use lib.Seq.{get_or-drop, drop-drop}
use Rattle.rules.specs.Connectives.{◌and◌, says_yes}
use Rattle.rules.specs.Lists.{add_if, same_numbers}
use Rattle.rules.specs.HallLine.{Band, band_of}
use Rattle.rules.specs.Profile.{Profile, profile_of, band_numbered}
use Rattle.rules.specs.Room.{Room}
use Rattle.rules.specs.SoundMemory.{sound_in}
use Rattle.rules.proofs.Lists.{same_numbers_means, made_length}
use Rattle.store.specs.Sizes.{band_places, band_place_words, Lengths, lengths_of, lengths_for, room_for, sizes_right}
use Rattle.store.specs.Memory.{Memory, lent, room_in, same_memory}
use Rattle.store.specs.Places.{band_field, live_field, scope_field, low_field, high_field, low_closed_field, high_closed_field}
use Rattle.store.specs.SaidProfile.{said_band, said_bands_from, said_bands, said_nodes, said_profile}
use Rattle.store.specs.Padded.{padded}
use Rattle.store.specs.LaidBands.{laid_band_field, laid_bands_from, laid_bands}
use Rattle.store.specs.LaidNodes.{laid_nodes}
use Rattle.store.specs.LaidMarks.{laid_marks}
use Rattle.store.specs.LaidMemory.{laid_memory}
use Rattle.store.specs.Sound.{sound}
use Rattle.store.proofs.Padded.{padded_length, zeros_read}
use Rattle.store.proofs.SaidBands.{band_where}

-- as many band words as memory of right sizes has
abbrev pub all_band_words : ℕ
all_band_words = band_places * band_place_words

-- ---- the test

-- the bands that m places say, of which the first is that of number b and stands first in the words
abbrev bands_read : ℕ → ℕ → List ℕ → List Band
bands_read b zero words = []
bands_read b (suc m) words =
    let word : ℕ → ℕ = λ f. get_or words f 0 in
    let read : Band = band_of b (word scope_field) (word low_field) (word high_field) (says_yes (word low_closed_field)) (says_yes (word high_closed_field)) in
    add_if (says_yes (word live_field)) read (bands_read (suc b) m (drop band_place_words words))

-- sound, of words that say this profile and have these lengths, where the test of the band words is given
abbrev sound_saying : Profile → Lengths → Bool → List ℕ → List ℕ → Bool
sound_saying p l bands_same ns ms =
    let room : Room = room_for l in
    sizes_right l
    and sound_in room p
    and bands_same
    and same_numbers ns (laid_nodes (lengths_for room).nodes p)
    and same_numbers ms (laid_marks (lengths_for room).marks p)

-- sound, of memory whose band words are those of p places, with zeros past them
unfoldable pub sound_zero_past : ℕ → Memory → Bool
sound_zero_past p m =
    let bands : List Band = bands_read 0 p m.bands in
    let bands_same : Bool = same_numbers m.bands (laid_bands_from bands 0 (p * band_place_words)) in
    sound_saying (profile_of bands (said_nodes m.nodes)) (lengths_of all_band_words (length m.nodes) (length m.marks)) bands_same m.nodes m.marks

-- memory with zeros past its band words
unfoldable pub with_zeros : Memory → Memory
with_zeros m = lent (padded all_band_words m.bands) m.nodes m.marks

-- ---- zeros past words

-- past words as long as each other the same zeros need no test
zeros_same : (n : ℕ) (xs ys : List ℕ) → length xs ≡ length ys → same_numbers (xs ++ replicate n 0) (ys ++ replicate n 0) ≡ same_numbers xs ys
zeros_same n [] [] e = (same_numbers_means (replicate n 0) (replicate n 0)).test refl
zeros_same n [] (y ∷ ys) e = absurd (omega arith)
zeros_same n (x ∷ xs) [] e = absurd (omega arith)
zeros_same n (x ∷ xs) (y ∷ ys) e = rw (zeros_same n xs ys (omega arith))

-- ---- bands are said by field and number; read one place after another they are the same

said_read : (words : List ℕ) (b m : ℕ) → said_bands_from words b m ≡ bands_read b m (drop (b * band_place_words) words)
unfolding said_band band_field
said_read words b zero = refl
said_read words b (suc m) =
    let next : b * band_place_words + band_place_words ≡ suc b * band_place_words = omega arith in
    simp (get_or-drop, drop-drop, next, said_read words (suc b) m)

-- ---- the words of p band places, zeros past them, and the bands that they say

module _ (p : ℕ) (words : List ℕ) (size : length words ≡ p * band_place_words) (few : p ≤ band_places) where
  whole : List ℕ
  whole = padded all_band_words words

  whole_field : (b f : ℕ) → band_field whole b f ≡ band_field words b f
  unfolding whole padded band_field
  whole_field b f = zeros_read words (all_band_words - length words) (b * band_place_words + f)

  past_not_live : (b : ℕ) → p ≤ b → says_yes (band_field words b live_field) ≡ false
  unfolding band_field
  past_not_live b l = ap says_yes (get_or-eq_default words 0 (omega arith))

  whole_says : (b m : ℕ) → said_bands_from whole b m ≡ said_bands_from words b m
  unfolding said_band
  whole_says b zero = refl
  whole_says b (suc m) = simp (whole_field, whole_says (suc b) m)

  past_say_none : (b m : ℕ) → p ≤ b → said_bands_from words b m ≡ []
  past_say_none b zero l = refl
  past_say_none b (suc m) l = rw (past_not_live b l, past_say_none (suc b) m (omega arith))

  first_say : (b m n : ℕ) → p ≤ b + n → n ≤ m → said_bands_from words b m ≡ said_bands_from words b n
  first_say b m zero l h = past_say_none b m (omega arith)
  first_say b zero (suc n) l h = absurd (omega arith)
  first_say b (suc m) (suc n) l h = rw (first_say (suc b) m n (omega arith) (omega arith))

  whole_read : said_bands whole ≡ bands_read 0 p words
  unfolding said_bands
  whole_read = whole_says 0 band_places ∙ first_say 0 band_places p (omega arith) few ∙ said_read words 0 p

  -- ---- what is laid of these bands

  past_none_numbered : (b : ℕ) → p ≤ b → b < band_places → band_numbered b (said_bands whole) ≡ none
  past_none_numbered b l h =
      band_where whole b h false (ap says_yes (whole_field b live_field) ∙ past_not_live b l)

  past_lay_none : (q m : ℕ) → p * band_place_words ≤ q → q + m ≤ all_band_words → laid_bands_from (said_bands whole) q m ≡ replicate m 0
  past_lay_none q zero l h = refl
  past_lay_none q (suc m) l h =
      rw (past_none_numbered (q / band_place_words) (omega arith) (omega arith), past_lay_none (suc q) m (omega arith) (omega arith))

  first_lay : (q m n : ℕ) → p * band_place_words ≤ q + n → n ≤ m → q + m ≤ all_band_words
      → laid_bands_from (said_bands whole) q m ≡ laid_bands_from (said_bands whole) q n ++ replicate (m - n) 0
  first_lay q m zero l h k = rw sub-zero (past_lay_none q m (omega arith) k)
  first_lay q zero (suc n) l h k = absurd (omega arith)
  first_lay q (suc m) (suc n) l h k = rw (suc-sub-suc, first_lay (suc q) m n (omega arith) (omega arith) (omega arith))

  first_laid : List ℕ
  first_laid = laid_bands_from (said_bands whole) 0 (p * band_place_words)

  first_laid_length : length first_laid ≡ p * band_place_words
  unfolding first_laid
  first_laid_length =
      let word : ℕ → ℕ = λ q. laid_band_field (band_numbered (q / band_place_words) (said_bands whole)) (q % band_place_words) in
      made_length word (laid_bands_from (said_bands whole)) (λ q. refl) (λ q m. refl) 0 (p * band_place_words)

  whole_same : same_numbers whole (laid_bands (said_bands whole)) ≡ same_numbers words (laid_bands_from (bands_read 0 p words) 0 (p * band_place_words))
  unfolding laid_bands whole padded first_laid
  whole_same =
      ap (same_numbers whole) (first_lay 0 all_band_words (p * band_place_words) (omega arith) (omega arith) (omega arith))
      ∙ ap (λ n. same_numbers whole (first_laid ++ replicate (all_band_words - n) 0)) (sym size)
      ∙ zeros_same (all_band_words - length words) words first_laid (size ∙ sym first_laid_length)
      ∙ ap (λ bs. same_numbers words (laid_bands_from bs 0 (p * band_place_words))) whole_read

-- memory is sound with the zeros exactly when the test passes
pub sound_zero_past_lem : (p : ℕ) (m : Memory) → length m.bands ≡ p * band_place_words → p ≤ band_places → sound (with_zeros m) ≡ sound_zero_past p m
unfolding sound room_in said_profile same_memory laid_memory whole sound_zero_past with_zeros
sound_zero_past_lem p m size few =
    let lengths = padded_length all_band_words m.bands (omega arith) in
    let read = whole_read p m.bands size few in
    let same = whole_same p m.bands size few in
    let nodes = m.nodes in
    let marks = m.marks in
    λ i. sound_saying (profile_of (read i) (said_nodes nodes)) (lengths_of (lengths i) (length nodes) (length marks)) (same i) nodes marks
