-- No second outcome meets a promise of the card: of two that meet what the `ensures` says, whatever was lent and given, the answers are equal and so is
-- what was lent, as it stands after it; what is lent to be read is as it was. Stated of the promise itself: one that said less would not settle it.
-- Assumes nothing.
use Prim.{Unit}
use Prim.Native.Nat.{ℕ}
use mathlib.Core.Path.{◌≡◌, refl, sym, ap, ◌∙◌}
use mathlib.Core.List.{List}
use seplogic.Ra.Ura.{Ura}
use base.Logic.{SProp}
use prog.Memory.{Memory}
use prog.Routine.{Routine}
use types.Logic.{Logic}
use contract.Lifetimes.{Lfts}
use contract.Monad.{Fun, fact}
use denote.MutBor.{MutBor}
use denote.Ref.{Bor}
use denote.Triple.Clauses.{AtExit}
use Rattle.std.specs.Prelude.{Result, Ok, Err}
use Rattle.rules.specs.BenchCard.{Scan as RuledScan, scan_of}
use Rattle.hall.specs.declared.bands.Band.{Band}
use Rattle.hall.specs.declared.keys.Key.{Key}
use Rattle.hall.proofs.OneToOne.{refusal_one_to_one, no_refusal_says_0}
use Rattle.card.specs.Records.{bands_of}
use Rattle.card.specs.Says.{scan_says}
use Rattle.card.specs.declared.pass.Held.{Held}
use Rattle.card.specs.declared.pass.Wrong.{Wrong}
use Rattle.card.specs.contracts.scanning.scan as scan
use Rattle.card.proofs.scanning.scan.Reads.{Post as scan_promise}
use Rattle.card.proofs.laying.lay_record.Reads.{Post as lay_promise}
use Rattle.card.proofs.scanning.scan_words.Reads.{Post as scan_words_promise}

-- what an answer says tells it back
says_back : (a b : Result Held Wrong) → scan_says a ≡ scan_says b → a ≡ b
says_back (Ok a) (Ok b) same = λ i. Ok (record { flags = (same i).flags; count = (same i).count })
says_back (Ok a) (Err w) same = absurd (no_refusal_says_0 w.refusal (sym (ap (λ (s : RuledScan). s.refusal) same)))
says_back (Err v) (Ok b) same = absurd (no_refusal_says_0 v.refusal (ap (λ (s : RuledScan). s.refusal) same))
says_back (Err v) (Err w) same =
    let refusals = refusal_one_to_one v.refusal w.refusal (ap (λ (s : RuledScan). s.refusal) same) in
    λ i. Err (record { refusal = refusals i; place = (same i).place })

scan_told_back : {said : RuledScan} (a b : Result Held Wrong) → scan_says a ≡ said → scan_says b ≡ said → a ≡ b
scan_told_back a b e f = says_back a b (e ∙ sym f)

-- ---- over lent bands

-- a slice of bands, and the key
abbrev Given : Type 0
Given = Bor (List Band) × (Key × Unit {0})

-- what is promised of an answer, and of the bands as they stand after it ..
abbrev pub ScanPromise : Given → Result Held Wrong → List Band → Type 0
ScanPromise given r after = (scan_says r ≡ scan_of (bands_of given.0.now) given.1.0.0) × (after ≡ given.0.now)

-- .. is what the `ensures` says, no less and no more, in every model ..
module _ {M : Type 1} {𝓤 : Ura M} (𝓛 : Logic 𝓤) (mem : Memory → SProp 𝓤) (run : Routine → Fun 𝓤) where
  pub promise_is_ensured : (κs : Lfts 1) (given : Given) (r : Result Held Wrong) (end : AtExit scan.ended κs)
      → (scan.clauses 𝓛 mem run κs given).ensures tt r end ≡ fact 𝓤 (ScanPromise given r end.0.now)
  promise_is_ensured κs given r end = refl

-- .. and as the prover reads it
pub promise_is_read : (κs : Lfts 1) (given end : Given) (r : Result Held Wrong) → scan_promise κs given r end ≡ ScanPromise given r end.0.now
promise_is_read κs given end r = refl

pub scan_settled : (given : Given) (a b : Result Held Wrong) (x y : List Band) → ScanPromise given a x → ScanPromise given b y
    → (a ≡ b) × (x ≡ y) × (x ≡ given.0.now)
scan_settled given a b x y p q = (scan_told_back a b p.0 q.0, p.1 ∙ sym q.1, p.1)

-- ---- over words

-- the words, and the key
abbrev WordsGiven : Type 0
WordsGiven = Bor (List ℕ) × (Key × Unit {0})

pub scan_words_settled : (κs : Lfts 1) (given x y : WordsGiven) (a b : Result Held Wrong) → scan_words_promise κs given a x → scan_words_promise κs given b y
    → (a ≡ b) × (x.0.now ≡ y.0.now) × (x.0.now ≡ given.0.now)
scan_words_settled κs given x y a b p q = (scan_told_back a b p.0 q.0, p.1 ∙ sym q.1, p.1)

-- the words, the index and the band
abbrev Laying : Type 0
Laying = MutBor (List ℕ) × (ℕ × (Band × Unit {0}))

pub lay_record_settled : (κs : Lfts 1) (given x y : Laying) (a b : Unit {0}) → lay_promise κs given a x → lay_promise κs given b y → x.0.now ≡ y.0.now
lay_record_settled κs given x y a b p q = p ∙ sym q
