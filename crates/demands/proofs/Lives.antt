-- "An accepted insert makes that band live as given, an accepted remove ends it, and no other band changes", by the band readout. On any memory, sound or
-- not: what is accepted was sound, and what is refused leaves every band as it was.
-- Assumes nothing.
use Prim.Native.Nat.{ℕ, ◌≤◌}
use mathlib.Core.Path.{◌≡◌, refl, sym, ◌∙◌, ap, subst}
use mathlib.Core.Bool.{true}
use mathlib.Core.Logic.{inl}
use mathlib.Core.Option.{none, some}
use native.Mathlib.Omega.{arith}
use Rattle.rules.specs.HallLine.{Band, highest_band_number}
use Rattle.rules.specs.Profile.{Profile}
use Rattle.rules.specs.Changes.{inserted, removed}
use Rattle.rules.specs.Readouts.{band_read_of}
use Rattle.rules.specs.BoxSaysNo.{saying, band_read_answer}
use Rattle.rules.proofs.Lists.{Each}
use Rattle.rules.proofs.Profile.{SameBut, NoneBy, other_number}
use Rattle.rules.proofs.Changes.{in_inserted_bands, in_removed_bands}
use Rattle.rules.proofs.Theory.Lives.{reads_same, not_live_read}
use Rattle.store.specs.Memory.{Memory}
use Rattle.store.specs.SaidProfile.{said_profile}
use Rattle.store.specs.ChangeIn.{change_in}
use Rattle.store.proofs.SaidStands.{sizes_of_sound, said_stands}
use Rattle.store.proofs.ChangeIn.{Fitting, change_leaves_so, change_leaves}
use Rattle.asking.specs.BandCall.{band_in}
use Rattle.inserting.specs.InsertCall.{insert_refusal_in, insert_in}
use Rattle.removing.specs.RemoveCall.{remove_refusal_in, remove_in}
use Rattle.asking.proofs.OnSound.{band_on_sound}
use Rattle.asking.proofs.BandExact.{band_exact, band_refused_9}
use Rattle.inserting.proofs.Accepted.{insert_fitting, insert_unrefused}
use Rattle.removing.proofs.Accepted.{remove_fitting, remove_unrefused}
use Rattle.demands.proofs.ChangesOnly.{ChangesOnly, insert_changes_only, remove_changes_its_number}

-- ---- no other band changes

-- the readout is the same of every number that no band passing the test has, in the one memory or in the other
abbrev pub OthersLive : (Band → Type 0) → Memory → Memory → Type 0
OthersLive P m w = (number : ℕ) → NoneBy P number (said_profile m) → NoneBy P number (said_profile w) → band_in w number ≡ band_in m number

-- every change after which only bands that pass have come or gone
pub change_no_other : (P : Band → Type 0) (m : Memory) (refusal : ℕ) (after : Profile) → ChangesOnly P m refusal after
    → OthersLive P m (change_in m refusal after).after
change_no_other P m refusal after change =
    change_leaves_so m refusal after (OthersLive P m) (λ number x y. refl) (λ z number before there.
    let w = (change_in m refusal after).after in
    let was = change.was_sound z in
    let left = change_leaves m refusal after change.fitting z in
    let same = subst (SameBut P (said_profile m)) (sym left.says) (change.others_stay z) in
    band_on_sound w left.is_sound number
    ∙ sym (reads_same (said_profile m) (said_profile w) same number before there (said_stands w left.is_sound).numbers_ascend_lem true)
    ∙ sym (band_on_sound m was number))

-- .. and where those are the bands of one number, of every other number
number_no_other : (n : ℕ) (m w : Memory) → OthersLive (λ b. b.number ≡ n) m w → (number : ℕ) → (number ≡ n → ⊥) → band_in w number ≡ band_in m number
number_no_other n m w same number other =
    same number (other_number (said_profile m) n number other) (other_number (said_profile w) n number other)

module _ (m : Memory) where
  pub insert_no_other : (b : Band) (lo hi number : ℕ) → (number ≡ b.number → ⊥) → band_in (insert_in m b lo hi).after number ≡ band_in m number
  unfolding insert_in
  insert_no_other b lo hi =
      number_no_other b.number m _
      (change_no_other (λ c. c.number ≡ b.number) m (insert_refusal_in m b lo hi) (inserted (said_profile m) b lo hi)
      (insert_changes_only (λ c. c.number ≡ b.number) m b lo hi refl))

  pub remove_no_other : (n scope number : ℕ) → (number ≡ n → ⊥) → band_in (remove_in m n scope).after number ≡ band_in m number
  unfolding remove_in
  remove_no_other n scope =
      number_no_other n m _
      (change_no_other (λ c. c.number ≡ n) m (remove_refusal_in m n scope) (removed (said_profile m) n) (remove_changes_its_number m n scope))

-- ---- the call's own bands

module _ (m : Memory) (refusal : ℕ) (after : Profile) (owed : Fitting m refusal after) (z : refusal ≡ 0) where
  -- an accepted change makes each band of the profile after it live as given ..
  pub change_lives : Each (λ b. band_in (change_in m refusal after).after b.number ≡ saying 0 (band_read_of (some b))) after.bands
  change_lives b i =
      let left = change_leaves m refusal after owed z in
      let w = (change_in m refusal after).after in
      band_exact w (sizes_of_sound w left.is_sound) b (rw left.says i)

  -- .. and ends every other: the readout is refused by 9
  pub change_ends : (number : ℕ) → number ≤ highest_band_number → Each (λ b. b.number ≡ number → ⊥) after.bands
      → band_in (change_in m refusal after).after number ≡ saying 9 (band_read_of none)
  change_ends number in_range free =
      let left = change_leaves m refusal after owed z in
      band_on_sound (change_in m refusal after).after left.is_sound number
      ∙ ap (λ p. band_read_answer true p number) left.says
      ∙ not_live_read after number in_range free

module _ (m : Memory) where
  -- an accepted insert makes the band live as given
  pub insert_lives : (b : Band) (lo hi : ℕ) → (insert_in m b lo hi).refusal ≡ 0
      → band_in (insert_in m b lo hi).after b.number ≡ saying 0 (band_read_of (some b))
  unfolding insert_in change_in
  insert_lives b lo hi z =
      change_lives m (insert_refusal_in m b lo hi) (inserted (said_profile m) b lo hi) (insert_fitting m b lo hi) z b
      ((in_inserted_bands (said_profile m) b lo hi b).1 (inl refl))

  -- an accepted remove ends it
  pub remove_ends : (number scope : ℕ) → (remove_in m number scope).refusal ≡ 0
      → band_in (remove_in m number scope).after number ≡ saying 9 (band_read_of none)
  unfolding remove_in change_in
  remove_ends number scope z =
      change_ends m (remove_refusal_in m number scope) (removed (said_profile m) number) (remove_fitting m number scope) z number
      (remove_unrefused m number scope z).judged.number_right (λ b i e. ((in_removed_bands (said_profile m) number b).0 i).1 e)

-- ---- so an insert that stores nothing, and a remove that takes nothing away, are shut out: memory is another than before

module _ (m : Memory) where
  pub insert_stores : (b : Band) (lo hi : ℕ) → (insert_in m b lo hi).refusal ≡ 0 → (insert_in m b lo hi).after ≡ m → ⊥
  unfolding insert_in change_in
  insert_stores b lo hi z same =
      let judged = (insert_unrefused m b lo hi z).judged in
      let right = sizes_of_sound m judged.memory_right in
      let before = (band_refused_9 m right b.number judged.band_right.number_right).1 judged.number_free in
      let after = ap (λ a. a.refusal) (insert_lives m b lo hi z) in
      let now = ap (λ w. (band_in w b.number).refusal) same in
      omega (arith, before, after, now)

  pub remove_takes_away : (number scope : ℕ) → (remove_in m number scope).refusal ≡ 0 → (remove_in m number scope).after ≡ m → ⊥
  unfolding remove_in change_in
  remove_takes_away number scope z same =
      let judged = (remove_unrefused m number scope z).judged in
      let live = judged.number_live_lem in
      let before = ap (λ a. a.refusal) (band_exact m (sizes_of_sound m judged.memory_right) live.0 live.1) in
      let after = ap (λ a. a.refusal) (remove_ends m number scope z) in
      let now = ap (λ w. (band_in w number).refusal) same in
      let called = ap (λ n. (band_in m n).refusal) live.2 in
      omega (arith, before, after, now, called)
