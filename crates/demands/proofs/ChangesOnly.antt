-- Which bands a change can make come or go: those that pass a test, such as having the call's number, or the call's scope. What holds of all others is
-- proved once of every such change (Lives, Alone, Local); an insert and a remove are such changes.
-- Assumes nothing.
use Prim.Native.Nat.{ℕ}
use mathlib.Core.Path.{◌≡◌}
use mathlib.Core.Bool.{true}
use Rattle.rules.specs.HallLine.{Band}
use Rattle.rules.specs.Profile.{Profile}
use Rattle.rules.specs.Changes.{inserted, removed}
use Rattle.rules.proofs.Lists.{Each}
use Rattle.rules.proofs.Profile.{SameBut}
use Rattle.rules.proofs.Changes.{insert_keeps_others, remove_keeps_others}
use Rattle.store.specs.Memory.{Memory}
use Rattle.store.specs.SaidProfile.{said_profile}
use Rattle.store.specs.Sound.{sound}
use Rattle.store.proofs.ChangeIn.{Fitting}
use Rattle.inserting.specs.InsertCall.{insert_refusal_in}
use Rattle.removing.specs.RemoveCall.{remove_refusal_in}
use Rattle.inserting.proofs.Accepted.{insert_fitting, insert_was_sound}
use Rattle.removing.proofs.Accepted.{remove_fitting, remove_unrefused, remove_was_sound}

-- a change that is accepted only on sound memory, and then only bands that pass the test have come or gone
pub record ChangesOnly (P : Band → Type 0) (m : Memory) (refusal : ℕ) (after : Profile) : Type 0 where
  pub fitting : Fitting m refusal after
  pub was_sound : refusal ≡ 0 → sound m ≡ true
  pub others_stay : refusal ≡ 0 → SameBut P (said_profile m) after

module _ (P : Band → Type 0) (m : Memory) where
  -- an insert, where the band that is given passes
  pub insert_changes_only : (b : Band) (lo hi : ℕ) → P b → ChangesOnly P m (insert_refusal_in m b lo hi) (inserted (said_profile m) b lo hi)
  insert_changes_only b lo hi passes =
      record {
        fitting = insert_fitting m b lo hi;
        was_sound = insert_was_sound m b lo hi;
        others_stay = λ z. insert_keeps_others (said_profile m) b lo hi P passes;
      }

  -- a remove, where the live band of the number passes
  pub remove_changes_only : (number scope : ℕ)
      → (remove_refusal_in m number scope ≡ 0 → Each (λ b. b.number ≡ number → P b) (said_profile m).bands)
      → ChangesOnly P m (remove_refusal_in m number scope) (removed (said_profile m) number)
  remove_changes_only number scope passes =
      record {
        fitting = remove_fitting m number scope;
        was_sound = remove_was_sound m number scope;
        others_stay = λ z. remove_keeps_others (said_profile m) number P (passes z);
      }

module _ (m : Memory) (number scope : ℕ) where
  -- of its number and of its scope
  pub remove_changes_its_number : ChangesOnly (λ b. b.number ≡ number) m (remove_refusal_in m number scope) (removed (said_profile m) number)
  remove_changes_its_number = remove_changes_only (λ b. b.number ≡ number) m number scope (λ z b i e. e)

  pub remove_changes_its_scope : ChangesOnly (λ b. b.scope ≡ scope) m (remove_refusal_in m number scope) (removed (said_profile m) number)
  remove_changes_its_scope = remove_changes_only (λ b. b.scope ≡ scope) m number scope (λ z. (remove_unrefused m number scope z).judged.scope_same)
