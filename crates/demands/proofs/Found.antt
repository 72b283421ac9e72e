-- By the stab: after an accepted insert the band's number is flagged at every key that the band holds and at no other, and after an accepted remove the
-- number is flagged nowhere. On any memory: what is accepted was sound.
-- Assumes nothing.
use Prim.Native.Nat.{ℕ, ◌≤◌, ◌<◌}
use mathlib.Core.Path.{◌≡◌, refl, sym, subst}
use mathlib.Core.Bool.{true}
use mathlib.Core.Logic.Iff
use mathlib.Core.Logic.{◌↔◌, inl}
use native.Mathlib.Omega.{arith}
use Rattle.rules.specs.HallLine.{Band, highest_key, holds}
use Rattle.rules.specs.Profile.{Profile}
use Rattle.rules.specs.Changes.{inserted, removed}
use Rattle.rules.specs.Flags.{flag_count, flag_at}
use Rattle.rules.proofs.Lists.{Each, ascends_once}
use Rattle.rules.proofs.Changes.{in_inserted_bands, in_removed_bands}
use Rattle.store.specs.Memory.{Memory}
use Rattle.store.specs.SaidProfile.{said_profile}
use Rattle.store.specs.Sound.{sound}
use Rattle.store.specs.ChangeIn.{change_in}
use Rattle.store.proofs.SaidStands.{said_stands}
use Rattle.store.proofs.ChangeIn.{Fitting, change_leaves}
use Rattle.asking.specs.StabCall.{stab_in}
use Rattle.asking.proofs.StabExact.{stab_exact}
use Rattle.inserting.specs.InsertCall.{insert_refusal_in, insert_in}
use Rattle.inserting.proofs.Accepted.{insert_fitting}
use Rattle.removing.specs.RemoveCall.{remove_refusal_in, remove_in}
use Rattle.removing.proofs.Accepted.{remove_fitting, remove_unrefused}

-- at each key of the line a stab flags the band's number exactly if the band holds the key
abbrev pub FoundWhereHeld : Memory → Band → Type 0
FoundWhereHeld w b = (k : ℕ) → k ≤ highest_key → (flag_at (stab_in w k).read.flags b.number ≡ 1) ↔ (holds b k ≡ true)

-- no stab flags the number
abbrev pub FoundNowhere : Memory → ℕ → Type 0
FoundNowhere w number = (k : ℕ) → k ≤ highest_key → flag_at (stab_in w k).read.flags number ≡ 1 → ⊥

-- ---- on sound memory

module _ (w : Memory) (s : sound w ≡ true) where
  -- every live band is found where it holds, ..
  pub live_found : Each (FoundWhereHeld w) (said_profile w).bands
  live_found b i k on_line =
      let stands = said_stands w s in
      let in_range : b.number < flag_count = omega (arith, (stands.bands_right_lem b i).number_right) in
      Iff.trans ((stab_exact w s k on_line).1.flags b.number in_range) (
        λ h. subst (λ c. holds c k ≡ true) (ascends_once (λ x. x.number) 0 (said_profile w).bands stands.numbers_ascend_lem h.0 b h.1 i h.2.1) h.2.0,
        λ h. (b, i, (h, refl)),
      )

  -- .. and a number that is not live is found nowhere
  pub not_live_lost : (number : ℕ) → number < flag_count → Each (λ b. b.number ≡ number → ⊥) (said_profile w).bands → FoundNowhere w number
  not_live_lost number in_range free k on_line flag =
      let h = ((stab_exact w s k on_line).1.flags number in_range).0 flag in free h.0 h.1 h.2.1

-- ---- every change that is accepted

module _ (m : Memory) (refusal : ℕ) (after : Profile) (owed : Fitting m refusal after) (z : refusal ≡ 0) where
  pub change_found : Each (FoundWhereHeld (change_in m refusal after).after) after.bands
  change_found b i =
      let left = change_leaves m refusal after owed z in
      live_found (change_in m refusal after).after left.is_sound b (rw left.says i)

  pub change_lost : (number : ℕ) → number < flag_count → Each (λ b. b.number ≡ number → ⊥) after.bands
      → FoundNowhere (change_in m refusal after).after number
  change_lost number in_range free =
      let left = change_leaves m refusal after owed z in
      not_live_lost (change_in m refusal after).after left.is_sound number in_range (subst (λ p. Each (λ b. b.number ≡ number → ⊥) p.bands) (sym left.says) free)

module _ (m : Memory) where
  pub insert_found : (b : Band) (lo hi : ℕ) → (insert_in m b lo hi).refusal ≡ 0 → FoundWhereHeld (insert_in m b lo hi).after b
  unfolding insert_in change_in
  insert_found b lo hi z =
      change_found m (insert_refusal_in m b lo hi) (inserted (said_profile m) b lo hi) (insert_fitting m b lo hi) z b
      ((in_inserted_bands (said_profile m) b lo hi b).1 (inl refl))

  pub remove_lost : (number scope : ℕ) → (remove_in m number scope).refusal ≡ 0 → FoundNowhere (remove_in m number scope).after number
  unfolding remove_in change_in
  remove_lost number scope z =
      let in_range : number < flag_count = omega (arith, (remove_unrefused m number scope z).judged.number_right) in
      change_lost m (remove_refusal_in m number scope) (removed (said_profile m) number) (remove_fitting m number scope) z number in_range
      (λ b i e. ((in_removed_bands (said_profile m) number b).0 i).1 e)
