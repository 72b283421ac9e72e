-- "What one call can reach": a change after which only bands of one scope below 64 have come or gone, and so an insert or remove of that scope,
-- accepted or refused, on any memory, sound or not, leaves the stab the same at every key of every other machine: its refusal, flags, count and marks
-- met. Looks may change.
-- Assumes nothing.
use Prim.Native.Nat.{ℕ, ◌<◌}
use mathlib.Core.Path.{◌≡◌, refl, sym, subst}
use mathlib.Core.Bool.{Bool, true, false}
use lib.Dec.{eqb}
use Rattle.rules.specs.HallLine.{Band, machines, own_key}
use Rattle.rules.specs.Profile.{Profile}
use Rattle.rules.specs.Changes.{inserted, removed}
use Rattle.rules.specs.Search.{stab_of}
use Rattle.rules.specs.BoxSaysNo.{stab_refusal, stab_answer}
use Rattle.rules.proofs.Reach.{answers_alike_means}
use Rattle.rules.proofs.Theory.Alone.{DifferOnlyIn, others_alike}
use Rattle.store.specs.Memory.{Memory}
use Rattle.store.specs.SaidProfile.{said_profile}
use Rattle.store.specs.ChangeIn.{change_in}
use Rattle.store.proofs.SaidStands.{said_stands}
use Rattle.store.proofs.ChangeIn.{change_leaves_so, change_leaves}
use Rattle.asking.specs.StabCall.{stab_in}
use Rattle.inserting.specs.InsertCall.{insert_refusal_in, insert_in}
use Rattle.removing.specs.RemoveCall.{remove_refusal_in, remove_in}
use Rattle.asking.proofs.OnSound.{stab_on_sound}
use Rattle.demands.proofs.ChangesOnly.{ChangesOnly, insert_changes_only, remove_changes_its_scope}

-- a stab of the one memory and of the other answers the same at a key, but for the looks
pub record SameStab (m w : Memory) (k : ℕ) : Type 0 where
  pub refusal : (stab_in w k).refusal ≡ (stab_in m k).refusal
  pub flags : (stab_in w k).read.flags ≡ (stab_in m k).read.flags
  pub count : (stab_in w k).read.count ≡ (stab_in m k).read.count
  pub met : (stab_in w k).read.met ≡ (stab_in m k).read.met

-- at every key of every machine other than `scope`, if that is a machine
abbrev pub OthersStabbedAlike : ℕ → Memory → Memory → Type 0
OthersStabbedAlike scope m w =
    scope < machines → (n : ℕ) → n < machines → (n ≡ scope → ⊥) → (k : ℕ) → own_key n k ≡ true → SameStab m w k

-- where nothing changes all stabs are the same
unchanged_alike : (scope : ℕ) (m : Memory) → OthersStabbedAlike scope m m
unchanged_alike scope m l n below off k own = record { refusal = refl; flags = refl; count = refl; met = refl }

-- profiles that answer alike are stabbed alike
alike_stabs : (m w : Memory) (p q : Profile) (k : ℕ) → stab_in m k ≡ stab_answer true p k → stab_in w k ≡ stab_answer true q k
    → ((stab_of p k).flags ≡ (stab_of q k).flags) × ((stab_of p k).count ≡ (stab_of q k).count) × ((stab_of p k).met ≡ (stab_of q k).met)
    → SameStab m w k
unfolding stab_answer
alike_stabs m w p q k before after same = go (eqb (stab_refusal true k) 0) refl
  where
    go : (t : Bool) → eqb (stab_refusal true k) 0 ≡ t → SameStab m w k
    go true e =
        record {
          refusal = rw (before, after);
          flags = rw (before, after, e) (sym same.0);
          count = rw (before, after, e) (sym same.1);
          met = rw (before, after, e) (sym same.2);
        }
    go false e =
        record { refusal = rw (before, after); flags = rw (before, after, e); count = rw (before, after, e); met = rw (before, after, e) }

-- every change after which only bands of that scope have come or gone
pub change_alone : (scope : ℕ) (m : Memory) (refusal : ℕ) (after : Profile) → ChangesOnly (λ b. b.scope ≡ scope) m refusal after
    → OthersStabbedAlike scope m (change_in m refusal after).after
change_alone scope m refusal after change =
    change_leaves_so m refusal after (OthersStabbedAlike scope m) (unchanged_alike scope m) (λ z l n below off k own.
    let w = (change_in m refusal after).after in
    let was = change.was_sound z in
    let left = change_leaves m refusal after change.fitting z in
    let differ = subst (DifferOnlyIn scope (said_profile m)) (sym left.says) (change.others_stay z) in
    alike_stabs m w (said_profile m) (said_profile w) k (stab_on_sound m was k) (stab_on_sound w left.is_sound k)
    ((answers_alike_means (said_profile m) (said_profile w) k).fact
    (others_alike scope (said_profile m) (said_profile w) (said_stands m was) (said_stands w left.is_sound) differ l n below off k own)))

module _ (m : Memory) where
  pub insert_alone : (b : Band) (lo hi : ℕ) → OthersStabbedAlike b.scope m (insert_in m b lo hi).after
  unfolding insert_in
  insert_alone b lo hi =
      change_alone b.scope m (insert_refusal_in m b lo hi) (inserted (said_profile m) b lo hi)
      (insert_changes_only (λ c. c.scope ≡ b.scope) m b lo hi refl)

  pub remove_alone : (number scope : ℕ) → OthersStabbedAlike scope m (remove_in m number scope).after
  unfolding remove_in
  remove_alone number scope =
      change_alone scope m (remove_refusal_in m number scope) (removed (said_profile m) number) (remove_changes_its_scope m number scope)
