-- Whatever comes of a call that changes, if only it meets the call's promise (what the `ensures` of its function says): whatever memory was lent, sound
-- or not, and whatever was given, the answer is the paper's; refused, all memory is as it was; accepted, the band lives as given, or lives no more, and
-- no other changes. Stated of the promises themselves, as Settled is in the crate of each call: one that said less would not lead here.
-- Assumes nothing.
use Prim.{Unit}
use Prim.Native.Nat.{ℕ, ◌≤◌}
use contract.Lifetimes.{Lfts}
use mathlib.Core.Path.{◌≡◌, sym, subst}
use mathlib.Core.Bool.{true, false}
use mathlib.Core.Option.{none, some}
use Rattle.rules.specs.HallLine.{Band, highest_band_number}
use Rattle.rules.specs.Profile.{empty_profile}
use Rattle.rules.specs.Changes.{inserted, removed}
use Rattle.rules.specs.Readouts.{band_read_of}
use Rattle.rules.specs.BoxSaysNo.{Change, saying, empty_refusal}
use Rattle.rules.specs.Calls.{emptying, inserting, removing}
use Rattle.rules.proofs.InsertRefused.{InsertGives}
use Rattle.rules.proofs.RemoveRefused.{RemoveGives}
use Rattle.rules.proofs.OthersRefused.{SizesGive}
use Rattle.std.specs.Prelude.{Result}
use Rattle.hall.specs.declared.answers.Refusal.{Refusal}
use Rattle.hall.specs.declared.entries.Entry.{Entry}
use Rattle.hall.specs.SaidBand.{said}
use Rattle.store.specs.Sizes.{sizes_right}
use Rattle.store.specs.Memory.{Memory, lengths_in, room_in}
use Rattle.store.specs.SaidProfile.{said_profile}
use Rattle.store.specs.Sound.{sound}
use Rattle.store.specs.LentMemory.{StillLent}
use Rattle.store.specs.ChangeIn.{change_in}
use Rattle.store.proofs.LentWords.{LentToChange, also_given, memory_to_change, came_of_change}
use Rattle.store.proofs.ChangeIn.{LeavesSound, change_leaves}
use Rattle.asking.specs.BandCall.{band_in}
use Rattle.asking.specs.NodeCall.{node_in}
use Rattle.emptying.specs.EmptyCall.{empty_in}
use Rattle.emptying.proofs.Accepted.{empty_fitting}
use Rattle.emptying.proofs.EmptyExact.{EmptyMade, empty_makes}
use Rattle.emptying.proofs.Refused.{empty_refused_exactly}
use Rattle.emptying.proofs.empty.Reads.{Post as empty_promise}
use Rattle.inserting.specs.InsertCall.{insert_in}
use Rattle.inserting.proofs.Accepted.{insert_leaves}
use Rattle.inserting.proofs.Refused.{insert_refused_exactly}
use Rattle.inserting.proofs.insert.Reads.{Post as insert_promise}
use Rattle.removing.specs.RemoveCall.{remove_refusal_in, remove_in}
use Rattle.removing.proofs.Accepted.{remove_fitting}
use Rattle.removing.proofs.Refused.{remove_refused_exactly}
use Rattle.removing.proofs.remove.Reads.{Post as remove_promise}
use Rattle.demands.proofs.RefusedUnchanged.{refused_unchanged}
use Rattle.demands.proofs.Lives.{change_ends, insert_lives, insert_no_other, remove_ends, remove_no_other}
use Rattle.demands.proofs.Found.{FoundWhereHeld, FoundNowhere, insert_found, remove_lost}
use Rattle.demands.proofs.LevelStays.{SameLevels, StandsWith, insert_level_stays, remove_level_stays, low_level_given, high_level_given}
use Rattle.demands.proofs.Alone.{OthersStabbedAlike, insert_alone, remove_alone}
use Rattle.demands.proofs.Local.{OtherNumbersKept, insert_local, remove_local}

-- ---- making an empty profile

-- of memory m
pub record EmptyOutcome (m : Memory) (o : Change Memory) : Type 0 where
  -- 0 is answered where sizes are right, and 1 where they are not
  pub answer : SizesGive (sizes_right (lengths_in m)) o.refusal
  -- refused, all three slices are as they were
  pub unchanged : (o.refusal ≡ 0 → ⊥) → o.after ≡ m
  -- in memory of right sizes, whatever it held: sound, as long as it was, no band and no node
  pub makes : sizes_right (lengths_in m) ≡ true → EmptyMade m o
  -- and there no number is live
  pub none_lives : sizes_right (lengths_in m) ≡ true → (number : ℕ) → number ≤ highest_band_number → band_in o.after number ≡ saying 9 (band_read_of none)

empty_outcome : (m : Memory) → EmptyOutcome m (empty_in m)
unfolding empty_in change_in
empty_outcome m =
    record {
      answer = empty_refused_exactly m;
      unchanged = refused_unchanged m emptying;
      makes = empty_makes m;
      none_lives = λ right number h.
          change_ends m (empty_refusal (sizes_right (lengths_in m))) empty_profile (empty_fitting m) (empty_makes m right).accepted number h (λ b i. absurd i);
    }

pub any_empty_outcome : (κs : Lfts 2) (given left : LentToChange (Unit {0})) (a : Result Unit Refusal) → empty_promise κs given a left
    → EmptyOutcome (memory_to_change given) (came_of_change a left) × StillLent given.0.now left.0.now
any_empty_outcome κs given left a meets =
    (subst (EmptyOutcome (memory_to_change given)) (sym meets.0) (empty_outcome (memory_to_change given)), meets.1)

-- ---- inserting a band

-- of band b with levels lo and hi into memory m
pub record InsertOutcome (m : Memory) (b : Band) (lo hi : ℕ) (o : Change Memory) : Type 0 where
  -- each number is answered exactly when its line applies and none before it does, and 0 exactly when none does
  pub answer : InsertGives (sound m ≡ false) (sound m ≡ true) (room_in m) (said_profile m) b lo hi o.refusal
  -- refused, all three slices are as they were
  pub unchanged : (o.refusal ≡ 0 → ⊥) → o.after ≡ m
  -- accepted, memory is sound, says the profile with the band put to it, and is as long as it was
  pub leaves : o.refusal ≡ 0 → LeavesSound m (inserted (said_profile m) b lo hi) o.after
  -- .. and the band lives as given
  pub lives : o.refusal ≡ 0 → band_in o.after b.number ≡ saying 0 (band_read_of (some b))
  -- .. and is found by stabs at the keys that it holds, and at no other
  pub found : o.refusal ≡ 0 → FoundWhereHeld o.after b
  -- every other number's readout stays
  pub no_other : (number : ℕ) → (number ≡ b.number → ⊥) → band_in o.after number ≡ band_in m number
  -- a node keeps its level while it stands
  pub levels : SameLevels m o.after
  -- .. and one made at an end has the level given, at the one end of a one-key band the low end's
  pub low_level : o.refusal ≡ 0 → (node_in m b.low).refusal ≡ 13 → StandsWith lo o.after b.low
  pub high_level : o.refusal ≡ 0 → (b.high ≡ b.low → ⊥) → (node_in m b.high).refusal ≡ 13 → StandsWith hi o.after b.high
  -- other numbers keep their marks outside the reaches of the nodes made or dropped, and gain none there
  pub local : OtherNumbersKept b.number m o.after
  -- a band of one machine leaves flags, count and marks met the same at every key of every other machine
  pub alone : OthersStabbedAlike b.scope m o.after

insert_outcome : (m : Memory) (b : Band) (lo hi : ℕ) → InsertOutcome m b lo hi (insert_in m b lo hi)
insert_outcome m b lo hi =
    record {
      answer = insert_refused_exactly m b lo hi;
      unchanged = refused_unchanged m (inserting b lo hi);
      leaves = insert_leaves m b lo hi;
      lives = insert_lives m b lo hi;
      found = insert_found m b lo hi;
      no_other = insert_no_other m b lo hi;
      levels = insert_level_stays m b lo hi;
      low_level = low_level_given m b lo hi;
      high_level = high_level_given m b lo hi;
      local = insert_local m b lo hi;
      alone = insert_alone m b lo hi;
    }

pub any_insert_outcome : (κs : Lfts 2) (given left : LentToChange (Entry × Unit {0})) (a : Result Unit Refusal) → insert_promise κs given a left
    → InsertOutcome (memory_to_change given) (said (also_given given).0.band) (also_given given).0.low_level (also_given given).0.high_level (came_of_change a left) × StillLent given.0.now left.0.now
any_insert_outcome κs given left a meets =
    (subst (InsertOutcome (memory_to_change given) (said (also_given given).0.band) (also_given given).0.low_level (also_given given).0.high_level) (sym meets.0) (insert_outcome _ _ _ _), meets.1)

-- ---- removing a band

-- of the band of that number, by that scope, from memory m
pub record RemoveOutcome (m : Memory) (number scope : ℕ) (o : Change Memory) : Type 0 where
  -- each number is answered exactly when its line applies and none before it does, and 0 exactly when none does
  pub answer : RemoveGives (sound m ≡ false) (sound m ≡ true) (room_in m) (said_profile m) number scope o.refusal
  -- refused, all three slices are as they were
  pub unchanged : (o.refusal ≡ 0 → ⊥) → o.after ≡ m
  -- accepted, memory is sound, says the profile without the band, and is as long as it was
  pub leaves : o.refusal ≡ 0 → LeavesSound m (removed (said_profile m) number) o.after
  -- .. and the number is live no more
  pub ends : o.refusal ≡ 0 → band_in o.after number ≡ saying 9 (band_read_of none)
  -- .. and is found nowhere
  pub lost : o.refusal ≡ 0 → FoundNowhere o.after number
  -- every other number's readout stays
  pub no_other : (n : ℕ) → (n ≡ number → ⊥) → band_in o.after n ≡ band_in m n
  -- a node keeps its level while it stands
  pub levels : SameLevels m o.after
  -- other numbers keep their marks outside the reaches of the nodes made or dropped, and gain none there
  pub local : OtherNumbersKept number m o.after
  -- a band of one machine leaves flags, count and marks met the same at every key of every other machine
  pub alone : OthersStabbedAlike scope m o.after

remove_outcome : (m : Memory) (number scope : ℕ) → RemoveOutcome m number scope (remove_in m number scope)
unfolding remove_in change_in
remove_outcome m number scope =
    record {
      answer = remove_refused_exactly m number scope;
      unchanged = refused_unchanged m (removing number scope);
      leaves = change_leaves m (remove_refusal_in m number scope) (removed (said_profile m) number) (remove_fitting m number scope);
      ends = remove_ends m number scope;
      lost = remove_lost m number scope;
      no_other = remove_no_other m number scope;
      levels = remove_level_stays m number scope;
      local = remove_local m number scope;
      alone = remove_alone m number scope;
    }

pub any_remove_outcome : (κs : Lfts 2) (given left : LentToChange (ℕ × (ℕ × Unit {0}))) (a : Result Unit Refusal) → remove_promise κs given a left
    → RemoveOutcome (memory_to_change given) (also_given given).0 (also_given given).1.0 (came_of_change a left) × StillLent given.0.now left.0.now
any_remove_outcome κs given left a meets =
    (subst (RemoveOutcome (memory_to_change given) (also_given given).0 (also_given given).1.0) (sym meets.0) (remove_outcome _ _ _), meets.1)
