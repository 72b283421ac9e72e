-- A box that refuses everything is shut out: into an empty profile, in every memory of right sizes, however small its room, a one_key band goes in,
-- and out again.
-- Assumes nothing.
use Prim.Native.Nat.{ℕ}
use mathlib.Core.Path.{◌≡◌, refl, ◌∙◌, subst}
use mathlib.Core.Bool.{true}
use native.Mathlib.Omega.{arith}
use Rattle.rules.specs.HallLine.{Band, house}
use Rattle.rules.proofs.NodesLanesEdges.{Level}
use Rattle.rules.proofs.BoxSaysNo.{BandRight}
use Rattle.rules.proofs.Theory.OneBand.{alone, inserted_alone, one_key_goes_in, one_key_goes_out, zero_band, zero_band_right}
use Rattle.store.specs.Sizes.{sizes_right}
use Rattle.store.specs.Memory.{Memory, lengths_in, room_in}
use Rattle.store.proofs.ChangeIn.{LeavesSound}
use Rattle.emptying.specs.EmptyCall.{empty_in}
use Rattle.inserting.specs.InsertCall.{insert_in}
use Rattle.removing.specs.RemoveCall.{remove_in}
use Rattle.demands.proofs.FromEmpty.{room_right, emptied, insert_answers, remove_answers, with_band_lem}

module _ (b : Band) (one_key : b.low ≡ b.high) (right : BandRight b) (lo hi : ℕ) (levels : Level lo × Level hi) (m : Memory)
    (sizes : sizes_right (lengths_in m) ≡ true) where
  -- whatever memory of right sizes held: made empty, it takes a right one_key band with right levels ..
  pub one_key_insert_accepted : (insert_in (empty_in m).after b lo hi).refusal ≡ 0
  one_key_insert_accepted = insert_answers (emptied m sizes) b lo hi ∙ one_key_goes_in (room_in m) (room_right m sizes) b right lo hi levels one_key

  -- .. and gives it up again
  pub one_key_remove_accepted : (remove_in (insert_in (empty_in m).after b lo hi).after b.number b.scope).refusal ≡ 0
  one_key_remove_accepted =
      let w = (insert_in (empty_in m).after b lo hi).after in
      let says : LeavesSound m (alone b lo) w =
      subst (λ p. LeavesSound m p w) (inserted_alone b lo hi one_key) (with_band_lem (emptied m sizes) b lo hi one_key_insert_accepted) in
      remove_answers says b.number b.scope ∙ one_key_goes_out (room_in m) (room_right m sizes) b right lo hi levels

module _ (m : Memory) (sizes : sizes_right (lengths_in m) ≡ true) where
  -- among them the house band of number 0, [0,0], with levels 1 and 1: its insert is accepted ..
  pub some_insert_accepted : (insert_in (empty_in m).after zero_band 1 1).refusal ≡ 0
  some_insert_accepted = one_key_insert_accepted zero_band refl zero_band_right 1 1 (omega arith) m sizes

  -- .. and its remove
  pub some_remove_accepted : (remove_in (insert_in (empty_in m).after zero_band 1 1).after 0 house).refusal ≡ 0
  some_remove_accepted = one_key_remove_accepted zero_band refl zero_band_right 1 1 (omega arith) m sizes
