-- When making an empty profile, a stab and each readout say no, number by number in plain words. What a readout finds is given as facts: that the
-- number is live or is not, that a node with the lane is there or is not; so the laws serve readouts of profiles and of words alike.
-- Assumes nothing.
use Prim.Native.Nat.{ℕ, ◌≤◌, ◌<◌}
use mathlib.Core.Path.{◌≡◌}
use mathlib.Core.Bool.{Bool, true, false}
use mathlib.Core.Logic.Iff
use mathlib.Core.Logic.{◌↔◌, ◌⊎◌}
use mathlib.Core.List.{List, [], ◌∷◌}
use native.Mathlib.Omega.{arith}
use Rattle.rules.specs.HallLine.{highest_key, highest_band_number}
use Rattle.rules.specs.BoxSaysNo.{TableLine, refusal_by, sizes_wrong, number_above, key_above, not_live, not_there, empty_refusal, stab_refusal, band_read_lines, edge_read_lines, node_read_lines, room_read_refusal}
use Rattle.rules.proofs.Means.{Means, Fails, itself, not_means, not_fails, lt_fails}
use Rattle.rules.proofs.FirstLine.{Without, line_own, last_own, line_zero, last_zero, line_passed, line_gives}
use Rattle.rules.proofs.BoxSaysNo.{sizes_wrong_means, number_above_means, key_above_means, empty_accepted, room_accepted, stab_accepted}

-- ---- empty, room readout: only 1

pub record SizesGive (sizes_right : Bool) (n : ℕ) : Type 0 where
  pub gives_1 : (n ≡ 1) ↔ (sizes_right ≡ false)
  pub gives_0 : (n ≡ 0) ↔ (sizes_right ≡ true)

module _ (sizes_right : Bool) where
  pub empty_gives : SizesGive sizes_right (empty_refusal sizes_right)
  unfolding empty_refusal
  empty_gives =
      record {
        gives_1 = line_gives (sizes_wrong sizes_right) [] (omega arith) tt (sizes_wrong_means sizes_right);
        gives_0 = empty_accepted sizes_right;
      }

  pub room_gives : SizesGive sizes_right (room_read_refusal sizes_right)
  unfolding room_read_refusal
  room_gives =
      record {
        gives_1 = line_gives (sizes_wrong sizes_right) [] (omega arith) tt (sizes_wrong_means sizes_right);
        gives_0 = room_accepted sizes_right;
      }

-- ---- band readout: 1, 3 and 9

pub record BandGives (sizes_right : Bool) (NotLive Live : Type 0) (number n : ℕ) : Type 0 where
  pub gives_1 : (n ≡ 1) ↔ (sizes_right ≡ false)
  pub gives_3 : (n ≡ 3) ↔ ((sizes_right ≡ true) × (highest_band_number < number))
  pub gives_9 : (n ≡ 9) ↔ ((sizes_right ≡ true) × (number ≤ highest_band_number) × NotLive)
  pub gives_0 : (n ≡ 0) ↔ ((sizes_right ≡ true) × (number ≤ highest_band_number) × Live)

pub band_gives : {NotLive Live : Type 0} {live : Bool} (sizes_right : Bool) (number : ℕ) → Fails live NotLive → Means live Live
    → BandGives sizes_right NotLive Live number (refusal_by (band_read_lines sizes_right number live))
band_gives {NotLive} {Live} {live} sizes_right number free lives =
    record {
      gives_1 = line_gives (sizes_wrong sizes_right) (number_above number ∷ not_live live ∷ []) (omega arith) (omega arith) (sizes_wrong_means sizes_right);
      gives_3 =
          line_passed (sizes_wrong sizes_right) (number_above number ∷ not_live live ∷ []) (omega arith) (not_fails (itself sizes_right))
          (line_gives (number_above number) (not_live live ∷ []) (omega arith) (omega arith) (number_above_means number));
      gives_9 = past_3 9 (omega arith) (last_own 9 (omega arith) (not_means free));
      gives_0 = past_3 0 (omega arith) (last_zero 9 (omega arith) (not_fails lives));
    }
  where
    -- a number other than 1 and 3 is given where neither applies and the last line gives it
    past_3 : {Y : Type 0} (s : ℕ) → (1 ≡ s → ⊥) × (3 ≡ s → ⊥) → (refusal_by (not_live live ∷ []) ≡ s) ↔ Y
        → (refusal_by (band_read_lines sizes_right number live) ≡ s) ↔ ((sizes_right ≡ true) × (number ≤ highest_band_number) × Y)
    past_3 s other e =
        Iff.trans
        (line_passed (sizes_wrong sizes_right) (number_above number ∷ not_live live ∷ []) other.0 (not_fails (itself sizes_right))
        (line_passed (number_above number) (not_live live ∷ []) other.1 (lt_fails highest_band_number number) e))
        (λ f. (f.0, f.1.0, f.1.1), λ f. (f.0, (f.1, f.2)))

-- ---- where a key is given: 1 and 4

pub record StabGives (sizes_right : Bool) (k n : ℕ) : Type 0 where
  pub gives_1 : (n ≡ 1) ↔ (sizes_right ≡ false)
  pub gives_4 : (n ≡ 4) ↔ ((sizes_right ≡ true) × (highest_key < k))
  pub gives_0 : (n ≡ 0) ↔ ((sizes_right ≡ true) × (k ≤ highest_key))

-- .. and 13 where what is asked for is not there
pub record ThereGives (sizes_right : Bool) (NotThere There : Type 0) (k n : ℕ) : Type 0 where
  pub gives_1 : (n ≡ 1) ↔ (sizes_right ≡ false)
  pub gives_4 : (n ≡ 4) ↔ ((sizes_right ≡ true) × (highest_key < k))
  pub gives_13 : (n ≡ 13) ↔ ((sizes_right ≡ true) × (k ≤ highest_key) × NotThere)
  pub gives_0 : (n ≡ 0) ↔ ((sizes_right ≡ true) × (k ≤ highest_key) × There)

module _ (sizes_right : Bool) (k : ℕ) where
  -- 1 and 4 before lines of other numbers
  module _ (ls : List TableLine) (others : Without 1 ls × Without 4 ls) where
    abbrev lines : List TableLine
    lines = sizes_wrong sizes_right ∷ key_above k ∷ ls

    first_1 : (refusal_by lines ≡ 1) ↔ (sizes_right ≡ false)
    first_1 = line_gives (sizes_wrong sizes_right) (key_above k ∷ ls) (omega arith) (omega arith, others.0) (sizes_wrong_means sizes_right)

    then_4 : (refusal_by lines ≡ 4) ↔ ((sizes_right ≡ true) × (highest_key < k))
    then_4 =
        line_passed (sizes_wrong sizes_right) (key_above k ∷ ls) (omega arith) (not_fails (itself sizes_right))
        (line_gives (key_above k) ls (omega arith) others.1 (key_above_means k))

    past_4 : {Y : Type 0} (s : ℕ) → (1 ≡ s → ⊥) × (4 ≡ s → ⊥) → (refusal_by ls ≡ s) ↔ Y
        → (refusal_by lines ≡ s) ↔ ((sizes_right ≡ true) × (k ≤ highest_key) × Y)
    past_4 s other e =
        Iff.trans
        (line_passed (sizes_wrong sizes_right) (key_above k ∷ ls) other.0 (not_fails (itself sizes_right))
        (line_passed (key_above k) ls other.1 (lt_fails highest_key k) e))
        (λ f. (f.0, f.1.0, f.1.1), λ f. (f.0, (f.1, f.2)))

  pub stab_gives : StabGives sizes_right k (stab_refusal sizes_right k)
  unfolding stab_refusal
  stab_gives = record { gives_1 = first_1 [] (tt, tt); gives_4 = then_4 [] (tt, tt); gives_0 = stab_accepted sizes_right k }

  pub node_gives : {NoNode Node : Type 0} {stands : Bool} → Fails stands NoNode → Means stands Node
      → ThereGives sizes_right NoNode Node k (refusal_by (node_read_lines sizes_right k stands))
  node_gives {stands} off on =
      let last = not_there stands ∷ [] in
      record {
        gives_1 = first_1 last (omega arith);
        gives_4 = then_4 last (omega arith);
        gives_13 = past_4 last (omega arith) 13 (omega arith) (last_own 13 (omega arith) (not_means off));
        gives_0 = past_4 last (omega arith) 0 (omega arith) (last_zero 13 (omega arith) (not_fails on));
      }

  pub edge_gives : {NoNode Node NoLane Lane : Type 0} {stands has_lane : Bool} → Fails stands NoNode → Means stands Node
      → Fails has_lane NoLane → Means has_lane Lane
      → ThereGives sizes_right (NoNode ⊎ NoLane) (Node × Lane) k (refusal_by (edge_read_lines sizes_right k stands has_lane))
  edge_gives {stands} {has_lane} off on no_lane lane =
      let last = not_there stands ∷ not_there has_lane ∷ [] in
      record {
        gives_1 = first_1 last (omega arith);
        gives_4 = then_4 last (omega arith);
        gives_13 = past_4 last (omega arith) 13 (omega arith) (line_own 13 (not_means off) (last_own 13 (omega arith) (not_means no_lane)));
        gives_0 = past_4 last (omega arith) 0 (omega arith) (line_zero 13 (omega arith) (not_fails on) (last_zero 13 (omega arith) (not_fails lane)));
      }
