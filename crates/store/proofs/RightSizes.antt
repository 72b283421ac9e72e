-- Sizes in plain numbers, and that lengths are right exactly when they are those of a room in range: every such room has its lengths.
-- Assumes nothing.
use Prim.Native.Nat.{ℕ, ◌+◌, ◌-◌, ◌*◌, ◌/◌, ◌%◌, ◌≤◌}
use mathlib.Core.Path.{◌≡◌, refl, sym, subst}
use mathlib.Core.Bool.{true}
use native.Mathlib.Omega.{arith}
use Rattle.rules.specs.Room.{Room, room_of, room_in_range}
use Rattle.rules.proofs.Means.{Means, reworded, and3_means, eq_means}
use Rattle.rules.proofs.BoxSaysNo.{room_in_range_means}
use Rattle.store.specs.Sizes.{Lengths, lengths_of, lengths_for, room_for, sizes_right}

pub sizes_in_numbers : (b n m : ℕ)
    → Means (sizes_right (lengths_of b n m)) ((b ≡ 8192) × (40 ≤ n) × (n ≤ 40980) × (n % 20 ≡ 0) × (1 ≤ m) × (m ≤ 16384))
unfolding sizes_right room_for
sizes_in_numbers b n m =
    reworded
    (and3_means (eq_means b 8192) (eq_means (n % 20) 0) (room_in_range_means (room_of (n / 20 - 1) m)))
    (λ h. (h.0, omega arith, omega arith, h.1, h.2.1.0, h.2.1.1))
    (λ h. (h.0, h.3, ((omega arith, omega arith), (h.4, h.5))))

pub room_has_lengths : (r : Room) → room_in_range r ≡ true → (sizes_right (lengths_for r) ≡ true) × (room_for (lengths_for r) ≡ r)
unfolding lengths_for room_for
room_has_lengths r h =
    let f = (room_in_range_means r).fact h in
    let e : 20 * (r.nodes + 1) / 20 - 1 ≡ r.nodes = omega arith in (
      (sizes_in_numbers 8192 (20 * (r.nodes + 1)) r.marks).test (refl, omega arith, omega arith, omega arith, f.1.0, f.1.1),
      λ i. room_of (e i) r.marks,
    )

pub right_lengths : (l : Lengths) → sizes_right l ≡ true → (room_in_range (room_for l) ≡ true) × (lengths_for (room_for l) ≡ l)
unfolding lengths_for room_for
right_lengths l h =
    let f = (sizes_in_numbers l.bands l.nodes l.marks).fact h in
    let b = sym f.0 in
    let e : 20 * (l.nodes / 20 - 1 + 1) ≡ l.nodes = omega arith in (
      (room_in_range_means (room_for l)).test ((omega arith, omega arith), (f.4, f.5)),
      λ i. lengths_of (b i) (e i) l.marks,
    )

-- every room in range has its lengths, and no others are right
pub sizes_right_means : (l : Lengths) → Means (sizes_right l) ((r : Room) × (room_in_range r ≡ true) × (l ≡ lengths_for r))
sizes_right_means l =
    record {
      fact = λ h. let f = right_lengths l h in (room_for l, f.0, sym f.1);
      test = λ s. subst (λ k. sizes_right k ≡ true) (sym s.2) (room_has_lengths s.0 s.1).0;
    }
