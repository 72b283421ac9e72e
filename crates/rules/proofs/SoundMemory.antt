-- "Sound memory", as far as it speaks of the profile: a standing profile as a record of plain facts, and when one fits its room.
-- Assumes nothing.
use Prim.Native.Nat.{ℕ, suc, ◌≤◌}
use mathlib.Core.Path.{◌≡◌, refl}
use mathlib.Core.Bool.{true}
use mathlib.Core.Logic.{⊎_elim}
use mathlib.Core.List.{List, [], ◌∷◌}
use native.Mathlib.Omega.{arith}
use lib.ListN.{length}
use Rattle.rules.specs.HallLine.{Band, highest_key}
use Rattle.rules.specs.NodesLanesEdges.{Node}
use Rattle.rules.specs.Profile.{Profile}
use Rattle.rules.specs.Marks.{marks_in_use}
use Rattle.rules.specs.Room.{Room, room_in_range}
use Rattle.rules.specs.BoxSaysNo.{band_fault, fit_refusal}
use Rattle.rules.specs.SoundMemory.{numbers_ascend, bands_right, keys_ascend, levels_right, standing, fits, sound_in}
use Rattle.rules.proofs.Means.{Means, reworded, and_means, and3_means, le_means, eq_means}
use Rattle.rules.proofs.Lists.{Some, Each, all_means}
use Rattle.rules.proofs.NodesLanesEdges.{Asc, Level, NodeAt, EndOf, is_level_means, ends_stand_means, only_ends_stand_means}
use Rattle.rules.proofs.Profile.{NumbersAsc}
use Rattle.rules.proofs.BoxSaysNo.{room_in_range_means, BandRight, band_fault_zero, fit_refusal_zero}

pub numbers_ascend_means : (c : ℕ) (bs : List Band) → Means (numbers_ascend c bs) (NumbersAsc c bs)
numbers_ascend_means c [] = record { fact = λ e. tt; test = λ a. refl }
numbers_ascend_means c (b ∷ bs) = and_means (le_means c b.number) (numbers_ascend_means (suc b.number) bs)

pub keys_ascend_means : (c : ℕ) (ns : List Node) → Means (keys_ascend c ns) (Asc c ns)
keys_ascend_means c [] = record { fact = λ e. tt; test = λ a. refl }
keys_ascend_means c (n ∷ ns) = and_means (le_means c n.key) (keys_ascend_means (suc n.key) ns)

pub bands_right_means : (bs : List Band) → Means (bands_right bs) (Each BandRight bs)
unfolding bands_right
bands_right_means bs = all_means (λ b. reworded (eq_means (band_fault b) 0) (band_fault_zero b).0 (band_fault_zero b).1) bs

pub levels_right_means : (ns : List Node) → Means (levels_right ns) (Each (λ n. Level n.level) ns)
unfolding levels_right
levels_right_means ns = all_means (λ n. is_level_means n.level) ns

-- a standing profile: bands in number order and each right by itself; nodes in key order with right levels,
-- one at each end of a live band and nowhere else
pub record Standing (p : Profile) : Type 0 where
  pub numbers_ascend_lem : NumbersAsc 0 p.bands
  pub bands_right_lem : Each BandRight p.bands
  pub keys_ascend_lem : Asc 0 p.nodes
  pub levels_right_lem : Each (λ n. Level n.level) p.nodes
  pub ends_stand_lem : Each (λ b. NodeAt b.low p.nodes × NodeAt b.high p.nodes) p.bands
  pub only_ends_stand_lem : Each (λ n. Some (EndOf n.key) p.bands) p.nodes

pub standing_means : (p : Profile) → Means (standing p) (Standing p)
unfolding standing
standing_means p =
    reworded
    (and_means (numbers_ascend_means 0 p.bands)
    (and_means (bands_right_means p.bands)
    (and_means (keys_ascend_means 0 p.nodes)
    (and3_means (levels_right_means p.nodes) (ends_stand_means p.bands p.nodes) (only_ends_stand_means p.bands p.nodes)))))
    (λ h. record {
      numbers_ascend_lem = h.0;
      bands_right_lem = h.1.0;
      keys_ascend_lem = h.1.1.0;
      levels_right_lem = h.1.1.1.0;
      ends_stand_lem = h.1.1.1.1;
      only_ends_stand_lem = h.1.1.1.2;
    })
    (λ s. (s.numbers_ascend_lem, (s.bands_right_lem, (s.keys_ascend_lem, (s.levels_right_lem, s.ends_stand_lem, s.only_ends_stand_lem)))))

-- the nodes of a standing profile are on the line
pub nodes_on_line : (p : Profile) → Standing p → Each (λ n. n.key ≤ highest_key) p.nodes
nodes_on_line p s n i =
    let t = s.only_ends_stand_lem n i in
    let r = s.bands_right_lem t.0 t.1 in
    ⊎_elim (λ e. omega (arith, r.low_on_line)) (λ e. omega (arith, r.high_on_line)) t.2

-- the room is in range, and nodes and marks are within it
pub record Fitting (room : Room) (p : Profile) : Type 0 where
  pub node_room : (1 ≤ room.nodes) × (room.nodes ≤ 2048)
  pub mark_room : (1 ≤ room.marks) × (room.marks ≤ 16384)
  pub nodes_fit_lem : length p.nodes ≤ room.nodes
  pub marks_fit : marks_in_use p ≤ room.marks

pub fits_means : (room : Room) (p : Profile) → Means (fits room p) (Fitting room p)
unfolding fits
fits_means room p =
    reworded
    (and3_means (room_in_range_means room) (le_means (length p.nodes) room.nodes) (le_means (marks_in_use p) room.marks))
    (λ h. record { node_room = h.0.0; mark_room = h.0.1; nodes_fit_lem = h.1; marks_fit = h.2 })
    (λ f. ((f.node_room, f.mark_room), f.nodes_fit_lem, f.marks_fit))

-- the profile stands and fits the room
abbrev pub SoundIn : Room → Profile → Type 0
SoundIn room p = Standing p × Fitting room p

-- a profile passes the test of soundness in a room exactly then
pub sound_in_means : (room : Room) (p : Profile) → Means (sound_in room p) (SoundIn room p)
unfolding sound_in
sound_in_means room p = and_means (standing_means p) (fits_means room p)

-- so a standing profile is sound in a room that is in range where neither 11 nor 12 is given of it
pub sound_where_fits : (room : Room) (p : Profile) → room_in_range room ≡ true → standing p ≡ true → fit_refusal room p ≡ 0 → sound_in room p ≡ true
sound_where_fits room p range stands z =
    let in_range = (room_in_range_means room).fact range in
    let within = (fit_refusal_zero room p).0 z in
    (sound_in_means room p).test (
      (standing_means p).fact stands,
      record { node_room = in_range.0; mark_room = in_range.1; nodes_fit_lem = within.0; marks_fit = within.1 },
    )
