-- "When the box says no": what each line of the table says in plain arithmetic and membership, what a band and each call are like that nothing
-- refuses, and what a call comes to, accepted or refused. (Which of several lines is given: FirstLine.)
-- Assumes nothing.
use Prim.Native.Nat.{ℕ, zero, suc, ◌≤◌, ◌<◌}
use mathlib.Core.Path.{◌≡◌, refl}
use mathlib.Core.Bool.{Bool, true, false}
use mathlib.Core.Logic.Iff
use mathlib.Core.Logic.{◌↔◌, ◌⊎◌}
use mathlib.Core.List.{List, [], ◌∷◌, ◌++◌}
use native.Mathlib.Omega.{arith}
use lib.Dec.{ltb}
use lib.ListN.{length}
use borrow.Author.Tests.{eq-eqb, ne_eqb}
use Rattle.rules.specs.HallLine.{Band, machines, is_machine, highest_key, highest_band_number, house, holds, holds_whole_key, within_scope}
use Rattle.rules.specs.NodesLanesEdges.{lanes, is_level, stands_at, level_at}
use Rattle.rules.specs.Profile.{Profile, is_live}
use Rattle.rules.specs.Marks.{marks_in_use}
use Rattle.rules.specs.Changes.{inserted, removed}
use Rattle.rules.specs.Room.{Room, room_in_range}
use Rattle.rules.specs.BoxSaysNo.{TableLine, refusal_by, sizes_wrong, not_sound, scope_above, number_above, key_above, end_above, holds_none, end_elsewhere, level_wrong, number_live, number_not_live, scope_other, nodes_exceed, marks_exceed, not_there, band_lines, key_fault, band_fault, fault_of, fit_lines, fit_refusal, insert_judged_lines, remove_judged_lines, insert_refusal, remove_refusal, empty_refusal, stab_refusal, band_read_refusal, edge_read_refusal, node_read_refusal, room_read_refusal, changed, saying, answered}
use Rattle.rules.proofs.Means.{Means, Fails, reworded, itself, denied, not_means, not_fails, and_means, and_fails, and3_means, or_means, or_fails, implies_fails, lt_means, lt_fails, le_means, le_fails, eq_means}
use Rattle.rules.proofs.Lists.{Some, Each, any_means, any_fails, in_map}
use Rattle.rules.proofs.HallLine.{Own, own_key_means, holds_whole_key_means}
use Rattle.rules.proofs.NodesLanesEdges.{Level, is_level_means, NodeAt, NoNodeAt, stands_at_means}
use Rattle.rules.proofs.Profile.{has_number_means, is_live_means}
use Rattle.rules.proofs.Marks.{numbers_of}
use Rattle.rules.proofs.FirstLine.{line_other, line_own, last_own, line_zero, last_zero, refusal_enough, refusal_then, refusal_neither}

-- ---- each line

pub room_in_range_means : (r : Room) → Means (room_in_range r) (((1 ≤ r.nodes) × (r.nodes ≤ 2048)) × ((1 ≤ r.marks) × (r.marks ≤ 16384)))
unfolding room_in_range
room_in_range_means r =
    reworded
    (and_means (le_means 1 r.nodes) (and3_means (le_means r.nodes 2048) (le_means 1 r.marks) (le_means r.marks 16384)))
    (λ h. ((h.0, h.1.0), (h.1.1, h.1.2)))
    (λ h. (h.0.0, (h.0.1, h.1.0, h.1.1)))

-- 1
pub sizes_wrong_means : (sizes_right : Bool) → Means (sizes_wrong sizes_right).applies (sizes_right ≡ false)
sizes_wrong_means s = not_means (itself s)

pub not_sound_means : (sizes_right sound : Bool) → Means (not_sound sizes_right sound).applies ((sizes_right ≡ false) ⊎ (sound ≡ false))
not_sound_means s t = not_means (and_fails (itself s) (itself t))

pub not_sound_fails : (sizes_right sound : Bool) → Fails (not_sound sizes_right sound).applies ((sizes_right ≡ true) × (sound ≡ true))
not_sound_fails s t = not_fails (and_means (itself s) (itself t))

-- 2
pub scope_above_means : (s : ℕ) → Means (scope_above s).applies (house < s)
scope_above_means s = lt_means house s

-- 3
pub number_above_means : (n : ℕ) → Means (number_above n).applies (highest_band_number < n)
number_above_means n = lt_means highest_band_number n

-- 4
pub key_above_means : (k : ℕ) → Means (key_above k).applies (highest_key < k)
key_above_means k = lt_means highest_key k

pub end_above_means : (b : Band) → Means (end_above b).applies ((highest_key < b.low) ⊎ (highest_key < b.high))
end_above_means b = or_means (lt_means highest_key b.low) (lt_means highest_key b.high)

-- 5
pub holds_none_means : (b : Band) → Means (holds_none b).applies ((k : ℕ) → holds b k ≡ true → ⊥)
holds_none_means b = reworded (not_means (denied (holds_whole_key_means b))) (λ h k e. h (k, e)) (λ h s. h s.0 s.1)

-- 6
pub end_elsewhere_means :
    (b : Band)
    → Means (end_elsewhere b).applies
    ((b.scope < machines) × ((Own b.scope b.low → ⊥) ⊎ (Own b.scope b.high → ⊥)))
unfolding within_scope is_machine
end_elsewhere_means b =
    not_means
    (or_fails
    (not_fails (lt_means b.scope machines))
    (and_fails (denied (own_key_means b.scope b.low)) (denied (own_key_means b.scope b.high))))

-- 7
pub is_level_fails : (l : ℕ) → Fails (is_level l) ((l < 1) ⊎ (lanes < l))
unfolding is_level
is_level_fails l = and_fails (le_fails 1 l) (le_fails l lanes)

pub level_wrong_means : (lo hi : ℕ) → Means (level_wrong lo hi).applies (((lo < 1) ⊎ (lanes < lo)) ⊎ ((hi < 1) ⊎ (lanes < hi)))
level_wrong_means lo hi = not_means (and_fails (is_level_fails lo) (is_level_fails hi))

module _ (p : Profile) where
  -- 8
  pub number_live_means : (n : ℕ) → Means (number_live p n).applies (Some (λ b. b.number ≡ n) p.bands)
  number_live_means n = is_live_means n p.bands

  -- 9
  pub number_not_live_means : (n : ℕ) → Means (number_not_live p n).applies (Each (λ b. b.number ≡ n → ⊥) p.bands)
  unfolding is_live
  number_not_live_means n = not_means (any_fails (λ b. denied (has_number_means n b)) p.bands)

  -- 10
  pub scope_other_means : (n s : ℕ) → Means (scope_other p n s).applies (Some (λ b. (b.number ≡ n) × (b.scope ≡ s → ⊥)) p.bands)
  scope_other_means n s = any_means (λ b. and_means (has_number_means n b) (not_means (denied (eq_means b.scope s)))) p.bands

  -- 13
  pub no_node_means : (k : ℕ) → Means (not_there (stands_at k p.nodes)).applies (Each (λ n. n.key ≡ k → ⊥) p.nodes)
  unfolding stands_at
  no_node_means k = not_means (any_fails (λ n. denied (eq_means n.key k)) p.nodes)

  pub no_lane_means : (k i : ℕ) → Means (not_there (ltb i (level_at k p.nodes))).applies (level_at k p.nodes ≤ i)
  no_lane_means k i = not_means (lt_fails i (level_at k p.nodes))

module _ (room : Room) (after : Profile) where
  -- 11
  pub nodes_exceed_means : Means (nodes_exceed room after).applies (room.nodes < length after.nodes)
  nodes_exceed_means = lt_means room.nodes (length after.nodes)

  -- 12
  pub marks_exceed_means : Means (marks_exceed room after).applies (room.marks < marks_in_use after)
  marks_exceed_means = lt_means room.marks (marks_in_use after)

-- ---- what nothing refuses

-- a band that is right by 2 to 6
pub record BandRight (b : Band) : Type 0 where
  pub scope_right : b.scope ≤ house
  pub number_right : b.number ≤ highest_band_number
  pub low_on_line : b.low ≤ highest_key
  pub high_on_line : b.high ≤ highest_key
  pub holds_key : holds_whole_key b ≡ true
  pub in_scope : within_scope b ≡ true

-- the numbers of right bands are right
pub numbers_right : (bs : List Band) → Each BandRight bs → Each (λ n. n < suc highest_band_number) (numbers_of bs)
numbers_right bs right n i = let s = (in_map (λ b. b.number) n bs).0 i in omega (arith, s.2, (right s.0 s.1).number_right)

-- nothing is given by 2 to 6 and lines after them exactly when the band is right and nothing is given by the lines after them
pub band_lines_zero : {X : Type 0} (b : Band) (ls : List TableLine) → (refusal_by ls ≡ 0) ↔ X
    → (refusal_by (band_lines b ++ ls) ≡ 0) ↔ (BandRight b × X)
band_lines_zero b ls e =
    Iff.trans
    (line_zero 2 (omega arith) (lt_fails house b.scope)
    (line_zero 3 (omega arith) (lt_fails highest_band_number b.number)
    (line_zero 4 (omega arith) (or_fails (lt_fails highest_key b.low) (lt_fails highest_key b.high))
    (line_zero 5 (omega arith) (not_fails (itself (holds_whole_key b)))
    (line_zero 6 (omega arith) (not_fails (itself (within_scope b))) e))))) (
      λ h. (
        record {
          scope_right = h.0;
          number_right = h.1.0;
          low_on_line = h.1.1.0.0;
          high_on_line = h.1.1.0.1;
          holds_key = h.1.1.1.0;
          in_scope = h.1.1.1.1.0;
        },
        h.1.1.1.1.1,
      ),
      λ h. (h.0.scope_right, (h.0.number_right, ((h.0.low_on_line, h.0.high_on_line), (h.0.holds_key, (h.0.in_scope, h.1))))),
    )

pub key_fault_zero : (k : ℕ) → (key_fault k ≡ 0) ↔ (k ≤ highest_key)
unfolding key_fault
key_fault_zero k = last_zero 4 (omega arith) (lt_fails highest_key k)

pub band_fault_zero : (b : Band) → (band_fault b ≡ 0) ↔ BandRight b
unfolding band_fault
band_fault_zero b = let e = band_lines_zero {X = Unit {0}} b [] (λ z. tt, λ x. refl) in (λ z. (e.0 z).0, λ r. e.1 (r, tt))

module _ (b : Band) (lo hi : ℕ) where
  pub fault_zero : (fault_of b lo hi ≡ 0) ↔ (BandRight b × (Level lo × Level hi))
  unfolding fault_of
  fault_zero =
      band_lines_zero b (level_wrong lo hi ∷ [])
      (last_zero 7 (omega arith) (not_fails (and_means (is_level_means lo) (is_level_means hi))))

  -- a band's own fault comes first ..
  pub fault_of_band : (band_fault b ≡ 0 → ⊥) → fault_of b lo hi ≡ band_fault b
  unfolding band_fault fault_of
  fault_of_band h = refusal_enough (band_lines b) (level_wrong lo hi ∷ []) h

  -- .. and where it has none the levels decide
  pub fault_of_levels : band_fault b ≡ 0 → fault_of b lo hi ≡ refusal_by (level_wrong lo hi ∷ [])
  unfolding band_fault fault_of
  fault_of_levels z = refusal_then (band_lines b) (level_wrong lo hi ∷ []) (omega arith) z

-- neither 11 nor 12 is given exactly when nodes and marks are within the room
pub fit_refusal_zero : (room : Room) (after : Profile)
    → (fit_refusal room after ≡ 0) ↔ ((length after.nodes ≤ room.nodes) × (marks_in_use after ≤ room.marks))
unfolding fit_refusal
fit_refusal_zero room after =
    line_zero 11 (omega arith) (lt_fails room.nodes (length after.nodes))
    (last_zero 12 (omega arith) (lt_fails room.marks (marks_in_use after)))

-- an insert that none of 1 to 8 refuses; Sound says that 1 does not
pub record InsertJudged (Sound : Type 0) (p : Profile) (b : Band) (lo hi : ℕ) : Type 0 where
  pub memory_right : Sound
  pub band_right : BandRight b
  pub levels_right_lem : Level lo × Level hi
  pub number_free : Each (λ c. c.number ≡ b.number → ⊥) p.bands

-- an insert that nothing refuses
pub record InsertAccepted (Sound : Type 0) (room : Room) (p : Profile) (b : Band) (lo hi : ℕ) : Type 0 where
  pub judged : InsertJudged Sound p b lo hi
  pub nodes_fit_lem : length (inserted p b lo hi).nodes ≤ room.nodes
  pub marks_fit : marks_in_use (inserted p b lo hi) ≤ room.marks

-- a remove that none of 1, 2, 3, 9 and 10 refuses
pub record RemoveJudged (Sound : Type 0) (p : Profile) (number scope : ℕ) : Type 0 where
  pub memory_right : Sound
  pub scope_right : scope ≤ house
  pub number_right : number ≤ highest_band_number
  pub number_live_lem : Some (λ b. b.number ≡ number) p.bands
  pub scope_same : Each (λ b. b.number ≡ number → b.scope ≡ scope) p.bands

-- a remove that nothing refuses
pub record RemoveAccepted (Sound : Type 0) (room : Room) (p : Profile) (number scope : ℕ) : Type 0 where
  pub judged : RemoveJudged Sound p number scope
  pub marks_fit : marks_in_use (removed p number) ≤ room.marks

module _ (sizes_right sound : Bool) {Sound : Type 0} (right : Fails (not_sound sizes_right sound).applies Sound) where
  pub insert_judged_zero : (p : Profile) (b : Band) (lo hi : ℕ)
      → (refusal_by (insert_judged_lines sizes_right sound p b lo hi) ≡ 0) ↔ InsertJudged Sound p b lo hi
  unfolding is_live
  insert_judged_zero p b lo hi =
      Iff.trans
      (line_zero 1 (omega arith) right
      (band_lines_zero b (level_wrong lo hi ∷ number_live p b.number ∷ [])
      (line_zero 7 (omega arith) (not_fails (and_means (is_level_means lo) (is_level_means hi)))
      (last_zero 8 (omega arith) (any_fails (λ c. denied (has_number_means b.number c)) p.bands))))) (
        λ h. record { memory_right = h.0; band_right = h.1.0; levels_right_lem = h.1.1.0; number_free = h.1.1.1 },
        λ t. (t.memory_right, (t.band_right, (t.levels_right_lem, t.number_free))),
      )

  pub remove_judged_zero : (p : Profile) (number scope : ℕ)
      → (refusal_by (remove_judged_lines sizes_right sound p number scope) ≡ 0) ↔ RemoveJudged Sound p number scope
  remove_judged_zero p number scope =
      Iff.trans
      (line_zero 1 (omega arith) right
      (line_zero 2 (omega arith) (lt_fails house scope)
      (line_zero 3 (omega arith) (lt_fails highest_band_number number)
      (line_zero 9 (omega arith) (not_fails (is_live_means number p.bands))
      (last_zero 10 (omega arith) (any_fails (λ b. implies_fails (has_number_means number b) (eq_means b.scope scope)) p.bands)))))) (
        λ h. record {
          memory_right = h.0;
          scope_right = h.1.0;
          number_right = h.1.1.0;
          number_live_lem = h.1.1.1.0;
          scope_same = h.1.1.1.1;
        },
        λ t. (t.memory_right, (t.scope_right, (t.number_right, (t.number_live_lem, t.scope_same)))),
      )

  pub insert_accepted : (room : Room) (p : Profile) (b : Band) (lo hi : ℕ)
      → (insert_refusal sizes_right sound room p b lo hi ≡ 0) ↔ InsertAccepted Sound room p b lo hi
  unfolding insert_refusal fit_refusal
  insert_accepted room p b lo hi =
      Iff.trans
      (refusal_neither (insert_judged_lines sizes_right sound p b lo hi) (fit_lines room (inserted p b lo hi)) (omega arith)
      (insert_judged_zero p b lo hi) (fit_refusal_zero room (inserted p b lo hi)))
      (λ h. record { judged = h.0; nodes_fit_lem = h.1.0; marks_fit = h.1.1 }, λ t. (t.judged, (t.nodes_fit_lem, t.marks_fit)))

  pub remove_accepted : (room : Room) (p : Profile) (number scope : ℕ)
      → (remove_refusal sizes_right sound room p number scope ≡ 0) ↔ RemoveAccepted Sound room p number scope
  unfolding remove_refusal
  remove_accepted room p number scope =
      Iff.trans
      (refusal_neither (remove_judged_lines sizes_right sound p number scope) (marks_exceed room (removed p number) ∷ []) (omega arith)
      (remove_judged_zero p number scope)
      (last_zero 12 (omega arith) (lt_fails room.marks (marks_in_use (removed p number)))))
      (λ h. record { judged = h.0; marks_fit = h.1 }, λ t. (t.judged, t.marks_fit))

module _ (sizes_right : Bool) where
  pub empty_accepted : (empty_refusal sizes_right ≡ 0) ↔ (sizes_right ≡ true)
  unfolding empty_refusal
  empty_accepted = last_zero 1 (omega arith) (not_fails (itself sizes_right))

  pub room_accepted : (room_read_refusal sizes_right ≡ 0) ↔ (sizes_right ≡ true)
  unfolding room_read_refusal
  room_accepted = last_zero 1 (omega arith) (not_fails (itself sizes_right))

  pub stab_accepted : (k : ℕ) → (stab_refusal sizes_right k ≡ 0) ↔ ((sizes_right ≡ true) × (k ≤ highest_key))
  unfolding stab_refusal
  stab_accepted k = line_zero 1 (omega arith) (not_fails (itself sizes_right)) (last_zero 4 (omega arith) (lt_fails highest_key k))

  module _ (p : Profile) where
    pub band_accepted : (n : ℕ) → (band_read_refusal sizes_right p n ≡ 0) ↔ ((sizes_right ≡ true) × ((n ≤ highest_band_number) × Some (λ b. b.number ≡ n) p.bands))
    unfolding band_read_refusal
    band_accepted n =
        line_zero 1 (omega arith) (not_fails (itself sizes_right))
        (line_zero 3 (omega arith) (lt_fails highest_band_number n) (last_zero 9 (omega arith) (not_fails (is_live_means n p.bands))))

    pub node_accepted : (k : ℕ) → (node_read_refusal sizes_right p k ≡ 0) ↔ ((sizes_right ≡ true) × ((k ≤ highest_key) × NodeAt k p.nodes))
    unfolding node_read_refusal
    node_accepted k =
        line_zero 1 (omega arith) (not_fails (itself sizes_right))
        (line_zero 4 (omega arith) (lt_fails highest_key k) (last_zero 13 (omega arith) (not_fails (stands_at_means k p.nodes))))

    pub edge_accepted : (k i : ℕ)
        → (edge_read_refusal sizes_right p k i ≡ 0) ↔ ((sizes_right ≡ true) × ((k ≤ highest_key) × (NodeAt k p.nodes × (i < level_at k p.nodes))))
    unfolding edge_read_refusal
    edge_accepted k i =
        line_zero 1 (omega arith) (not_fails (itself sizes_right))
        (line_zero 4 (omega arith) (lt_fails highest_key k)
        (line_zero 13 (omega arith) (not_fails (stands_at_means k p.nodes))
        (last_zero 13 (omega arith) (not_fails (lt_means i (level_at k p.nodes))))))

    -- a band readout gives 9 exactly when sizes and number are right and the number is not live, ..
    pub band_gives_9 : (n : ℕ)
        → (band_read_refusal sizes_right p n ≡ 9) ↔ ((sizes_right ≡ true) × ((n ≤ highest_band_number) × Each (λ b. b.number ≡ n → ⊥) p.bands))
    unfolding band_read_refusal
    band_gives_9 n =
        line_other 1 9 (λ e. omega arith) (not_fails (itself sizes_right))
        (line_other 3 9 (λ e. omega arith) (lt_fails highest_band_number n) (last_own 9 (omega arith) (number_not_live_means p n)))

    -- .. a node readout 13 when sizes and key are right and no node stands at the key, ..
    pub node_gives_13 : (k : ℕ) → (node_read_refusal sizes_right p k ≡ 13) ↔ ((sizes_right ≡ true) × ((k ≤ highest_key) × NoNodeAt k p.nodes))
    unfolding node_read_refusal
    node_gives_13 k =
        line_other 1 13 (λ e. omega arith) (not_fails (itself sizes_right))
        (line_other 4 13 (λ e. omega arith) (lt_fails highest_key k) (last_own 13 (omega arith) (no_node_means p k)))

    -- .. and an edge readout 13 when none stands there or the level there is not above the lane
    pub edge_gives_13 : (k i : ℕ)
        → (edge_read_refusal sizes_right p k i ≡ 13)
        ↔ ((sizes_right ≡ true) × ((k ≤ highest_key) × (NoNodeAt k p.nodes ⊎ (level_at k p.nodes ≤ i))))
    unfolding edge_read_refusal
    edge_gives_13 k i =
        line_other 1 13 (λ e. omega arith) (not_fails (itself sizes_right))
        (line_other 4 13 (λ e. omega arith) (lt_fails highest_key k)
        (line_own 13 (no_node_means p k) (last_own 13 (omega arith) (no_lane_means p k i))))

-- ---- what a call comes to

-- an accepted change leaves the profile after it ..
pub accepted_changes : {A : Type 0} (refusal : ℕ) (before after : A) → refusal ≡ 0 → (changed refusal before after).after ≡ after
accepted_changes refusal before after z = rw (eq-eqb refusal 0 z)

-- .. and a refused one all as it was
pub refused_unchanged : {A : Type 0} (refusal : ℕ) (before after : A) → (refusal ≡ 0 → ⊥) → (changed refusal before after).after ≡ before
refused_unchanged refusal before after h = rw (ne_eqb refusal 0 h)

-- a stab or readout that is not refused answers 0 and what is read ..
pub accepted_answers : {A : Type 0} (refusal : ℕ) (zeros a : A) → refusal ≡ 0 → answered refusal zeros a ≡ saying 0 a
accepted_answers refusal zeros a z = rw z

-- .. and a refused one zeros beside its number
pub refused_zeros : {A : Type 0} (refusal : ℕ) (zeros a : A) → (refusal ≡ 0 → ⊥) → answered refusal zeros a ≡ saying refusal zeros
refused_zeros refusal zeros a h = rw (ne_eqb refusal 0 h)

-- what is read matters only where nothing refuses
pub same_answered : {A : Type 0} (refusal : ℕ) (zeros a b : A) → (refusal ≡ 0 → a ≡ b) → answered refusal zeros a ≡ answered refusal zeros b
same_answered zero zeros a b h = rw (h refl)
same_answered (suc r) zeros a b h = rw (ne_eqb (suc r) 0 (λ z. omega arith))

-- what is so before a change, and after it where nothing refuses it, is so of what the change comes to, whatever the change
pub change_keeps : {A : Type 0} (P : A → Type 0) (refusal : ℕ) (before after : A) → P before → (refusal ≡ 0 → P after)
    → P (changed refusal before after).after
change_keeps P zero before after b a = a refl
change_keeps P (suc r) before after b a = rw (refused_unchanged (suc r) before after (λ z. omega arith)) b
