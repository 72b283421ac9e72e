-- "What is built", the readouts: the band readout is that of the live band of the number; the next node in a lane is the nearest above,
-- so that the edge readout is of an edge of the lane; and the flags are those of the live bands marked there.
-- Assumes nothing.
use Prim.Native.Nat.{ℕ, ◌≤◌, ◌<◌}
use mathlib.Core.Path.{◌≡◌, refl, ap}
use mathlib.Core.Bool.{true}
use mathlib.Core.Logic.Iff
use mathlib.Core.Logic.{◌↔◌, ◌⊎◌, inl, inr, ⊎_elim}
use mathlib.Core.List.{List}
use mathlib.Core.Option.{none, some}
use native.Mathlib.Omega.{arith}
use lib.Dec.{ltb}
use lib.ListN.{replicate}
use Rattle.rules.specs.Lists.{keep, first_of}
use Rattle.rules.specs.NodesLanesEdges.{edge_of, lane_of, edges_in}
use Rattle.rules.specs.Profile.{Profile}
use Rattle.rules.specs.Marks.{edge_marked, node_marked, marked_on_edge, marked_on_node}
use Rattle.rules.specs.Flags.{flag_at}
use Rattle.rules.specs.Readouts.{band_read_of, band_read, next_in, edge_read, node_read}
use Rattle.rules.proofs.Means.{lt_means, at_most_or_above}
use Rattle.rules.proofs.Lists.{In, Some, Each, in_kept, first_none, Ascends, ascends_keep, first_least}
use Rattle.rules.proofs.NodesLanesEdges.{Asc, lane_ascends, edge_rule, level_there}
use Rattle.rules.proofs.Profile.{NumbersAsc, numbered, numbered_none}
use Rattle.rules.proofs.Marks.{in_marked_on_edge, in_marked_on_node}
use Rattle.rules.proofs.Flags.{flag_set_where_in, flags_of_none}

-- ---- the band readout

module _ (p : Profile) where
  -- scope, ends and closed ends of the live band ..
  pub band_read_lem : (c : ℕ) → NumbersAsc c p.bands → Each (λ b. band_read p b.number ≡ band_read_of (some b)) p.bands
  unfolding band_read
  band_read_lem c a b i = ap band_read_of (numbered c p.bands a b i)

  -- .. and zeros where the number is not live
  pub no_band_read : (n : ℕ) → Each (λ b. b.number ≡ n → ⊥) p.bands → band_read p n ≡ band_read_of none
  unfolding band_read
  no_band_read n h = ap band_read_of ((numbered_none n p.bands).1 h)

-- ---- the next node in a lane

-- y is among the keys, above k, and no key lies strictly between
abbrev pub NextAbove : ℕ → ℕ → List ℕ → Type 0
NextAbove k y ks = In y ks × (k < y) × Each (λ x. (x ≤ k) ⊎ (y ≤ x)) ks

module _ (k : ℕ) (ks : List ℕ) where
  above : (x : ℕ) → In x (keep (ltb k) ks) ↔ (In x ks × (k < x))
  above x = in_kept (lt_means k) x ks

  none_above : (first_of (keep (ltb k) ks) ≡ none) ↔ Each (λ x. x ≤ k) ks
  none_above = Iff.trans (first_none (keep (ltb k) ks)) (
    λ h x j. ⊎_elim (λ l. l) (λ l. absurd (h x ((above x).1 (j, l)))) (at_most_or_above x k),
    λ h x j. let f = (above x).0 j in omega (arith, h x f.0),
  )

  next_above : (c : ℕ) → Ascends (λ x. x) c ks → (y : ℕ) → (first_of (keep (ltb k) ks) ≡ some y) ↔ NextAbove k y ks
  next_above c a y = Iff.trans (first_least (λ x. x) c (keep (ltb k) ks) (ascends_keep (λ x. x) (ltb k) c ks a) y) (
    λ h. let f = (above y).0 h.0 in
        (f.0, f.1, λ x j. ⊎_elim inl (λ l. inr (h.1 x ((above x).1 (j, l)))) (at_most_or_above x k)),
    λ h. ((above y).1 (h.0, h.1), λ x j. let f = (above x).0 j in ⊎_elim (λ l. absurd (omega arith)) (λ l. l) (h.2 x f.0)),
  )

module _ (p : Profile) (k i : ℕ) where
  pub next_none : (next_in p k i ≡ none) ↔ Each (λ x. x ≤ k) (lane_of i p.nodes)
  unfolding next_in
  next_none = none_above k (lane_of i p.nodes)

  module _ (c : ℕ) (a : Asc c p.nodes) (y : ℕ) where
    pub next_some : (next_in p k i ≡ some y) ↔ NextAbove k y (lane_of i p.nodes)
    unfolding next_in
    next_some = next_above k (lane_of i p.nodes) c (lane_ascends i c p.nodes a) y

    -- from a node of the lane the next one is where the lane's edge leads
    pub next_by_edge : In k (lane_of i p.nodes) → (next_in p k i ≡ some y) ↔ In (edge_of k y) (edges_in i p.nodes)
    next_by_edge j =
        let e = edge_rule i c (edge_of k y) p.nodes a in (
          λ n. let h = next_some.0 n in e.1 (record { from_in = j; to_in = h.0; upward = h.1; none_between = h.2 }),
          λ m. let h = e.0 m in next_some.1 (h.to_in, h.upward, h.none_between),
        )

-- ---- the flags

module _ (p : Profile) (k i : ℕ) where
  pub edge_next : (edge_read p k i).next ≡ next_in p k i
  unfolding edge_read
  edge_next = refl

  -- a link to nothing carries no marks ..
  pub no_edge_flags : next_in p k i ≡ none → (edge_read p k i).flags ≡ replicate 16 0
  unfolding edge_read
  no_edge_flags e = rw e flags_of_none

  -- .. and on an edge a number is flagged exactly when a live band of that number is marked on it
  pub edge_flag : (y n : ℕ) → next_in p k i ≡ some y → n < 1024
      → (flag_at (edge_read p k i).flags n ≡ 1) ↔ Some (λ b. (edge_marked p.nodes b i (edge_of k y) ≡ true) × (b.number ≡ n)) p.bands
  unfolding edge_read
  edge_flag y n e h = rw e (Iff.trans (flag_set_where_in (marked_on_edge p i (edge_of k y)) n h) (in_marked_on_edge p n i (edge_of k y)))

module _ (p : Profile) where
  pub node_read_level : (c : ℕ) → Asc c p.nodes → Each (λ n. (node_read p n.key).level ≡ n.level) p.nodes
  unfolding node_read
  node_read_level c a = level_there c p.nodes a

  pub node_flag : (k n : ℕ) → n < 1024
      → (flag_at (node_read p k).flags n ≡ 1) ↔ Some (λ b. (node_marked p.nodes b k ≡ true) × (b.number ≡ n)) p.bands
  unfolding node_read
  node_flag k n h = Iff.trans (flag_set_where_in (marked_on_node p k) n h) (in_marked_on_node p n k)
