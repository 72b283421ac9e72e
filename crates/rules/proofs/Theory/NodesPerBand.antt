-- How many bands and nodes a standing profile can have: at most one band for each number and two nodes for each band, so that its nodes fit the
-- largest room; and where a number is free there is room for two nodes more.
-- Assumes nothing.
use Prim.Native.Nat.{ℕ, suc, ◌+◌, ◌*◌, ◌≤◌, ◌<◌}
use mathlib.Core.Path.{◌≡◌, sym, ◌∙◌}
use mathlib.Core.List.{◌∷◌}
use native.Mathlib.Omega.{arith}
use borrow.Author.Tests.{eqb-true}
use lib.Dec.{eqb}
use lib.ListN.{length, length-map}
use Rattle.rules.specs.Lists.{any, count_if}
use Rattle.rules.specs.HallLine.{Band, highest_band_number}
use Rattle.rules.specs.NodesLanesEdges.{is_end}
use Rattle.rules.specs.Profile.{Profile}
use Rattle.rules.specs.Room.{most_nodes}
use Rattle.rules.proofs.Lists.{In, Each, each_cons, any_means, Distinct, in_map, ascends_apart}
use Rattle.rules.proofs.Sums.{at_most_one, count_either, count_one, at_most_for_each}
use Rattle.rules.proofs.NodesLanesEdges.{is_end_means}
use Rattle.rules.proofs.Marks.{numbers_of}
use Rattle.rules.proofs.Flags.{so_many_below}
use Rattle.rules.proofs.BoxSaysNo.{numbers_right}
use Rattle.rules.proofs.SoundMemory.{Standing}

module _ (p : Profile) (s : Standing p) where
  -- ---- bands

  -- their numbers are right and stand apart
  below : Each (λ n. n < suc highest_band_number) (numbers_of p.bands)
  below = numbers_right p.bands s.bands_right_lem

  apart : Distinct (numbers_of p.bands)
  apart = ascends_apart (λ b. b.number) 0 p.bands s.numbers_ascend_lem

  -- so there is at most one for each number ..
  pub bands_within : length p.bands ≤ suc highest_band_number
  bands_within = omega (arith, so_many_below (suc highest_band_number) (numbers_of p.bands) below apart, length-map p.bands (λ b. b.number))

  module _ (number : ℕ) (right : number ≤ highest_band_number) (free : Each (λ b. b.number ≡ number → ⊥) p.bands) where
    not_among : In number (numbers_of p.bands) → ⊥
    not_among i = let t = (in_map (λ b. b.number) number p.bands).0 i in free t.0 t.1 t.2

    -- .. and one fewer where a number is free
    pub bands_spare : length p.bands ≤ highest_band_number
    bands_spare =
        let below_too = (each_cons number (numbers_of p.bands)).1 (omega arith, below) in
        let so_many = so_many_below (suc highest_band_number) (number ∷ numbers_of p.bands) below_too (not_among, apart) in
        omega (arith, length-map p.bands (λ b. b.number))

  -- ---- nodes

  -- at most one stands at a key ..
  one_at_key : (k : ℕ) → count_if (λ n. eqb n.key k) p.nodes ≤ 1
  one_at_key k =
      omega (
        arith,
        count_one (λ n. n.key) (λ n. eqb n.key k) 0 p.nodes s.keys_ascend_lem
            (λ m n i j e f. eqb-true m.key k e ∙ sym (eqb-true n.key k f)),
        at_most_one (any (λ n. eqb n.key k) p.nodes),
      )

  -- .. so at most two at the ends of a band
  two_at_ends : (b : Band) → count_if (λ n. is_end n.key b) p.nodes ≤ 2
  unfolding is_end
  two_at_ends b =
      omega (
        arith,
        count_either (λ n. eqb n.key b.low) (λ n. eqb n.key b.high) p.nodes,
        one_at_key b.low,
        one_at_key b.high,
      )

  -- each stands at an end, so there are at most two for each band ..
  pub nodes_per_band : length p.nodes ≤ 2 * length p.bands
  nodes_per_band =
      at_most_for_each (λ n b. is_end n.key b) 2 p.nodes p.bands
      (λ n i. (any_means (is_end_means n.key) p.bands).test (s.only_ends_stand_lem n i)) (λ b i. two_at_ends b)

  -- .. no more than the largest room has ..
  pub nodes_within : length p.nodes ≤ most_nodes
  nodes_within = omega (arith, nodes_per_band, bands_within)

  -- .. and where a number is free it has two to spare
  pub two_nodes_spare : (number : ℕ) → number ≤ highest_band_number → Each (λ b. b.number ≡ number → ⊥) p.bands
      → length p.nodes + 2 ≤ most_nodes
  two_nodes_spare number right free = omega (arith, nodes_per_band, bands_spare number right free)
