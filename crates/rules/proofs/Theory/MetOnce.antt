-- Met once: where nodes ascend with right levels and both ends of each band stand, the search at a key takes each band that holds the key
-- once, and no other. So a stab's flags are those of the bands that hold the key, marks met are how many they are, and on a standing profile,
-- where no two bands share a number, so is the count.
-- Assumes nothing.
use Prim.Native.Nat.{ℕ, ◌≤◌, ◌<◌}
use mathlib.Core.Path.{◌≡◌, refl, sym, ◌∙◌, ap}
use mathlib.Core.Bool.{Bool, true}
use mathlib.Core.Logic.Iff
use mathlib.Core.Logic.{◌↔◌}
use mathlib.Core.List.{List, [], ◌∷◌}
use native.Mathlib.Omega.{arith}
use lib.Dec.{eqb}
use lib.ListN.{length}
use Rattle.rules.specs.Connectives.{one_if}
use Rattle.rules.specs.Lists.{any, count_if, sum_of}
use Rattle.rules.specs.HallLine.{Band, holds}
use Rattle.rules.specs.NodesLanesEdges.{lanes}
use Rattle.rules.specs.Profile.{Profile}
use Rattle.rules.specs.Flags.{flags_of, flag_at}
use Rattle.rules.specs.Search.{taken, stab_of}
use Rattle.rules.proofs.Means.{itself, eq_means, lt_means, same_means}
use Rattle.rules.proofs.Lists.{In, Some, Each, Distinct, all_means, member_means, distinct_means, in_kept, keep_one, ascends_keep}
use Rattle.rules.proofs.NodesLanesEdges.{Asc, NodeAt}
use Rattle.rules.proofs.Profile.{NumbersAsc}
use Rattle.rules.proofs.Theory.OverOnce.{times_over, over_once}
use Rattle.rules.proofs.Marks.{in_numbers, numbers_holding, length_of_numbers}
use Rattle.rules.proofs.Flags.{flag_set_where_in, count_without_repeats, flags_by_members}
use Rattle.rules.proofs.Theory.SearchTakes.{takes_marked_over}
use Rattle.rules.proofs.Sums.{at_most_one, count_all, count_one, in_counted, distinct_by_counts}
use Rattle.rules.proofs.Theory.MarkedOver.{NodesRight, standing_nodes_right, with_number, count_numbers_lem, count_in_lanes, marked_over_count}
use Rattle.rules.proofs.SoundMemory.{Standing}

-- of ascending bands those with one number are one or none
one_numbered : (f : Band → Bool) (n : ℕ) (bs : List Band) → NumbersAsc 0 bs
    → count_if f (with_number (λ m. eqb m n) bs) ≡ one_if (any f (with_number (λ m. eqb m n) bs))
one_numbered f n bs a =
    count_one (λ b. b.number) f 0 (with_number (λ m. eqb m n) bs) (ascends_keep (λ b. b.number) (λ b. eqb b.number n) 0 bs a)
    (λ b c i j u v. numbered b i ∙ sym (numbered c j))
  where
    numbered : Each (λ b. b.number ≡ n) (with_number (λ m. eqb m n) bs)
    numbered b i = ((in_kept (λ c. eq_means c.number n) b bs).0 i).1

-- a live band of number n holds the key
abbrev pub HeldBy : Profile → ℕ → ℕ → Type 0
HeldBy p k n = Some (λ b. (holds b k ≡ true) × (b.number ≡ n)) p.bands

-- ---- what the search takes

module _ (p : Profile) (k : ℕ) where
  -- on ascending nodes with levels of at least 1 where both ends of the band are nodes, whatever the other bands, the search takes the band
  -- exactly once if it holds the key and never otherwise
  pub band_met_once : Asc 0 p.nodes → Each (λ n. 1 ≤ n.level) p.nodes → NumbersAsc 0 p.bands
      → (b : Band) → In b p.bands → NodeAt b.low p.nodes → NodeAt b.high p.nodes
      → count_if (λ n. eqb n b.number) (taken p k) ≡ one_if (holds b k)
  band_met_once a levels numbers b i low high =
      ap (count_if (λ n. eqb n b.number)) (takes_marked_over p k a)
      ∙ count_in_lanes (λ n. eqb n b.number) p k lanes
      ∙ ap (sum_of (λ c. times_over p.nodes c k)) alone
      ∙ just_one
      ∙ over_once p.nodes b k a levels low high
    where
      alone : with_number (λ n. eqb n b.number) p.bands ≡ b ∷ []
      alone =
          keep_one (λ c. c.number) (λ c. eqb c.number b.number) 0 p.bands numbers b i ((eq_means b.number b.number).test refl)
          (λ c j e. (eq_means c.number b.number).fact e)

      just_one : sum_of (λ c. times_over p.nodes c k) (b ∷ []) ≡ times_over p.nodes b k
      just_one = omega arith

  module _ (right : NodesRight p) where
    -- for any test, as many of the numbers taken pass as of the numbers of the bands that hold the key
    pub met_once : (t : ℕ → Bool) → count_if t (taken p k) ≡ count_if t (numbers_holding p.bands k)
    met_once t = ap (count_if t) (takes_marked_over p k right.keys_ascend_lem) ∙ marked_over_count t p k right

    -- the search takes as many marks as there are bands that hold the key
    pub taken_as_many : length (taken p k) ≡ count_if (λ b. holds b k) p.bands
    taken_as_many =
        sym (count_all (taken p k))
        ∙ met_once (λ n. true)
        ∙ count_all (numbers_holding p.bands k)
        ∙ length_of_numbers (λ b. holds b k) p.bands

    same_members : (n : ℕ) → In n (taken p k) ↔ In n (numbers_holding p.bands k)
    same_members n =
        let same = met_once (λ m. eqb m n) in (
          λ i. (in_counted n (numbers_holding p.bands k)).1 (omega (arith, (in_counted n (taken p k)).0 i)),
          λ i. (in_counted n (taken p k)).1 (omega (arith, (in_counted n (numbers_holding p.bands k)).0 i)),
        )

    -- the numbers taken are those of the bands that hold the key
    pub taken_are_those_holding : (n : ℕ) → In n (taken p k) ↔ HeldBy p k n
    taken_are_those_holding n = Iff.trans (same_members n) (in_numbers (λ b. itself (holds b k)) n p.bands)

    -- a stab's flags are those of the bands that hold the key ..
    pub flags_of_those_holding : (stab_of p k).flags ≡ flags_of (numbers_holding p.bands k)
    unfolding stab_of
    flags_of_those_holding =
        flags_by_members (taken p k) (numbers_holding p.bands k)
        (λ n l. same_means (member_means n (taken p k)) (member_means n (numbers_holding p.bands k)) (same_members n).0 (same_members n).1)

    -- .. each is set exactly where such a band has the number ..
    pub flag_where_one_holds : (n : ℕ) → n < 1024 → (flag_at (stab_of p k).flags n ≡ 1) ↔ HeldBy p k n
    unfolding stab_of
    flag_where_one_holds n l = Iff.trans (flag_set_where_in (taken p k) n l) (taken_are_those_holding n)

    -- .. and marks met are how many they are
    pub met_is_those_holding : (stab_of p k).met ≡ count_if (λ b. holds b k) p.bands
    unfolding stab_of
    met_is_those_holding = taken_as_many

  module _ (standing : Standing p) where
    -- of the marks taken one has the number, if a band with that number holds the key, else none
    met_with_number : (n : ℕ) → count_if (λ m. eqb m n) (taken p k) ≡ one_if (any (λ b. holds b k) (with_number (λ m. eqb m n) p.bands))
    met_with_number n =
        met_once (standing_nodes_right p standing) (λ m. eqb m n)
        ∙ count_numbers_lem (λ m. eqb m n) (λ b. holds b k) p.bands
        ∙ one_numbered (λ b. holds b k) n p.bands standing.numbers_ascend_lem

    -- each live band is met once if it holds the key and never otherwise
    pub live_band_met_once : Each (λ b. count_if (λ n. eqb n b.number) (taken p k) ≡ one_if (holds b k)) p.bands
    live_band_met_once b i =
        let ends = standing.ends_stand_lem b i in
        band_met_once standing.keys_ascend_lem (λ n j. (standing.levels_right_lem n j).0) standing.numbers_ascend_lem b i ends.0 ends.1

    -- no band is met twice
    pub none_met_twice : Distinct (taken p k)
    none_met_twice =
        distinct_by_counts (taken p k)
        (λ n. omega (arith, met_with_number n, at_most_one (any (λ b. holds b k) (with_number (λ m. eqb m n) p.bands))))

    -- marks met and the count are the same ..
    pub met_is_count : (stab_of p k).met ≡ (stab_of p k).count
    unfolding stab_of
    met_is_count =
        sym (count_without_repeats (taken p k)
        ((all_means (λ n. lt_means n 1024) (taken p k)).test below)
        ((distinct_means (taken p k)).test none_met_twice))
      where
        below : Each (λ n. n < 1024) (taken p k)
        below n i =
            let s = (taken_are_those_holding (standing_nodes_right p standing) n).0 i in
            let right = standing.bands_right_lem s.0 s.1 in
            omega arith

    -- .. and both are how many bands hold the key
    pub count_is_those_holding : (stab_of p k).count ≡ count_if (λ b. holds b k) p.bands
    count_is_those_holding = sym met_is_count ∙ met_is_those_holding (standing_nodes_right p standing)
