-- "The search", its looks: the nodes that the search steps onto as it goes down the lanes, each begun where the lane above stopped,
-- are as many as the paper counts: those below the key with no taller node between them and it. So the looks are 8 plus the steps.
-- Assumes nothing.
use Prim.Native.Nat.{ℕ, zero, suc, ◌+◌, ◌≤◌, ◌<◌}
use mathlib.Core.Path.{◌≡◌, refl, sym, ◌∙◌, ap}
use mathlib.Core.Bool.{Bool, true, false, cond}
use mathlib.Core.Logic.{◌⊎◌, inl, inr, ⊎_elim}
use mathlib.Core.List.{List, [], ◌∷◌}
use native.Mathlib.Omega.{arith}
use lib.Dec.{ltb}
use lib.ListN.{length}
use Rattle.rules.specs.Connectives.{one_if}
use Rattle.rules.specs.Lists.{count_if}
use Rattle.rules.specs.NodesLanesEdges.{Node, lanes, takes_part}
use Rattle.rules.specs.Profile.{Profile}
use Rattle.rules.specs.Search.{Spot, spot_of, on, drop_among, drop_in, steps_from, start, steps_of, stepped_onto, looks}
use Rattle.rules.proofs.Means.{same_means, denied, lt_means, lt_fails}
use Rattle.rules.proofs.Lists.{In, Some, Each, each_cons, some_cons, ascends_from}
use Rattle.rules.proofs.Sums.{count_same, count_none, count_no_more}
use Rattle.rules.proofs.NodesLanesEdges.{Asc, Level, takes_part_means}
use Rattle.rules.proofs.Search.{stepped_onto_means}

-- how many nodes are stepped onto by the paper's rule where these are all the nodes
abbrev onto : ℕ → List Node → ℕ
onto k ns = count_if (stepped_onto ns k) ns

-- among the nodes one of lane i is below k
abbrev LaneGoesOn : ℕ → ℕ → List Node → Type 0
LaneGoesOn i k ns = Some (λ n. (i < n.level) × (n.key < k)) ns

-- of some nodes in key order ..
module _ (k c : ℕ) (n : Node) (ns : List Node) (a : Asc c (n ∷ ns)) where
  -- .. the first does not change which of the others are stepped onto ..
  later_alike : Each (λ m. stepped_onto (n ∷ ns) k m ≡ stepped_onto ns k m) ns
  later_alike m i =
      same_means (stepped_onto_means (n ∷ ns) k m) (stepped_onto_means ns k m)
      (λ h. (h.0, λ t j. h.1 t (inr j)))
      (λ h. (h.0, (each_cons n ns).1 (λ b. omega (arith, ascends_from (λ z. z.key) (suc n.key) ns a.1 m i), h.1)))

  -- .. so the first counts by itself ..
  onto_cons : onto k (n ∷ ns) ≡ one_if (stepped_onto (n ∷ ns) k n) + onto k ns
  onto_cons = rw (count_same ns later_alike)

  -- .. it is not stepped onto where a node of a lane that it does not reach follows below k ..
  passed_over : (i : ℕ) → n.level ≤ i → LaneGoesOn i k ns → onto k (n ∷ ns) ≡ onto k ns
  passed_over i l s =
      let after = ascends_from (λ z. z.key) (suc n.key) ns a.1 s.0 s.1 in
      let none = (denied (stepped_onto_means (n ∷ ns) k n)).test (λ h. h.1 s.0 (inr s.1) (omega arith, after, s.2.1)) in
      onto_cons ∙ rw none (omega arith)

  -- .. and is stepped onto where it is below k and no taller node below k follows
  stepped_onto_lem : n.key < k → Each (λ t. t.key < k → t.level ≤ n.level) ns → onto k (n ∷ ns) ≡ suc (onto k ns)
  stepped_onto_lem l h =
      let one = (stepped_onto_means (n ∷ ns) k n).test (l, (each_cons n ns).1 (λ b. omega arith, λ t i b. omega (arith, h t i b.2))) in
      onto_cons ∙ rw one (omega arith)

-- where the search stands after it stepped onto n, with ns after it
abbrev onward : Spot → Node → List Node → Spot
onward at n ns = spot_of (on n.key) ns (at.steps + 1)

-- the nodes are in key order, and those below k are of level 1 to m
record Within (m k : ℕ) (ns : List Node) : Type 0 where
  bound : ℕ
  ascend : Asc bound ns
  levels : Each (λ n. n.key < k → (1 ≤ n.level) × (n.level ≤ m)) ns

-- a search for k that has the lowest m lanes to do and will have stepped onto t nodes in all
record Going (m k t : ℕ) (at : Spot) : Type 0 where
  within : Within m k at.ahead
  in_all : at.steps + onto k at.ahead ≡ t

-- in lane i the search has passed the nodes ahead of it up to ns: none of those passed takes part in the lane,
-- and none is stepped onto if the lane goes on below k among ns
record Passed (i k : ℕ) (ahead ns : List Node) : Type 0 where
  lower : Each (λ n. (n.level ≤ i) ⊎ In n ns) ahead
  same : LaneGoesOn i k ns → onto k ahead ≡ onto k ns

module _ (i k t : ℕ) where
  -- where it enters the lane it has passed none
  passed_none : (ns : List Node) → Passed i k ns ns
  passed_none ns = record { lower = λ n j. inr j; same = λ s. refl }

  -- the lane is done where no node of it is ahead below k
  lane_done : (at : Spot) → Going (suc i) k t at → Each (λ n. n.key < k → n.level ≤ i) at.ahead → Going i k t at
  lane_done at g h =
      let w = g.within in
      record {
        within = record { bound = w.bound; ascend = w.ascend; levels = λ n j b. ((w.levels n j b).0, h n j b) };
        in_all = g.in_all;
      }

  -- the search keeps to its count along the rest of the lane ..
  abbrev DropsAmong : Spot → List Node → Type 0
  DropsAmong at ns = Going (suc i) k t at → Within (suc i) k ns → Passed i k at.ahead ns → Going i k t (drop_among i k at ns)

  drop_among_lem : (at : Spot) (ns : List Node) → DropsAmong at ns
  drop_among_lem at [] g w o = lane_done at g (λ n j b. ⊎_elim (λ l. l) absurd (o.lower n j))
  drop_among_lem at (n ∷ ns) g w o =
      go (takes_part i n) refl (ltb n.key k) refl (drop_among_lem (onward at n ns) ns) (drop_among_lem at ns)
    where
      rest : Within (suc i) k ns
      rest = record { bound = suc n.key; ascend = w.ascend.1; levels = λ m j. w.levels m (inr j) }

      stop : k ≤ n.key → Each (λ m. m.key < k → m.level ≤ i) at.ahead
      stop l m j b =
          let from = ascends_from (λ z. z.key) n.key (n ∷ ns) (omega arith, w.ascend.1) in
          ⊎_elim (λ h. h) (λ h. absurd (omega (arith, from m h))) (o.lower m j)

      step : i < n.level → n.key < k → Going (suc i) k t (onward at n ns)
      step p l =
          record {
            within = rest;
            in_all =
                let s = stepped_onto_lem k w.bound n ns w.ascend l (λ m j b. omega (arith, (rest.levels m j b).1)) in
                omega (arith, s, o.same (n, inl refl, (p, l)), g.in_all);
          }

      skip : n.level ≤ i → Passed i k at.ahead ns
      skip l =
          record {
            lower = λ m j. ⊎_elim inl (⊎_elim (λ e. inl (omega (arith, ap (λ z. z.level) e))) inr) (o.lower m j);
            same = λ s. o.same ((some_cons n ns).1 (inr s)) ∙ passed_over k w.bound n ns w.ascend i l s;
          }

      go : (part : Bool) → takes_part i n ≡ part → (below : Bool) → ltb n.key k ≡ below
          → DropsAmong (onward at n ns) ns → DropsAmong at ns
          → Going i k t (cond part (cond below (drop_among i k (onward at n ns) ns) at) (drop_among i k at ns))
      go true p true l further skipped = further (step ((takes_part_means i n).fact p) ((lt_means n.key k).fact l)) rest (passed_none ns)
      go true p false l further skipped = lane_done at g (stop ((lt_fails n.key k).fact l))
      go false p below l further skipped = skipped g rest (skip (omega (arith, (denied (takes_part_means i n)).fact p)))

  -- .. and so along the whole lane
  drop_in_lem : (at : Spot) → Going (suc i) k t at → Going i k t (drop_in i k at)
  unfolding drop_in
  drop_in_lem at g = drop_among_lem at at.ahead g g.within (passed_none at.ahead)

-- with no lanes to do no step is left ..
none_left : (k : ℕ) (ns : List Node) → Within 0 k ns → onto k ns ≡ 0
none_left k ns w =
    count_none ns (λ n i. (denied (stepped_onto_means ns k n)).test (λ h. omega (arith, w.levels n i h.0)))

-- .. so when the lowest m lanes are done all steps are taken
steps_from_lem : (k t m : ℕ) (at : Spot) → Going m k t at → steps_from k m at ≡ t
steps_from_lem k t zero at g = omega (arith, none_left k at.ahead g.within, g.in_all)
steps_from_lem k t (suc i) at g = steps_from_lem k t i (drop_in i k at) (drop_in_lem i k t at g)

module _ (p : Profile) (k : ℕ) where
  module _ (a : Asc 0 p.nodes) (l : Each (λ n. Level n.level) p.nodes) where
    -- the search steps onto as many nodes as there are below k with no taller node between them and k
    pub steps_are_stepped_onto : steps_of p k ≡ count_if (stepped_onto p.nodes k) p.nodes
    unfolding steps_of
    steps_are_stepped_onto =
        steps_from_lem k (onto k p.nodes) lanes (start p)
        (record { within = record { bound = 0; ascend = a; levels = λ n i b. l n i }; in_all = omega arith })

    -- the looks reported are 8 plus the nodes that the search steps onto
    pub looks_are_steps : looks p k ≡ 8 + steps_of p k
    unfolding looks
    looks_are_steps = ap (λ s. 8 + s) (sym steps_are_stepped_onto)

  -- the looks are at most 8 plus all nodes
  pub looks_at_most : looks p k ≤ 8 + length p.nodes
  unfolding looks
  looks_at_most = omega (arith, count_no_more (stepped_onto p.nodes k) p.nodes)
