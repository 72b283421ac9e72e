-- "The search" as it goes, each lane begun where the lane above was dropped: each lane is dropped at its last node below the key, or at the
-- header where none is below. What is taken there is what is marked on the edge ahead, and that is the lane's edge over the key, or there is none.
-- Assumes nothing.
use Prim.Native.Nat.{ℕ, zero, suc, ◌+◌, ◌-◌, ◌≤◌, ◌<◌}
use mathlib.Core.Path.{◌≡◌, refl, sym, ◌∙◌, ap, subst}
use mathlib.Core.Bool.{Bool, true, false, cond}
use mathlib.Core.Logic.{◌↔◌, ◌⊎◌, inl, ⊎_elim, ⊎_map}
use mathlib.Core.List.{List, [], ◌∷◌, append-nil}
use native.Mathlib.Omega.{arith}
use lib.Dec.{ltb}
use Rattle.rules.specs.Lists.{add_if, keep, first_of, only_if}
use Rattle.rules.specs.NodesLanesEdges.{Node, Edge, edge_of, lanes, takes_part, lane_of, edges_in}
use Rattle.rules.specs.Profile.{Profile}
use Rattle.rules.specs.Marks.{passes_over, marked_on_edge}
use Rattle.rules.specs.Search.{Here, header, on, Spot, spot_of, drop_among, drop_in, drop_takes, start, steps_of}
use Rattle.rules.proofs.Means.{denied, lt_means, lt_fails, at_most_or_above}
use Rattle.rules.proofs.Lists.{In, Each, each_cons, in_kept, keep_none, keep_one, keep_again, keep_above_first, first_least, ascends_keep}
use Rattle.rules.proofs.NodesLanesEdges.{takes_part_means, Asc, lane_ascends, Joins, edge_rule, edges_ascend}
use Rattle.rules.proofs.Marks.{PassesOver, passes_over_means}
use Rattle.rules.proofs.Search.{marked_along, edges_over}
use Rattle.rules.proofs.Theory.EdgesNest.{lane_falls, in_own_lane, in_lane_from, joins, none_over_own, one_over}

-- the nodes after the header are all, the nodes after the node at x those of greater key
abbrev pub nodes_after : Here → List Node → List Node
nodes_after header ns = ns
nodes_after (on x) ns = keep (λ n. ltb x n.key) ns

-- the header where no key of the list is below k, else the last key of the list below k
abbrev pub LastBelow : ℕ → List ℕ → Here → Type 0
LastBelow k ks header = Each (λ y. k ≤ y) ks
LastBelow k ks (on x) = In x ks × (x < k) × Each (λ y. (y ≤ x) ⊎ (k ≤ y)) ks

-- the spot is at the last node of lane i below k, or at the header where none is below, and the nodes ahead are those after it
pub record AtLastBelow (i k : ℕ) (ns : List Node) (at : Spot) : Type 0 where
  pub last_below : LastBelow k (lane_of i ns) at.here
  pub ahead_is : at.ahead ≡ nodes_after at.here ns

-- the spot of a search that was begun at the given spot and has dropped n lanes, the last of them lane i
abbrev pub descended : ℕ → ℕ → ℕ → Spot → Spot
descended k zero i at = at
descended k (suc n) i at = drop_in i k (descended k n (suc i) at)

-- the spot at which the search for k drops lane i; the start above all lanes
abbrev pub drop_spot : Profile → ℕ → ℕ → Spot
drop_spot p k i = descended k (lanes - i) i (start p)

-- the edge from here to the next of the keys ahead, if that is above k
abbrev pub edge_ahead : ℕ → Here → List ℕ → List Edge
edge_ahead k header ys = []
edge_ahead k (on x) [] = []
edge_ahead k (on x) (y ∷ ys) = only_if (ltb k y) (edge_of x y ∷ [])

-- the header, or a key of the list below k
abbrev Below : ℕ → List ℕ → Here → Type 0
Below k ks header = Unit {0}
Below k ks (on x) = In x ks × (x < k)

module _ (ns : List Node) where
  -- who stands after the node at x
  pub in_after : (x : ℕ) (n : Node) → In n (nodes_after (on x) ns) ↔ (In n ns × (x < n.key))
  in_after x n = in_kept (λ o. lt_means x o.key) n ns

  after_among : (h : Here) (n : Node) → In n (nodes_after h ns) → In n ns
  after_among header n m = m
  after_among (on x) n m = ((in_after x n).0 m).0

  -- what is after a node that is ahead is after it among all nodes
  after_again : (h : Here) (n : Node) → In n (nodes_after h ns) → nodes_after (on n.key) (nodes_after h ns) ≡ nodes_after (on n.key) ns
  after_again header n m = refl
  after_again (on x) n m =
      keep_again (λ o. ltb x o.key) (λ o. ltb n.key o.key) ns
      (λ o j e. (lt_means x o.key).test (omega (arith, ((in_after x n).0 m).1, (lt_means n.key o.key).fact e)))

  -- the keys of a lane after x are the lane's keys above x
  in_lane_after : (i x y : ℕ) → In y (lane_of i (nodes_after (on x) ns)) ↔ (In y (lane_of i ns) × (x < y))
  in_lane_after i x y = in_lane_from (suc x) ns (nodes_after (on x) ns) (in_after x) i y

  -- what is so of a lane's keys after x is so of each key of the lane that is not at most x
  behind_or : (i x : ℕ) {P : ℕ → Type 0} → Each P (lane_of i (nodes_after (on x) ns)) → Each (λ y. (y ≤ x) ⊎ P y) (lane_of i ns)
  behind_or i x f y m = ⊎_map (λ l. l) (λ l. f y ((in_lane_after i x y).1 (m, l))) (at_most_or_above y x)

module _ (ns : List Node) (a : Asc 0 ns) where
  after_ascends : (h : Here) → Asc 0 (nodes_after h ns)
  after_ascends header = a
  after_ascends (on x) = ascends_keep (λ n. n.key) (λ n. ltb x n.key) 0 ns a

  -- the rest of the nodes ahead are those after the first of them
  rest_after : (h : Here) (n : Node) (rest : List Node) → n ∷ rest ≡ nodes_after h ns → rest ≡ nodes_after (on n.key) ns
  rest_after h n rest e =
      sym (keep_above_first (λ o. o.key) 0 n rest (subst (Asc 0) (sym e) (after_ascends h)))
      ∙ ap (nodes_after (on n.key)) e
      ∙ after_again ns h n (subst (In n) e (inl refl))

  module _ (i k : ℕ) where
    -- the spot is reached if no key of the list is below k
    abbrev AtLastIfNone : List ℕ → Spot → Type 0
    AtLastIfNone ks at = Each (λ y. k ≤ y) ks → AtLastBelow i k ns at

    -- a spot below k is reached if no key of the lane ahead is below k
    none_ahead : (at : Spot) → Below k (lane_of i ns) at.here → at.ahead ≡ nodes_after at.here ns → AtLastIfNone (lane_of i at.ahead) at
    none_ahead at b e none =
        record { last_below = last at.here b (subst (λ ms. Each (λ y. k ≤ y) (lane_of i ms)) e none); ahead_is = e }
      where
        last : (h : Here) → Below k (lane_of i ns) h → Each (λ y. k ≤ y) (lane_of i (nodes_after h ns)) → LastBelow k (lane_of i ns) h
        last header b f = f
        last (on x) b f = (b.0, b.1, behind_or ns i x f)

    -- stepping on among the last of all nodes, from a spot that is reached if none of the lane among them is below k
    among_reaches : (at : Spot) (h : Here) (ms : List Node) → ms ≡ nodes_after h ns → AtLastIfNone (lane_of i ms) at
        → AtLastBelow i k ns (drop_among i k at ms)
    among_reaches at h [] e stop = stop (λ y m. absurd m)
    among_reaches at h (n ∷ rest) e stop =
        go (takes_part i n) (ltb n.key k) refl refl stop
        (among_reaches next (on n.key) rest onward) (among_reaches at (on n.key) rest onward)
      where
        onward : rest ≡ nodes_after (on n.key) ns
        onward = rest_after h n rest e

        next : Spot
        next = spot_of (on n.key) rest (at.steps + 1)

        there : i < n.level → In n.key (lane_of i ns)
        there = in_own_lane i n ns (after_among ns h n (subst (In n) e (inl refl)))

        later : Each (λ y. n.key < y) (lane_of i rest)
        later y m = ((in_lane_after ns i n.key y).0 (subst (λ ms. In y (lane_of i ms)) onward m)).1

        go : (t u : Bool) → takes_part i n ≡ t → ltb n.key k ≡ u
            → AtLastIfNone (add_if t n.key (lane_of i rest)) at
            → (AtLastIfNone (lane_of i rest) next → AtLastBelow i k ns (drop_among i k next rest))
            → (AtLastIfNone (lane_of i rest) at → AtLastBelow i k ns (drop_among i k at rest))
            → AtLastBelow i k ns (cond t (cond u (drop_among i k next rest) at) (drop_among i k at rest))
        go true true p q stop further skipped =
            further (none_ahead next (there ((takes_part_means i n).fact p), (lt_means n.key k).fact q) onward)
        go true false p q stop further skipped =
            let over = (lt_fails n.key k).fact q in
            stop ((each_cons n.key (lane_of i rest)).1 (over, λ y m. omega (arith, later y m)))
        go false u p q stop further skipped = skipped stop

    -- a lane begun at the header or on a node of the lane below k is dropped at the last node below k
    drop_reaches : (at : Spot) → Below k (lane_of i ns) at.here → at.ahead ≡ nodes_after at.here ns → AtLastBelow i k ns (drop_in i k at)
    unfolding drop_in
    drop_reaches at b e = among_reaches at at.here at.ahead e (none_ahead at b e)

    -- and so is a lane begun where the lane above was dropped
    next_reaches : (at : Spot) → AtLastBelow (suc i) k ns at → AtLastBelow i k ns (drop_in i k at)
    next_reaches at r = drop_reaches at (falls at.here r.last_below) r.ahead_is
      where
        falls : (h : Here) → LastBelow k (lane_of (suc i) ns) h → Below k (lane_of i ns) h
        falls header l = tt
        falls (on x) l = (lane_falls i (suc i) x ns (omega arith) l.0, l.1)

    no_edge_over : Each (λ e. PassesOver e k → ⊥) (edges_in i ns) → edges_over k i ns ≡ []
    no_edge_over none = keep_none (λ e. passes_over e k) (edges_in i ns) (λ e m. (denied (passes_over_means e k)).test (none e m))

    -- an edge of the lane over k is the only one
    pub one_edge_over : (e : Edge) → In e (edges_in i ns) → PassesOver e k → edges_over k i ns ≡ e ∷ []
    one_edge_over e m o =
        keep_one (λ f. f.from) (λ f. passes_over f k) 0 (edges_in i ns) (edges_ascend i 0 ns a) e m ((passes_over_means e k).test o)
        (λ f j q. ap (λ g. g.from) (one_over 0 ns a i k f e j m ((passes_over_means f k).fact q) o))

    pub over_ahead : (h : Here) (ys : List ℕ) → LastBelow k (lane_of i ns) h → lane_of i (nodes_after h ns) ≡ ys → edges_over k i ns ≡ edge_ahead k h ys
    over_ahead header ys l q = no_edge_over (λ e m o. omega (arith, o.0, l e.from (joins 0 ns a i e m).from_in))
    over_ahead (on x) [] l q =
        no_edge_over (λ e m o. subst (In e.to) q ((in_lane_after ns i x e.to).1 ((joins 0 ns a i e m).to_in, omega (arith, o.1, l.1))))
    over_ahead (on x) (y ∷ ys) l q = go (ltb k y) refl
      where
        first : In y (lane_of i (nodes_after (on x) ns)) × Each (λ z. y ≤ z) (lane_of i (nodes_after (on x) ns))
        first =
            (first_least (λ z. z) 0 (lane_of i (nodes_after (on x) ns)) (lane_ascends i 0 (nodes_after (on x) ns) (after_ascends (on x))) y).0 (ap first_of q)

        ahead : In y (lane_of i ns) × (x < y)
        ahead = (in_lane_after ns i x y).0 first.0

        edge : Joins (edge_of x y) (lane_of i ns)
        edge = record { from_in = l.0; to_in = ahead.0; upward = ahead.1; none_between = behind_or ns i x first.1 }

        go : (t : Bool) → ltb k y ≡ t → edges_over k i ns ≡ only_if t (edge_of x y ∷ [])
        go true p = one_edge_over (edge_of x y) ((edge_rule i 0 (edge_of x y) ns a).1 edge) (l.1, (lt_means k y).fact p)
        go false p =
            let at_k : y ≡ k = ⊎_elim (λ u. absurd (omega (arith, ahead.1))) (λ u. omega (arith, (lt_fails k y).fact p)) (l.2 y ahead.0) in
            no_edge_over (λ e m o. none_over_own 0 ns a i k e m o (subst (λ z. In z (lane_of i ns)) at_k ahead.0))

  -- a search from the header that has dropped any number of lanes, the last of them lane i, stands at the last node of lane i below k
  pub descended_reaches : (k s n i : ℕ) → AtLastBelow i k ns (descended k (suc n) i (spot_of header ns s))
  descended_reaches k s zero i = drop_reaches i k (spot_of header ns s) tt refl
  descended_reaches k s (suc n) i = next_reaches i k (descended k (suc n) (suc i) (spot_of header ns s)) (descended_reaches k s n (suc i))

module _ (p : Profile) (k : ℕ) where
  -- what is taken on dropping a lane is what is marked on the edge ahead
  pub drop_takes_lem : (i : ℕ) (h : Here) (ys : List ℕ) → drop_takes p i k h ys ≡ marked_along p i (edge_ahead k h ys)
  drop_takes_lem i header ys = refl
  drop_takes_lem i (on x) [] = refl
  drop_takes_lem i (on x) (y ∷ ys) = go (ltb k y)
    where
      go : (t : Bool) → only_if t (marked_on_edge p i (edge_of x y)) ≡ marked_along p i (only_if t (edge_of x y ∷ []))
      go true = sym (append-nil (marked_on_edge p i (edge_of x y)))
      go false = refl

  -- the search starts at the header ..
  pub drop_spot_start : drop_spot p k lanes ≡ start p
  drop_spot_start = refl

  -- .. its steps are those counted when lane 0 is dropped ..
  pub steps_at_last_drop : steps_of p k ≡ (drop_spot p k 0).steps
  unfolding steps_of
  steps_at_last_drop = refl

  -- .. and it drops a lane from where it dropped the lane above
  pub drop_spot_follows : (i : ℕ) → i < lanes → drop_spot p k i ≡ drop_in i k (drop_spot p k (suc i))
  drop_spot_follows i l = let more : lanes - i ≡ suc (lanes - suc i) = omega arith in rw more

  module _ (a : Asc 0 p.nodes) where
    -- for each lane, the spot at which the search drops it is the header, if no node of the lane is below k, else on the last that is
    pub reaches_last_below : (i : ℕ) → i < lanes → AtLastBelow i k p.nodes (drop_spot p k i)
    reaches_last_below i l = rw (drop_spot_follows i l) (descended_reaches p.nodes a k 0 (lanes - suc i) i)
