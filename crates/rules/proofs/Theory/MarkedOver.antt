-- What is marked over a key, counted band by band: where nodes ascend with right levels and both ends of each band stand,
-- the numbers marked on the edges over a key and on a node at it are counted as the numbers of the bands that hold the key.
-- Assumes nothing.
use Prim.Native.Nat.{ℕ, zero, suc, ◌+◌}
use mathlib.Core.Path.{◌≡◌, refl, sym, ◌∙◌, ap₂}
use mathlib.Core.Bool.{Bool, true, false}
use mathlib.Core.List.{List, [], ◌∷◌}
use native.Mathlib.Omega.{arith}
use Rattle.rules.specs.Connectives.{◌and◌, one_if}
use Rattle.rules.specs.Lists.{only_if, add_if, keep, count_if, sum_of, sum_lanes}
use Rattle.rules.specs.HallLine.{Band, holds}
use Rattle.rules.specs.NodesLanesEdges.{Edge, edges_in, lanes, stands_at}
use Rattle.rules.specs.Profile.{Profile}
use Rattle.rules.specs.Marks.{edge_marked, passes_over, node_marked, numbers_where, marked_on_edge, marked_on_node}
use Rattle.rules.specs.Search.{node_takes}
use Rattle.rules.proofs.Lists.{Each, in_keep}
use Rattle.rules.proofs.NodesLanesEdges.{Asc, Level, NodeAt}
use Rattle.rules.proofs.Marks.{numbers_holding}
use Rattle.rules.proofs.Search.{marked_along, edges_over, marked_over}
use Rattle.rules.proofs.Sums.{count_append, count_sum, count_none, sum_same, sum_plus, count_by_rows_or_columns}
use Rattle.rules.proofs.Theory.OverInLane.{times_over_in}
use Rattle.rules.proofs.Theory.OverOnce.{times_on_node, times_over, over_once}
use Rattle.rules.proofs.SoundMemory.{Standing}

-- nodes in key order with right levels, one at each end of each band
pub record NodesRight (p : Profile) : Type 0 where
  pub keys_ascend_lem : Asc 0 p.nodes
  pub levels_right_lem : Each (λ n. Level n.level) p.nodes
  pub ends_stand_lem : Each (λ b. NodeAt b.low p.nodes × NodeAt b.high p.nodes) p.bands

-- a standing profile is so
pub standing_nodes_right : (p : Profile) → Standing p → NodesRight p
standing_nodes_right p s = record { keys_ascend_lem = s.keys_ascend_lem; levels_right_lem = s.levels_right_lem; ends_stand_lem = s.ends_stand_lem }

-- ---- the count, lane by lane and band by band

-- the sum over lanes with the last lane apart
last_apart : (f : ℕ → ℕ) (i m j : ℕ) → i + m ≡ j → sum_lanes f i (suc m) ≡ sum_lanes f i m + f j
last_apart f i zero j e = let same : i ≡ j = omega arith in rw same (omega arith)
last_apart f i (suc m) j e = omega (arith, last_apart f (suc i) m j (omega arith))

-- the bands whose numbers pass a test
abbrev pub with_number : (ℕ → Bool) → List Band → List Band
with_number t bs = keep (λ b. t b.number) bs

-- a count of numbers of bands is a count of bands
pub count_numbers_lem : (t : ℕ → Bool) (f : Band → Bool) (bs : List Band) → count_if t (numbers_where f bs) ≡ count_if f (with_number t bs)
count_numbers_lem t f [] = refl
count_numbers_lem t f (b ∷ bs) = go (f b) (t b.number) refl refl (count_numbers_lem t f bs)
  where
    go : (u v : Bool) → f b ≡ u → t b.number ≡ v → count_if t (numbers_where f bs) ≡ count_if f (with_number t bs)
        → count_if t (add_if u b.number (numbers_where f bs)) ≡ count_if f (add_if v b (with_number t bs))
    go true true p q e = rw (p, q, e)
    go true false p q e = rw (q, e) (omega arith)
    go false true p q e = rw (p, e) (omega arith)
    go false false p q e = e

-- the same where a test decides for all bands
count_only : (t : ℕ → Bool) (o : Bool) (f : Band → Bool) (bs : List Band)
    → count_if t (only_if o (numbers_where f bs)) ≡ count_if (λ b. o and f b) (with_number t bs)
unfolding ◌and◌
count_only t true f bs = count_numbers_lem t f bs
count_only t false f bs = sym (count_none (with_number t bs) (λ b i. refl))

module _ (t : ℕ → Bool) (p : Profile) (k : ℕ) where
  -- the count of what is marked on edges of lane i that pass over k, edge by edge ..
  count_along : (i : ℕ) (es : List Edge)
      → count_if t (marked_along p i (keep (λ e. passes_over e k) es))
      ≡ sum_of (λ e. count_if (λ b. passes_over e k and edge_marked p.nodes b i e) (with_number t p.bands)) es
  unfolding marked_on_edge
  count_along i [] = refl
  count_along i (e ∷ es) =
      omega (arith, apart (passes_over e k), count_only t (passes_over e k) (λ b. edge_marked p.nodes b i e) p.bands, count_along i es)
    where
      later : List Edge
      later = keep (λ f. passes_over f k) es

      apart : (o : Bool)
          → count_if t (marked_along p i (add_if o e later)) ≡ count_if t (only_if o (marked_on_edge p i e)) + count_if t (marked_along p i later)
      apart true = count_append t (marked_on_edge p i e) (marked_along p i later)
      apart false = omega arith

  -- .. and band by band
  count_in_lane : (i : ℕ)
      → count_if t (marked_along p i (edges_over k i p.nodes)) ≡ sum_of (λ b. times_over_in p.nodes b k i) (with_number t p.bands)
  count_in_lane i =
      count_along i (edges_in i p.nodes)
      ∙ count_by_rows_or_columns (λ e b. passes_over e k and edge_marked p.nodes b i e) (edges_in i p.nodes) (with_number t p.bands)

  -- the count of what is marked on a node at k
  count_on_node : count_if t (node_takes p k) ≡ sum_of (λ b. times_on_node p.nodes b k) (with_number t p.bands)
  unfolding node_takes marked_on_node
  count_on_node =
      count_only t (stands_at k p.nodes) (λ b. node_marked p.nodes b k) p.bands
      ∙ count_sum (λ b. stands_at k p.nodes and node_marked p.nodes b k) (with_number t p.bands)

  -- the two together, of the lowest m lanes
  pub count_in_lanes : (m : ℕ)
      → count_if t (marked_over p k m)
      ≡ sum_of (λ b. sum_lanes (times_over_in p.nodes b k) 0 m + times_on_node p.nodes b k) (with_number t p.bands)
  count_in_lanes zero = count_on_node ∙ sum_same (with_number t p.bands) (λ b i. omega arith)
  count_in_lanes (suc i) =
      count_append t (marked_along p i (edges_over k i p.nodes)) (marked_over p k i)
      ∙ ap₂ (λ x y. x + y) (count_in_lane i) (count_in_lanes i)
      ∙ sym (sum_plus (λ b. times_over_in p.nodes b k i) lower (with_number t p.bands))
      ∙ sum_same (with_number t p.bands) (λ b j. omega (arith, last_apart (times_over_in p.nodes b k) 0 i i (omega arith)))
    where
      lower : Band → ℕ
      lower b = sum_lanes (times_over_in p.nodes b k) 0 i + times_on_node p.nodes b k

  -- the numbers over k are counted as those of the bands that hold k
  pub marked_over_count : NodesRight p → count_if t (marked_over p k lanes) ≡ count_if t (numbers_holding p.bands k)
  marked_over_count right =
      count_in_lanes lanes
      ∙ sum_same (with_number t p.bands) once
      ∙ sym (count_sum (λ b. holds b k) (with_number t p.bands))
      ∙ sym (count_numbers_lem t (λ b. holds b k) p.bands)
    where
      once : Each (λ b. times_over p.nodes b k ≡ one_if (holds b k)) (with_number t p.bands)
      once b i =
          let ends = right.ends_stand_lem b ((in_keep (λ c. t c.number) b p.bands).0 i).0 in
          over_once p.nodes b k right.keys_ascend_lem (λ n j. (right.levels_right_lem n j).0) ends.0 ends.1
