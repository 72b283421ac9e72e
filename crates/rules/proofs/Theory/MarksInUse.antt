-- "Marks in use are all edge and node marks": the bands' own counts of marks add up to what is marked on all edges and all nodes.
-- Assumes nothing.
use Prim.Native.Nat.{ℕ, ◌+◌}
use mathlib.Core.Path.{◌≡◌, refl, sym, ◌∙◌}
use mathlib.Core.Bool.{Bool}
use mathlib.Core.List.{List}
use lib.ListN.{length}
use Rattle.rules.specs.Lists.{count_if, sum_of, sum_lanes}
use Rattle.rules.specs.HallLine.{Band}
use Rattle.rules.specs.NodesLanesEdges.{edges_in, lanes}
use Rattle.rules.specs.Profile.{Profile}
use Rattle.rules.specs.Marks.{edge_marked, node_marked, edge_marks_in, marks_of, marks_in_use, numbers_where, marked_on_edge, marked_on_node}
use Rattle.rules.proofs.Sums.{sum_same, sum_plus, count_by_rows_or_columns, lanes_same, sum_by_lanes}
use Rattle.rules.proofs.Marks.{length_of_numbers}

-- all marks, counted place by place: on the edges of each lane, and on the nodes
abbrev pub marks_by_place : Profile → ℕ
marks_by_place p =
    sum_lanes (λ i. sum_of (λ e. length (marked_on_edge p i e)) (edges_in i p.nodes)) 0 lanes
    + sum_of (λ n. length (marked_on_node p n.key)) p.nodes

-- the places of each band, counted together, are as many as the bands listed at each place
by_place : {A : Type 0} (f : Band → A → Bool) (bs : List Band) (places : List A)
    → sum_of (λ b. count_if (f b) places) bs ≡ sum_of (λ x. length (numbers_where (λ b. f b x) bs)) places
by_place f bs places = count_by_rows_or_columns f bs places ∙ sum_same places (λ x i. sym (length_of_numbers (λ b. f b x) bs))

module _ (p : Profile) where
  -- all bands' marks on the edges of one lane ..
  pub lane_marks_by_place :
      (i : ℕ) → sum_of (λ b. edge_marks_in p.nodes b i) p.bands ≡ sum_of (λ e. length (marked_on_edge p i e)) (edges_in i p.nodes)
  unfolding edge_marks_in marked_on_edge
  lane_marks_by_place i = by_place (λ b. edge_marked p.nodes b i) p.bands (edges_in i p.nodes)

  -- .. on the edges of the m lanes from lane i up ..
  pub edge_marks_by_place :
      (i m : ℕ)
      → sum_of (λ b. sum_lanes (edge_marks_in p.nodes b) i m) p.bands
      ≡ sum_lanes (λ j. sum_of (λ e. length (marked_on_edge p j e)) (edges_in j p.nodes)) i m
  edge_marks_by_place i m = sum_by_lanes (edge_marks_in p.nodes) p.bands i m ∙ lanes_same i m (λ j l u. lane_marks_by_place j)

  -- .. and on the nodes
  pub node_marks_by_place :
      sum_of (λ b. count_if (λ n. node_marked p.nodes b n.key) p.nodes) p.bands
      ≡ sum_of (λ n. length (marked_on_node p n.key)) p.nodes
  unfolding marked_on_node
  node_marks_by_place = by_place (λ b n. node_marked p.nodes b n.key) p.bands p.nodes

  -- marks in use are the sum of the bands' own counts ..
  pub marks_in_use_by_band : marks_in_use p ≡ sum_of (marks_of p.nodes) p.bands
  unfolding marks_in_use
  marks_in_use_by_band = refl

  -- .. which are all edge and node marks
  pub marks_in_use_by_place : marks_in_use p ≡ marks_by_place p
  unfolding marks_in_use marks_of
  marks_in_use_by_place = sum_plus _ _ p.bands ∙ rw (edge_marks_by_place 0 lanes, node_marks_by_place)
