-- The node places: what their test means in plain facts, of any words in which the header has its place.
-- Assumes nothing.
use Prim.Native.Nat.{ℕ, zero, suc, ◌+◌, ◌-◌, ◌*◌, ◌/◌, ◌≤◌, ◌<◌}
use mathlib.Core.Path.{◌≡◌, refl, subst}
use mathlib.Core.Logic.{⊎_elim, inl, inr}
use mathlib.Core.List.{List}
use native.Mathlib.Omega.{arith}
use lib.Dec.{leb, ltb}
use lib.ListN.{length, get_or, get_or-eq_default}
use Rattle.rules.specs.Connectives.{◌or◌}
use Rattle.rules.specs.Lists.{all_from}
use Rattle.rules.specs.NodesLanesEdges.{lanes}
use Rattle.rules.specs.Staircase.{slots_per_node}
use Rattle.rules.proofs.Means.{Means, reworded, and_means, or_means, le_means, lt_means, eq_means, at_most_or_above}
use Rattle.rules.proofs.Lists.{Each, each_cons}
use Rattle.rules.proofs.NodesLanesEdges.{Asc, Level, is_level_means}
use Rattle.store.specs.Sizes.{node_place_words}
use Rattle.store.specs.Places.{node_field, key_field, header, lane_count_field, marks_in_use_field, fence_field, in_use}
use Rattle.store.specs.SaidProfile.{said_node, said_nodes_from, said_nodes}
use Rattle.checking.specs.NodePlaces.{nodes_fit, header_right, node_right, nodes_right, rest_free, node_places_right}
use Rattle.checking.proofs.FreeWords.{zeros_mean}

pub record NodesStand (nodes : List ℕ) : Type 0 where
  -- the nodes in use have their places
  pub fits : in_use nodes ≤ length nodes / node_place_words - 1
  -- the header counts 8 lanes, and has zeros after the marks in use
  pub lane_count : node_field nodes header lane_count_field ≡ lanes
  pub spare : (s : ℕ) → s < slots_per_node → node_field nodes header (fence_field (suc s)) ≡ 0
  -- the nodes stand in key order, with levels 1 to 8
  pub ascend : Asc 0 (said_nodes nodes)
  pub levels : Each (λ n. Level n.level) (said_nodes nodes)
  -- every word past the last of them is free
  pub rest_free_lem : (q : ℕ) → (in_use nodes + 1) * node_place_words ≤ q → get_or nodes q 0 ≡ 0

module _ (nodes : List ℕ) where
  fit_means : node_place_words ≤ length nodes → Means (nodes_fit nodes) (in_use nodes ≤ length nodes / node_place_words - 1)
  unfolding nodes_fit
  fit_means h = reworded (lt_means (in_use nodes) (length nodes / node_place_words)) (λ l. omega arith) (λ l. omega arith)

  -- the header's spare words stand where a node place has its fences, but for the first
  header_means :
      Means (header_right nodes)
      ((node_field nodes header lane_count_field ≡ lanes) × ((s : ℕ) → s < slots_per_node → node_field nodes header (fence_field (suc s)) ≡ 0))
  unfolding header_right node_field
  header_means =
      and_means
      (eq_means (node_field nodes header lane_count_field) lanes)
      (reworded (zeros_mean (marks_in_use_field + 1) node_place_words nodes)
      (λ h s l. h (header * node_place_words + fence_field (suc s)) (omega arith) (omega arith))
      (λ h q a b. subst (λ p. get_or nodes p 0 ≡ 0) (omega arith) (h (q - (marks_in_use_field + 1)) (omega arith))))

  -- nodes from place i on, where c is one past the key of the node before it, and 0 at the first
  from_means : (i c : ℕ) → 1 ≤ i → ((k : ℕ) → Means (leb i 1 or ltb (node_field nodes (i - 1) key_field) k) (c ≤ k)) → (m : ℕ)
      → Means (all_from (node_right nodes) i m) (Asc c (said_nodes_from nodes i m) × Each (λ n. Level n.level) (said_nodes_from nodes i m))
  unfolding node_right said_node
  from_means i c h above zero = record { fact = λ e. (tt, λ n j. absurd j); test = λ f. refl }
  from_means i c h above (suc m) =
      let others = from_means (suc i) (suc (node_field nodes i key_field)) (omega arith) above_next m in
      let levels = each_cons {P = λ n. Level n.level} (said_node nodes i) (said_nodes_from nodes (suc i) m) in
      reworded (and_means (and_means (is_level_means _) (above _)) others)
      (λ f. ((f.0.1, f.1.0), levels.1 (f.0.0, f.1.1)))
      (λ f. let l = levels.0 f.1 in ((l.0, f.0.0), (f.0.1, l.1)))
    where
      above_next : (k : ℕ) → Means (leb (suc i) 1 or ltb (node_field nodes (suc i - 1) key_field) k) (suc (node_field nodes i key_field) ≤ k)
      above_next k =
          let before : suc i - 1 ≡ i = omega arith in
          rw before
          (reworded (or_means (le_means (suc i) 1) (lt_means (node_field nodes i key_field) k))
          (⊎_elim (λ l. absurd (omega arith)) (λ l. l)) inr)

  nodes_mean : Means (nodes_right nodes) (Asc 0 (said_nodes nodes) × Each (λ n. Level n.level) (said_nodes nodes))
  unfolding nodes_right said_nodes
  nodes_mean =
      from_means 1 0 (omega arith)
      (λ k. reworded (or_means (le_means 1 1) (lt_means (node_field nodes 0 key_field) k)) (λ e. omega arith) (λ l. inl (omega arith)))
      (in_use nodes)

  rest_means : Means (rest_free nodes) ((q : ℕ) → (in_use nodes + 1) * node_place_words ≤ q → get_or nodes q 0 ≡ 0)
  unfolding rest_free
  rest_means =
      reworded (zeros_mean ((in_use nodes + 1) * node_place_words) (length nodes) nodes)
      (λ h q a. ⊎_elim (λ l. get_or-eq_default nodes 0 l) (λ l. h q a l) (at_most_or_above (length nodes) q))
      (λ h q a b. h q a)

  pub node_places_mean : node_place_words ≤ length nodes → Means (node_places_right nodes) (NodesStand nodes)
  unfolding node_places_right
  node_places_mean h =
      reworded (and_means (fit_means h) (and_means header_means (and_means nodes_mean rest_means)))
      (λ f. record {
        fits = f.0;
        lane_count = f.1.0.0;
        spare = f.1.0.1;
        ascend = f.1.1.0.0;
        levels = f.1.1.0.1;
        rest_free_lem = f.1.1.1;
      })
      (λ s. (s.fits, ((s.lane_count, s.spare), ((s.ascend, s.levels), s.rest_free_lem))))
