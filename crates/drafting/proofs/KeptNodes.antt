-- Once the places of all bands' ends are noted, the nodes whose places are noted are those at an end of a band, on node words that have a place for
-- each node and say nodes in key order.
-- Assumes nothing.
use Prim.Native.Nat.{ℕ, zero, suc, ◌-◌, ◌/◌, ◌≤◌, ◌<◌}
use mathlib.Core.Path.{◌≡◌, refl, ◌∙◌, ap₂}
use mathlib.Core.Bool.{Bool, true}
use mathlib.Core.List.{List}
use native.Mathlib.Omega.{arith}
use lib.ListN.{length, replicate}
use Rattle.rules.specs.Lists.{add_if, keep}
use Rattle.rules.specs.NodesLanesEdges.{Node, is_end_of_some}
use Rattle.rules.specs.Changes.{nodes_at_ends}
use Rattle.rules.specs.SoundMemory.{keys_ascend}
use Rattle.rules.proofs.Means.{same_means}
use Rattle.rules.proofs.Lists.{EachLane}
use Rattle.rules.proofs.NodesLanesEdges.{is_end_of_some_means}
use Rattle.rules.proofs.SoundMemory.{keys_ascend_means}
use Rattle.store.specs.Sizes.{node_place_words}
use Rattle.store.specs.Places.{in_use}
use Rattle.store.specs.SaidProfile.{said_bands, said_node, said_nodes_from, said_nodes}
use Rattle.linking.specs.EndPlaces.{end_places, noted, is_noted}
use Rattle.linking.proofs.NotingSteps.{found_alone}
use Rattle.linking.proofs.EndPlaces.{place_of_end_means}
use Rattle.drafting.specs.NotedNodes.{noted_nodes_from, noted_nodes}

-- where a place is noted exactly when its node passes a test, the nodes noted are those that the test keeps
noted_are_kept : (nodes found : List ℕ) (test : Node → Bool) (i m : ℕ) → EachLane (λ j. is_noted found j ≡ test (said_node nodes j)) i m
    → noted_nodes_from nodes found i m ≡ keep test (said_nodes_from nodes i m)
noted_are_kept nodes found test i zero h = refl
noted_are_kept nodes found test i (suc m) h =
    ap₂
    (λ t ns. add_if t (said_node nodes i) ns)
    (h i (omega arith) (omega arith))
    (noted_are_kept nodes found test (suc i) m (λ j a b. h j (omega arith) (omega arith)))

module _ (bands nodes : List ℕ) (fit : in_use nodes ≤ length nodes / node_place_words - 1) (ascend : keys_ascend 0 (said_nodes nodes) ≡ true) where
  -- with nothing noted before, a place in use is noted exactly when its node stands at an end
  noted_at_end : (n : ℕ) → in_use nodes < n → EachLane
      (λ i. is_noted (noted (replicate n 0) (end_places bands nodes)) i ≡ is_end_of_some (said_bands bands) (said_node nodes i).key)
      1
      (in_use nodes)
  noted_at_end n l i a b =
      found_alone n i (end_places bands nodes) (omega arith)
      ∙ same_means
      (place_of_end_means bands nodes fit ((keys_ascend_means 0 (said_nodes nodes)).fact ascend) i a b)
      (is_end_of_some_means (said_bands bands) (said_node nodes i).key)
      (λ s. s)
      (λ s. s)

  -- so the nodes noted are those at an end
  pub noted_nodes_at_ends : {old found : List ℕ} → in_use nodes < length old → old ≡ replicate (length old) 0
      → found ≡ noted old (end_places bands nodes)
      → noted_nodes nodes found ≡ nodes_at_ends (said_bands bands) (said_nodes nodes)
  unfolding noted_nodes nodes_at_ends said_nodes
  noted_nodes_at_ends {old} {found} l blank n =
      noted_are_kept
      nodes
      found
      (λ x. is_end_of_some (said_bands bands) x.key)
      1
      (in_use nodes)
      (λ i a b. rw (n, blank) (noted_at_end (length old) l i a b))
