-- What the test of ends and nodes means, on node words that have a place for each node and say nodes in key order: each end of a band has its
-- node, and each node is an end of some band.
-- Assumes nothing.
use Prim.Native.Nat.{ℕ, ◌-◌, ◌/◌, ◌≤◌}
use mathlib.Core.Path.{refl, sym, subst}
use mathlib.Core.List.{List}
use lib.ListN.{length}
use Rattle.rules.specs.Lists.{all_from, member}
use Rattle.rules.proofs.Means.{Means, reworded, and_means}
use Rattle.rules.proofs.Lists.{Some, Each, all_from_means}
use Rattle.rules.proofs.NodesLanesEdges.{Asc, NodeAt, EndOf}
use Rattle.store.specs.Sizes.{node_place_words}
use Rattle.store.specs.Places.{in_use}
use Rattle.store.specs.SaidProfile.{said_bands, said_node, said_nodes}
use Rattle.store.proofs.SaidNodes.{in_said_nodes}
use Rattle.linking.specs.EndPlaces.{end_places}
use Rattle.linking.proofs.EndPlaces.{all_placed_means, place_of_end_means}
use Rattle.checking.specs.Ends.{ends_match}

module _ (bands nodes : List ℕ) (fit : in_use nodes ≤ length nodes / node_place_words - 1) (ascend : Asc 0 (said_nodes nodes)) where
  -- each place in use is that of an end: its node stands there
  all_ends_means :
      Means
      (all_from (λ i. member i (end_places bands nodes)) 1 (in_use nodes))
      (Each (λ n. Some (EndOf n.key) (said_bands bands)) (said_nodes nodes))
  all_ends_means =
      reworded
      (all_from_means 1 (in_use nodes) (place_of_end_means bands nodes fit ascend))
      (λ h n m. let s = (in_said_nodes nodes n).0 m in subst (λ x. Some (EndOf x.key) (said_bands bands)) (sym s.3) (h s.0 s.1 s.2))
      (λ h i a b. h (said_node nodes i) ((in_said_nodes nodes (said_node nodes i)).1 (i, a, b, refl)))

  pub ends_mean :
      Means
      (ends_match bands nodes)
      (Each (λ b. NodeAt b.low (said_nodes nodes) × NodeAt b.high (said_nodes nodes)) (said_bands bands)
      × Each (λ n. Some (EndOf n.key) (said_bands bands)) (said_nodes nodes))
  unfolding ends_match
  ends_mean = and_means (all_placed_means bands nodes fit ascend) all_ends_means
