-- What the test of the links means: each link of the header and of each node leads to the next place of its lane.
-- Assumes nothing.
use Prim.Native.Nat.{ℕ, zero, suc, ◌≤◌, ◌<◌}
use mathlib.Core.Path.{◌≡◌, sym, ◌∙◌}
use mathlib.Core.List.{List}
use native.Mathlib.Omega.{arith}
use Rattle.rules.specs.NodesLanesEdges.{lanes}
use Rattle.rules.proofs.Lists.{all_from_means}
use Rattle.rules.proofs.Means.{Means, reworded, eq_means}
use Rattle.store.specs.Places.{node_field, link_field, in_use}
use Rattle.store.proofs.SaidNodes.{said_here, said_in_use}
use Rattle.linking.specs.LinksDue.{link_due_at}
use Rattle.linking.proofs.LinksLaid.{LinksLaid, due_first, due_at}
use Rattle.checking.specs.Links.{link_right, place_links_right, links_right}

module _ (nodes : List ℕ) where
  -- the links of a place are those that are due
  abbrev Due : ℕ → Type 0
  Due i = (lane : ℕ) → lane < lanes → node_field nodes i (link_field lane) ≡ link_due_at nodes i lane

  place_links_mean : (i : ℕ) → Means (place_links_right nodes i) (Due i)
  unfolding place_links_right link_right
  place_links_mean i =
      reworded (all_from_means 0 lanes (λ lane a b. eq_means (node_field nodes i (link_field lane)) (link_due_at nodes i lane)))
      (λ h lane b. h lane (omega arith) (omega arith))
      (λ h lane a b. h lane (omega arith))

  pub links_mean : Means (links_right nodes) (LinksLaid nodes)
  unfolding links_right
  links_mean =
      reworded (all_from_means 0 (suc (in_use nodes)) (λ i a b. place_links_mean i))
      (λ h. record {
        first_link = λ lane l. h 0 (omega arith) (omega arith) lane l ∙ due_first nodes lane l;
        link = λ j n rest at lane l. h (suc j) (omega arith) (omega (arith, said_in_use nodes j at)) lane l ∙ due_at nodes j at lane;
      })
      (λ h i a b. each h i (omega arith))
    where
      each : LinksLaid nodes → (i : ℕ) → i ≤ in_use nodes → Due i
      each h zero b lane l = h.first_link lane l ∙ sym (due_first nodes lane l)
      each h (suc j) b lane l = let at = said_here nodes j b in h.link j _ _ at lane l ∙ sym (due_at nodes j at lane)
