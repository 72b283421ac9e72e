-- `checking::links::links_right` meets its contract. The loop's invariant: the first places ahead of the place are known, and the test of the
-- links up to it is that of all links.
-- Assumes nothing.
use Rattle.std.proofs.Common.{◌≡◌}
use Rattle.linking.proofs.PlacesAhead.{Ahead}
use Rattle.checking.specs.Links.{links_right}
use Rattle.checking.proofs.LinkSteps.{links_up_to}
use Rattle.checking.proofs.links.links_right.Given as goal

abbrev pub invariant-loop-place : goal.invariant-loop-place
invariant-loop-place l =
    Ahead l.nodes l.place l.ahead × (links_up_to l.nodes l.place ≡ links_right l.nodes)
