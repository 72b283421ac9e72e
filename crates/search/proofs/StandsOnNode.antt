-- The search over the words of a laid profile stands at the place of a node where the paper's search stands on that node, if it is below the key.
-- Assumes nothing.
use Prim.Native.Nat.{ℕ, suc, ◌≤◌, ◌<◌}
use mathlib.Core.Path.{◌≡◌}
use mathlib.Core.List.{List, ◌∷◌}
use lib.ListN.{drop}
use Rattle.rules.specs.NodesLanesEdges.{Node}
use Rattle.rules.specs.Profile.{Profile}
use Rattle.rules.specs.Search.{spot_of, on}
use Rattle.rules.proofs.Lists.{Each}
use Rattle.rules.proofs.SoundMemory.{Standing}
use Rattle.store.proofs.Lays.{Lays}
use Rattle.search.proofs.Stands.{Stands, passed_here, level_here, link_here, takes_here}

module _ {p : Profile} {nodes marks : List ℕ} (laid : Lays p nodes marks) (s : Standing p) (k j : ℕ) (n : Node) (rest : List Node)
    (here : drop j p.nodes ≡ n ∷ rest) (l : n.key < k) where
  -- on a node below k
  pub stands_on_node : (m steps : ℕ) → m ≤ n.level → Each (λ o. o.key < k → o.level ≤ m) rest
      → Stands p nodes marks k m (suc j) (spot_of (on n.key) rest steps)
  stands_on_node m steps h low =
      record {
        passed = passed_here laid s k j n rest here l;
        low = low;
        height = n.level;
        to_do = h;
        in_lane_zero = (level_here laid s k j n rest here l).0;
        link = link_here laid s k j n rest here l;
        takes = takes_here laid s k j n rest here l;
      }
