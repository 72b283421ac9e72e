-- How many lanes a node's place has links in; and the next place of a lane, from a place on: the place itself or one past it, none past the last
-- in use, and by the nodes that the words say.
-- Assumes nothing.
use Prim.Native.Nat.{ℕ, suc, ◌+◌, ◌-◌, ◌≤◌, ◌<◌}
use mathlib.Core.Path.{◌≡◌}
use mathlib.Core.Bool.{cond}
use mathlib.Core.List.{List}
use native.Mathlib.Numerals.{add-one}
use native.Mathlib.Omega.{arith}
use borrow.Author.Tests.{ne_eqb}
use lib.Dec.{ltb}
use lib.ListN.{drop}
use Rattle.rules.specs.NodesLanesEdges.{takes_part}
use Rattle.store.specs.Places.{node_field, level_field, in_use}
use Rattle.store.specs.SaidProfile.{said_node, said_nodes}
use Rattle.store.specs.LaidNodes.{next_place}
use Rattle.store.proofs.SaidNodes.{said_from}
use Rattle.linking.specs.LinksDue.{next_from, linked_lanes}

-- in as many as its level says
pub node_lanes : (nodes : List ℕ) (i : ℕ) → 0 < i → linked_lanes nodes i ≡ node_field nodes i level_field
unfolding linked_lanes
node_lanes nodes i h = rw (ne_eqb i 0 (λ e. omega arith))

module _ (nodes : List ℕ) (lane : ℕ) where
  -- the place itself, where its node takes part in the lane, or the next place from the one after it on
  pub next_here_or_on : (i : ℕ) → i ≤ in_use nodes
      → next_from nodes lane i ≡ cond (ltb lane (node_field nodes i level_field)) i (next_from nodes lane (i + 1))
  unfolding next_from said_node takes_part
  next_here_or_on i h = let more : suc (in_use nodes) - i ≡ suc (suc (in_use nodes) - (i + 1)) = omega arith in rw (more, add-one)

  pub no_next_past : (i : ℕ) → in_use nodes < i → next_from nodes lane i ≡ 0
  unfolding next_from
  no_next_past i h = let none : suc (in_use nodes) - i ≡ 0 = omega arith in rw none

  pub next_among_said : (j : ℕ) → next_from nodes lane (suc j) ≡ next_place lane (suc j) (drop j (said_nodes nodes))
  unfolding next_from
  next_among_said j = let left : suc (in_use nodes) - suc j ≡ in_use nodes - j = omega arith in rw (left, said_from nodes j)
