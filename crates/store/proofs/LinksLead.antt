-- A test of the node that a link leads to, on words that lay a profile: it fails where the lane has no node ahead, else it is the test of the key
-- of the lane's next node.
-- Assumes nothing.
use Prim.Native.Nat.{ℕ, suc, ◌+◌}
use mathlib.Core.Path.{◌≡◌}
use mathlib.Core.Bool.{Bool, false, not}
use mathlib.Core.List.{List}
use native.Mathlib.Omega.{arith}
use lib.Dec.{eqb}
use lib.ListN.{drop}
use borrow.Author.Tests.{ne_eqb}
use Rattle.rules.specs.Connectives.{◌and◌}
use Rattle.rules.specs.NodesLanesEdges.{Node}
use Rattle.rules.specs.Profile.{Profile}
use Rattle.store.specs.Places.{node_field, key_field}
use Rattle.store.specs.LaidNodes.{next_place}
use Rattle.store.proofs.Lays.{Lays}
use Rattle.store.proofs.NextInLane.{None, Next, next_there}

-- a node stands at the place, and its key passes the test
abbrev pub passes_at : List ℕ → (ℕ → Bool) → ℕ → Bool
passes_at nodes f i = not (eqb i 0) and f (node_field nodes i key_field)

pub none_passes : {i : ℕ} {ahead : List Node} → None i ahead → (nodes : List ℕ) (place : ℕ) (f : ℕ → Bool)
    → passes_at nodes f (next_place i (suc place) ahead) ≡ false
unfolding ◌and◌
none_passes x nodes place f = rw (x.link place)

pub next_passes : {p : Profile} {nodes marks : List ℕ} {i : ℕ} {ahead : List Node} → Lays p nodes marks → (x : Next i ahead)
    → (place : ℕ) → drop place p.nodes ≡ ahead → (f : ℕ → Bool) → passes_at nodes f (next_place i (suc place) ahead) ≡ f x.node.key
unfolding ◌and◌
next_passes {p} laid x place there f =
    let j = place + x.skipped in
    rw (x.link place, ne_eqb (suc j) 0 (λ z. omega arith), laid.key j x.node x.rest (next_there x place p.nodes there))
