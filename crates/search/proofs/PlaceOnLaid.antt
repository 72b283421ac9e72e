-- Where the node of a key stands, on node words that lay a profile with its nodes in key order, and have a place for each.
-- Assumes nothing.
use Prim.Native.Nat.{ℕ, ◌≤◌, ◌-◌, ◌/◌}
use mathlib.Core.List.{List}
use lib.ListN.{length}
use Rattle.rules.specs.NodesLanesEdges.{stands_at}
use Rattle.rules.specs.Profile.{Profile}
use Rattle.rules.proofs.NodesLanesEdges.{Asc}
use Rattle.store.specs.Sizes.{node_place_words}
use Rattle.store.proofs.Lays.{Lays, lays_says_nodes}
use Rattle.search.specs.PlaceOf.{place_of}
use Rattle.search.proofs.PlaceAmongSaid.{PlaceFound, place_among_said}

pub place_on_laid : {p : Profile} {nodes marks : List ℕ} → Lays p nodes marks → (k : ℕ) → length p.nodes ≤ length nodes / node_place_words - 1
    → Asc 0 p.nodes → PlaceFound p.nodes k (place_of nodes k) (stands_at k p.nodes)
place_on_laid {nodes = nodes} l k h a = let says = lays_says_nodes l in rw says at (place_among_said nodes k (rw l.in_use_lem h) (rw says a))
