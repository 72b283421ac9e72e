-- A band's staircase walked on node words, of any memory: each step follows a link that leads to a later place in use.
-- On linked words, from a low end at which a node stands, it is the walk of the rules (proofs/WalkOnLinked.antt).
-- Assumes nothing.
use Rattle.std.specs.Prelude.{ℕ, zero, suc, ◌-◌, Bool, cond, List, [], ◌∷◌, ◌++◌, leb, ltb, eqb}
use Rattle.rules.specs.Connectives.{◌and◌, says_yes}
use Rattle.rules.specs.Lists.{only_if, add_if}
use Rattle.rules.specs.HallLine.{Band, holds}
use Rattle.rules.specs.NodesLanesEdges.{lanes}
use Rattle.rules.specs.Staircase.{slot_number}
use Rattle.store.specs.Places.{node_field, key_field, link_field, band_field, live_field, in_use}
use Rattle.store.specs.SaidProfile.{said_band}
use Rattle.search.specs.PlaceOf.{place_of}

-- the link of a place in lane i leads to a later place in use, whose key is not above the high end
unfoldable pub leads_within : List ℕ → ℕ → ℕ → ℕ → Bool
leads_within nodes high here i =
    let next : ℕ = node_field nodes here (link_field i) in
    (ltb here next and leb next (in_use nodes)) and leb (node_field nodes next key_field) high

-- of the lowest m lanes the highest whose link does, as the slot of that edge: 1 + its number; 0 for none
abbrev pub stair_below : List ℕ → ℕ → ℕ → ℕ → ℕ
stair_below nodes high here zero = 0
stair_below nodes high here (suc i) = cond (leads_within nodes high here i) (suc i) (stair_below nodes high here i)

-- of all lanes the highest, as a slot: the stair of a place; 0 for none
unfoldable pub stair_at : List ℕ → ℕ → ℕ → ℕ
stair_at nodes high here = stair_below nodes high here lanes

-- the place that the edge of a slot leads to; 0 for slot 0, the node's own
abbrev pub stair_to : List ℕ → ℕ → ℕ → ℕ
stair_to nodes here zero = 0
stair_to nodes here (suc i) = node_field nodes here (link_field i)

-- what is visited at a place: the node's slot if the band holds its key, and the stair's where there is one
abbrev pub visited : List ℕ → Band → ℕ → ℕ → List ℕ
visited nodes b here stair =
    add_if (holds b (node_field nodes here key_field)) (slot_number (here - 1) 0)
    (only_if (says_yes stair) (slot_number (here - 1) stair ∷ []))

-- the walk from a place on, for at most m places; place 0 ends it
abbrev pub walk_on : List ℕ → Band → ℕ → ℕ → List ℕ
walk_on nodes b zero here = []
walk_on nodes b (suc m) here =
    let stair : ℕ = stair_at nodes b.high here in
    let onward : List ℕ = walk_on nodes b m (stair_to nodes here stair) in
    cond (eqb here 0) [] (visited nodes b here stair ++ onward)

-- the slots that the walk visits, from the node of the band's low end on
unfoldable pub walked : List ℕ → Band → List ℕ
walked nodes b = walk_on nodes b (in_use nodes) (place_of nodes b.low)

-- the slots of the band of a number; none where the number is not live
unfoldable pub slots_of : List ℕ → List ℕ → ℕ → List ℕ
slots_of bands nodes number = only_if (says_yes (band_field bands number live_field)) (walked nodes (said_band bands number))
