-- Where the node of a key stands, found by halving: where halving comes to rest, if that place has the key. Where keys ascend it is the first of
-- the places in use whose key is not below it.
-- Assumes nothing.
use Rattle.std.specs.Prelude.{ℕ, zero, suc, ◌+◌, ◌-◌, ◌/◌, min, Bool, cond, List, leb, ltb, eqb, length, Option, None, Some}
use Rattle.rules.specs.Connectives.{◌and◌}
use Rattle.store.specs.Sizes.{node_place_words}
use Rattle.store.specs.Places.{node_field, key_field, header, in_use}

-- the places in use, as far as there are words
unfoldable pub places_in_use : List ℕ → ℕ
places_in_use nodes = min (in_use nodes) (length nodes / node_place_words - 1)

-- the place halfway between two
abbrev pub halfway : ℕ → ℕ → ℕ
halfway low high = (low + high) / 2

-- the key at the place is below k
abbrev pub key_below : List ℕ → ℕ → ℕ → Bool
key_below nodes k i = ltb (node_field nodes i key_field) k

-- low stands for a place below k and high for one that is not: at most m times the place halfway becomes the one or the other, until they stand
-- side by side; then it is high
abbrev pub halved : List ℕ → ℕ → ℕ → ℕ → ℕ → ℕ
halved nodes k zero low high = high
halved nodes k (suc m) low high =
    let mid : ℕ = halfway low high in
    let below : Bool = key_below nodes k mid in
    let on : ℕ = halved nodes k m (cond below mid low) (cond below high mid) in
    cond (ltb (low + 1) high) on high

-- where halving comes to rest, from the header and the place past the last in use; where keys ascend, the first place that is not below k
unfoldable pub first_not_below : List ℕ → ℕ → ℕ
first_not_below nodes k = halved nodes k (places_in_use nodes) header (places_in_use nodes + 1)

-- that place, if it is in use and has the key; 0 for none
unfoldable pub place_of : List ℕ → ℕ → ℕ
place_of nodes k =
    let i : ℕ = first_not_below nodes k in cond (leb i (places_in_use nodes) and eqb (node_field nodes i key_field) k) i 0

-- the place that the code tells, 0 where it tells none
abbrev pub place_said : Option ℕ → ℕ
place_said None = 0
place_said (Some i) = i
