-- The profile that words say: the live bands by their places, and as many nodes as the header counts.
-- Assumes nothing.
use Rattle.std.specs.Prelude.{ℕ, zero, suc, List, [], ◌∷◌}
use Rattle.rules.specs.Connectives.{says_yes}
use Rattle.rules.specs.Lists.{add_if}
use Rattle.rules.specs.HallLine.{Band, band_of}
use Rattle.rules.specs.NodesLanesEdges.{Node, node_of}
use Rattle.rules.specs.Profile.{Profile, profile_of}
use Rattle.store.specs.Sizes.{band_places}
use Rattle.store.specs.Memory.{Memory}
use Rattle.store.specs.Places.{band_field, live_field, scope_field, low_field, high_field, low_closed_field, high_closed_field, node_field, key_field, level_field, in_use}

-- the band that the place of number b says
unfoldable pub said_band : List ℕ → ℕ → Band
said_band words b =
    band_of
    b
    (band_field words b scope_field)
    (band_field words b low_field)
    (band_field words b high_field)
    (says_yes (band_field words b low_closed_field))
    (says_yes (band_field words b high_closed_field))

-- the live bands among the m numbers from b on
abbrev pub said_bands_from : List ℕ → ℕ → ℕ → List Band
said_bands_from words b zero = []
said_bands_from words b (suc m) =
    add_if (says_yes (band_field words b live_field)) (said_band words b) (said_bands_from words (suc b) m)

-- the live bands of all numbers
unfoldable pub said_bands : List ℕ → List Band
said_bands words = said_bands_from words 0 band_places

-- the node that place i says
unfoldable pub said_node : List ℕ → ℕ → Node
said_node words i = node_of (node_field words i key_field) (node_field words i level_field)

-- the nodes of the m places from i on
abbrev pub said_nodes_from : List ℕ → ℕ → ℕ → List Node
said_nodes_from words i zero = []
said_nodes_from words i (suc m) = said_node words i ∷ said_nodes_from words (suc i) m

-- as many nodes as the header counts
unfoldable pub said_nodes : List ℕ → List Node
said_nodes words = said_nodes_from words 1 (in_use words)

-- the profile that band words and node words say
abbrev pub said_by : List ℕ → List ℕ → Profile
said_by bands nodes = profile_of (said_bands bands) (said_nodes nodes)

-- the profile that a memory says
unfoldable pub said_profile : Memory → Profile
said_profile m = said_by m.bands m.nodes
