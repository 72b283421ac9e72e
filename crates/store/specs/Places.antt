-- Where each field stands: in a band place, in the header, in a node place; and which word a mark place is. A word past the end of its slice reads
-- as 0.
-- Assumes nothing.
use Rattle.std.specs.Prelude.{ℕ, ◌+◌, ◌-◌, ◌*◌, List, get_or, set}
use Rattle.store.specs.Sizes.{band_place_words, node_place_words}

-- field f of the place of band number b
unfoldable pub band_field : List ℕ → ℕ → ℕ → ℕ
band_field words b f = get_or words (b * band_place_words + f) 0

-- the words once field f of the place of band number b is v; past the last word nothing changes
unfoldable pub with_band_field : List ℕ → ℕ → ℕ → ℕ → List ℕ
with_band_field words b f v = set words (b * band_place_words + f) v

-- field f of node place i; place 0 is the header's
unfoldable pub node_field : List ℕ → ℕ → ℕ → ℕ
node_field words i f = get_or words (i * node_place_words + f) 0

-- the words once field f of node place i is v; past the last word nothing changes
unfoldable pub with_node_field : List ℕ → ℕ → ℕ → ℕ → List ℕ
with_node_field words i f v = set words (i * node_place_words + f) v

-- a band place: live (1, and 0 where the number is not live), scope, low and high end, low end closed, high end closed, and two words of zero
abbrev pub live_field : ℕ
live_field = 0

abbrev pub scope_field : ℕ
scope_field = 1

abbrev pub low_field : ℕ
low_field = 2

abbrev pub high_field : ℕ
high_field = 3

abbrev pub low_closed_field : ℕ
low_closed_field = 4

abbrev pub high_closed_field : ℕ
high_closed_field = 5

-- the first of the two words of zero
abbrev pub reserve_field : ℕ
reserve_field = 6

-- a node place: key, level, from word 2 the next node's place in lanes 0 to 7 (0 for none), from word 10 ten fences: how many marks stand before each
-- slot, and how many up to the end of the last
abbrev pub key_field : ℕ
key_field = 0

abbrev pub level_field : ℕ
level_field = 1

abbrev pub link_field : ℕ → ℕ
link_field lane = 2 + lane

abbrev pub fence_field : ℕ → ℕ
fence_field slot = 10 + slot

-- the header: nodes in use, the number of lanes, from word 2 the first node's place in each lane, then marks in use and zeros
abbrev pub header : ℕ
header = 0

abbrev pub nodes_in_use_field : ℕ
nodes_in_use_field = 0

abbrev pub lane_count_field : ℕ
lane_count_field = 1

abbrev pub marks_in_use_field : ℕ
marks_in_use_field = 10

-- which word of the marks mark place i is, for i from 1: these places count as node places do
abbrev pub mark_word : ℕ → ℕ
mark_word i = i - 1

-- how many nodes the header counts
abbrev pub in_use : List ℕ → ℕ
in_use nodes = node_field nodes header nodes_in_use_field
