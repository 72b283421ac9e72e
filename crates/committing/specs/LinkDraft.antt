-- Node words once the links are laid: in all lanes, of the header and of each node in use; every other word as it was.
-- Assumes nothing.
use Rattle.std.specs.Prelude.{ℕ, ◌-◌, Bool, cond, List, leb, ltb, eqb, get_or}
use Rattle.rules.specs.Connectives.{◌and◌}
use Rattle.rules.specs.NodesLanesEdges.{lanes}
use Rattle.store.specs.Places.{node_field, link_field, in_use}
use Rattle.linking.specs.LinksDue.{link_due, link_due_at}

-- the field is a link
abbrev pub is_link : ℕ → Bool
is_link f = leb (link_field 0) f and ltb f (link_field lanes)

-- the lane that a link is of
abbrev pub lane_of_link : ℕ → ℕ
lane_of_link f = f - link_field 0

-- field f of place i once all links are laid
unfoldable pub linked_field : List ℕ → ℕ → ℕ → ℕ
linked_field words i f = cond (leb i (in_use words) and is_link f) (link_due_at words i (lane_of_link f)) (node_field words i f)

-- ---- as the code goes about it

-- the same once the links of one place are laid, which has them in `level` lanes, by the first places ahead
unfoldable pub linked_at_field : List ℕ → ℕ → ℕ → List ℕ → ℕ → ℕ → ℕ
linked_at_field words place level ahead i f =
    cond (eqb i place and is_link f) (link_due level (lane_of_link f) (get_or ahead (lane_of_link f) 0)) (node_field words i f)
