-- Node words once the fences of each node in use are laid, each the start of its slot; every other word as it was.
-- Assumes nothing.
use Rattle.std.specs.Prelude.{ℕ, ◌-◌, Bool, cond, List, leb, eqb, get_or}
use Rattle.rules.specs.Connectives.{◌and◌}
use Rattle.rules.specs.Staircase.{slot_number}
use Rattle.store.specs.Places.{node_field, fence_field, in_use}

-- the field is a fence
abbrev pub is_fence : ℕ → Bool
is_fence f = leb (fence_field 0) f

-- the start of the slot of a place's fence; the tenth is how many marks stand up to the node's last
abbrev pub start_at : List ℕ → ℕ → ℕ → ℕ
start_at starts i f = get_or starts (slot_number (i - 1) (f - fence_field 0)) 0

-- field f of place i once all fences are laid
unfoldable pub fenced_field : List ℕ → List ℕ → ℕ → ℕ → ℕ
fenced_field words starts i f = cond (leb 1 i and leb i (in_use words) and is_fence f) (start_at starts i f) (node_field words i f)

-- ---- as the code goes about it

-- the same once those of one place are
unfoldable pub fenced_at_field : List ℕ → List ℕ → ℕ → ℕ → ℕ → ℕ
fenced_at_field words starts place i f = cond (eqb i place and is_fence f) (start_at starts i f) (node_field words i f)
