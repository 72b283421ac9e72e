-- The marks that words say: those of a slot fill the mark places past its fence, which counts the marks before it, up to the next fence of its node
-- place. Slot 0 is the node itself, slot 1 + i its edge in lane i.
-- Assumes nothing.
use Rattle.std.specs.Prelude.{ℕ, suc, ◌-◌, List, take, drop}
use Rattle.store.specs.Places.{node_field, fence_field}

-- of the first `to` words those past the first `from`, as far as there are any
unfoldable pub between : ℕ → ℕ → List ℕ → List ℕ
between from to words = take (to - from) (drop from words)

-- the band numbers that stand in slot s of node place i
unfoldable pub said_marks : List ℕ → List ℕ → ℕ → ℕ → List ℕ
said_marks nodes marks i s = between (node_field nodes i (fence_field s)) (node_field nodes i (fence_field (suc s))) marks
