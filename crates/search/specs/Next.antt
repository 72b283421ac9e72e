-- What the code tells of the node at a place to which a link leads.
-- Assumes nothing.
use Rattle.std.specs.Prelude.{ℕ, ◌<◌, ◌≡◌, List}
use Rattle.store.specs.Places.{node_field, key_field}
use Rattle.search.specs.declared.next.Next.{Next}

-- a link of 0 leads nowhere; else the node at place i is told, by its place and its key
pub record IsNext (nodes : List ℕ) (i : ℕ) (next : Next) : Type 0 where
  pub leads : 0 < i
  pub place : next.place ≡ i
  pub key : next.key.0 ≡ node_field nodes i key_field
