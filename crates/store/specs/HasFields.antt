-- Node words told by their fields: so many words, each by its place and its field.
-- Assumes nothing.
use Rattle.std.specs.Prelude.{ℕ, ◌+◌, ◌*◌, ◌<◌, ◌≡◌, List, length}
use Rattle.store.specs.Sizes.{node_place_words}
use Rattle.store.specs.Places.{node_field}

-- n words, of which field f of place i is `field i f`
pub record HasFields (n : ℕ) (field : ℕ → ℕ → ℕ) (words : List ℕ) : Type 0 where
  pub size : length words ≡ n
  pub at : (i f : ℕ) → f < node_place_words → i * node_place_words + f < n → node_field words i f ≡ field i f
