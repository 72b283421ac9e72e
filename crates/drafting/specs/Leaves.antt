-- What a change leaves of a memory, before it is drafted: bands, in band words of their own, and the nodes at their ends, still among all others in
-- the memory's node words.
-- Assumes nothing.
use Rattle.std.specs.Prelude.{ℕ, ◌-◌, ◌/◌, ◌≤◌, ◌≡◌, true, List, length}
use Rattle.rules.specs.Profile.{Profile}
use Rattle.rules.specs.Room.{most_nodes}
use Rattle.rules.specs.Changes.{nodes_at_ends}
use Rattle.rules.specs.SoundMemory.{keys_ascend, standing}
use Rattle.store.specs.Sizes.{node_place_words}
use Rattle.store.specs.Places.{in_use}
use Rattle.store.specs.SaidProfile.{said_nodes}
use Rattle.store.specs.LaidBands.{laid_bands}

-- the profile stands, the band words are those of its bands, and of the nodes that the node words say its own are those at an end of a band; the node
-- words have a place for each node, in key order
pub record Leaves (p : Profile) (bands nodes : List ℕ) : Type 0 where
  pub stands : standing p ≡ true
  pub bands_laid : bands ≡ laid_bands p.bands
  pub nodes_left : nodes_at_ends p.bands (said_nodes nodes) ≡ p.nodes
  pub ascend : keys_ascend 0 (said_nodes nodes) ≡ true
  pub few : in_use nodes ≤ most_nodes
  pub places : in_use nodes ≤ length nodes / node_place_words - 1
