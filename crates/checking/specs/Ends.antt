-- The test that ends and nodes match both ways: each end of a live band has a node, and each node is such an end.
-- Assumes nothing.
use Rattle.std.specs.Prelude.{ℕ, Bool, List}
use Rattle.rules.specs.Connectives.{◌and◌, says_yes}
use Rattle.rules.specs.Lists.{all, all_from, member}
use Rattle.store.specs.Places.{in_use}
use Rattle.linking.specs.EndPlaces.{end_places, is_noted}

-- each end has a place, and each place in use is that of an end
unfoldable pub ends_match : List ℕ → List ℕ → Bool
ends_match bands nodes = all says_yes (end_places bands nodes) and all_from (λ i. member i (end_places bands nodes)) 1 (in_use nodes)

-- ---- as the code goes about it

-- each of the first n node places is noted
unfoldable pub all_noted : List ℕ → ℕ → Bool
all_noted words n = all_from (is_noted words) 1 n
