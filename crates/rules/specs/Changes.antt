-- "What is built": the profile after an insert and after a remove.
-- Assumes nothing.
use Rattle.std.specs.Prelude.{ℕ, Bool, not, List}
use Rattle.rules.specs.Lists.{keep, placed}
use Rattle.rules.specs.HallLine.{Band}
use Rattle.rules.specs.NodesLanesEdges.{Node, with_node, is_end_of_some}
use Rattle.rules.specs.Profile.{Profile, profile_of, has_number}

-- the band among the others, in number order
unfoldable pub with_band : Band → List Band → List Band
with_band b bs = placed (λ c. c.number) b bs

-- nodes made for the band's ends where none stands, the low end first: a one-key band takes the low end's level
unfoldable pub with_ends : Band → ℕ → ℕ → List Node → List Node
with_ends b low_level high_level ns = with_node b.high high_level (with_node b.low low_level ns)

-- an accepted insert makes the band live as given, and no other band changes
unfoldable pub inserted : Profile → Band → ℕ → ℕ → Profile
inserted p b low_level high_level = profile_of (with_band b p.bands) (with_ends b low_level high_level p.nodes)

-- the nodes that stand at an end of some band of the list
unfoldable pub nodes_at_ends : List Band → List Node → List Node
nodes_at_ends bs ns = keep (λ n. is_end_of_some bs n.key) ns

-- the profile without the bands that pass, each node kept that stands at an end of a band that is left
unfoldable pub without_where : (Band → Bool) → Profile → Profile
without_where f p = profile_of (keep (λ b. not (f b)) p.bands) (nodes_at_ends (keep (λ b. not (f b)) p.bands) p.nodes)

-- an accepted remove ends the band of the number, and no other band changes
unfoldable pub removed : Profile → ℕ → Profile
removed p number = without_where (has_number number) p
