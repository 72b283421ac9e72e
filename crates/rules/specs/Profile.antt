-- "What is built": a profile, which is its live bands and its nodes. In a sound one they ascend by number and by key.
-- Assumes nothing.
use Rattle.std.specs.Prelude.{ℕ, Bool, List, [], eqb}
use Rattle.std.proofs.Math.Option.{Option}
use Rattle.rules.specs.Lists.{any, keep, first_of}
use Rattle.rules.specs.HallLine.{Band}
use Rattle.rules.specs.NodesLanesEdges.{Node}

pub record Profile : Type 0 where
  pub bands : List Band
  pub nodes : List Node

abbrev pub profile_of : List Band → List Node → Profile
profile_of bs ns = record { bands = bs; nodes = ns }

-- an empty profile has no live band
abbrev pub empty_profile : Profile
empty_profile = profile_of [] []

-- the band has the number
unfoldable pub has_number : ℕ → Band → Bool
has_number n b = eqb b.number n

-- the band is of the scope
unfoldable pub has_scope : ℕ → Band → Bool
has_scope m b = eqb b.scope m

-- the number is live
unfoldable pub is_live : ℕ → List Band → Bool
is_live n bs = any (has_number n) bs

-- the live band of the number, where it is live
unfoldable pub band_numbered : ℕ → List Band → Option Band
band_numbered n bs = first_of (keep (has_number n) bs)
