-- The draft of a profile, in band words and node words.
-- Assumes nothing.
use Rattle.std.specs.Prelude.{ℕ, ◌≡◌, true, List}
use Rattle.rules.specs.Profile.{Profile}
use Rattle.rules.specs.SoundMemory.{standing}
use Rattle.store.specs.LaidBands.{laid_bands}
use Rattle.drafting.specs.NodeDraft.{DraftOf}

-- the profile stands, the band words are those of its bands, and the node words are the draft of its nodes
pub record Drafts (p : Profile) (bands nodes : List ℕ) : Type 0 where
  pub stands : standing p ≡ true
  pub bands_laid : bands ≡ laid_bands p.bands
  pub nodes_drafted : DraftOf p.nodes nodes
