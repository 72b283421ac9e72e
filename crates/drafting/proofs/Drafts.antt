-- What the draft of a profile says: the profile, and no other; which numbers are live in it; and that blank words draft an empty profile.
-- Assumes nothing.
use Prim.Native.Nat.{ℕ, ◌*◌, ◌<◌}
use mathlib.Core.Path.{◌≡◌, sym, ap, subst, ◌∙◌}
use mathlib.Core.Bool.{true}
use mathlib.Core.List.{List}
use lib.ListN.{replicate}
use Rattle.rules.specs.Connectives.{says_yes}
use Rattle.rules.specs.Profile.{Profile, profile_of, empty_profile, is_live}
use Rattle.rules.specs.SoundMemory.{standing}
use Rattle.rules.proofs.SoundMemory.{Standing, standing_means}
use Rattle.rules.proofs.Theory.StandingKept.{empty_stands}
use Rattle.store.specs.Sizes.{band_place_words, band_places}
use Rattle.store.specs.Places.{band_field, live_field}
use Rattle.store.specs.SaidProfile.{said_bands, said_nodes, said_by}
use Rattle.store.specs.LaidBands.{laid_bands}
use Rattle.store.proofs.LaidBands.{laid_bands_none, laid_bands_say}
use Rattle.store.proofs.SaidBands.{live_by_place}
use Rattle.drafting.specs.NodeDraft.{draft_words, DraftOf}
use Rattle.drafting.specs.Drafts.{Drafts}
use Rattle.drafting.proofs.NodeDraft.{none_drafted, draft_says}

-- the band words of a profile that stands say its bands
pub standing_bands_said : (p : Profile) {bands : List ℕ} → standing p ≡ true → bands ≡ laid_bands p.bands → said_bands bands ≡ p.bands
standing_bands_said p stands laid =
    let facts = (standing_means p).fact stands in
    ap said_bands laid ∙ laid_bands_say p.bands facts.numbers_ascend_lem (λ b i. (facts.bands_right_lem b i).number_right)

module _ {p : Profile} {bands nodes : List ℕ} (d : Drafts p bands nodes) where
  pub drafts_stand : Standing p
  drafts_stand = (standing_means p).fact d.stands

  bands_said : said_bands bands ≡ p.bands
  bands_said = standing_bands_said p d.stands d.bands_laid

  nodes_said : said_nodes nodes ≡ p.nodes
  nodes_said = draft_says p.nodes nodes d.nodes_drafted

  -- the draft of a profile says it ..
  pub drafts_say : said_by bands nodes ≡ p
  drafts_say = λ i. profile_of (bands_said i) (nodes_said i)

  -- .. and is the draft of what it says
  pub drafts_own : (bands ≡ laid_bands (said_bands bands)) × DraftOf (said_nodes nodes) nodes × (standing (said_by bands nodes) ≡ true)
  drafts_own = (
    d.bands_laid ∙ ap laid_bands (sym bands_said),
    subst (λ ns. DraftOf ns nodes) (sym nodes_said) d.nodes_drafted,
    ap standing drafts_say ∙ d.stands,
  )

  -- a number is live exactly when its place in the draft says so
  pub drafts_live : (number : ℕ) → number < band_places → is_live number p.bands ≡ says_yes (band_field bands number live_field)
  drafts_live number h = ap (is_live number) (sym bands_said) ∙ live_by_place bands number h

-- two profiles drafted by the same words are one
pub one_drafted : {p q : Profile} {bands nodes : List ℕ} → Drafts p bands nodes → Drafts q bands nodes → p ≡ q
one_drafted d e = sym (drafts_say d) ∙ drafts_say e

-- so what is shown of one is so of every profile that they draft
pub of_every : {p : Profile} {bands nodes : List ℕ} (P : Profile → Type 0) → Drafts p bands nodes → P p → (q : Profile) → Drafts q bands nodes → P q
of_every P d h q e = subst P (one_drafted d e) h

-- blank words draft an empty profile
pub blank_drafts : {bands nodes : List ℕ} → bands ≡ replicate (band_places * band_place_words) 0 → nodes ≡ replicate draft_words 0
    → Drafts empty_profile bands nodes
blank_drafts {nodes = nodes} no_band no_node =
    record {
      stands = (standing_means empty_profile).test empty_stands;
      bands_laid = no_band ∙ sym laid_bands_none;
      nodes_drafted = none_drafted nodes no_node;
    }
