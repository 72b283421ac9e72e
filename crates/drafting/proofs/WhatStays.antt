-- What a change leaves of a sound memory: all of its profile; the profile without the bands that pass a test; the profile without one number. And
-- what is left is drafted once the nodes at the ends are.
-- Assumes nothing.
use Prim.Native.Nat.{ℕ, ◌*◌, ◌<◌}
use mathlib.Core.Path.{◌≡◌, refl, ap, subst, ◌∙◌}
use mathlib.Core.Bool.{Bool, true, not}
use mathlib.Core.List.{List}
use mathlib.Core.Option.{none}
use native.Mathlib.Omega.{arith}
use lib.ListN.{length, replicate, length-replicate}
use lib.Seq.{take_all}
use Rattle.rules.specs.Lists.{keep}
use Rattle.rules.specs.HallLine.{Band}
use Rattle.rules.specs.Profile.{Profile, has_number}
use Rattle.rules.specs.Changes.{nodes_at_ends, without_where, removed}
use Rattle.rules.proofs.SoundMemory.{Standing, SoundIn, keys_ascend_means, standing_means, sound_in_means}
use Rattle.rules.proofs.Theory.StandingKept.{all_at_ends, without_stands}
use Rattle.store.specs.Sizes.{band_place_words, band_places, room_for}
use Rattle.store.specs.Memory.{Memory, room_in}
use Rattle.store.specs.Words.{copied}
use Rattle.store.specs.WithBand.{with_place_of}
use Rattle.store.specs.SaidProfile.{said_bands, said_nodes, said_profile}
use Rattle.store.specs.LaidBands.{laid_bands}
use Rattle.store.specs.LaidMemory.{laid_memory}
use Rattle.store.specs.Sound.{sound}
use Rattle.store.proofs.RightSizes.{sizes_in_numbers}
use Rattle.store.proofs.Copied.{copied_first}
use Rattle.store.proofs.SaidNodes.{said_nodes_length}
use Rattle.store.proofs.WithBand.{place_freed}
use Rattle.store.proofs.Sound.{sound_means}
use Rattle.drafting.specs.NodeDraft.{DraftOf}
use Rattle.drafting.specs.Drafts.{Drafts}
use Rattle.drafting.specs.Leaves.{Leaves}
use Rattle.drafting.proofs.Drafts.{standing_bands_said}

-- what is left, and the draft of the nodes at its ends, is its draft
pub left_drafted : {p : Profile} {bands nodes draft : List ℕ} → Leaves p bands nodes
    → DraftOf (nodes_at_ends (said_bands bands) (said_nodes nodes)) draft → Drafts p bands draft
left_drafted {p} {nodes = nodes} {draft = draft} l kept =
    let said = standing_bands_said p l.stands l.bands_laid in
    record {
      stands = l.stands;
      bands_laid = l.bands_laid;
      nodes_drafted = subst (λ ns. DraftOf ns draft) (ap (λ bs. nodes_at_ends bs (said_nodes nodes)) said ∙ l.nodes_left) kept;
    }

-- ---- of a sound memory

module _ (m : Memory) (s : sound m ≡ true) where
  in_room : SoundIn (room_in m) (said_profile m)
  in_room = (sound_in_means (room_in m) (said_profile m)).fact ((sound_means m).fact s).in_room

  -- a profile that stands is left, where the band words are its own and its nodes are those at ends among the memory's
  leaves : (p : Profile) {bands : List ℕ} → Standing p → bands ≡ laid_bands p.bands → nodes_at_ends p.bands (said_nodes m.nodes) ≡ p.nodes
      → Leaves p bands m.nodes
  unfolding said_profile room_in room_for
  leaves p stands laid left =
      let said = said_nodes_length m.nodes in
      let fit = in_room.1.nodes_fit_lem in
      record {
        stands = (standing_means p).test stands;
        bands_laid = laid;
        nodes_left = left;
        ascend = (keys_ascend_means 0 (said_nodes m.nodes)).test in_room.0.keys_ascend_lem;
        few = omega (arith, in_room.1.node_room.1);
        places = omega arith;
      }

  -- its band words, copied into as many blank ones
  pub bands_copied : {blank copy : List ℕ} → blank ≡ replicate (band_places * band_place_words) 0 → copy ≡ copied m.bands blank
      → copy ≡ laid_bands (said_bands m.bands)
  unfolding said_profile laid_memory
  bands_copied {blank} zeros e =
      let right = (sound_means m).fact s in
      let sizes = (sizes_in_numbers (length m.bands) (length m.nodes) (length m.marks)).fact right.sizes in
      let long = ap length zeros ∙ length-replicate {A = ℕ} (band_places * band_place_words) 0 in
      e ∙ copied_first m.bands blank (omega arith) ∙ take_all (length blank) m.bands (omega arith) ∙ ap (λ w. w.bands) right.laid

  -- with all its bands, all stays
  pub all_stay : {blank copy : List ℕ} → blank ≡ replicate (band_places * band_place_words) 0 → copy ≡ copied m.bands blank
      → Leaves (said_profile m) copy m.nodes
  unfolding said_profile
  all_stay zeros e = leaves (said_profile m) in_room.0 (bands_copied zeros e) (all_at_ends (said_profile m) in_room.0)

  -- with the words of the bands that pass no test, all but those that pass, and the nodes at their ends alone
  pub others_stay : (f : Band → Bool) {bands : List ℕ} → bands ≡ laid_bands (keep (λ b. not (f b)) (said_bands m.bands))
      → Leaves (without_where f (said_profile m)) bands m.nodes
  unfolding said_profile without_where
  others_stay f laid = leaves (without_where f (said_profile m)) (without_stands f (said_profile m) in_room.0) laid refl

  -- with the place of one number freed, all but that number
  pub all_but_number : (number : ℕ) {blank copy bands : List ℕ} → number < band_places → blank ≡ replicate (band_places * band_place_words) 0
      → copy ≡ copied m.bands blank → bands ≡ with_place_of none number copy → Leaves (removed (said_profile m) number) bands m.nodes
  unfolding removed
  all_but_number number within zeros e dropped =
      others_stay (has_number number)
      (dropped ∙ ap (with_place_of none number) (bands_copied zeros e) ∙ place_freed number (said_bands m.bands) within)
