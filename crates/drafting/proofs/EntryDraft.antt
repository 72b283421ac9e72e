-- An entry put into the draft of a profile: what putting each of its ends asks, where the free number leaves the room, and that the draft is then that
-- of the profile with the band inserted.
-- Assumes nothing.
use Prim.Native.Nat.{ℕ, ◌+◌, ◌≤◌, ◌<◌}
use mathlib.Core.Path.{◌≡◌, sym, ap, subst, ◌∙◌}
use mathlib.Core.Bool.{true, false}
use mathlib.Core.List.{List}
use mathlib.Core.Option.{some}
use native.Mathlib.Omega.{arith}
use lib.ListN.{length}
use Rattle.rules.specs.HallLine.{Band}
use Rattle.rules.specs.NodesLanesEdges.{Node, with_node}
use Rattle.rules.specs.Profile.{Profile, is_live}
use Rattle.rules.specs.Room.{most_nodes}
use Rattle.rules.specs.Changes.{with_ends, inserted}
use Rattle.rules.specs.SoundMemory.{keys_ascend}
use Rattle.rules.specs.BoxSaysNo.{fault_of}
use Rattle.rules.proofs.Means.{denied}
use Rattle.rules.proofs.Lists.{Each, any_fails}
use Rattle.rules.proofs.NodesLanesEdges.{Level, Asc, with_node_ascends, with_node_length}
use Rattle.rules.proofs.Profile.{has_number_means}
use Rattle.rules.proofs.BoxSaysNo.{BandRight, fault_zero}
use Rattle.rules.proofs.SoundMemory.{keys_ascend_means, standing_means}
use Rattle.rules.proofs.Theory.StandingKept.{inserted_stands}
use Rattle.rules.proofs.Theory.NodesPerBand.{two_nodes_spare}
use Rattle.store.specs.Places.{in_use}
use Rattle.store.specs.WithBand.{with_place_of}
use Rattle.store.specs.SaidProfile.{said_nodes}
use Rattle.store.proofs.WithBand.{band_laid_too}
use Rattle.drafting.specs.NodeDraft.{DraftOf}
use Rattle.drafting.specs.Drafts.{Drafts}
use Rattle.drafting.proofs.NodeDraft.{draft_in_use, draft_says}
use Rattle.drafting.proofs.Drafts.{drafts_stand}

-- ---- the nodes at the ends

-- what putting one more node asks of the draft of nodes in key order
put_asks : (ns : List Node) (words : List ℕ) → DraftOf ns words → Asc 0 ns → length ns < most_nodes
    → DraftOf (said_nodes words) words × (keys_ascend 0 (said_nodes words) ≡ true) × (in_use words < most_nodes)
put_asks ns words d a few =
    let said = draft_says ns words d in (
      subst (λ x. DraftOf x words) (sym said) d,
      (keys_ascend_means 0 (said_nodes words)).test (subst (Asc 0) (sym said) a),
      omega (arith, draft_in_use ns words d),
    )

-- the draft of a profile, and an entry that has no fault and whose number is free
module _ {p : Profile} {bands nodes : List ℕ} (d : Drafts p bands nodes) (b : Band) (lo hi : ℕ) (right : fault_of b lo hi ≡ 0)
    (free : is_live b.number p.bands ≡ false) where
  entry_right : BandRight b × (Level lo × Level hi)
  entry_right = (fault_zero b lo hi).0 right

  others : Each (λ c. c.number ≡ b.number → ⊥) p.bands
  unfolding is_live
  others = (any_fails (λ c. denied (has_number_means b.number c)) p.bands).fact free

  ascend : Asc 0 p.nodes
  ascend = (drafts_stand d).keys_ascend_lem

  -- the free number leaves room for both ends
  spare : length p.nodes + 2 ≤ most_nodes
  spare = two_nodes_spare p (drafts_stand d) b.number entry_right.0.number_right others

  -- what putting the first of two nodes asks ..
  pub first_asks : DraftOf (said_nodes nodes) nodes × (keys_ascend 0 (said_nodes nodes) ≡ true) × (in_use nodes < most_nodes)
  first_asks = put_asks p.nodes nodes d.nodes_drafted ascend (omega (arith, spare))

  module _ (k l : ℕ) {one : List ℕ} (put : DraftOf (with_node k l (said_nodes nodes)) one) where
    first_drafted : DraftOf (with_node k l p.nodes) one
    first_drafted = subst (λ ns. DraftOf (with_node k l ns) one) (draft_says p.nodes nodes d.nodes_drafted) put

    -- .. and the second
    pub second_asks : DraftOf (said_nodes one) one × (keys_ascend 0 (said_nodes one) ≡ true) × (in_use one < most_nodes)
    second_asks =
        put_asks (with_node k l p.nodes) one first_drafted (with_node_ascends k l p.nodes ascend)
        (omega (arith, with_node_length k l p.nodes, spare))

  -- ---- the entry

  pub entry_drafted : {low high bands' : List ℕ} → DraftOf (with_node b.low lo (said_nodes nodes)) low
      → DraftOf (with_node b.high hi (said_nodes low)) high → bands' ≡ with_place_of (some b) b.number bands
      → Drafts (inserted p b lo hi) bands' high
  unfolding inserted with_ends
  entry_drafted {low} {high} low_put high_put put =
      let said_low = draft_says (with_node b.low lo p.nodes) low (first_drafted b.low lo low_put) in
      record {
        stands =
            (standing_means _).test
            (inserted_stands p b lo hi (drafts_stand d) entry_right.0 entry_right.1.0 entry_right.1.1 others);
        bands_laid =
            put
            ∙ ap (with_place_of (some b) b.number) d.bands_laid
            ∙ band_laid_too b p.bands (drafts_stand d).numbers_ascend_lem others (omega (arith, entry_right.0.number_right));
        nodes_drafted = subst (λ ns. DraftOf (with_node b.high hi ns) high) said_low high_put;
      }
