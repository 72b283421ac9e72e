-- Drafting the nodes whose places are noted, place by place.
-- Assumes nothing.
use Prim.Native.Nat.{ℕ, suc, ◌+◌, ◌-◌, ◌≤◌, ◌<◌}
use mathlib.Core.Path.{◌≡◌, sym, ◌∙◌, ap, subst}
use mathlib.Core.Bool.{true, false, not}
use mathlib.Core.List.{List, [], ◌∷◌, ◌++◌, append_assoc, append-nil}
use native.Mathlib.Numerals.{add-one}
use native.Mathlib.Omega.{arith}
use borrow.Author.Tests.{ne_eqb}
use lib.ListN.{length, get_or, replicate, length-append}
use Rattle.rules.specs.Connectives.{says_yes}
use Rattle.rules.specs.Lists.{add_if}
use Rattle.rules.specs.NodesLanesEdges.{Node}
use Rattle.rules.specs.Room.{most_nodes}
use Rattle.store.specs.Places.{in_use}
use Rattle.store.specs.SaidProfile.{said_node}
use Rattle.linking.specs.EndPlaces.{is_noted}
use Rattle.drafting.specs.NodeDraft.{draft_words, DraftOf, with_one_more}
use Rattle.drafting.specs.NotedNodes.{noted_nodes_from, noted_nodes}
use Rattle.drafting.proofs.NodeDraft.{none_drafted, draft_in_use, one_more_drafted}

module _ (nodes found : List ℕ) where
  -- the nodes noted from a place on
  abbrev nodes_left : ℕ → List Node
  nodes_left place = noted_nodes_from nodes found place (in_use nodes + 1 - place)

  -- when the places before `place` are done: the nodes drafted, which are fewer, and those left are all that are noted
  pub record KeptSoFar (draft : List ℕ) (place : ℕ) : Type 0 where
    kept : List Node
    drafted : DraftOf kept draft
    fewer : length kept < place
    completed : kept ++ nodes_left place ≡ noted_nodes nodes found

  pub keeping_begins : {draft : List ℕ} → draft ≡ replicate draft_words 0 → KeptSoFar draft 1
  unfolding noted_nodes
  keeping_begins {draft} blank =
      let all : in_use nodes + 1 - 1 ≡ in_use nodes = omega arith in
      record {
        kept = [];
        drafted = none_drafted draft blank;
        fewer = omega arith;
        completed = rw all;
      }

  module _ {draft : List ℕ} {place : ℕ} (h : KeptSoFar draft place) where
    -- the draft has fewer nodes than the next place
    pub fewer_drafted : in_use draft < place
    fewer_drafted = omega (arith, draft_in_use h.kept draft h.drafted, h.fewer)

    -- it has as many words as the blank one had
    pub same_size : {blank : List ℕ} → blank ≡ replicate draft_words 0 → length draft ≡ length blank
    same_size {blank} e = h.drafted.fields.size ∙ sym (none_drafted blank e).fields.size

    module _ (within : place ≤ in_use nodes) where
      -- those left are the node of this place, where it is noted, and those left after it
      here_and_after : h.kept ++ add_if (is_noted found place) (said_node nodes place) (nodes_left (place + 1)) ≡ noted_nodes nodes found
      here_and_after =
          let one_more : in_use nodes + 1 - place ≡ suc (in_use nodes + 1 - (place + 1)) = omega arith in
          rw (one_more, ← add-one place) at h.completed

      -- a place that is not noted is passed over ..
      pub place_passed : {same : List ℕ} → get_or found place 0 ≡ 0 → same ≡ draft → KeptSoFar same (place + 1)
      place_passed e unchanged =
          let not_noted : is_noted found place ≡ false = ap says_yes e in
          record {
            kept = h.kept;
            drafted = rw unchanged h.drafted;
            fewer = omega (arith, h.fewer);
            completed = rw not_noted at here_and_after;
          }

      -- .. and the node of one that is noted is drafted
      pub place_kept : {more : List ℕ} {n : Node} → in_use nodes ≤ most_nodes → (get_or found place 0 ≡ 0 → ⊥) → n ≡ said_node nodes place
          → more ≡ with_one_more draft n → KeptSoFar more (place + 1)
      place_kept {more} {n} room e here one_more =
          let noted : is_noted found place ≡ true = ap not (ne_eqb _ 0 e) in
          record {
            kept = h.kept ++ n ∷ [];
            drafted = rw one_more (one_more_drafted h.kept draft h.drafted n (omega (arith, h.fewer)));
            fewer = omega (arith, h.fewer, length-append h.kept (n ∷ []));
            completed = append_assoc h.kept (n ∷ []) (nodes_left (place + 1)) ∙ rw here (rw noted at here_and_after);
          }

    pub keeping_ends : in_use nodes < place → DraftOf (noted_nodes nodes found) draft
    keeping_ends past =
        let none : in_use nodes + 1 - place ≡ 0 = omega arith in
        subst (λ ns. DraftOf ns draft) (sym (append-nil h.kept) ∙ rw none at h.completed) h.drafted
