-- A draft once its links are laid: it says the same nodes, every field that is no link is as it was, and its links are those of the nodes it says.
-- Assumes nothing.
use Prim.Native.Nat.{ℕ, suc, ◌+◌, ◌*◌, ◌≤◌, ◌<◌}
use mathlib.Core.Path.{◌≡◌, ◌∙◌}
use mathlib.Core.Bool.{true, false}
use mathlib.Core.Logic.{inl, inr}
use mathlib.Core.List.{List}
use native.Mathlib.Omega.{arith}
use lib.ListN.{length}
use borrow.Author.Tests.{le-leb, lt-leb, lt-ltb, le-ltb}
use Rattle.rules.specs.NodesLanesEdges.{lanes}
use Rattle.rules.proofs.Means.{both_and, false_and}
use Rattle.rules.proofs.NodesLanesEdges.{Asc}
use Rattle.store.specs.Sizes.{node_place_words}
use Rattle.store.specs.Places.{node_field, key_field, level_field, link_field, fence_field, header, in_use}
use Rattle.store.specs.HasFields.{HasFields}
use Rattle.store.specs.SaidProfile.{said_nodes}
use Rattle.store.proofs.NodeFields.{told_kept}
use Rattle.store.proofs.SaidNodes.{said_in_use, same_said}
use Rattle.marking.proofs.Linked.{Linked}
use Rattle.linking.specs.LinksDue.{link_due_at}
use Rattle.linking.proofs.LinksLaid.{LinksLaid, due_first, due_at}
use Rattle.committing.specs.LinkDraft.{is_link, lane_of_link, linked_field}

-- ---- which fields are links

lane_is_link : (lane : ℕ) → lane < lanes → is_link (link_field lane) ≡ true
lane_is_link lane l =
    both_and _ _ (le-leb (link_field 0) (link_field lane) (omega arith)) (lt-ltb (link_field lane) (link_field lanes) (omega arith))

before_links : (f : ℕ) → f < link_field 0 → is_link f ≡ false
before_links f l = false_and _ _ (inl (lt-leb (link_field 0) f l))

past_links : (f : ℕ) → link_field lanes ≤ f → is_link f ≡ false
past_links f l = false_and _ _ (inr (le-ltb f (link_field lanes) l))

-- ---- the links laid

module _ (old : List ℕ) {new : List ℕ} (laid : HasFields (length old) (linked_field old) new) where
  no_link_kept : (i f : ℕ) → f < node_place_words → is_link f ≡ false → node_field new i f ≡ node_field old i f
  unfolding linked_field
  no_link_kept i f l e = told_kept old laid i f l (rw (false_and _ _ (inr e)))

  pub key_kept : (i : ℕ) → node_field new i key_field ≡ node_field old i key_field
  key_kept i = no_link_kept i key_field (omega arith) (before_links key_field (omega arith))

  pub level_kept : (i : ℕ) → node_field new i level_field ≡ node_field old i level_field
  level_kept i = no_link_kept i level_field (omega arith) (before_links level_field (omega arith))

  -- fences, and what the header has in their place
  pub fence_kept : (i s : ℕ) → fence_field s < node_place_words → node_field new i (fence_field s) ≡ node_field old i (fence_field s)
  fence_kept i s l = no_link_kept i (fence_field s) l (past_links (fence_field s) (omega arith))

  -- all of a place past those in use
  pub free_kept : (i f : ℕ) → f < node_place_words → in_use old < i → node_field new i f ≡ node_field old i f
  unfolding linked_field
  free_kept i f l h = told_kept old laid i f l (rw (false_and _ _ (inl (lt-leb i (in_use old) h))))

  pub in_use_kept : in_use new ≡ in_use old
  in_use_kept = key_kept header

  -- so the same nodes are said
  pub says_kept : said_nodes new ≡ said_nodes old
  says_kept = same_said old new key_kept level_kept

  -- where all places in use are there, each has the links that are due
  module _ (fits : (in_use old + 1) * node_place_words ≤ length old) where
    link_there : (i lane : ℕ) → i ≤ in_use old → lane < lanes → node_field new i (link_field lane) ≡ link_due_at old i lane
    unfolding linked_field
    link_there i lane h l =
        let same : lane_of_link (link_field lane) ≡ lane = omega arith in
        laid.at i (link_field lane) (omega arith) (omega arith)
        ∙ rw (both_and _ _ (le-leb i (in_use old) h) (lane_is_link lane l), same)

    -- as a profile of the nodes has them ..
    pub links_there : LinksLaid new
    links_there =
        record {
          first_link = λ i l. rw says_kept (link_there header i (omega arith) l ∙ due_first old i l);
          link = λ j n rest at i l. let there = rw says_kept at at in link_there (suc j) i (said_in_use old j there) l ∙ due_at old j there i;
        }

    -- .. and walks can follow them
    pub draft_linked : Asc 0 (said_nodes old) → Linked new
    draft_linked ascend =
        record {
          fits = omega (arith, in_use_kept, laid.size);
          ascend = rw says_kept ascend;
          link = links_there.link;
        }
