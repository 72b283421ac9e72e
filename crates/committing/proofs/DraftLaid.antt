-- From the draft of a standing profile's nodes to the profile's node words: the marks counted once the links are laid are the profile's; with
-- them in the header and the fences laid as the starts say the draft is those words, and the starts are those of its own staircases.
-- Assumes nothing.
use Prim.Native.Nat.{ℕ, zero, suc, ◌+◌, ◌*◌, ◌/◌, ◌%◌, ◌≤◌, ◌<◌}
use mathlib.Core.Path.{◌≡◌, refl, sym, ◌∙◌, ap, subst}
use mathlib.Core.Bool.{true}
use mathlib.Core.Logic.{⊎_elim}
use mathlib.Core.List.{List, ◌∷◌}
use native.Mathlib.Omega.{arith}
use lib.ListN.{length, get_or, drop, replicate, get_or-eq_default}
use Rattle.rules.specs.Lists.{sum_of}
use Rattle.rules.specs.NodesLanesEdges.{Node, node_of, lanes}
use Rattle.rules.specs.Profile.{Profile, profile_of}
use Rattle.rules.specs.Marks.{marks_in_use}
use Rattle.rules.specs.Room.{most_nodes}
use Rattle.rules.specs.Staircase.{slots_per_node, slot_number}
use Rattle.rules.specs.SoundMemory.{standing}
use Rattle.rules.proofs.Means.{at_most_or_above}
use Rattle.rules.proofs.SoundMemory.{Standing, standing_means}
use Rattle.store.specs.Sizes.{node_place_words}
use Rattle.store.specs.Places.{node_field, with_node_field, key_field, level_field, link_field, fence_field, header, nodes_in_use_field, lane_count_field, marks_in_use_field, in_use}
use Rattle.store.specs.HasFields.{HasFields}
use Rattle.store.specs.SaidProfile.{said_bands, said_nodes, said_by}
use Rattle.store.specs.LaidNodes.{next_place, laid_nodes}
use Rattle.store.proofs.SaidNodes.{said_nodes_length, said_in_use, said_key, said_level}
use Rattle.store.proofs.LaidMarks.{fence_of}
use Rattle.store.proofs.LaidNodes.{laid_nodes_length}
use Rattle.store.proofs.LaidLays.{said_nodes_laid}
use Rattle.store.proofs.NodeFields.{field_past, word_in_place}
use Rattle.store.proofs.NodeWords.{NodeWords, laid_node_words, one_node_words}
use Rattle.marking.specs.Buckets.{slots_of_marks, counted, starts_from}
use Rattle.marking.specs.Staircases.{staircases}
use Rattle.marking.specs.CountUpTo.{count_of, count_up_to}
use Rattle.marking.proofs.Linked.{Linked}
use Rattle.marking.proofs.Counted.{Counted, counted_up_to}
use Rattle.marking.proofs.CountsAndStarts.{counts_at_most}
use Rattle.marking.proofs.StaircasesLay.{marks_count, same_staircases}
use Rattle.marking.proofs.LaidAll.{starts_are_fences}
use Rattle.linking.proofs.LinksLaid.{LinksLaid, laid_links}
use Rattle.drafting.specs.NodeDraft.{draft_words, nth_node, draft_field, DraftOf}
use Rattle.committing.specs.LinkDraft.{linked_field}
use Rattle.committing.specs.FenceDraft.{fenced_field}
use Rattle.committing.specs.Committed.{starts_by}
use Rattle.committing.proofs.LinkedDraft.{key_kept, level_kept, fence_kept, free_kept, in_use_kept, says_kept, links_there, draft_linked}
use Rattle.committing.proofs.FencedDraft.{with_counts, counts_size, nodes_kept, header_kept, lanes_there, marks_there, header_unfenced, field_unfenced, free_unfenced, fence_there}

-- ---- the zeros of a draft

-- no node stands past the last ..
free_field : (ns : List Node) (j f : ℕ) → length ns ≤ j → draft_field ns (suc j) f ≡ 0
unfolding draft_field nth_node
free_field ns j zero h = ap (λ n. n.key) (get_or-eq_default ns (node_of 0 0) h)
free_field ns j (suc zero) h = ap (λ n. n.level) (get_or-eq_default ns (node_of 0 0) h)
free_field ns j (suc (suc f)) h = refl

-- .. and the header has only the count of nodes
header_zero : (ns : List Node) (f : ℕ) → 0 < f → draft_field ns 0 f ≡ 0
unfolding draft_field
header_zero ns zero h = absurd (omega arith)
header_zero ns (suc f) h = refl

-- ---- links laid, and lanes and marks counted in the header

-- as many nodes are in use as before
pub same_in_use : (draft : List ℕ) {linked laned headed : List ℕ} (sum : ℕ) → HasFields (length draft) (linked_field draft) linked
    → laned ≡ with_node_field linked header lane_count_field lanes → headed ≡ with_node_field laned header marks_in_use_field sum
    → in_use headed ≡ in_use draft
same_in_use draft {linked} sum links lane_count mark_count =
    rw (mark_count, lane_count) (header_kept linked sum nodes_in_use_field (omega arith) (λ e. omega arith) (λ e. omega arith))
    ∙ in_use_kept draft links

module _ (bands : List ℕ) {draft linked : List ℕ} (drafted : DraftOf (said_nodes draft) draft) (stands : standing (said_by bands draft) ≡ true)
    (links : HasFields (length draft) (linked_field draft) linked) where
  abbrev p : Profile
  p = said_by bands draft

  in_use_lem : in_use draft ≡ length p.nodes
  in_use_lem = sym (said_nodes_length draft)

  size : length draft ≡ draft_words
  size = drafted.fields.size

  -- all places in use are there
  places_fit : (in_use draft + 1) * node_place_words ≤ length draft
  places_fit = omega (arith, drafted.fits, size, in_use_lem)

  facts : Standing p
  facts = (standing_means p).fact stands

  is_linked : Linked linked
  is_linked = draft_linked draft links places_fit facts.keys_ascend_lem

  same_profile : said_by bands linked ≡ p
  same_profile = ap (profile_of (said_bands bands)) (says_kept draft links)

  stands_linked : Standing (said_by bands linked)
  stands_linked = subst Standing (sym same_profile) facts

  -- the staircases are as many as the profile's marks
  marks_asked : length (staircases bands linked) ≡ marks_in_use p
  marks_asked = marks_count bands linked is_linked stands_linked ∙ ap marks_in_use same_profile

  -- ---- the marks counted up to a room

  module _ {room sum : ℕ} {zeros counts : List ℕ} (empty : zeros ≡ replicate (length zeros) 0)
      (count : count_of sum counts ≡ count_up_to room bands linked zeros) where
    tally : Counted room (length zeros) (staircases bands linked) sum counts
    tally = counted_up_to room bands linked empty count

    -- a sum above the room says that the profile has more marks than that ..
    pub sum_above : room < sum → room < marks_in_use p
    sum_above over = omega (arith, tally.too_many over, marks_asked)

    -- .. and one within it is how many it has
    module _ (fit : sum ≤ room) where
      sum_is : sum ≡ marks_in_use p
      sum_is = tally.all fit ∙ marks_asked

      pub sum_within : marks_in_use p ≤ room
      sum_within = omega (arith, fit, sum_is)

      -- the counts are no more together than the room
      pub counts_within : sum_of (λ c. c) counts ≤ room
      counts_within =
          rw (tally.each_slot fit) (omega (arith, fit, counts_at_most (length zeros) (staircases bands linked), tally.all fit))

      -- ---- header and fences laid

      module _ {starts laid : List ℕ} (enough : in_use draft * slots_per_node < length zeros) (started : starts ≡ starts_from 0 counts)
          (fenced : HasFields (length (with_counts linked sum)) (fenced_field (with_counts linked sum) starts) laid) where
        abbrev headed : List ℕ
        headed = with_counts linked sum

        headed_size : length headed ≡ draft_words
        headed_size = counts_size linked sum ∙ links.size ∙ size

        headed_in_use : in_use headed ≡ in_use draft
        headed_in_use = same_in_use draft sum links refl refl

        -- a field of the header that counts neither lanes nor marks is as the links left it
        beside_counts : (f : ℕ) → f < node_place_words → (f ≡ lane_count_field → ⊥) → (f ≡ marks_in_use_field → ⊥)
            → node_field laid header f ≡ node_field linked header f
        beside_counts f l no_lanes no_marks = header_unfenced headed starts fenced f l ∙ header_kept linked sum f l no_lanes no_marks

        -- a field of a place past the last node is 0
        free : (i f : ℕ) → f < node_place_words → in_use draft < i → node_field laid i f ≡ 0
        free zero f l h = absurd (omega arith)
        free (suc j) f l h =
            free_unfenced headed starts fenced (suc j) f l (omega (arith, headed_in_use))
            ∙ nodes_kept linked sum j f l
            ∙ free_kept draft links (suc j) f l h
            ∙ ⊎_elim
            (λ past. field_past draft (suc j) f (omega (arith, size)))
            (λ within. drafted.fields.at (suc j) f l within ∙ free_field p.nodes j f (omega (arith, in_use_lem)))
            (at_most_or_above draft_words (suc j * node_place_words + f))

        -- the place of a node
        module _ (j : ℕ) {n : Node} {rest : List Node} (at : drop j p.nodes ≡ n ∷ rest) where
          at_linked : drop j (said_nodes linked) ≡ n ∷ rest
          at_linked = ap (drop j) (says_kept draft links) ∙ at

          -- a field before its fences is as the links left it
          before_fences : (f : ℕ) → f < fence_field 0 → node_field laid (suc j) f ≡ node_field linked (suc j) f
          before_fences f l = field_unfenced headed starts fenced (suc j) f l ∙ nodes_kept linked sum j f (omega arith)

          -- and each fence is the profile's
          fence_is : (s : ℕ) → s ≤ slots_per_node → node_field laid (suc j) (fence_field s) ≡ fence_of p j n rest s
          fence_is s l =
              let slots_fit : in_use linked * slots_per_node < length zeros = omega (arith, enough, in_use_kept draft links) in
              fence_there headed starts fenced j s (omega (arith, said_in_use draft j at, headed_in_use))
              (omega (arith, headed_in_use, headed_size, places_fit, size)) l
              ∙ ap (λ cs. get_or cs (slot_number j s) 0) (started ∙ ap (starts_from 0) (tally.each_slot fit))
              ∙ starts_are_fences bands linked is_linked stands_linked (length zeros) slots_fit j n rest at_linked s l
              ∙ ap (λ q. fence_of q j n rest s) same_profile

        -- each field is the profile's
        laid_words : NodeWords p laid
        laid_words =
            let has_header : node_place_words ≤ length linked = omega (arith, links.size, size) in
            let there : LinksLaid linked = links_there draft links places_fit in
            record {
              in_use_lem = beside_counts nodes_in_use_field (omega arith) (λ e. omega arith) (λ e. omega arith) ∙ in_use_kept draft links ∙ in_use_lem;
              lane_count = header_unfenced headed starts fenced lane_count_field (omega arith) ∙ lanes_there linked sum has_header;
              first_link = λ i l.
                  beside_counts (link_field i) (omega arith) (λ e. omega arith) (λ e. omega arith)
                  ∙ there.first_link i l
                  ∙ ap (next_place i 1) (says_kept draft links);
              marks_in_use_lem =
                  header_unfenced headed starts fenced marks_in_use_field (omega arith) ∙ marks_there linked sum has_header ∙ sum_is;
              spare = λ s l.
                  beside_counts (fence_field (suc s)) (omega arith) (λ e. omega arith) (λ e. omega arith)
                  ∙ fence_kept draft links header (suc s) (omega arith)
                  ∙ drafted.fields.at header (fence_field (suc s)) (omega arith) (omega arith)
                  ∙ header_zero p.nodes (fence_field (suc s)) (omega arith);
              place = λ j n rest at.
                  record {
                    key = before_fences j at key_field (omega arith) ∙ key_kept draft links (suc j) ∙ said_key draft j at;
                    level = before_fences j at level_field (omega arith) ∙ level_kept draft links (suc j) ∙ said_level draft j at;
                    link = λ i l. before_fences j at (link_field i) (omega arith) ∙ there.link j n rest (at_linked j at) i l;
                    fence = fence_is j at;
                  };
              rest_free_lem = λ q l. word_in_place laid q ∙ free (q / node_place_words) (q % node_place_words) (omega arith) (omega (arith, in_use_lem));
            }

        -- so they are the profile's node words
        draft_laid_lem : laid ≡ laid_nodes draft_words p
        draft_laid_lem =
            one_node_words p laid (laid_nodes draft_words p) laid_words (laid_node_words draft_words p)
            (fenced.size ∙ headed_size ∙ sym (laid_nodes_length most_nodes p drafted.fits))

        -- ---- the starts

        said_laid : said_nodes laid ≡ p.nodes
        said_laid = ap said_nodes draft_laid_lem ∙ said_nodes_laid draft_words p

        laid_linked : Linked laid
        laid_linked =
            let own = draft_laid_lem ∙ ap (λ ns. laid_nodes draft_words (profile_of (said_bands bands) ns)) (sym said_laid) in
            record {
              fits = omega (arith, laid_words.in_use_lem, drafted.fits, fenced.size, headed_size);
              ascend = rw said_laid facts.keys_ascend_lem;
              link = (laid_links bands laid draft_words own).link;
            }

        -- the staircases are those that were counted
        starts_of_laid : starts ≡ starts_by zeros bands laid
        unfolding starts_by
        starts_of_laid =
            started
            ∙ ap (starts_from 0) (tally.each_slot fit)
            ∙ ap (λ cs. starts_from 0 (counted cs (slots_of_marks (staircases bands linked)))) (sym empty)
            ∙ rw (same_staircases bands is_linked laid_linked (says_kept draft links ∙ sym said_laid) stands_linked)

      -- the draft is done, one step after the other
      pub draft_done : {laned headed starts laid : List ℕ} → in_use draft * slots_per_node < length zeros
          → laned ≡ with_node_field linked header lane_count_field lanes → headed ≡ with_node_field laned header marks_in_use_field sum
          → starts ≡ starts_from 0 counts → HasFields (length headed) (fenced_field headed starts) laid
          → (laid ≡ laid_nodes draft_words p) × (starts ≡ starts_by zeros bands laid)
      draft_done {starts = starts} {laid = laid} enough lane_count mark_count started fenced =
          let both = mark_count ∙ ap (λ words. with_node_field words header marks_in_use_field sum) lane_count in
          let fences = subst (λ words. HasFields (length words) (fenced_field words starts) laid) both fenced in
          (draft_laid_lem enough started fences, starts_of_laid enough started fences)
