-- A completed draft copied into memory, and its marks laid from their starts, is the one memory of the profile that it says; and what comes of a
-- draft that 11 or 12 refuses, and of one that neither does.
-- Assumes nothing.
use Prim.Native.Nat.{ℕ, ◌+◌, ◌-◌, ◌*◌, ◌/◌, ◌≤◌, ◌<◌}
use mathlib.Core.Path.{◌≡◌, sym, ◌∙◌, ap}
use mathlib.Core.Bool.{true}
use mathlib.Core.List.{List}
use native.Mathlib.Omega.{arith}
use lib.ListN.{length, take, replicate}
use lib.Seq.{take_all}
use borrow.Author.Tests.{ne_eqb}
use Rattle.rules.specs.Profile.{Profile, profile_of}
use Rattle.rules.specs.Room.{room_of, most_nodes}
use Rattle.rules.specs.BoxSaysNo.{leaving, fit_refusal}
use Rattle.rules.specs.Staircase.{slots_per_node}
use Rattle.rules.specs.SoundMemory.{standing, sound_in}
use Rattle.rules.proofs.SoundMemory.{sound_in_means, sound_where_fits}
use Rattle.store.specs.Sizes.{node_place_words, sizes_right, room_for}
use Rattle.store.specs.Places.{in_use}
use Rattle.store.specs.Words.{copied}
use Rattle.store.specs.ChangeIn.{change_in}
use Rattle.store.specs.Memory.{lent, lengths_in, room_in}
use Rattle.store.specs.SaidProfile.{said_bands, said_nodes, said_by}
use Rattle.store.specs.LaidBands.{laid_bands}
use Rattle.store.specs.LaidNodes.{laid_nodes}
use Rattle.store.specs.LaidMarks.{laid_marks}
use Rattle.store.specs.LaidMemory.{laid_memory}
use Rattle.store.proofs.Copied.{copied_first}
use Rattle.store.proofs.RightSizes.{sizes_in_numbers, right_lengths}
use Rattle.store.proofs.SaidNodes.{said_nodes_length}
use Rattle.store.proofs.LaidBands.{laid_bands_length}
use Rattle.store.proofs.LaidNodes.{laid_nodes_length, laid_nodes_taken}
use Rattle.store.proofs.LaidLays.{said_nodes_laid}
use Rattle.marking.specs.Buckets.{laid_of, with_marks}
use Rattle.marking.specs.Staircases.{staircases}
use Rattle.marking.proofs.CountsAndStarts.{starts_count}
use Rattle.marking.proofs.Linked.{Linked}
use Rattle.marking.proofs.LaidAll.{laid_all}
use Rattle.linking.proofs.LinksLaid.{laid_links}
use Rattle.drafting.specs.NodeDraft.{draft_words}
use Rattle.committing.specs.Committed.{committed, starts_by}

-- ---- a completed draft laid

-- the draft is complete: it has the words of the profile that it says, which stands and fits the room of these slices
module _
    (draft_bands draft_nodes bands nodes marks : List ℕ)
    (sizes : sizes_right (lengths_in (lent bands nodes marks)) ≡ true)
    (in_room : sound_in (room_in (lent bands nodes marks)) (said_by draft_bands draft_nodes) ≡ true)
    (bands_laid : draft_bands ≡ laid_bands (said_bands draft_bands))
    (nodes_laid : draft_nodes ≡ laid_nodes draft_words (said_by draft_bands draft_nodes))
  where
    abbrev said : Profile
    said = said_by draft_bands draft_nodes

    -- its nodes are within the room
    nodes_within : (length said.nodes ≤ length nodes / node_place_words - 1) × (length nodes / node_place_words - 1 ≤ most_nodes)
    unfolding room_in room_for
    nodes_within = let fit = ((sound_in_means (room_in (lent bands nodes marks)) said).fact in_room).1 in (fit.nodes_fit_lem, fit.node_room.1)

    pub drafted_within : in_use draft_nodes ≤ most_nodes
    drafted_within = omega (arith, said_nodes_length draft_nodes, nodes_within)

    -- the node words are whole places, and the draft has as many words or more
    whole_places : node_place_words * (length nodes / node_place_words - 1 + 1) ≡ length nodes
    whole_places = let size = (sizes_in_numbers (length bands) (length nodes) (length marks)).fact sizes in omega arith

    draft_length : length draft_nodes ≡ draft_words
    draft_length = ap length nodes_laid ∙ laid_nodes_length most_nodes said (omega (arith, nodes_within))

    -- the walks can follow its links
    draft_linked : Linked draft_nodes
    draft_linked =
        record {
          fits = omega (arith, drafted_within, draft_length);
          ascend = ((sound_in_means (room_in (lent bands nodes marks)) said).fact in_room).0.keys_ascend_lem;
          link = (laid_links draft_bands draft_nodes draft_words nodes_laid).link;
        }

    -- the band words once copied
    bands_copied : copied draft_bands bands ≡ laid_bands said.bands
    bands_copied =
        let size = ((sizes_in_numbers (length bands) (length nodes) (length marks)).fact sizes).0 in
        let drafted = ap length bands_laid ∙ laid_bands_length (said_bands draft_bands) in
        copied_first draft_bands bands (omega arith) ∙ take_all (length bands) draft_bands (omega arith) ∙ bands_laid

    -- the node words once copied
    nodes_copied : copied draft_nodes nodes ≡ laid_nodes (length nodes) said
    nodes_copied =
        let room : ℕ = length nodes / node_place_words - 1 in
        copied_first draft_nodes nodes (omega (arith, draft_length, whole_places, nodes_within))
        ∙ ap (take (length nodes)) nodes_laid
        ∙ rw whole_places at (laid_nodes_taken room most_nodes said nodes_within.0 (omega (arith, nodes_within)))

    -- the mark words once laid
    marks_laid : (starts : List ℕ) → starts ≡ starts_by (replicate (length starts) 0) draft_bands draft_nodes → most_nodes * slots_per_node < length starts
        → (with_marks (laid_of starts (replicate (length marks) 0)) (staircases draft_bands draft_nodes)).marks ≡ laid_marks (length marks) said
    unfolding starts_by room_in room_for
    marks_laid starts e enough =
        let sound = (sound_in_means (room_in (lent bands nodes marks)) said).fact in_room in
        ap (λ ss. (with_marks (laid_of ss (replicate (length marks) 0)) (staircases draft_bands draft_nodes)).marks) e
        ∙ laid_all draft_bands draft_nodes draft_linked sound.0 (length starts) (omega (arith, drafted_within)) (length marks) sound.1.marks_fit

    -- all together are the memory of the profile
    pub draft_laid_lem : (starts cleared bands' nodes' starts' marks' : List ℕ)
        → starts ≡ starts_by (replicate (length starts) 0) draft_bands draft_nodes → most_nodes * slots_per_node < length starts
        → bands' ≡ copied draft_bands bands → nodes' ≡ copied draft_nodes nodes → cleared ≡ replicate (length marks) 0
        → laid_of starts' marks' ≡ with_marks (laid_of starts cleared) (staircases draft_bands draft_nodes)
        → lent bands' nodes' marks' ≡ laid_memory (room_in (lent bands nodes marks)) said
    unfolding laid_memory room_in
    draft_laid_lem starts cleared bands' nodes' starts' marks' e enough b n z laid =
        let same = sym (right_lengths (lengths_in (lent bands nodes marks)) sizes).1 in
        let from_zeros = ap (λ w. w.marks) laid ∙ ap (λ w. (with_marks (laid_of starts w) (staircases draft_bands draft_nodes)).marks) z in
        let m = from_zeros ∙ marks_laid starts e enough in
        λ i.
        lent
        ((b ∙ bands_copied) i)
        ((n ∙ nodes_copied ∙ ap (λ l. laid_nodes l.nodes said) same) i)
        ((m ∙ ap (λ l. laid_marks l.marks said) same) i)

-- ---- a draft judged

-- completed, the draft says what was drafted
module _ (draft_bands drafted draft_nodes : List ℕ) (completed : draft_nodes ≡ laid_nodes draft_words (said_by draft_bands drafted)) where
  says_as_before : said_by draft_bands draft_nodes ≡ said_by draft_bands drafted
  says_as_before = ap (profile_of (said_bands draft_bands)) (ap said_nodes completed ∙ said_nodes_laid draft_words (said_by draft_bands drafted))

  pub draft_completed : draft_nodes ≡ laid_nodes draft_words (said_by draft_bands draft_nodes)
  draft_completed = completed ∙ ap (laid_nodes draft_words) (sym says_as_before)

-- the draft is judged by the room of these slices
module _
    (bands nodes marks draft_bands drafted : List ℕ)
    (says : ℕ)
    (judged : says ≡ fit_refusal (room_of (length nodes / node_place_words - 1) (length marks)) (said_by draft_bands drafted))
  where
    -- refused, memory is as it was
    pub draft_refused : (says ≡ 0 → ⊥) → leaving says (lent bands nodes marks) ≡ committed (lent bands nodes marks) (said_by draft_bands drafted)
    unfolding committed change_in room_in room_for
    draft_refused given = rw (← judged, ne_eqb says 0 given)

    module _ (accepted : says ≡ 0) (draft_nodes : List ℕ) (completed : draft_nodes ≡ laid_nodes draft_words (said_by draft_bands drafted)) where
      -- accepted, it can be laid
      pub draft_in_room : sizes_right (lengths_in (lent bands nodes marks)) ≡ true → standing (said_by draft_bands drafted) ≡ true
          → sound_in (room_in (lent bands nodes marks)) (said_by draft_bands draft_nodes) ≡ true
      unfolding room_in room_for
      draft_in_room sizes stands =
          let in_range = (right_lengths (lengths_in (lent bands nodes marks)) sizes).0 in
          rw (says_as_before draft_bands drafted draft_nodes completed)
          (sound_where_fits (room_in (lent bands nodes marks)) (said_by draft_bands drafted) in_range stands (sym judged ∙ accepted))

      -- .. and once it is, memory is that of what was drafted
      pub draft_accepted : (bands' nodes' marks' : List ℕ)
          → lent bands' nodes' marks' ≡ laid_memory (room_in (lent bands nodes marks)) (said_by draft_bands draft_nodes)
          → leaving 0 (lent bands' nodes' marks') ≡ committed (lent bands nodes marks) (said_by draft_bands drafted)
      unfolding committed change_in room_in room_for
      draft_accepted bands' nodes' marks' laid =
          rw (← judged, accepted)
          (ap (leaving 0) (laid ∙ ap (laid_memory (room_in (lent bands nodes marks))) (says_as_before draft_bands drafted draft_nodes completed)))

-- the starts by counting from cursors at zero
pub counted_from_zero : (cursors starts bands nodes : List ℕ) → cursors ≡ replicate (length cursors) 0 → starts ≡ starts_by cursors bands nodes
    → starts ≡ starts_by (replicate (length starts) 0) bands nodes
unfolding starts_by
counted_from_zero cursors starts bands nodes blank by =
    let from_zeros = by ∙ ap (λ cs. starts_by cs bands nodes) blank in
    let as_many = ap length from_zeros ∙ starts_count (length cursors) (staircases bands nodes) in
    from_zeros ∙ ap (λ k. starts_by (replicate k 0) bands nodes) (sym as_many)
