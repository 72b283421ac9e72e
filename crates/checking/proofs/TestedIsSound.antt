-- All tests of the check together are `sound`: they pass on a memory exactly when it is sound.
-- Assumes nothing.
use Prim.Native.Nat.{ℕ}
use mathlib.Core.Path.{◌≡◌, sym, ap, ◌∙◌}
use mathlib.Core.Bool.{true}
use mathlib.Core.List.{List}
use native.Mathlib.Omega.{arith}
use lib.ListN.{length}
use Rattle.rules.proofs.Means.{Means, reworded, and_means, then_means, itself, same_means}
use Rattle.rules.proofs.Lists.{Some, Each}
use Rattle.rules.proofs.NodesLanesEdges.{NodeAt, EndOf}
use Rattle.rules.proofs.BoxSaysNo.{BandRight, room_in_range_means}
use Rattle.rules.proofs.SoundMemory.{Standing, Fitting, sound_in_means}
use Rattle.store.specs.Sizes.{sizes_right, room_for, lengths_for}
use Rattle.store.specs.Memory.{Memory, lent, lengths_in, room_in}
use Rattle.store.specs.SaidProfile.{said_bands, said_nodes, said_profile, said_by}
use Rattle.store.specs.LaidBands.{laid_bands}
use Rattle.store.specs.LaidNodes.{laid_nodes}
use Rattle.store.specs.LaidMarks.{laid_marks}
use Rattle.store.specs.LaidMemory.{laid_memory}
use Rattle.store.specs.Sound.{sound}
use Rattle.store.proofs.RightSizes.{sizes_in_numbers, right_lengths}
use Rattle.store.proofs.SaidBands.{said_bands_ascend}
use Rattle.store.proofs.SaidNodes.{said_nodes_length}
use Rattle.store.proofs.Sound.{Sound, sound_means}
use Rattle.marking.proofs.Linked.{Linked}
use Rattle.linking.proofs.LinksLaid.{LinksLaid, laid_links}
use Rattle.checking.specs.Tested.{tested}
use Rattle.checking.proofs.BandPlaces.{band_places_mean}
use Rattle.checking.proofs.NodePlaces.{NodesStand, node_places_mean}
use Rattle.checking.proofs.EndsStand.{ends_mean}
use Rattle.checking.proofs.LinksRight.{links_mean}
use Rattle.checking.proofs.MarkPlaces.{MarksLaid, marks_mean}
use Rattle.checking.proofs.NodesLaid.{nodes_laid, laid_stand, laid_marks_counted, laid_fences}

-- ---- what the tests mean together

record Tested (bands nodes marks : List ℕ) : Type 0 where
  sizes : sizes_right (lengths_in (lent bands nodes marks)) ≡ true
  bands_right_lem : Each BandRight (said_bands bands)
  bands_laid : bands ≡ laid_bands (said_bands bands)
  nodes_stand : NodesStand nodes
  ends_stand_lem : Each (λ b. NodeAt b.low (said_nodes nodes) × NodeAt b.high (said_nodes nodes)) (said_bands bands)
  only_ends_stand_lem : Each (λ n. Some (EndOf n.key) (said_bands bands)) (said_nodes nodes)
  links_laid : LinksLaid nodes
  marks_laid : MarksLaid bands nodes marks

-- node places and links right make words that the walks can follow
linked_by : (nodes : List ℕ) → NodesStand nodes → LinksLaid nodes → Linked nodes
linked_by nodes n l = record { fits = n.fits; ascend = n.ascend; link = l.link }

-- band places, node places and ends right make a profile that stands
standing_by : (bands nodes : List ℕ) → Each BandRight (said_bands bands) → NodesStand nodes
    → Each (λ b. NodeAt b.low (said_nodes nodes) × NodeAt b.high (said_nodes nodes)) (said_bands bands)
    → Each (λ n. Some (EndOf n.key) (said_bands bands)) (said_nodes nodes) → Standing (said_by bands nodes)
standing_by bands nodes b n e o =
    record {
      numbers_ascend_lem = said_bands_ascend bands;
      bands_right_lem = b;
      keys_ascend_lem = n.ascend;
      levels_right_lem = n.levels;
      ends_stand_lem = e;
      only_ends_stand_lem = o;
    }

-- in the four steps of the check: what the tests of a step mean is known where those before it have passed
tested_means : (bands nodes marks : List ℕ) → Means (tested (lent bands nodes marks)) (Tested bands nodes marks)
unfolding tested
tested_means bands nodes marks =
    reworded
    (then_means
    (itself (sizes_right (lengths_in (lent bands nodes marks))))
    (λ s.
    let size = (sizes_in_numbers (length bands) (length nodes) (length marks)).fact s in
    then_means
    (and_means (band_places_mean bands size.0) (node_places_mean nodes (omega arith)))
    (λ p.
    let n = p.1 in
    then_means
    (and_means (ends_mean bands nodes n.fits n.ascend) (links_mean nodes))
    (λ j. marks_mean bands nodes marks (linked_by nodes n j.1) (standing_by bands nodes p.0.0 n j.0.0 j.0.1)))))
    (λ h. record {
      sizes = h.0;
      bands_right_lem = h.1.0.0.0;
      bands_laid = h.1.0.0.1;
      nodes_stand = h.1.0.1;
      ends_stand_lem = h.1.1.0.0.0;
      only_ends_stand_lem = h.1.1.0.0.1;
      links_laid = h.1.1.0.1;
      marks_laid = h.1.1.1;
    })
    (λ t. (t.sizes, (((t.bands_right_lem, t.bands_laid), t.nodes_stand), (((t.ends_stand_lem, t.only_ends_stand_lem), t.links_laid), t.marks_laid))))

-- ---- .. is that memory is sound

module _ (m : Memory) where
  -- the room is in range, and nodes and marks are within it
  passed_fits : Tested m.bands m.nodes m.marks → Fitting (room_in m) (said_by m.bands m.nodes)
  unfolding room_in room_for
  passed_fits t =
      let range = (room_in_range_means (room_in m)).fact (right_lengths (lengths_in m) t.sizes).0 in
      record {
        node_room = range.0;
        mark_room = range.1;
        nodes_fit_lem = omega (arith, said_nodes_length m.nodes, t.nodes_stand.fits);
        marks_fit = t.marks_laid.fit;
      }

  -- where the tests pass the words are those of the profile that they say, which stands and fits
  passed_is_sound : Tested m.bands m.nodes m.marks → Sound m
  unfolding said_profile laid_memory room_in
  passed_is_sound t =
      let size = (sizes_in_numbers (length m.bands) (length m.nodes) (length m.marks)).fact t.sizes in
      let same = sym (right_lengths (lengths_in m) t.sizes).1 in
      let nodes = nodes_laid m.bands m.nodes m.marks t.nodes_stand t.links_laid t.marks_laid (omega arith) size.3 in
      let said = said_by m.bands m.nodes in
      let stands = standing_by m.bands m.nodes t.bands_right_lem t.nodes_stand t.ends_stand_lem t.only_ends_stand_lem in
      record {
        sizes = t.sizes;
        in_room = (sound_in_means (room_in m) said).test (stands, passed_fits t);
        laid =
            λ i.
            lent
            (t.bands_laid i)
            ((nodes ∙ ap (λ l. laid_nodes l.nodes said) same) i)
            ((t.marks_laid.stand ∙ ap (λ l. laid_marks l.marks said) same) i);
      }

  -- of the words of a profile that stands and fits each test is right
  sound_is_passed : Sound m → Tested m.bands m.nodes m.marks
  unfolding said_profile laid_memory room_in room_for lengths_for
  sound_is_passed s =
      let facts = (sound_in_means (room_in m) (said_profile m)).fact s.in_room in
      let words = (lengths_for (room_in m)).nodes in
      let laid = ap (λ w. w.nodes) s.laid in
      record {
        sizes = s.sizes;
        bands_right_lem = facts.0.bands_right_lem;
        bands_laid = ap (λ w. w.bands) s.laid;
        nodes_stand =
            laid_stand m.bands m.nodes words laid facts.0 (omega (arith, said_nodes_length m.nodes, facts.1.nodes_fit_lem));
        ends_stand_lem = facts.0.ends_stand_lem;
        only_ends_stand_lem = facts.0.only_ends_stand_lem;
        links_laid = laid_links m.bands m.nodes words laid;
        marks_laid =
            record {
              fit = facts.1.marks_fit;
              in_use_lem = laid_marks_counted m.bands m.nodes words laid;
              fence = laid_fences m.bands m.nodes words laid;
              stand = ap (λ w. w.marks) s.laid;
            };
      }

  pub tested_is_sound : tested m ≡ sound m
  tested_is_sound = same_means (tested_means m.bands m.nodes m.marks) (sound_means m) passed_is_sound sound_is_passed

-- so what the tests told is what `sound` tells
pub sound_as_tested : (m : Memory) → sound m ≡ tested m
sound_as_tested m = sym (tested_is_sound m)
