-- The staircases of memory whose nodes are linked and whose profile stands are the profile's marks: band by band along the walks of the rules,
-- and so slot by slot, each slot past as many as its fence says, and in all as many as the marks in use.
-- Assumes nothing.
use Prim.Native.Nat.{ℕ, zero, suc, ◌*◌, ◌≤◌}
use mathlib.Core.Path.{◌≡◌, refl, sym, ◌∙◌, ap, subst}
use mathlib.Core.Bool.{Bool, true, false}
use mathlib.Core.Logic.{inl, inr}
use mathlib.Core.List.{List, ◌∷◌, ◌++◌}
use lib.ListN.{length, drop}
use Rattle.rules.specs.Lists.{add_if, only_if}
use Rattle.rules.specs.HallLine.{Band}
use Rattle.rules.specs.NodesLanesEdges.{Node}
use Rattle.rules.specs.Profile.{profile_of}
use Rattle.rules.specs.Marks.{marks_in_use}
use Rattle.rules.specs.Staircase.{slots_per_node, slot_number, walk}
use Rattle.rules.proofs.Lists.{Each}
use Rattle.rules.proofs.SoundMemory.{Standing}
use Rattle.store.specs.Sizes.{band_places}
use Rattle.store.specs.SaidProfile.{said_band, said_bands_from, said_bands, said_nodes, said_by}
use Rattle.store.specs.LaidMarks.{laid_marks_from}
use Rattle.store.proofs.SaidBands.{says_live}
use Rattle.store.proofs.LaidMarks.{fence_of}
use Rattle.marking.specs.WordWalk.{walked, slots_of}
use Rattle.marking.specs.Buckets.{in_slots, start_of}
use Rattle.marking.specs.Staircases.{marks_in, staircases_from, staircases}
use Rattle.marking.proofs.Linked.{Linked}
use Rattle.marking.proofs.WalkOnLinked.{walk_on_linked}
use Rattle.marking.proofs.BandMarks.{marks_along}
use Rattle.marking.proofs.WalkMarks.{walk_marks, walks_count, all_of_walks, start_of_walks}

-- going through the numbers, a live one brings the marks of its band, and another none
staircases_from_lem : (bands nodes : List ℕ) (slots : Band → List ℕ) (b m : ℕ)
    → Each (λ d. walked nodes d ≡ slots d) (said_bands_from bands b m)
    → staircases_from bands nodes b m ≡ marks_along slots (said_bands_from bands b m)
unfolding slots_of said_band
staircases_from_lem bands nodes slots b zero same = refl
staircases_from_lem bands nodes slots b (suc m) same = go (says_live bands b) same (staircases_from_lem bands nodes slots (suc b) m)
  where
    go : (t : Bool) → Each (λ d. walked nodes d ≡ slots d) (add_if t (said_band bands b) (said_bands_from bands (suc b) m))
        → (Each (λ d. walked nodes d ≡ slots d) (said_bands_from bands (suc b) m)
        → staircases_from bands nodes (suc b) m ≡ marks_along slots (said_bands_from bands (suc b) m))
        → marks_in b (only_if t (walked nodes (said_band bands b))) ++ staircases_from bands nodes (suc b) m
        ≡ marks_along slots (add_if t (said_band bands b) (said_bands_from bands (suc b) m))
    go true h ih = rw (h (said_band bands b) (inl refl), ih (λ d i. h d (inr i)))
    go false h ih = ih h

module _ (bands nodes : List ℕ) (linked : Linked nodes) (stands : Standing (said_by bands nodes)) where
  -- the staircases are the marks of the bands one after the other, each along the walk of the rules
  staircases_by_band : staircases bands nodes ≡ walk_marks (said_by bands nodes)
  unfolding staircases walk_marks said_bands
  staircases_by_band =
      staircases_from_lem bands nodes (walk (said_nodes nodes)) 0 band_places
      (λ b i. walk_on_linked nodes linked b (stands.ends_stand_lem b i).0)

  -- they are as many as the marks in use
  pub marks_count : length (staircases bands nodes) ≡ marks_in_use (said_by bands nodes)
  marks_count = rw staircases_by_band (walks_count (said_by bands nodes) stands)

  -- slot by slot they are the mark words of the profile
  pub all_slots : in_slots 0 (length (said_nodes nodes) * slots_per_node) (staircases bands nodes)
      ≡ laid_marks_from (said_by bands nodes) (said_nodes nodes)
  all_slots = rw staircases_by_band (all_of_walks (said_by bands nodes) stands)

  -- a slot's start is its fence
  pub slot_starts : (j : ℕ) (n : Node) (rest : List Node) → drop j (said_nodes nodes) ≡ n ∷ rest → (s : ℕ) → s ≤ slots_per_node
      → start_of (slot_number j s) (staircases bands nodes)
      ≡ fence_of (said_by bands nodes) j n rest s
  slot_starts j n rest at s l = rw staircases_by_band (start_of_walks (said_by bands nodes) stands j n rest at s l)

-- linked words that say the same nodes have the same staircases
pub same_staircases : (bands : List ℕ) {nodes others : List ℕ} → Linked nodes → Linked others → said_nodes nodes ≡ said_nodes others
    → Standing (said_by bands nodes) → staircases bands nodes ≡ staircases bands others
same_staircases bands {nodes} {others} linked linked_too same stands =
    let said : said_by bands nodes ≡ said_by bands others = ap (profile_of (said_bands bands)) same in
    staircases_by_band bands nodes linked stands
    ∙ ap walk_marks said
    ∙ sym (staircases_by_band bands others linked_too (subst Standing said stands))
