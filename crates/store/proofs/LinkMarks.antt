-- The marks laid in the slot of a node's link, in a lane that the node takes part in, are those that the edge readout reads on that link.
-- Assumes nothing.
use Prim.Native.Nat.{ℕ, suc, ◌<◌}
use mathlib.Core.Path.{◌≡◌, refl}
use mathlib.Core.Bool.{Bool, true, false}
use mathlib.Core.List.{List, [], ◌∷◌}
use Rattle.rules.specs.Connectives.{◌and◌}
use Rattle.rules.specs.Lists.{first_of}
use Rattle.rules.specs.HallLine.{Band}
use Rattle.rules.specs.NodesLanesEdges.{Node, takes_part, lane_of}
use Rattle.rules.specs.Profile.{Profile}
use Rattle.rules.specs.Marks.{numbers_where, marked_on_edge}
use Rattle.rules.specs.Staircase.{link_marked}
use Rattle.rules.specs.Readouts.{marked_on_link}
use Rattle.rules.proofs.NodesLanesEdges.{takes_part_means}
use Rattle.store.specs.LaidMarks.{slot_marks}

no_numbers : (bs : List Band) → numbers_where (λ b. false) bs ≡ []
no_numbers [] = refl
no_numbers (b ∷ bs) = no_numbers bs

-- the link from x to the first of the lane's keys ahead
link_numbers : (p : Profile) (i x : ℕ) (ks : List ℕ) (part : Bool) → part ≡ true
    → numbers_where (λ b. part and link_marked p.nodes b i x ks) p.bands ≡ marked_on_link p x i (first_of ks)
unfolding ◌and◌ link_marked marked_on_edge
link_numbers p i x [] part e = rw e (no_numbers p.bands)
link_numbers p i x (y ∷ ys) part e = rw e

pub link_marks : (p : Profile) (i : ℕ) (n : Node) (rest : List Node) → i < n.level
    → slot_marks p n rest (suc i) ≡ marked_on_link p n.key i (first_of (lane_of i rest))
unfolding slot_marks
link_marks p i n rest h = link_numbers p i n.key (lane_of i rest) (takes_part i n) ((takes_part_means i n).test h)
