-- The search over the words of a laid profile stands at a place where the paper's search stands at a spot: which nodes are ahead, where the links
-- lead, and what is taken on dropping a lane there. So it is at the header, and each of these is so on a node that is stepped onto.
-- Assumes nothing.
use Prim.Native.Nat.{ℕ, suc, ◌≤◌, ◌<◌}
use mathlib.Core.Path.{◌≡◌, refl, ◌∙◌}
use mathlib.Core.Bool.{Bool, true, false}
use mathlib.Core.Logic.{⊎_elim}
use mathlib.Core.List.{List, [], ◌∷◌}
use native.Mathlib.Omega.{arith}
use lib.Dec.{ltb}
use lib.ListN.{drop}
use Rattle.rules.specs.Lists.{only_if}
use Rattle.rules.specs.NodesLanesEdges.{Node, lanes, lane_of}
use Rattle.rules.specs.Profile.{Profile}
use Rattle.rules.specs.Search.{Spot, on, drop_takes, start}
use Rattle.rules.proofs.Lists.{Each, in_at_place, rest_follows}
use Rattle.rules.proofs.NodesLanesEdges.{Level, takes_part_means}
use Rattle.rules.proofs.SoundMemory.{Standing}
use Rattle.store.specs.Places.{header}
use Rattle.store.specs.LaidNodes.{next_place}
use Rattle.store.proofs.Lays.{Lays}
use Rattle.search.specs.Descent.{next_of, is_above, taken_on_drop}
use Rattle.store.proofs.LinkMarks.{link_marks}
use Rattle.rules.proofs.Theory.Passed.{Passed, none, passed_to}
use Rattle.store.proofs.NextInLane.{None, Next, none_or_next}
use Rattle.store.proofs.LinksLead.{none_passes, next_passes}

-- a search for k with the lowest m lanes to do, at a place of the words and at a spot of the paper's search
pub record Stands (p : Profile) (nodes marks : List ℕ) (k m place : ℕ) (at : Spot) : Type 0 where
  pub passed : Passed k place p.nodes at.ahead
  -- no node ahead below k takes part in a lane that is done
  pub low : Each (λ n. n.key < k → n.level ≤ m) at.ahead
  -- what stands here takes part in so many lanes: all that are to do, and lane 0
  pub height : ℕ
  pub to_do : m ≤ height
  pub in_lane_zero : 1 ≤ height
  pub link : (i : ℕ) → i < height → next_of nodes place i ≡ next_place i (suc place) at.ahead
  pub takes : (i : ℕ) → i < height → taken_on_drop nodes marks k place i ≡ drop_takes p i k at.here (lane_of i at.ahead)

only_if_none : (t : Bool) → ◌≡◌ {A = List ℕ} (only_if t []) []
only_if_none true = refl
only_if_none false = refl

module _ {p : Profile} {nodes marks : List ℕ} (laid : Lays p nodes marks) (s : Standing p) (k : ℕ) where
  -- at the header, before all nodes
  pub stands_at_header : Stands p nodes marks k lanes header (start p)
  unfolding next_of taken_on_drop
  stands_at_header =
      record {
        passed = none;
        low = λ n m l. (s.levels_right_lem n m).1;
        height = lanes;
        to_do = omega arith;
        in_lane_zero = omega arith;
        link = laid.first_link;
        takes = λ i l. rw (laid.header_slot i l) (only_if_none (is_above nodes k (next_of nodes header i)));
      }

  module _ (j : ℕ) (n : Node) (rest : List Node) (here : drop j p.nodes ≡ n ∷ rest) (l : n.key < k) where
    pub passed_here : Passed k (suc j) p.nodes rest
    passed_here = passed_to k 0 j p.nodes n rest s.keys_ascend_lem here l

    pub level_here : Level n.level
    level_here = s.levels_right_lem n (in_at_place j p.nodes here)

    pub link_here : (i : ℕ) → i < n.level → next_of nodes (suc j) i ≡ next_place i (suc (suc j)) rest
    unfolding next_of
    link_here i h = laid.link j n rest here i (omega (arith, level_here)) ∙ rw ((takes_part_means i n).test h)

    pub takes_here : (i : ℕ) → i < n.level → taken_on_drop nodes marks k (suc j) i ≡ drop_takes p i k (on n.key) (lane_of i rest)
    unfolding taken_on_drop is_above
    takes_here i h =
        rw (link_here i h, laid.slot j n rest here (suc i) (omega (arith, level_here)), link_marks p i n rest h)
        (⊎_elim
        (λ (x : None i rest). rw (none_passes x nodes (suc j) (ltb k), x.lane))
        (λ (x : Next i rest). rw (next_passes laid x (suc j) (rest_follows j p.nodes here) (ltb k), x.lane))
        (none_or_next i rest))
