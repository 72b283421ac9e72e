-- The next node of a lane among the nodes ahead, as the links and as the paper's search know it: there is none, or it stands so many nodes further,
-- and the search steps onto it or drops the lane before it.
-- Assumes nothing.
use Prim.Native.Nat.{ℕ, suc, ◌+◌, ◌<◌}
use mathlib.Core.Path.{◌≡◌, refl, sym, ◌∙◌, ap}
use mathlib.Core.Bool.{Bool, true, false, cond}
use mathlib.Core.Logic.{◌⊎◌, inl, inr, ⊎_map}
use mathlib.Core.List.{List, [], ◌∷◌}
use native.Mathlib.Omega.{arith}
use lib.Dec.{ltb}
use lib.ListN.{drop}
use lib.Seq.{drop-drop}
use Rattle.rules.specs.NodesLanesEdges.{Node, takes_part, lane_of}
use Rattle.rules.specs.Search.{Spot, spot_of, on, drop_among}
use Rattle.rules.proofs.NodesLanesEdges.{takes_part_means}
use Rattle.store.specs.LaidNodes.{next_place}

-- where the search stands after it stepped from a spot onto n, with `rest` after it
abbrev pub onto : Spot → Node → List Node → Spot
onto at n rest = spot_of (on n.key) rest (at.steps + 1)

-- no node of lane i is ahead
pub record None (i : ℕ) (ms : List Node) : Type 0 where
  pub lane : lane_of i ms ≡ []
  pub link : (j : ℕ) → next_place i (suc j) ms ≡ 0
  pub drops : (k : ℕ) (at : Spot) → drop_among i k at ms ≡ at

-- the next node of lane i, after some that are skipped
pub record Next (i : ℕ) (ms : List Node) : Type 0 where
  pub skipped : ℕ
  pub node : Node
  pub rest : List Node
  pub there : drop skipped ms ≡ node ∷ rest
  pub part : i < node.level
  pub lane : lane_of i ms ≡ node.key ∷ lane_of i rest
  pub link : (j : ℕ) → next_place i (suc j) ms ≡ suc (j + skipped)
  pub drops : (k : ℕ) (at : Spot) → drop_among i k at ms ≡ cond (ltb node.key k) (drop_among i k (onto at node rest) rest) at

pub none_or_next : (i : ℕ) (ms : List Node) → None i ms ⊎ Next i ms
none_or_next i [] = inl (record { lane = refl; link = λ j. refl; drops = λ k at. refl })
none_or_next i (n ∷ ns) = go (takes_part i n) refl (none_or_next i ns)
  where
    go : (t : Bool) → takes_part i n ≡ t → None i ns ⊎ Next i ns → None i (n ∷ ns) ⊎ Next i (n ∷ ns)
    go true e r =
        inr
        (record {
          skipped = 0;
          node = n;
          rest = ns;
          there = refl;
          part = (takes_part_means i n).fact e;
          lane = rw e;
          link = λ j. rw e (omega arith);
          drops = λ k at. rw e;
        })
    go false e r =
        ⊎_map
        (λ x. record { lane = rw e x.lane; link = λ j. rw e (x.link (suc j)); drops = λ k at. rw e (x.drops k at) })
        (λ x. record {
          skipped = suc x.skipped;
          node = x.node;
          rest = x.rest;
          there = x.there;
          part = x.part;
          lane = rw e x.lane;
          link = λ j. rw e (omega (arith, x.link (suc j)));
          drops = λ k at. rw e (x.drops k at);
        })
        r

-- where that node stands among all nodes, if those after the first j are ahead
pub next_there : {i : ℕ} {ms : List Node} (x : Next i ms) (j : ℕ) (ns : List Node) → drop j ns ≡ ms → drop (j + x.skipped) ns ≡ x.node ∷ x.rest
next_there x j ns there = sym (drop-drop x.skipped j ns) ∙ ap (drop x.skipped) there ∙ x.there
