-- "It is the level given in the call that made the node and stays while the node stands, whatever later calls give", by the node readout: a node that
-- stands before and after a change that keeps levels, as insert and remove do, keeps its level; each node of the profile after an accepted change stands,
-- with its level, and so one that an insert makes has the level given for its end, a one-key band's that of the low end.
-- Assumes nothing.
use Prim.Native.Nat.{ℕ}
use mathlib.Core.Path.{◌≡◌, refl, sym, ◌∙◌, ap, subst}
use mathlib.Core.Bool.{true}
use mathlib.Core.Logic.{inl, inr}
use Rattle.rules.specs.HallLine.{Band}
use Rattle.rules.specs.NodesLanesEdges.{Node, node_of}
use Rattle.rules.specs.Profile.{Profile}
use Rattle.rules.specs.Changes.{inserted, removed}
use Rattle.rules.specs.BoxSaysNo.{node_read_answer}
use Rattle.rules.proofs.Lists.{Each}
use Rattle.rules.proofs.NodesLanesEdges.{NoNodeAt}
use Rattle.rules.proofs.BoxSaysNo.{node_gives_13}
use Rattle.rules.proofs.Changes.{MadeAtEnd}
use Rattle.rules.proofs.Theory.LevelsStay.{LevelsStay, levels_read_same, insert_levels_stay, made_stands, remove_levels_stay}
use Rattle.store.specs.Memory.{Memory}
use Rattle.store.specs.SaidProfile.{said_profile}
use Rattle.store.specs.Sound.{sound}
use Rattle.store.specs.ChangeIn.{change_in}
use Rattle.store.proofs.SaidStands.{said_stands}
use Rattle.store.proofs.ChangeIn.{Fitting, change_leaves_so, change_leaves}
use Rattle.asking.specs.NodeCall.{node_in}
use Rattle.asking.proofs.OnSound.{node_on_sound}
use Rattle.asking.proofs.NodeExact.{node_exact}
use Rattle.inserting.specs.InsertCall.{insert_refusal_in, insert_in}
use Rattle.removing.specs.RemoveCall.{remove_refusal_in, remove_in}
use Rattle.inserting.proofs.Accepted.{insert_fitting, insert_was_sound}
use Rattle.removing.proofs.Accepted.{remove_fitting, remove_was_sound}

-- ---- a node that stands before and after

-- at each key where a node stands in the one memory and in the other it has the same level
abbrev pub SameLevels : Memory → Memory → Type 0
SameLevels m w = (k : ℕ) → (node_in m k).refusal ≡ 0 → (node_in w k).refusal ≡ 0 → (node_in w k).read.level ≡ (node_in m k).read.level

-- a node stands at the key, with that level
abbrev pub StandsWith : ℕ → Memory → ℕ → Type 0
StandsWith level w k = ((node_in w k).refusal ≡ 0) × ((node_in w k).read.level ≡ level)

-- every change of sound memory that keeps the level of each node at whose key one stands before and after it
pub change_level_stays : (m : Memory) (refusal : ℕ) (after : Profile) → Fitting m refusal after → (refusal ≡ 0 → sound m ≡ true)
    → (refusal ≡ 0 → LevelsStay (said_profile m).nodes after.nodes) → SameLevels m (change_in m refusal after).after
change_level_stays m refusal after owed was_sound stay =
    change_leaves_so m refusal after (SameLevels m) (λ k x y. refl) (λ z k.
    let w = (change_in m refusal after).after in
    let was = was_sound z in
    let left = change_leaves m refusal after owed z in
    let kept = subst (λ q. LevelsStay (said_profile m).nodes q.nodes) (sym left.says) (stay z) in
    rw (node_on_sound m was k, node_on_sound w left.is_sound k)
    (levels_read_same (said_profile m) (said_profile w) (said_stands m was).keys_ascend_lem (said_stands w left.is_sound).keys_ascend_lem kept k))

module _ (m : Memory) where
  pub insert_level_stays : (b : Band) (lo hi : ℕ) → SameLevels m (insert_in m b lo hi).after
  unfolding insert_in
  insert_level_stays b lo hi =
      change_level_stays m (insert_refusal_in m b lo hi) (inserted (said_profile m) b lo hi) (insert_fitting m b lo hi) (insert_was_sound m b lo hi)
      (λ z. insert_levels_stay (said_profile m) b lo hi)

  pub remove_level_stays : (number scope : ℕ) → SameLevels m (remove_in m number scope).after
  unfolding remove_in
  remove_level_stays number scope =
      change_level_stays m (remove_refusal_in m number scope) (removed (said_profile m) number) (remove_fitting m number scope) (remove_was_sound m number scope)
      (λ z. remove_levels_stay (said_profile m) number (said_stands m (remove_was_sound m number scope z)).keys_ascend_lem)

-- ---- a node of the profile after it

-- after an accepted change each node of the profile after it stands, with its level
pub change_nodes_stand : (m : Memory) (refusal : ℕ) (after : Profile) → Fitting m refusal after → refusal ≡ 0
    → Each (λ n. StandsWith n.level (change_in m refusal after).after n.key) after.nodes
change_nodes_stand m refusal after owed z n i =
    let left = change_leaves m refusal after owed z in
    let e = node_exact (change_in m refusal after).after left.is_sound n (rw left.says i) in
    (e.0, e.1.level)

-- so one that an insert makes has the level given
module _ (m : Memory) (b : Band) (lo hi : ℕ) (accepted : (insert_in m b lo hi).refusal ≡ 0) where
  made : (n : Node) → MadeAtEnd b lo hi (said_profile m).nodes n → StandsWith n.level (insert_in m b lo hi).after n.key
  unfolding insert_in change_in
  made n e =
      change_nodes_stand m (insert_refusal_in m b lo hi) (inserted (said_profile m) b lo hi) (insert_fitting m b lo hi) accepted n
      (made_stands (said_profile m) b lo hi n e)

  -- the readout is refused by 13 where none stands
  none_there : (k : ℕ) → (node_in m k).refusal ≡ 13 → NoNodeAt k (said_profile m).nodes
  unfolding insert_in change_in node_read_answer
  none_there k e =
      ((node_gives_13 true (said_profile m) k).0 (sym (ap (λ a. a.refusal) (node_on_sound m (insert_was_sound m b lo hi accepted) k)) ∙ e)).1.1

  -- where no node stood at the low end, one stands with the low end's level: a one-key band's too
  pub low_level_given : (node_in m b.low).refusal ≡ 13 → StandsWith lo (insert_in m b lo hi).after b.low
  low_level_given e = made (node_of b.low lo) (inl (refl, none_there b.low e))

  -- and where none stood at a high end that is another key, one with the high end's
  pub high_level_given : (b.high ≡ b.low → ⊥) → (node_in m b.high).refusal ≡ 13 → StandsWith hi (insert_in m b lo hi).after b.high
  high_level_given off e = made (node_of b.high hi) (inr (refl, off, none_there b.high e))
