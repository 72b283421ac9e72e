-- Bands other than the call's keep every mark on edges not lying in the reach of a node made or dropped and on nodes not strictly inside one, by the
-- edge and node readouts before and after a change, accepted or refused, on any memory: each mark outside the reaches is kept, and none is gained there.
-- Which bands are the call's is any test on bands; of an insert and a remove it is the number.
-- Assumes nothing.
use Prim.Native.Nat.{ℕ, ◌<◌}
use mathlib.Core.Path.{◌≡◌, refl, sym, subst}
use mathlib.Core.Bool.{true}
use mathlib.Core.List.{List}
use Rattle.rules.specs.HallLine.{Band}
use Rattle.rules.specs.NodesLanesEdges.{Node}
use Rattle.rules.specs.Profile.{Profile}
use Rattle.rules.specs.Changes.{inserted, removed}
use Rattle.rules.specs.Flags.{flag_count, flag_at}
use Rattle.rules.specs.Reach.{present_both, made_or_dropped}
use Rattle.rules.proofs.Profile.{SameBut, NoneBy, other_number}
use Rattle.rules.proofs.Theory.MarksRead.{ReadsKept, ProfileReadsKept, node_unrefused, other_number_reads_kept}
use Rattle.store.specs.Memory.{Memory}
use Rattle.store.specs.SaidProfile.{said_profile}
use Rattle.store.specs.Sound.{sound}
use Rattle.store.specs.ChangeIn.{change_in}
use Rattle.store.proofs.SaidStands.{said_stands}
use Rattle.store.proofs.ChangeIn.{change_leaves_so, change_leaves}
use Rattle.search.specs.PlaceOf.{place_of}
use Rattle.asking.specs.EdgeCall.{edge_in}
use Rattle.asking.specs.NodeCall.{node_refusal_in, node_at, node_in}
use Rattle.asking.proofs.OnSound.{edge_on_sound, node_on_sound}
use Rattle.inserting.specs.InsertCall.{insert_refusal_in, insert_in}
use Rattle.removing.specs.RemoveCall.{remove_refusal_in, remove_in}
use Rattle.demands.proofs.ChangesOnly.{ChangesOnly, insert_changes_only, remove_changes_its_number}

-- ---- what is kept from one memory to another

-- the number's marks on edges that lie in the reach of no touched node, and on nodes strictly inside none, are read in the one memory and, of the same
-- edge or node, in the other
abbrev pub MarksKept : List Node → List Node → ℕ → Memory → Memory → Type 0
MarksKept both touched number m w = ReadsKept both touched number (edge_in m) (edge_in w) (node_in m) (node_in w)

-- both ways, for the nodes that the two memories say
abbrev pub KeptBothWays : ℕ → Memory → Memory → Type 0
KeptBothWays number m w =
    let both : List Node = present_both (said_profile m).nodes (said_profile w).nodes in
    let touched : List Node = made_or_dropped (said_profile m).nodes (said_profile w).nodes in
    MarksKept both touched number m w × MarksKept both touched number w m

-- of every number that no band passing the test has, in the one memory or in the other
abbrev pub OthersKept : (Band → Type 0) → Memory → Memory → Type 0
OthersKept P m w =
    (number : ℕ) → number < flag_count → NoneBy P number (said_profile m) → NoneBy P number (said_profile w) → KeptBothWays number m w

-- of every number but the call's
abbrev pub OtherNumbersKept : ℕ → Memory → Memory → Type 0
OtherNumbersKept n m w = (number : ℕ) → number < flag_count → (number ≡ n → ⊥) → KeptBothWays number m w

-- ---- between sound memories

-- what is kept in what is read of the profiles that sound memories say is kept in what is read of the memories, whichever nodes count as present and
-- as touched
pub reads_kept : (both touched : List Node) (m w : Memory) → sound m ≡ true → sound w ≡ true → (number : ℕ)
    → ProfileReadsKept both touched number (said_profile m) (said_profile w) → MarksKept both touched number m w
reads_kept both touched m w s t number kept =
    record {
      on_edge = λ x y lane. rw (edge_on_sound m s x lane, edge_on_sound w t x lane) (kept.on_edge x y lane);
      on_node = λ k. rw (node_on_sound m s k, node_on_sound w t k) (kept.on_node k);
    }

-- ---- every change

-- where nothing changes all is kept
unchanged_kept : (P : Band → Type 0) (m : Memory) → OthersKept P m m
unfolding node_in
unchanged_kept P m number h before there = (same _ _, same _ _)
  where
    stands : (k : ℕ) → flag_at (node_in m k).read.flags number ≡ 1 → (node_in m k).refusal ≡ 0
    stands k flag = node_unrefused (node_refusal_in m k) (node_at m.nodes m.marks (place_of m.nodes k)) number h flag

    same : (both touched : List Node) → MarksKept both touched number m m
    same both touched = record { on_edge = λ x y lane clear next flag. (next, flag); on_node = λ k clear flag. (stands k flag, flag) }

-- after which only bands that pass have come or gone
pub change_local : (P : Band → Type 0) (m : Memory) (refusal : ℕ) (after : Profile) → ChangesOnly P m refusal after
    → OthersKept P m (change_in m refusal after).after
change_local P m refusal after change =
    change_leaves_so m refusal after (OthersKept P m) (unchanged_kept P m) (λ z number h before there.
    let w = (change_in m refusal after).after in
    let was = change.was_sound z in
    let left = change_leaves m refusal after change.fitting z in
    let is = left.is_sound in
    let same = subst (SameBut P (said_profile m)) (sym left.says) (change.others_stay z) in
    let kept = other_number_reads_kept (said_profile m) (said_profile w) (said_stands m was) (said_stands w is) same number h before there in
    (reads_kept _ _ m w was is number kept.0, reads_kept _ _ w m is was number kept.1))

-- .. and where those are the bands of one number, of every other number
number_local : (n : ℕ) (m w : Memory) → OthersKept (λ b. b.number ≡ n) m w → OtherNumbersKept n m w
number_local n m w kept number h other =
    kept number h (other_number (said_profile m) n number other) (other_number (said_profile w) n number other)

module _ (m : Memory) where
  pub insert_local : (b : Band) (lo hi : ℕ) → OtherNumbersKept b.number m (insert_in m b lo hi).after
  unfolding insert_in
  insert_local b lo hi =
      number_local b.number m _
      (change_local (λ c. c.number ≡ b.number) m (insert_refusal_in m b lo hi) (inserted (said_profile m) b lo hi)
      (insert_changes_only (λ c. c.number ≡ b.number) m b lo hi refl))

  pub remove_local : (number scope : ℕ) → OtherNumbersKept number m (remove_in m number scope).after
  unfolding remove_in
  remove_local number scope =
      number_local number m _
      (change_local (λ c. c.number ≡ number) m (remove_refusal_in m number scope) (removed (said_profile m) number)
      (remove_changes_its_number m number scope))
