-- "What one call can reach", the reaches, for any two standing profiles: a band that is live in both keeps every mark outside the reaches
-- and gains none there. So do, at a change that leaves all bands but those that pass a test, the bands that do not pass; every call is such a change,
-- with the test for its own.
-- Assumes nothing.
use Prim.Native.Nat.{ℕ}
use mathlib.Core.Path.{◌≡◌, sym, subst}
use mathlib.Core.Bool.{Bool, true}
use mathlib.Core.Logic.Iff
use mathlib.Core.Logic.{⊎_map}
use mathlib.Core.List.{List}
use Rattle.rules.specs.HallLine.{Band}
use Rattle.rules.specs.NodesLanesEdges.{Node, Edge}
use Rattle.rules.specs.Profile.{Profile}
use Rattle.rules.specs.Marks.{marked_on_edge, marked_on_node}
use Rattle.rules.specs.Room.{Room}
use Rattle.rules.specs.BoxSaysNo.{changed}
use Rattle.rules.specs.Calls.{Call}
use Rattle.rules.specs.RuledCalls.{after_accepted, call_outcome}
use Rattle.rules.specs.Reach.{present_both, made_or_dropped, others_keep_marks, keeps_outside_reaches, of_call}
use Rattle.rules.proofs.Means.{Means, so_or_not, itself}
use Rattle.rules.proofs.Lists.{In, Each, ascends_once}
use Rattle.rules.proofs.NodesLanesEdges.{NodeAt}
use Rattle.rules.proofs.Profile.{SameBut, NoneBy}
use Rattle.rules.proofs.Marks.{node_mark_rule, in_marked_on_edge, in_marked_on_node}
use Rattle.rules.proofs.BoxSaysNo.{change_keeps}
use Rattle.rules.proofs.SoundMemory.{Standing, nodes_on_line}
use Rattle.rules.proofs.Theory.StandingKept.{call_owed}
use Rattle.rules.proofs.Reach.{KeepsMarks, others_keep_marks_means}
use Rattle.rules.proofs.Theory.Reaches.{Side, sides, Clear, ClearAt, clear_edge_stays, edge_mark_stays, node_mark_stays, held_node_stays}

-- one way, from p to q: a number keeps its marks where each band of p that has it is live in q
module _ (both touched : List Node) (p q : Profile) (after : Standing q)
    (s : Side both touched p.nodes q.nodes) (o : Side both touched q.nodes p.nodes)
    (number : ℕ) (live : Each (λ b. b.number ≡ number → In b q.bands) p.bands) where
  pub number_keeps_marks : KeepsMarks both touched p q number
  number_keeps_marks = (
    λ i l e m clear h. (clear_edge_stays both touched p.nodes q.nodes s i e m o clear, on_edge i e clear h.1),
    λ n m clear h. on_node n.key clear h.0 h.1,
  )
    where
      on_edge : (i : ℕ) (e : Edge) → Clear both touched e → In number (marked_on_edge p i e) → In number (marked_on_edge q i e)
      on_edge i e clear h =
          let t = (in_marked_on_edge p number i e).0 h in
          (in_marked_on_edge q number i e).1
          (t.0, live t.0 t.1 t.2.1, (edge_mark_stays both touched p.nodes q.nodes s o t.0 i e clear t.2.0, t.2.1))

      on_node : (k : ℕ) → ClearAt both touched k → NodeAt k p.nodes → In number (marked_on_node p k)
          → NodeAt k q.nodes × In number (marked_on_node q k)
      on_node k clear m h =
          let t = (in_marked_on_node p number k).0 h in
          let b = t.0 in
          let j = live b t.1 t.2.1 in (
            held_node_stays both touched p.nodes q.nodes s b (after.bands_right_lem b j).high_on_line (after.ends_stand_lem b j) k clear
                ((node_mark_rule p.nodes b k).fact t.2.0).0 m,
            (in_marked_on_node q number k).1 (b, j, (node_mark_stays both touched p.nodes q.nodes s o b k clear t.2.0, t.2.1)),
          )

-- both ways, whichever nodes count as present throughout and which as touched
module _ (both touched : List Node) (p q : Profile) (before : Standing p) (after : Standing q)
    (s : Side both touched p.nodes q.nodes) (o : Side both touched q.nodes p.nodes) where
  -- where each band that is not so is live in both of two standing profiles or in neither, a number of no band that is so keeps every mark outside
  -- the reaches, and gains none there ..
  pub other_number_keeps_marks : {P : Band → Type 0} → SameBut P p q → (number : ℕ) → NoneBy P number p → NoneBy P number q
      → KeepsMarks both touched p q number × KeepsMarks both touched q p number
  other_number_keeps_marks same number none_before none_after = (
    number_keeps_marks both touched p q after s o number (λ b i e. (same b (none_before b i e)).0 i),
    number_keeps_marks both touched q p before o s number (λ b i e. (same b (none_after b i e)).1 i),
  )

  -- .. and so does a band that is live in both
  pub same_band_keeps_marks : (b : Band) → In b p.bands → In b q.bands
      → KeepsMarks both touched p q b.number × KeepsMarks both touched q p b.number
  same_band_keeps_marks b i j = (
    number_keeps_marks both touched p q after s o b.number (only_one p q before i j),
    number_keeps_marks both touched q p before o s b.number (only_one q p after j i),
  )
    where
      only_one : (x y : Profile) → Standing x → In b x.bands → In b y.bands → Each (λ c. c.number ≡ b.number → In c y.bands) x.bands
      only_one x y t k l c m e = subst (λ d. In d y.bands) (sym (ascends_once (λ d. d.number) 0 x.bands t.numbers_ascend_lem c b m k e)) l

  -- so all bands that do not pass a test keep their marks there
  pub others_keep_marks_lem : {own : Band → Bool} {Own : Band → Type 0} → ((b : Band) → Means (own b) (Own b)) → SameBut Own p q
      → others_keep_marks own both touched p q ≡ true
  others_keep_marks_lem m same =
      (others_keep_marks_means m both touched p q).test (
        λ b i. ⊎_map (λ e. e) (λ off. (same_band_keeps_marks b i ((same b off).0 i)).0) (so_or_not (m b)),
        λ b j. ⊎_map (λ e. e) (λ off. (same_band_keeps_marks b ((same b off).1 j) j).1) (so_or_not (m b)),
      )

-- the two sides of any change from one standing profile to another
pub standing_sides : (p q : Profile) → Standing p → Standing q
    → Side (present_both p.nodes q.nodes) (made_or_dropped p.nodes q.nodes) p.nodes q.nodes
    × Side (present_both p.nodes q.nodes) (made_or_dropped p.nodes q.nodes) q.nodes p.nodes
standing_sides p q before after =
    sides p.nodes q.nodes before.keys_ascend_lem after.keys_ascend_lem (nodes_on_line p before) (nodes_on_line q after)

module _ {own : Band → Bool} {Own : Band → Type 0} (m : (b : Band) → Means (own b) (Own b)) where
  -- where each band that does not pass is live in both or in neither, such bands keep every mark outside the reaches, and gain none there
  pub outside_reaches_kept : (p q : Profile) → Standing p → Standing q → SameBut Own p q → keeps_outside_reaches own p q ≡ true
  unfolding keeps_outside_reaches
  outside_reaches_kept p q before after same =
      let s = standing_sides p q before after in
      others_keep_marks_lem (present_both p.nodes q.nodes) (made_or_dropped p.nodes q.nodes) p q before after s.0 s.1 m same

  -- so it is at a change, accepted or refused, where, if nothing refuses it, the profile after it stands and only bands that pass come or go
  pub change_keeps_outside_reaches : (refusal : ℕ) (p q : Profile) → Standing p → (refusal ≡ 0 → Standing q × SameBut Own p q)
      → keeps_outside_reaches own p (changed refusal p q).after ≡ true
  change_keeps_outside_reaches refusal p q s after =
      change_keeps (λ r. keeps_outside_reaches own p r ≡ true) refusal p q
      (outside_reaches_kept p p s s (λ b off. Iff.rfl))
      (λ z. outside_reaches_kept p q s (after z).0 (after z).1)

-- .. and at every call, where the bands that are its own pass: one that only reads has none, and reaches nothing
pub call_keeps_outside_reaches : (sizes_right sound : Bool) (room : Room) (p : Profile) → Standing p
    → (c : Call) → keeps_outside_reaches (of_call c) p (call_outcome sizes_right sound room p c).after ≡ true
call_keeps_outside_reaches sizes_right sound room p s c =
    change_keeps_outside_reaches (λ b. itself (of_call c b)) (call_outcome sizes_right sound room p c).refusal p (after_accepted p c) s
    (λ z. let owed = call_owed sizes_right sound room p c z in (owed.stands s, owed.others_stay))
