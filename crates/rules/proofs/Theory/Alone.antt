-- Alone: a machine's band holds no key of another machine, so two standing profiles whose bands differ only in those of one machine answer the
-- same bands, count and marks met at every key of every other machine; and the profile after a call of that scope is such a one.
-- Assumes nothing.
use Prim.Native.Nat.{ℕ, ◌<◌}
use mathlib.Core.Path.{◌≡◌, refl, sym, ◌∙◌}
use mathlib.Core.Bool.{Bool, true, false}
use mathlib.Core.Logic.Iff
use mathlib.Core.Logic.{⊎_elim}
use Rattle.rules.specs.Lists.{member}
use Rattle.rules.specs.HallLine.{Band, machines, own_key, holds}
use Rattle.rules.specs.Profile.{Profile}
use Rattle.rules.specs.Room.{Room}
use Rattle.rules.specs.Search.{taken, stab_of}
use Rattle.rules.specs.Changes.{inserted, removed}
use Rattle.rules.specs.BoxSaysNo.{changed, remove_refusal}
use Rattle.rules.specs.Calls.{inserting, removing}
use Rattle.rules.specs.RuledCalls.{call_outcome}
use Rattle.rules.specs.Reach.{OthersAlike}
use Rattle.rules.proofs.Means.{never, passes_or_fails, same_means}
use Rattle.rules.proofs.Lists.{In, Each, member_means}
use Rattle.rules.proofs.HallLine.{scope_keeps, one_machine}
use Rattle.rules.proofs.Profile.{SameBut}
use Rattle.rules.proofs.Flags.{flags_by_members, count_by_members}
use Rattle.rules.proofs.Changes.{insert_keeps_others, remove_keeps_others}
use Rattle.rules.proofs.BoxSaysNo.{not_sound_fails, BandRight, remove_accepted, change_keeps}
use Rattle.rules.proofs.SoundMemory.{Standing}
use Rattle.rules.proofs.Reach.{answers_alike_means}
use Rattle.rules.proofs.Theory.MarkedOver.{standing_nodes_right}
use Rattle.rules.proofs.Theory.MetOnce.{HeldBy, taken_are_those_holding, met_is_count}
use Rattle.rules.proofs.Theory.StandingKept.{call_owed}

-- a machine's band holds no key of another machine
pub holds_no_other : (b : Band) → BandRight b → b.scope < machines → (n : ℕ) → (n ≡ b.scope → ⊥) → (k : ℕ) → own_key n k ≡ true
    → holds b k ≡ false
holds_no_other b right l n off k own =
    ⊎_elim (λ h. absurd (off (one_machine n b.scope k own (scope_keeps b l right.in_scope k h)))) (λ e. e) (passes_or_fails (holds b k))

-- only bands of scope m are live in one of the two profiles and not in the other
abbrev pub DifferOnlyIn : ℕ → Profile → Profile → Type 0
DifferOnlyIn m = SameBut (λ b. b.scope ≡ m)

-- at a key of a machine other than m:
module _ (m n k : ℕ) (l : m < machines) (off : n ≡ m → ⊥) (own : own_key n k ≡ true) where
  -- a band that holds it is not of scope m ..
  not_of_scope : (b : Band) → BandRight b → holds b k ≡ true → b.scope ≡ m → ⊥
  not_of_scope b right h e = never (sym (holds_no_other b right (rw e l) n (λ q. off (q ∙ e)) k own) ∙ h)

  -- .. so it is live in the other profile too
  held_too : (p q : Profile) → Each BandRight p.bands → ((b : Band) → (b.scope ≡ m → ⊥) → In b p.bands → In b q.bands)
      → (x : ℕ) → HeldBy p k x → HeldBy q k x
  held_too p q right live x s = (s.0, live s.0 (not_of_scope s.0 (right s.0 s.1) s.2.0) s.1, s.2)

  module _ (p q : Profile) (before : Standing p) (after : Standing q) (only : DifferOnlyIn m p q) where
    -- .. and what a search takes there in one it takes in the other
    same_taken : (x : ℕ) → member x (taken p k) ≡ member x (taken q k)
    same_taken x =
        let in_p = taken_are_those_holding p k (standing_nodes_right p before) x in
        let in_q = taken_are_those_holding q k (standing_nodes_right q after) x in
        same_means (member_means x (taken p k)) (member_means x (taken q k))
        (λ i. in_q.1 (held_too p q before.bands_right_lem (λ b o. (only b o).0) x (in_p.0 i)))
        (λ i. in_p.1 (held_too q p after.bands_right_lem (λ b o. (only b o).1) x (in_q.0 i)))

    same_flags : (stab_of p k).flags ≡ (stab_of q k).flags
    unfolding stab_of
    same_flags = flags_by_members (taken p k) (taken q k) (λ x u. same_taken x)

    same_count : (stab_of p k).count ≡ (stab_of q k).count
    unfolding stab_of
    same_count = count_by_members (taken p k) (taken q k) (λ x u. same_taken x)

    same_met : (stab_of p k).met ≡ (stab_of q k).met
    same_met = met_is_count p k before ∙ same_count ∙ sym (met_is_count q k after)

-- two standing profiles whose bands differ only in those of scope m answer alike at every key of every other machine
pub others_alike : (m : ℕ) (p q : Profile) → Standing p → Standing q → DifferOnlyIn m p q → OthersAlike m p q
others_alike m p q before after only l n below off k own =
    (answers_alike_means p q k).test (
      same_flags m n k l off own p q before after only,
      same_count m n k l off own p q before after only,
      same_met m n k l off own p q before after only,
    )

-- a change, accepted or refused, leaves flags, count and marks met the same at every key of every machine but m, where, if nothing refuses it, the
-- profile after it stands and only bands of scope m come or go
pub ruled_change_alone : (m refusal : ℕ) (p q : Profile) → Standing p → (refusal ≡ 0 → Standing q × DifferOnlyIn m p q)
    → OthersAlike m p (changed refusal p q).after
ruled_change_alone m refusal p q s after =
    change_keeps (OthersAlike m p) refusal p q (others_alike m p p s s (λ b off. Iff.rfl)) (λ z. others_alike m p q s (after z).0 (after z).1)

-- by the rules, which know no memory (of memory: Alone in `demands`):
module _ (sizes_right sound : Bool) (room : Room) (p : Profile) (s : Standing p) where
  -- an insert of scope below 64 does
  pub ruled_insert_alone : (b : Band) (lo hi : ℕ) → OthersAlike b.scope p (call_outcome sizes_right sound room p (inserting b lo hi)).after
  ruled_insert_alone b lo hi =
      ruled_change_alone b.scope _ p (inserted p b lo hi) s
      (λ z. ((call_owed sizes_right sound room p (inserting b lo hi) z).stands s, insert_keeps_others p b lo hi (λ c. c.scope ≡ b.scope) refl))

  -- and a remove
  pub ruled_remove_alone : (number scope : ℕ) → OthersAlike scope p (call_outcome sizes_right sound room p (removing number scope)).after
  unfolding remove_refusal
  ruled_remove_alone number scope =
      ruled_change_alone scope _ p (removed p number) s
      (λ z. (
        (call_owed sizes_right sound room p (removing number scope) z).stands s,
        remove_keeps_others p number (λ c. c.scope ≡ scope) ((remove_accepted sizes_right sound (not_sound_fails sizes_right sound) room p number scope).0 z).judged.scope_same,
      ))
