-- A stab on sound memory at a key on the line, in plain words: its flags are those of the live bands that hold the key, count and marks met are how many they are,
-- and its looks are 8 plus the nodes stepped onto.
-- Assumes nothing.
use Prim.Native.Nat.{ℕ, ◌≤◌, ◌<◌}
use mathlib.Core.Path.{◌≡◌, refl, ◌∙◌}
use mathlib.Core.Bool.{true}
use mathlib.Core.Logic.{◌↔◌}
use Rattle.rules.specs.Lists.{count_if}
use Rattle.rules.specs.HallLine.{highest_key, holds}
use Rattle.rules.specs.Profile.{Profile}
use Rattle.rules.specs.Flags.{flag_count, flag_at}
use Rattle.rules.specs.Search.{Stab, stab_of, looks}
use Rattle.rules.specs.BoxSaysNo.{saying, no_stab, stab_refusal, stab_answer}
use Rattle.rules.proofs.BoxSaysNo.{stab_accepted, accepted_answers}
use Rattle.rules.proofs.SoundMemory.{Standing}
use Rattle.rules.proofs.Theory.MarkedOver.{standing_nodes_right}
use Rattle.rules.proofs.Theory.MetOnce.{HeldBy, flag_where_one_holds, met_is_count as ruled_met_is_count, count_is_those_holding}
use Rattle.store.specs.Memory.{Memory}
use Rattle.store.specs.SaidProfile.{said_profile}
use Rattle.store.specs.Sound.{sound}
use Rattle.store.proofs.SaidStands.{said_stands}
use Rattle.asking.specs.StabCall.{stab_in}
use Rattle.asking.proofs.OnSound.{stab_on_sound}

-- what a stab of a profile at a key answers
pub record ExactStab (p : Profile) (k : ℕ) (a : Stab) : Type 0 where
  -- a number is flagged exactly when a live band of that number holds the key
  pub flags : (n : ℕ) → n < flag_count → (flag_at a.flags n ≡ 1) ↔ HeldBy p k n
  -- the count is how many live bands hold it
  pub count : a.count ≡ count_if (λ b. holds b k) p.bands
  -- marks met equal the count
  pub met : a.met ≡ a.count
  -- 8 plus the nodes stepped onto
  pub looks : a.looks ≡ looks p k

-- the rules' own stab of a standing profile is such
exact : (p : Profile) (k : ℕ) → Standing p → ExactStab p k (stab_of p k)
unfolding stab_of
exact p k s =
    record {
      flags = flag_where_one_holds p k (standing_nodes_right p s);
      count = count_is_those_holding p k s;
      met = ruled_met_is_count p k s;
      looks = refl;
    }

module _ (m : Memory) (s : sound m ≡ true) (k : ℕ) (on_line : k ≤ highest_key) where
  accepted : stab_in m k ≡ saying 0 (stab_of (said_profile m) k)
  unfolding stab_answer
  accepted = stab_on_sound m s k ∙ accepted_answers (stab_refusal true k) no_stab (stab_of (said_profile m) k) ((stab_accepted true k).1 (refl, on_line))

  pub stab_exact : ((stab_in m k).refusal ≡ 0) × ExactStab (said_profile m) k (stab_in m k).read
  stab_exact = rw accepted (refl, exact (said_profile m) k (said_stands m s))

  -- .. among it: marks met equal the count, ..
  pub met_is_count : (stab_in m k).read.met ≡ (stab_in m k).read.count
  met_is_count = stab_exact.1.met

  -- .. and the looks are 8 plus the nodes below the key with no taller node between them and it
  pub looks_are_the_papers : (stab_in m k).read.looks ≡ looks (said_profile m) k
  looks_are_the_papers = stab_exact.1.looks
