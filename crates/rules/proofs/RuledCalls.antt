-- Every call by the rules, whatever is known where it is judged: its lines have the numbers that are written down for it, and none is 0; so it answers
-- the first line that applies, 0 exactly where none does, and no other number; and where its numbers ascend, the lowest that applies.
-- Assumes nothing.
use Prim.Native.Nat.{ℕ}
use mathlib.Core.Path.{◌≡◌, refl}
use mathlib.Core.Bool.{true}
use mathlib.Core.Logic.{◌↔◌}
use mathlib.Core.List.{List, [], ◌∷◌, map}
use lib.Dec.{ltb}
use Rattle.rules.specs.Connectives.{◌and◌}
use Rattle.rules.specs.Lists.{all, ascend_from}
use Rattle.rules.specs.HallLine.{Band}
use Rattle.rules.specs.BoxSaysNo.{refusal_by}
use Rattle.rules.specs.Calls.{Call, emptying, inserting, removing, checking, stabbing, reading_band, reading_edge, reading_node, reading_room, numbers_of}
use Rattle.rules.specs.RuledCalls.{Known, lines_by}
use Rattle.rules.proofs.Lists.{In, Each, all_each}
use Rattle.rules.proofs.FirstLine.{refusal_among, GivenExactly, refusal_exactly, numbered_by_numbers, LowestExactly, lowest_exactly, ordered_by_numbers}

module _ (k : Known) where
  -- the lines have the call's numbers, 1 to 8, 11 and 12 on an insert, and so on; and 0 is none of them
  numbers : (c : Call) → (map (λ l. l.refusal) (lines_by k c) ≡ numbers_of c) × (all (ltb 0) (numbers_of c) ≡ true)
  unfolding ◌and◌
  numbers emptying = (refl, refl)
  numbers (inserting b lo hi) = (refl, refl)
  numbers (removing number scope) = (refl, refl)
  numbers checking = (refl, refl)
  numbers (stabbing key) = (refl, refl)
  numbers (reading_band number) = (refl, refl)
  numbers (reading_edge key lane) = (refl, refl)
  numbers (reading_node key) = (refl, refl)
  numbers reading_room = (refl, refl)

  module _ (c : Call) where
    pub call_lines_numbered : map (λ l. l.refusal) (lines_by k c) ≡ numbers_of c
    call_lines_numbered = (numbers c).0

    -- 0 or one of them is given ..
    pub call_no_other_number : In (refusal_by (lines_by k c)) (0 ∷ numbers_of c)
    call_no_other_number = rw (← call_lines_numbered) (refusal_among (lines_by k c))

    -- .. by the first line that applies ..
    pub call_refused_exactly : (n : ℕ) → (refusal_by (lines_by k c) ≡ n) ↔ GivenExactly n (lines_by k c)
    call_refused_exactly = refusal_exactly (lines_by k c) (numbered_by_numbers (lines_by k c) (rw call_lines_numbered (numbers c).1))

    -- .. and where they ascend, by the lowest
    pub call_refused_by_lowest : ascend_from 1 (numbers_of c) ≡ true → (n : ℕ) → (refusal_by (lines_by k c) ≡ n) ↔ LowestExactly n (lines_by k c)
    call_refused_by_lowest ascend = lowest_exactly (lines_by k c) (ordered_by_numbers 1 (lines_by k c) (rw call_lines_numbered ascend))

-- the paper's calls, with any arguments
abbrev pub papers_calls : (b : Band) (lo hi number scope key lane : ℕ) → List Call
papers_calls b lo hi number scope key lane =
    emptying
    ∷ inserting b lo hi
    ∷ removing number scope
    ∷ checking
    ∷ stabbing key
    ∷ reading_band number
    ∷ reading_edge key lane
    ∷ reading_node key
    ∷ reading_room
    ∷ []

-- their numbers ascend. A call to come whose numbers do not is none of these, and stays under `call_refused_exactly`
pub papers_numbers_ascend : (b : Band) (lo hi number scope key lane : ℕ)
    → Each (λ c. ascend_from 1 (numbers_of c) ≡ true) (papers_calls b lo hi number scope key lane)
unfolding ◌and◌
papers_numbers_ascend b lo hi number scope key lane =
    all_each (λ c. ascend_from 1 (numbers_of c)) (papers_calls b lo hi number scope key lane) refl
