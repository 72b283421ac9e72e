-- What an answer says is one to one: two that say the same are equal.
-- Assumes nothing.
use mathlib.Core.Path.{◌≡◌, refl, sym, ap, ◌∙◌}
use mathlib.Core.List.{List, [], ◌∷◌}
use mathlib.Core.Option.{Option as Maybe, none, some}
use Prim.Native.Nat.{ℕ}
use lib.ListN.{get_or}
use Rattle.std.specs.Prelude.{Option, None, Some, Result, Ok, Err}
use Rattle.hall.specs.Says.{refusal_says, answer_says, key_said, key_says}
use Rattle.hall.specs.declared.answers.Refusal.{Refusal}
use Rattle.hall.specs.declared.keys.Key.{Key}

-- what can be told back from what is said is one to one
read_back : {A B : Type 0} (says : A → B) (back : B → A) → ((a : A) → back (says a) ≡ a)
    → (a b : A) → says a ≡ says b → a ≡ b
read_back says back found a b e = sym (found a) ∙ ap back e ∙ found b

-- each answer, at the place of its number
answers : List (Result Unit Refusal)
answers =
    Ok tt
    ∷ Err Refusal.MemoryUnfit
    ∷ Err Refusal.ScopeAbove
    ∷ Err Refusal.NumberAbove
    ∷ Err Refusal.KeyAbove
    ∷ Err Refusal.HoldsNoKey
    ∷ Err Refusal.EndElsewhere
    ∷ Err Refusal.LevelWrong
    ∷ Err Refusal.NumberLive
    ∷ Err Refusal.NumberNotLive
    ∷ Err Refusal.ScopeOther
    ∷ Err Refusal.NodesExceed
    ∷ Err Refusal.MarksExceed
    ∷ Err Refusal.NoNodeOrLane
    ∷ []

answer_found : (a : Result Unit Refusal) → get_or answers (answer_says a) (Ok tt) ≡ a
unfolding answers
answer_found (Ok tt) = refl
answer_found (Err Refusal.MemoryUnfit) = refl
answer_found (Err Refusal.ScopeAbove) = refl
answer_found (Err Refusal.NumberAbove) = refl
answer_found (Err Refusal.KeyAbove) = refl
answer_found (Err Refusal.HoldsNoKey) = refl
answer_found (Err Refusal.EndElsewhere) = refl
answer_found (Err Refusal.LevelWrong) = refl
answer_found (Err Refusal.NumberLive) = refl
answer_found (Err Refusal.NumberNotLive) = refl
answer_found (Err Refusal.ScopeOther) = refl
answer_found (Err Refusal.NodesExceed) = refl
answer_found (Err Refusal.MarksExceed) = refl
answer_found (Err Refusal.NoNodeOrLane) = refl

pub answer_one_to_one : (a b : Result Unit Refusal) → answer_says a ≡ answer_says b → a ≡ b
answer_one_to_one = read_back answer_says (λ (n : ℕ). get_or answers n (Ok tt)) answer_found

pub refusal_one_to_one : (r s : Refusal) → refusal_says r ≡ refusal_says s → r ≡ s
refusal_one_to_one r s e =
    let same : ◌≡◌ {A = Result Unit Refusal} (Err r) (Err s) = answer_one_to_one (Err r) (Err s) e in
    cc

pub no_refusal_says_0 : (r : Refusal) → refusal_says r ≡ 0 → ⊥
no_refusal_says_0 r e =
    let same : ◌≡◌ {A = Result Unit Refusal} (Err r) (Ok tt) = answer_one_to_one (Err r) (Ok tt) e in
    cc

-- the key that is said, or none
key_of : Maybe ℕ → Option Key
key_of none = None
key_of (some k) = Some (record { 0 = k })

key_found : (k : Option Key) → key_of (key_said (key_says k)) ≡ k
unfolding key_of
key_found None = refl
key_found (Some k) = refl

pub next_key_one_to_one : (a b : Option Key) → key_said (key_says a) ≡ key_said (key_says b) → a ≡ b
next_key_one_to_one = read_back (λ k. key_said (key_says k)) key_of key_found

pub key_one_to_one : (a b : Option Key) → key_says a ≡ key_says b → a ≡ b
key_one_to_one a b e = next_key_one_to_one a b (ap key_said e)
