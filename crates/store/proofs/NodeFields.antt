-- A field of a node place stored: it is there, every other field is as it was, and there are as many words; past the last word nothing changes.
-- And words told by their fields.
-- Assumes nothing.
use Prim.Native.Nat.{ℕ, ◌+◌, ◌*◌, ◌/◌, ◌%◌, ◌≤◌, ◌<◌}
use mathlib.Core.Path.{◌≡◌, refl, sym, ◌∙◌}
use mathlib.Core.Bool.{Bool, true, false, cond}
use mathlib.Core.Logic.{⊎_elim}
use mathlib.Core.List.{List}
use native.Mathlib.Omega.{arith}
use lib.Dec.{eqb}
use lib.ListN.{length, get_or, length-set, get_or-eq_default}
use lib.Seq.{get_or-set_same, get_or-set_other}
use borrow.Author.Tests.{eqb-true, eqb-false}
use Rattle.rules.specs.Connectives.{◌and◌}
use Rattle.rules.proofs.Means.{at_most_or_above}
use Rattle.store.specs.Sizes.{node_place_words}
use Rattle.store.specs.Places.{node_field, with_node_field}
use Rattle.store.specs.HasFields.{HasFields}

-- past the last word a field is 0
pub field_past : (words : List ℕ) (i f : ℕ) → length words ≤ i * node_place_words + f → node_field words i f ≡ 0
unfolding node_field
field_past words i f h = get_or-eq_default words 0 h

module _ (words : List ℕ) (i f v : ℕ) where
  pub stored_length : length (with_node_field words i f v) ≡ length words
  unfolding with_node_field
  stored_length = length-set words (i * node_place_words + f) v

  pub stored_there : i * node_place_words + f < length words → node_field (with_node_field words i f v) i f ≡ v
  unfolding with_node_field node_field
  stored_there h = get_or-set_same words (i * node_place_words + f) v 0 h

  module _ (j h : ℕ) (in_place : f < node_place_words) (in_place_too : h < node_place_words) where
    -- at another place ..
    pub kept_elsewhere : (j ≡ i → ⊥) → node_field (with_node_field words i f v) j h ≡ node_field words j h
    unfolding with_node_field node_field
    kept_elsewhere off = get_or-set_other words (i * node_place_words + f) (j * node_place_words + h) v 0 (λ e. off (omega arith))

    -- .. and in another field
    pub kept_beside : (h ≡ f → ⊥) → node_field (with_node_field words i f v) j h ≡ node_field words j h
    unfolding with_node_field node_field
    kept_beside off = get_or-set_other words (i * node_place_words + f) (j * node_place_words + h) v 0 (λ e. off (omega arith))

-- words told by their fields have other fields that come to the same
pub retold : {n : ℕ} {field told : ℕ → ℕ → ℕ} {words : List ℕ} → HasFields n field words
    → ((i f : ℕ) → f < node_place_words → field i f ≡ told i f) → HasFields n told words
retold h same = record { size = h.size; at = λ i f l within. h.at i f l within ∙ same i f l }

-- words have their own fields
pub own_fields : (words : List ℕ) → HasFields (length words) (node_field words) words
own_fields words = record { size = refl; at = λ i f l within. refl }

-- a field that is told to be as it was is as it was; past the last word both are 0
pub told_kept : (old : List ℕ) {new : List ℕ} {field : ℕ → ℕ → ℕ} → HasFields (length old) field new
    → (i f : ℕ) → f < node_place_words → field i f ≡ node_field old i f → node_field new i f ≡ node_field old i f
told_kept old {new} told i f l same =
    ⊎_elim
    (λ past. field_past new i f (omega (arith, told.size)) ∙ sym (field_past old i f past))
    (λ within. told.at i f l within ∙ same)
    (at_most_or_above (length old) (i * node_place_words + f))

-- a word is a field of its place
pub word_in_place : (words : List ℕ) (q : ℕ) → get_or words q 0 ≡ node_field words (q / node_place_words) (q % node_place_words)
unfolding node_field
word_in_place words q = let same : q / node_place_words * node_place_words + q % node_place_words ≡ q = omega arith in rw same

-- words told by their fields, once one is stored
module _ (n : ℕ) (field : ℕ → ℕ → ℕ) (words : List ℕ) (told : HasFields n field words) (i f v : ℕ) (in_place : f < node_place_words) where
  pub stored_fields : HasFields n (λ j h. cond (eqb j i and eqb h f) v (field j h)) (with_node_field words i f v)
  unfolding ◌and◌
  stored_fields =
      record {
        size = stored_length words i f v ∙ told.size;
        at = λ j h l within. go j h l within (eqb j i) (eqb h f) refl refl;
      }
    where
      go : (j h : ℕ) → h < node_place_words → j * node_place_words + h < n → (s t : Bool) → eqb j i ≡ s → eqb h f ≡ t
          → node_field (with_node_field words i f v) j h ≡ cond (s and t) v (field j h)
      go j h l within true true a b =
          let p = eqb-true j i a in
          let q = eqb-true h f b in
          rw (p, q) (stored_there words i f v (omega (arith, told.size)))
      go j h l within true false a b = kept_beside words i f v j h in_place l (eqb-false h f b) ∙ told.at j h l within
      go j h l within false t a b = kept_elsewhere words i f v j h in_place l (eqb-false j i a) ∙ told.at j h l within
