-- Laying the fences, step by step: those of one place slot by slot, and those of all nodes place by place.
-- Assumes nothing.
use Prim.Native.Nat.{ℕ, ◌+◌, ◌-◌, ◌≤◌, ◌<◌}
use mathlib.Core.Path.{◌≡◌, refl, sym, ◌∙◌, ap, subst}
use mathlib.Core.Bool.{Bool, true, false, cond}
use mathlib.Core.List.{List}
use native.Mathlib.Omega.{arith}
use lib.Dec.{leb, ltb, eqb}
use lib.ListN.{length, get_or}
use Rattle.rules.specs.Connectives.{◌and◌}
use Rattle.rules.specs.Staircase.{slots_per_node, slot_number}
use Rattle.rules.proofs.Means.{Means, denied, same_means, and_means, and3_means, eq_means, le_means, lt_means}
use Rattle.store.specs.Places.{node_field, with_node_field, fence_field, in_use}
use Rattle.store.specs.HasFields.{HasFields}
use Rattle.store.proofs.NodeFields.{retold, own_fields, stored_fields}
use Rattle.committing.specs.FenceDraft.{is_fence, start_at, fenced_field, fenced_at_field}

-- a choice whose test passes, and one whose test fails
chosen : {t : Bool} {X : Type 0} (a b : ℕ) → Means t X → X → cond t a b ≡ a
chosen a b m x = rw (m.test x)

not_chosen : {t : Bool} {X : Type 0} (a b : ℕ) → Means t X → (X → ⊥) → cond t a b ≡ b
not_chosen a b m off = rw ((denied m).test off)

-- ---- the fences of one place

module _ (words starts : List ℕ) (place : ℕ) where
  -- the field is a fence of the place, of a slot below `slot`
  abbrev is_fence_below : ℕ → ℕ → ℕ → Bool
  is_fence_below slot i f = eqb i place and is_fence f and ltb f (fence_field slot)

  -- field f of place i once the fences of the slots below `slot` are laid
  unfoldable pub fenced_up_to : ℕ → ℕ → ℕ → ℕ
  fenced_up_to slot i f = cond (is_fence_below slot i f) (start_at starts i f) (node_field words i f)

  fence_below_means : (slot i f : ℕ) → Means (is_fence_below slot i f) ((i ≡ place) × (fence_field 0 ≤ f) × (f < fence_field slot))
  fence_below_means slot i f = and3_means (eq_means i place) (le_means (fence_field 0) f) (lt_means f (fence_field slot))

  pub no_fence_yet : HasFields (length words) (fenced_up_to 0) words
  unfolding fenced_up_to
  no_fence_yet = retold (own_fields words) (λ i f l. sym (not_chosen _ _ (fence_below_means 0 i f) (λ h. omega arith)))

  -- one fence more
  pub next_fence : (n slot : ℕ) (draft more : List ℕ) → slot ≤ slots_per_node
      → more ≡ with_node_field draft place (fence_field slot) (get_or starts (slot_number (place - 1) slot) 0)
      → HasFields n (fenced_up_to slot) draft → HasFields n (fenced_up_to (slot + 1)) more
  unfolding fenced_up_to
  next_fence n slot draft more h e told =
      subst (HasFields n (fenced_up_to (slot + 1))) (sym e)
      (retold (stored_fields n (fenced_up_to slot) draft told place (fence_field slot) start (omega arith))
      (λ i f l. go i f (eqb i place and eqb f (fence_field slot)) refl))
    where
      start : ℕ
      start = get_or starts (slot_number (place - 1) slot) 0

      go : (i f : ℕ) (t : Bool) → eqb i place and eqb f (fence_field slot) ≡ t
          → cond t start (fenced_up_to slot i f) ≡ fenced_up_to (slot + 1) i f
      go i f true p =
          let here = (and_means (eq_means i place) (eq_means f (fence_field slot))).fact p in
          let own : f - fence_field 0 ≡ slot = omega arith in
          sym (chosen _ _ (fence_below_means (slot + 1) i f) (here.0, omega arith, omega arith) ∙ rw (here.0, own))
      go i f false p =
          let off = (denied (and_means (eq_means i place) (eq_means f (fence_field slot)))).fact p in
          rw (same_means (fence_below_means slot i f) (fence_below_means (slot + 1) i f)
          (λ b. (b.0, b.1, omega arith)) (λ b. let other : f ≡ fence_field slot → ⊥ = λ s. off (b.0, s) in (b.0, b.1, omega arith)))

  -- all ten are laid
  pub place_fenced : (n slot : ℕ) (draft : List ℕ) → slots_per_node < slot
      → HasFields n (fenced_up_to slot) draft → HasFields n (fenced_at_field words starts place) draft
  unfolding fenced_up_to fenced_at_field
  place_fenced n slot draft h told =
      retold told
      (λ i f l.
      ap (λ t. cond t (start_at starts i f) (node_field words i f))
      (same_means (fence_below_means slot i f) (and_means (eq_means i place) (le_means (fence_field 0) f)) (λ b. (b.0, b.1)) (λ b. (b.0, b.1, omega arith))))

-- ---- the fences of the places one after the other

module _ (words starts : List ℕ) where
  -- the field is a fence of a node below the place
  abbrev is_fence_before : ℕ → ℕ → ℕ → Bool
  is_fence_before place i f = leb 1 i and ltb i place and is_fence f

  -- field f of place i once the fences of the nodes below a place are laid
  unfoldable pub fenced_before : ℕ → ℕ → ℕ → ℕ
  fenced_before place i f = cond (is_fence_before place i f) (start_at starts i f) (node_field words i f)

  fence_before_means : (place i f : ℕ) → Means (is_fence_before place i f) ((1 ≤ i) × (i < place) × (fence_field 0 ≤ f))
  fence_before_means place i f = and3_means (le_means 1 i) (lt_means i place) (le_means (fence_field 0) f)

  pub no_place_yet : HasFields (length words) (fenced_before 1) words
  unfolding fenced_before
  no_place_yet = retold (own_fields words) (λ i f l. sym (not_chosen _ _ (fence_before_means 1 i f) (λ h. omega arith)))

  -- one place more
  pub next_place_lem : (n place : ℕ) (draft more : List ℕ) → 1 ≤ place → HasFields n (fenced_before place) draft
      → HasFields (length draft) (fenced_at_field draft starts place) more → HasFields n (fenced_before (place + 1)) more
  unfolding fenced_before fenced_at_field
  next_place_lem n place draft more h told here =
      record {
        size = here.size ∙ told.size;
        at = λ i f l within.
            here.at i f l (omega (arith, told.size))
            ∙ ap (cond (eqb i place and is_fence f) (start_at starts i f)) (told.at i f l within)
            ∙ go i f (eqb i place and is_fence f) refl;
      }
    where
      go : (i f : ℕ) (t : Bool) → eqb i place and is_fence f ≡ t
          → cond t (start_at starts i f) (fenced_before place i f) ≡ fenced_before (place + 1) i f
      go i f true p =
          let now = (and_means (eq_means i place) (le_means (fence_field 0) f)).fact p in
          sym (chosen _ _ (fence_before_means (place + 1) i f) (omega arith, omega arith, now.1))
      go i f false p =
          let off = (denied (and_means (eq_means i place) (le_means (fence_field 0) f))).fact p in
          rw (same_means (fence_before_means place i f) (fence_before_means (place + 1) i f)
          (λ b. (b.0, omega arith, b.2)) (λ b. let other : i ≡ place → ⊥ = λ s. off (s, b.2) in (b.0, omega arith, b.2)))

  -- all are laid
  pub all_fenced : (n place : ℕ) (draft : List ℕ) → place ≡ in_use words + 1
      → HasFields n (fenced_before place) draft → HasFields n (fenced_field words starts) draft
  unfolding fenced_before fenced_field
  all_fenced n place draft e told =
      retold told
      (λ i f l.
      ap (λ t. cond t (start_at starts i f) (node_field words i f))
      (same_means (fence_before_means place i f) (and3_means (le_means 1 i) (le_means i (in_use words)) (le_means (fence_field 0) f))
      (λ b. (b.0, omega arith, b.2)) (λ b. (b.0, omega arith, b.2))))
