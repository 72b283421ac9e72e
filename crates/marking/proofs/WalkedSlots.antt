-- The walk of one band on any node words, step by step: a stair leads to a later place in use, so that the walk ends; at most two slots are
-- visited at a place; and to write the slots that are left, from where the walk is, comes to the same as writing all from the start.
-- Assumes nothing.
use Prim.Native.Nat.{ℕ, zero, suc, ◌+◌, ◌-◌, ◌*◌, ◌≤◌, ◌<◌}
use native.Mathlib.Omega.{arith}
use mathlib.Core.Path.{◌≡◌, refl}
use mathlib.Core.Bool.{Bool, true, false, cond}
use mathlib.Core.Logic.{◌⊎◌, inl, inr, ⊎_elim}
use mathlib.Core.List.{List, [], ◌∷◌, ◌++◌}
use borrow.Author.Tests.{ltb-true, leb-true, ne_eqb}
use lib.Dec.{eqb}
use lib.ListN.{length, set, take, length-append}
use lib.Seq.{sets, sets-eq, take_at}
use Rattle.rules.specs.Connectives.{says_yes}
use Rattle.rules.specs.Lists.{only_if, add_if}
use Rattle.rules.specs.HallLine.{Band, holds}
use Rattle.rules.specs.NodesLanesEdges.{lanes}
use Rattle.rules.specs.Room.{most_nodes}
use Rattle.rules.specs.Staircase.{slot_number}
use Rattle.rules.proofs.Means.{and_both}
use Rattle.store.specs.Places.{node_field, key_field, band_field, live_field, in_use}
use Rattle.store.specs.SaidProfile.{said_band}
use Rattle.search.specs.PlaceOf.{place_of}
use Rattle.search.proofs.PlaceSteps.{place_in_use, places_in_use_counted}
use Rattle.marking.specs.WordWalk.{leads_within, stair_below, stair_at, stair_to, visited, walk_on, walked, slots_of}
use Rattle.marking.specs.Staircases.{most_visited}

-- ---- words stored one after the other

-- a list stored in two parts
sets_parts : (words : List ℕ) (at : ℕ) (xs ys : List ℕ) → sets words at (xs ++ ys) ≡ sets (sets words at xs) (at + length xs) ys
sets_parts words at [] ys = let same : at + 0 ≡ at = omega arith in rw same
sets_parts words at (x ∷ xs) ys = let moved : at + suc (length xs) ≡ suc at + length xs = omega arith in rw moved (sets_parts (set words at x) (suc at) xs ys)

-- what was stored from the first word on stands there
stored_first : (words xs : List ℕ) → length xs ≤ length words → take (length xs) (sets words 0 xs) ≡ xs
stored_first words xs h = rw (sets-eq xs words 0 (omega arith)) (take_at xs _ (length xs) refl)

-- ---- where a stair leads

-- the place is none, or a later one in use
abbrev pub Onward : List ℕ → ℕ → ℕ → Type 0
Onward nodes here next = (next ≡ 0) ⊎ ((here < next) × (next ≤ in_use nodes))

module _ (nodes : List ℕ) (high here : ℕ) where
  stair_below_onward : (m : ℕ) → Onward nodes here (stair_to nodes here (stair_below nodes high here m))
  unfolding leads_within
  stair_below_onward zero = inl refl
  stair_below_onward (suc i) = go (leads_within nodes high here i) refl (stair_below_onward i)
    where
      go : (t : Bool) → leads_within nodes high here i ≡ t → Onward nodes here (stair_to nodes here (stair_below nodes high here i))
          → Onward nodes here (stair_to nodes here (cond t (suc i) (stair_below nodes high here i)))
      go true e h = let later = and_both _ _ (and_both _ _ e).0 in inr (ltb-true _ _ later.0, leb-true _ _ later.1)
      go false e h = h

  pub stair_onward : Onward nodes here (stair_to nodes here (stair_at nodes high here))
  unfolding stair_at
  stair_onward = stair_below_onward lanes

-- the places that the walk can still come to; none from its end
unfoldable pub places_left : List ℕ → ℕ → ℕ
places_left nodes here = cond (eqb here 0) 0 (suc (in_use nodes) - here)

module _ (nodes : List ℕ) (b : Band) where
  -- ---- how many slots there are

  -- at most two at a place
  visited_two : (here stair : ℕ) → length (visited nodes b here stair) ≤ 2
  visited_two here stair = go (holds b (node_field nodes here key_field)) (says_yes stair)
    where
      go : (t u : Bool) → length (add_if t (slot_number (here - 1) 0) (only_if u (slot_number (here - 1) stair ∷ []))) ≤ 2
      go true true = omega arith
      go true false = omega arith
      go false true = omega arith
      go false false = omega arith

  walk_on_two : (m here : ℕ) → length (walk_on nodes b m here) ≤ 2 * m
  walk_on_two zero here = omega arith
  walk_on_two (suc m) here = go (eqb here 0) (stair_at nodes b.high here) (walk_on_two m)
    where
      go : (t : Bool) (stair : ℕ) → ((next : ℕ) → length (walk_on nodes b m next) ≤ 2 * m)
          → length (cond t [] (visited nodes b here stair ++ walk_on nodes b m (stair_to nodes here stair))) ≤ 2 * suc m
      go true stair h = omega arith
      go false stair h =
          rw (length-append (visited nodes b here stair) (walk_on nodes b m (stair_to nodes here stair)))
          (omega (arith, visited_two here stair, h (stair_to nodes here stair)))

  pub walked_within : in_use nodes ≤ most_nodes → length (walked nodes b) ≤ most_visited
  unfolding walked
  walked_within h = omega (arith, walk_on_two (in_use nodes) (place_of nodes b.low))

  -- ---- in the midst of the walk

  -- place 0 ends the walk
  pub walk_ends : (m : ℕ) → walk_on nodes b m 0 ≡ []
  walk_ends zero = refl
  walk_ends (suc m) = refl

  -- the walk stands at a place in use, or is at its end, with the first of its slots written over old words: the steps left are enough, and with
  -- the slots that they visit all are written and counted
  pub record Midway (old slots : List ℕ) (count here : ℕ) : Type 0 where
    pub in_use_lem : here ≤ in_use nodes
    pub steps : ℕ
    pub enough : (here ≡ 0) ⊎ (in_use nodes < here + steps)
    pub written : sets slots count (walk_on nodes b steps here) ≡ sets old 0 (walked nodes b)
    pub counted : count + length (walk_on nodes b steps here) ≡ length (walked nodes b)

  pub walk_begins : (old : List ℕ) → Midway old old 0 (place_of nodes b.low)
  unfolding walked
  walk_begins old =
      record {
        in_use_lem = omega (arith, place_in_use nodes b.low, places_in_use_counted nodes);
        steps = in_use nodes;
        enough = none_or_some (place_of nodes b.low);
        written = refl;
        counted = omega arith;
      }
    where
      none_or_some : (here : ℕ) → (here ≡ 0) ⊎ (in_use nodes < here + in_use nodes)
      none_or_some zero = inl refl
      none_or_some (suc here) = inr (omega arith)

  module _ {old slots : List ℕ} {count here : ℕ} (mid : Midway old slots count here) where
    pub count_within : count ≤ length (walked nodes b)
    count_within = omega (arith, mid.counted)

    -- at its end nothing is left to write ..
    none_to_write : here ≡ 0 → (slots ≡ sets old 0 (walked nodes b)) × (count ≡ length (walked nodes b))
    none_to_write e = (rw (e, walk_ends) at mid.written, omega (arith, rw (e, walk_ends) at mid.counted))

    -- .. and the slots stand in the first words
    pub all_written : in_use nodes ≤ most_nodes → most_visited ≤ length old → here ≡ 0
        → (take count slots ≡ walked nodes b) × (count ≤ most_visited)
    all_written few long e =
        let ends = none_to_write e in
        let within = walked_within few in
        (rw (ends.0, ends.1) (stored_first old (walked nodes b) (omega arith)), omega arith)

    module _ (some : here ≡ 0 → ⊥) {stair next : ℕ} (taken : stair ≡ stair_at nodes b.high here) (led : next ≡ stair_to nodes here stair) where
      leads : Onward nodes here next
      leads = rw (led, taken) (stair_onward nodes b.high here)

      -- past a place, with its slots written
      pub walk_steps : {more : List ℕ} {end : ℕ} → more ≡ sets slots count (visited nodes b here stair)
          → end ≡ count + length (visited nodes b here stair) → Midway old more end next
      walk_steps {more} {end} wrote ends = go mid.steps (⊎_elim (λ e. absurd (some e)) (λ l. l) mid.enough) mid.written mid.counted
        where
          go : (m : ℕ) → in_use nodes < here + m → sets slots count (walk_on nodes b m here) ≡ sets old 0 (walked nodes b)
              → count + length (walk_on nodes b m here) ≡ length (walked nodes b) → Midway old more end next
          go zero l w n = absurd (omega (arith, mid.in_use_lem))
          go (suc m) l w n =
              record {
                in_use_lem = ⊎_elim (λ e. omega arith) (λ h. omega arith) leads;
                steps = m;
                enough = ⊎_elim inl (λ h. inr (omega arith)) leads;
                written = rw (wrote, ends, ← sets_parts slots count (visited nodes b here stair) (walk_on nodes b m next))
                    (rw (ne_eqb here 0 some, ← taken, ← led) at w);
                counted =
                    omega (arith, length-append (visited nodes b here stair) (walk_on nodes b m next), rw (ne_eqb here 0 some, ← taken, ← led) at n);
              }

      pub fewer_left : places_left nodes next < places_left nodes here
      unfolding places_left
      fewer_left = rw (ne_eqb here 0 some) (⊎_elim none later leads)
        where
          none : next ≡ 0 → places_left nodes next < suc (in_use nodes) - here
          none e = rw e (omega (arith, mid.in_use_lem))

          later : (here < next) × (next ≤ in_use nodes) → places_left nodes next < suc (in_use nodes) - here
          later h = rw (ne_eqb next 0 (λ e. omega arith)) (omega arith)

-- ---- the band of a number

module _ (bands nodes : List ℕ) (number : ℕ) where
  pub slots_live : says_yes (band_field bands number live_field) ≡ true → slots_of bands nodes number ≡ walked nodes (said_band bands number)
  unfolding slots_of
  slots_live e = rw e

  pub no_slots : says_yes (band_field bands number live_field) ≡ false → slots_of bands nodes number ≡ []
  unfolding slots_of
  no_slots e = rw e
