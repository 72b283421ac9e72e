-- One place of a band's walk, step by step as the code goes: the test of a link, where an edge found leads, and storing the slots visited one after the
-- other.
-- Assumes nothing.
use Prim.Native.Nat.{ℕ, suc, ◌+◌, ◌-◌, ◌*◌, ◌<◌}
use native.Mathlib.Omega.{arith}
use native.Mathlib.Nat.{add-zero}
use mathlib.Core.Path.{◌≡◌, refl, sym, ap}
use mathlib.Core.Bool.{Bool, true, false, ◌&&◌}
use borrow.Author.Tests.{ltb-true, ne_eqb}
use Rattle.std.specs.Prelude.{Some, is_some}
use Rattle.std.specs.Bool.{then_some}
use mathlib.Core.List.{List, [], ◌∷◌}
use lib.Dec.{leb, ltb}
use lib.ListN.{length, set}
use lib.Seq.{sets}
use Rattle.rules.specs.Connectives.{says_yes}
use Rattle.rules.specs.Lists.{only_if, add_if}
use Rattle.rules.specs.HallLine.{Band, holds}
use Rattle.rules.specs.Staircase.{slots_per_node, slot_number}
use Rattle.rules.proofs.Connectives.{both}
use Rattle.rules.proofs.Means.{and_both, never}
use Rattle.search.specs.PlaceOf.{place_said}
use Rattle.store.specs.Places.{node_field, key_field, link_field, in_use}
use Rattle.marking.specs.WordWalk.{leads_within, visited}

module _ (nodes : List ℕ) (here : ℕ) where
  -- the code's test of a link is the walk's
  pub tests_link : (high lane : ℕ) {used next next_key : ℕ} → used ≡ in_use nodes
      → next ≡ node_field nodes here (link_field lane) → next_key ≡ node_field nodes next key_field
      → (ltb here next && leb next used) && leb next_key high ≡ leads_within nodes high here lane
  unfolding leads_within
  tests_link high lane {next} u n k = rw (← n) (both (both refl (ap (leb next) u)) (ap (λ x. leb x high) k))

  -- a link that leads within leads to a later place
  leads_later : (high lane : ℕ) → leads_within nodes high here lane ≡ true → here < node_field nodes here (link_field lane)
  unfolding leads_within
  leads_later high lane e = ltb-true _ _ (and_both _ _ (and_both _ _ e).0).0

  -- so does the edge found
  pub edge_later : (high lane : ℕ) {next : ℕ} → Some next ≡ then_some (leads_within nodes high here lane) (node_field nodes here (link_field lane))
      → here < next
  edge_later high lane {next} found = go (leads_within nodes high here lane) refl found
    where
      go : (t : Bool) → leads_within nodes high here lane ≡ t → Some next ≡ then_some t (node_field nodes here (link_field lane)) → here < next
      go true e f = rw (ap place_said f) (leads_later high lane e)
      go false e f = never (sym (ap is_some f))

-- a word where one test holds and then one where another does: stored one after the other
stored_both : (old : List ℕ) (at v w : ℕ) (t u : Bool)
    → sets (sets old at (only_if t (v ∷ []))) (at + length (only_if t (v ∷ []))) (only_if u (w ∷ [])) ≡ sets old at (add_if t v (only_if u (w ∷ [])))
stored_both old at v w true u = ap (λ n. sets (sets old at (v ∷ [])) n (only_if u (w ∷ []))) (omega arith)
stored_both old at v w false u = ap (λ n. sets old n (only_if u (w ∷ []))) (omega arith)

length_both : (at v w : ℕ) (t u : Bool)
    → at + length (only_if t (v ∷ [])) + length (only_if u (w ∷ [])) ≡ at + length (add_if t v (only_if u (w ∷ [])))
length_both at v w true u = omega arith
length_both at v w false u = omega arith

-- the node's own slot at a place, from which its other slots count
abbrev own_slot : ℕ → ℕ
own_slot here = (here - 1) * slots_per_node

-- the node's own slot is stored, where the band holds its key
abbrev pub OwnStored : ℕ → Bool → List ℕ → ℕ → List ℕ → ℕ → Type 0
OwnStored here t old at words count = (words ≡ sets old at (only_if t (own_slot here ∷ []))) × (count ≡ at + length (only_if t (own_slot here ∷ [])))

module _ (here : ℕ) {t : Bool} (old : List ℕ) (at : ℕ) {words : List ℕ} {count : ℕ} where
  pub own_stored : t ≡ true → words ≡ set old at (own_slot here) → count ≡ at + 1 → OwnStored here t old at words count
  own_stored e s n = rw e (s, n)

  pub own_left_out : t ≡ false → words ≡ old → count ≡ at → OwnStored here t old at words count
  own_left_out e s n = rw e (s, omega arith)

-- what is visited at a place is stored so: its node's own slot ..
module _ (nodes : List ℕ) (b : Band) (here : ℕ) {key : ℕ} {t : Bool} (k : key ≡ node_field nodes here key_field) (h : t ≡ holds b key) where
  visits : (stair : ℕ) → visited nodes b here stair ≡ add_if t (own_slot here) (only_if (says_yes stair) ((own_slot here + stair) ∷ []))
  unfolding slot_number
  visits stair = rw (h, k, add-zero)

  module _ (old : List ℕ) (at : ℕ) {words : List ℕ} {count : ℕ} (own : OwnStored here t old at words count) where
    stored_visited : (stair : ℕ) {more : List ℕ} {end : ℕ}
        → more ≡ sets words count (only_if (says_yes stair) ((own_slot here + stair) ∷ []))
        → end ≡ count + length (only_if (says_yes stair) ((own_slot here + stair) ∷ []))
        → (more ≡ sets old at (visited nodes b here stair)) × (end ≡ at + length (visited nodes b here stair))
    stored_visited stair s n = rw (s, n, own.0, own.1, visits stair) (
      stored_both old at _ _ t (says_yes stair),
      length_both at _ _ t (says_yes stair),
    )

    -- .. alone where there is no stair ..
    pub stored_own : (words ≡ sets old at (visited nodes b here 0)) × (count ≡ at + length (visited nodes b here 0))
    stored_own = stored_visited 0 refl (omega arith)

    -- .. and else the stair's too
    pub stored_stair : (lane : ℕ) {more : List ℕ} → more ≡ set words count (own_slot here + 1 + lane)
        → (more ≡ sets old at (visited nodes b here (suc lane))) × (count + 1 ≡ at + length (visited nodes b here (suc lane)))
    stored_stair lane s =
        let edge : own_slot here + 1 + lane ≡ own_slot here + suc lane = omega arith in
        let some : says_yes (suc lane) ≡ true = rw (ne_eqb (suc lane) 0 (λ z. omega arith)) in
        stored_visited (suc lane) (rw some (rw edge at s)) (rw some)
