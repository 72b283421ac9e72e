-- No row of the table is wrong: in a sound memory each word of every kind matters. Proved by computing.
-- Assumes nothing.
use Prim.Native.Nat.{ℕ, suc, ◌≤◌}
use mathlib.Core.Path.{◌≡◌, refl}
use mathlib.Core.Bool.{Bool, true, false, not}
use mathlib.Core.Logic.{◌↔◌}
use mathlib.Core.List.{List, [], ◌∷◌, ◌++◌}
use native.Mathlib.Omega.{arith}
use Rattle.rules.specs.Lists.{add_if, failed_from}
use Rattle.rules.proofs.Means.{never}
use Rattle.rules.proofs.Lists.{Each, each_cons, each_append}
use Rattle.store.specs.Sizes.{band_places}
use Rattle.sharp.specs.Row.{Row, row_right}
use Rattle.sharp.specs.Table.{live_band_rows, free_band_rows, last_band_rows, header_rows, first_node_rows, second_node_rows, last_node_rows, free_node_rows, mark_rows, table}
use Rattle.sharp.proofs.Seen.{opened, written, seen, seen_right}

-- no row is wrong exactly when each is right
none_wrong : (right : Row → Bool) (place : ℕ) (rs : List Row) → (failed_from right place rs ≡ []) ↔ Each (λ r. right r ≡ true) rs
none_wrong right place [] = (λ e r i. absurd i, λ h. refl)
none_wrong right place (r ∷ rs) =
    let e = go (right r) (none_wrong right (suc place) rs) in (λ w. (each_cons r rs).1 (e.0 w), λ h. e.1 ((each_cons r rs).0 h))
  where
    go : (t : Bool) → (failed_from right (suc place) rs ≡ []) ↔ Each (λ x. right x ≡ true) rs
        → (add_if (not t) place (failed_from right (suc place) rs) ≡ []) ↔ ((t ≡ true) × Each (λ x. right x ≡ true) rs)
    go true e = (λ w. (refl, e.0 w), λ h. e.1 h.1)
    go false e = (λ w. let z : ◌≡◌ {A = ℕ} 0 1 = cc in absurd (omega arith), λ h. never h.0)

-- each of these rows is right
record Right (rs : List Row) : Type 0 where
  each : Each (λ r. row_right r ≡ true) rs

-- those are right that are seen by the first p band places ..
seen_rows : (p : ℕ) → written ≤ p → p ≤ band_places → (rs : List Row) → failed_from (seen p) 1 rs ≡ [] → Right rs
seen_rows p enough few rs none = record { each = λ r i. seen_right p enough few r ((none_wrong (seen p) 1 rs).0 none r i) }

near : (rs : List Row) → failed_from (seen written) 1 rs ≡ [] → Right rs
near = seen_rows written (omega arith) (omega arith)

far : (rs : List Row) → failed_from (seen band_places) 1 rs ≡ [] → Right rs
far = seen_rows band_places (omega arith) (omega arith)

-- .. and those of one part and the next
infixl 65 ◌next◌
◌next◌ : {rs ss : List Row} → Right rs → Right ss → Right (rs ++ ss)
◌next◌ {rs} {ss} h k = record { each = each_append rs ss h.each k.each }

-- ---- the parts of the table; where the check refuses one, stating it of some rows of that part finds the wrong row

live_bands : failed_from (seen written) 1 live_band_rows ≡ []
unfolding opened
live_bands = refl

free_bands : failed_from (seen written) 1 free_band_rows ≡ []
unfolding opened
free_bands = refl

last_band : failed_from (seen band_places) 1 last_band_rows ≡ []
unfolding opened
last_band = refl

header_words : failed_from (seen written) 1 header_rows ≡ []
unfolding opened
header_words = refl

first_node : failed_from (seen written) 1 first_node_rows ≡ []
unfolding opened
first_node = refl

second_node : failed_from (seen written) 1 second_node_rows ≡ []
unfolding opened
second_node = refl

last_node : failed_from (seen written) 1 last_node_rows ≡ []
unfolding opened
last_node = refl

free_node : failed_from (seen written) 1 free_node_rows ≡ []
unfolding opened
free_node = refl

all_marks : failed_from (seen written) 1 mark_rows ≡ []
unfolding opened
all_marks = refl

-- ---- the one table

parts : Right table
parts =
    near live_band_rows live_bands
    next near free_band_rows free_bands
    next far last_band_rows last_band
    next near header_rows header_words
    next near first_node_rows first_node
    next near second_node_rows second_node
    next near last_node_rows last_node
    next near free_node_rows free_node
    next near mark_rows all_marks

-- the places of its wrong rows, counted from 1: there are none
pub table_right : failed_from row_right 1 table ≡ []
table_right = (none_wrong row_right 1 table).1 parts.each
