-- The first places ahead of a place, from the last node back to the header: once a node's place is raised they are those of the place before it; and
-- raising fills the lanes that the node has.
-- Assumes nothing.
use Prim.Native.Nat.{ℕ, zero, suc, ◌+◌, ◌-◌, ◌≤◌, ◌<◌, min}
use mathlib.Core.Path.{◌≡◌, refl, ◌∙◌, ap}
use mathlib.Core.Bool.{cond}
use mathlib.Core.List.{List, [], ◌∷◌, ◌++◌}
use native.Mathlib.Omega.{arith}
use borrow.Author.Tests.{lt-ltb, le-ltb}
use lib.Dec.{ltb}
use lib.ListN.{length, length-take, get_or, take, drop, replicate, length-replicate, get_or-replicate}
use Rattle.rules.specs.NodesLanesEdges.{lanes}
use Rattle.store.specs.Places.{node_field, level_field, in_use}
use Rattle.linking.specs.LinksDue.{next_from, raised_from, raised}
use Rattle.linking.proofs.NextPlaces.{next_here_or_on, no_next_past}

-- ---- a place raised

module _ (place level : ℕ) where
  raised_length : (i : ℕ) (ahead : List ℕ) → length (raised_from place level i ahead) ≡ length ahead
  raised_length i [] = refl
  raised_length i (first ∷ others) = ap suc (raised_length (suc i) others)

  raised_at : (i lane : ℕ) (ahead : List ℕ) → lane < length ahead
      → get_or (raised_from place level i ahead) lane 0 ≡ cond (ltb (i + lane) level) place (get_or ahead lane 0)
  raised_at i lane [] h = absurd (omega arith)
  raised_at i zero (first ∷ others) h = let here : i + 0 ≡ i = omega arith in rw here
  raised_at i (suc lane) (first ∷ others) h =
      let moved : i + suc lane ≡ suc i + lane = omega arith in rw moved (raised_at (suc i) lane others (omega arith))

  -- it fills the lanes that the node has, and past them nothing changes
  filled_from : (i n : ℕ) (ahead : List ℕ) → n ≡ min (length ahead) (level - i) → replicate n place ++ drop n ahead ≡ raised_from place level i ahead
  filled_from i zero [] e = refl
  filled_from i (suc n) [] e = absurd (omega arith)
  filled_from i zero (first ∷ others) e =
      rw (le-ltb i level (omega arith)) (ap (λ xs. first ∷ xs) (filled_from (suc i) zero others (omega arith)))
  filled_from i (suc n) (first ∷ others) e =
      rw (lt-ltb i level (omega arith)) (ap (λ xs. place ∷ xs) (filled_from (suc i) n others (omega arith)))

  pub raised_filled : {n : ℕ} {filled : List ℕ} (ahead : List ℕ) → n ≡ min lanes level → length ahead ≡ lanes
      → filled ≡ replicate (length (take n ahead)) place → filled ++ drop n ahead ≡ raised place level ahead
  raised_filled {n} ahead e l f =
      let all : length (take n ahead) ≡ n = omega (arith, length-take n ahead) in rw (f, all) (filled_from 0 n ahead (omega arith))

-- ---- the first places ahead of a place

-- they are known in all lanes
pub record Ahead (nodes : List ℕ) (place : ℕ) (ahead : List ℕ) : Type 0 where
  pub in_all_lanes : length ahead ≡ lanes
  pub first : (lane : ℕ) → lane < lanes → get_or ahead lane 0 ≡ next_from nodes lane (place + 1)

module _ (nodes : List ℕ) where
  -- of the last node: none
  pub none_ahead : (place : ℕ) (ahead : List ℕ) → place ≡ in_use nodes → ahead ≡ replicate lanes 0 → Ahead nodes place ahead
  none_ahead place ahead p e =
      record {
        in_all_lanes = rw (e, length-replicate lanes);
        first = λ lane h. rw (e, get_or-replicate {A = ℕ} lanes lane 0 0 h, no_next_past nodes lane (place + 1) (omega arith));
      }

  -- of the place before, once the place is raised
  pub ahead_before : (place level : ℕ) (ahead more : List ℕ) → 0 < place → place ≤ in_use nodes → level ≡ node_field nodes place level_field
      → more ≡ raised place level ahead → Ahead nodes place ahead → Ahead nodes (place - 1) more
  ahead_before place level ahead more p u e m a =
      let back : place - 1 + 1 ≡ place = omega arith in
      record {
        in_all_lanes = ap length m ∙ raised_length place level 0 ahead ∙ a.in_all_lanes;
        first = λ lane h.
            let here : 0 + lane ≡ lane = omega arith in
            ap (λ firsts. get_or firsts lane 0) m
            ∙ raised_at place level 0 lane ahead (omega (arith, a.in_all_lanes))
            ∙ rw (here, back, next_here_or_on nodes lane place u, e, a.first lane h);
      }
