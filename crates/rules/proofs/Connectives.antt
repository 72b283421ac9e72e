-- Code's `&` and `|` on tests are `&&` and `||` in its proofs; the rules join tests by `and` and `or`, which is the same. A test told
-- by a word is read back from it.
-- Assumes nothing.
use mathlib.Core.Path.{◌≡◌, refl}
use mathlib.Core.Bool.{Bool, true, false, ◌&&◌, ◌||◌}
use Rattle.rules.specs.Connectives.{◌and◌, ◌or◌, one_if, says_yes}

pub both : {a b x y : Bool} → a ≡ x → b ≡ y → a && b ≡ x and y
unfolding ◌and◌
both {x = x} {y = y} e f = rw (e, f) (go x y)
  where
    go : (x y : Bool) → x && y ≡ x and y
    go true y = refl
    go false y = refl

pub either : {a b x y : Bool} → a ≡ x → b ≡ y → a || b ≡ x or y
unfolding ◌or◌
either {x = x} {y = y} e f = rw (e, f) (go x y)
  where
    go : (x y : Bool) → x || y ≡ x or y
    go true y = refl
    go false y = refl

pub one_if_says : (t : Bool) → says_yes (one_if t) ≡ t
one_if_says true = refl
one_if_says false = refl
