-- The check's third step, ends and links, joined in code: both tests of the check's definition.
-- Assumes nothing.
use mathlib.Core.Path.{◌≡◌}
use mathlib.Core.Bool.{Bool, ◌&&◌}
use mathlib.Core.List.{List}
use Prim.Native.Nat.{ℕ}
use Rattle.rules.specs.Connectives.{◌and◌}
use Rattle.rules.proofs.Connectives.{both}
use Rattle.checking.specs.Ends.{ends_match}
use Rattle.checking.specs.Links.{links_right}

pub ends_and_links : (bands nodes : List ℕ) {ends links : Bool} → ends ≡ ends_match bands nodes → links ≡ links_right nodes
    → ends && links ≡ ends_match bands nodes and links_right nodes
ends_and_links bands nodes e l = both e l
