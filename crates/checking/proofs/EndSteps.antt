-- That the places noted decide whether ends and nodes match.
-- Assumes nothing.
use Prim.Native.Nat.{ℕ, ◌<◌}
use mathlib.Core.Path.{◌≡◌, ◌∙◌}
use mathlib.Core.Bool.{Bool, ◌&&◌}
use mathlib.Core.List.{List}
use native.Mathlib.Omega.{arith}
use lib.ListN.{replicate}
use Rattle.rules.specs.Connectives.{says_yes}
use Rattle.rules.specs.Lists.{all, all_from, member}
use Rattle.rules.proofs.Connectives.{both}
use Rattle.rules.proofs.Lists.{all_from_same}
use Rattle.store.specs.Places.{in_use}
use Rattle.linking.specs.EndPlaces.{end_places, noted}
use Rattle.linking.proofs.NotingSteps.{found_alone}
use Rattle.checking.specs.Ends.{ends_match, all_noted}

-- with nothing noted before, all of the first places are noted exactly when each is among those that were to be
all_found : (n m : ℕ) (is : List ℕ) → m < n → all_noted (noted (replicate n 0) is) m ≡ all_from (λ i. member i is) 1 m
unfolding all_noted
all_found n m is l = all_from_same 1 m (λ i a b. found_alone n i is (omega arith))

-- so the test by what is noted is the one of the ends and the nodes
pub matched_by_notes : (bands nodes : List ℕ) (n : ℕ) {found : List ℕ} {placed every_noted : Bool} {used : ℕ}
    → in_use nodes < n
    → used ≡ in_use nodes
    → (placed ≡ all says_yes (end_places bands nodes)) × (found ≡ noted (replicate n 0) (end_places bands nodes))
    → every_noted ≡ all_noted found used
    → placed && every_noted ≡ ends_match bands nodes
unfolding ends_match
matched_by_notes bands nodes n h u p a = both p.0 (a ∙ rw (u, p.1) (all_found n (in_use nodes) (end_places bands nodes) h))
