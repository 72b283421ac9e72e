-- The pass so far: going on from here comes to the same as the pass over all records.
-- Assumes nothing.
use Prim.Native.Nat.{ℕ, ◌+◌, ◌≤◌}
use mathlib.Core.Path.{◌≡◌, sym, ap, ◌∙◌}
use mathlib.Core.List.{List, ◌∷◌}
use lib.Count.{ones}
use lib.ListN.{length, drop, drop_of_length-le}
use Rattle.rules.specs.HallLine.{Band}
use Rattle.rules.specs.BoxSaysNo.{no_flags}
use Rattle.rules.specs.BenchCard.{Scan, scan_of}
use Rattle.card.specs.Pass.{Pass, bare, begin_of, step_of, pass_over, told_of}
use Rattle.card.proofs.PassIsScan.{pass_wrong, pass_is_scan}

-- the pass over the first i records leads where the pass over all does
pub record Leads (cards : List Band) (k : ℕ) (p : Pass) (i : ℕ) : Type 0 where
  pub there : pass_over p (i + 1) (drop i cards) k ≡ pass_over (begin_of k) 1 cards k

module _ (cards : List Band) (k : ℕ) (p : Pass) where
  pub leads_at_first : p ≡ begin_of k → Leads cards k p 0
  leads_at_first e = record { there = ap (λ (q : Pass). pass_over q 1 cards k) e }

  module _ (i : ℕ) (l : Leads cards k p i) where
    -- while a record is left one step leads on ..
    pub leads_on : (q : Pass) (b : Band) → drop i cards ≡ b ∷ drop (i + 1) cards → q ≡ step_of p (i + 1) b k → Leads cards k q (i + 1)
    leads_on q b here e =
        record {
          there =
              ap (λ (r : Pass). pass_over r (i + 1 + 1) (drop (i + 1) cards) k) e
              ∙ ap (λ (bs : List Band). pass_over p (i + 1) bs k) (sym here)
              ∙ l.there;
        }

    -- .. and where none is left the pass tells what the rules say of all records
    pub leads_to_scan : length cards ≤ i → told_of p ≡ scan_of cards k
    leads_to_scan over = ap told_of (sym none_left ∙ l.there) ∙ pass_is_scan cards k
      where
        none_left : pass_over p (i + 1) (drop i cards) k ≡ p
        none_left = ap (λ (bs : List Band). pass_over p (i + 1) bs k) (drop_of_length-le cards over)

-- what is told of something wrong, beside no flags
abbrev pub wrong : ℕ → ℕ → Scan
wrong refusal place = record { refusal = refusal; place = place; flags = no_flags; count = 0 }

-- once something is wrong it is told, whatever records are left
pub wrong_to_scan : (cards : List Band) (k i refusal place : ℕ) → (refusal ≡ 0 → ⊥) → Leads cards k (bare refusal place) i → wrong refusal place ≡ scan_of cards k
unfolding ones
wrong_to_scan cards k i refusal place h l =
    ap told_of (sym (pass_wrong (bare refusal place) (i + 1) (drop i cards) k h) ∙ l.there) ∙ pass_is_scan cards k
