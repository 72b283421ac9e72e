-- What laying a record stores among the words: below the whole places its six words, as code copies them in, and past them nothing.
-- Assumes nothing.
use Prim.Native.Nat.{ℕ, ◌+◌, ◌*◌, ◌/◌, ◌≤◌, ◌<◌}
use native.Mathlib.Omega.{arith}
use mathlib.Core.Path.{◌≡◌, refl, sym, ap, ◌∙◌}
use mathlib.Core.Bool.{Bool, true, false}
use mathlib.Core.List.{List, ◌++◌, append_assoc}
use mir.Val.{bool_byte}
use borrow.Rule.Slice.PartMut.{put_mid}
use borrow.Author.Tests.{lt-ltb, le-ltb}
use lib.ListN.{length, take, drop}
use lib.Seq.{sets, sets-eq, drop-drop}
use Rattle.rules.specs.Connectives.{one_if}
use Rattle.rules.specs.HallLine.{Band}
use Rattle.card.specs.Records.{words_of, with_record}

module _ (ws : List ℕ) (i : ℕ) (b : Band) where
  -- the six stores
  abbrev pub laid : List ℕ
  laid = sets ws (i * 6) (words_of b)

  -- past them nothing changes
  pub record_out : length ws / 6 ≤ i → with_record ws i b ≡ ws
  unfolding with_record
  record_out h = rw (le-ltb i (length ws / 6) h)

  module _ (h : i < length ws / 6) where
    -- below the whole places it is the six stores
    pub with_record_lem : with_record ws i b ≡ laid
    unfolding with_record
    with_record_lem = rw (lt-ltb i (length ws / 6) h)

    -- the six words copied over those that stand there
    pub record_copied : (k : ℕ) → k ≡ 6 → put_mid (i * 6) k ws (words_of b) ≡ with_record ws i b
    record_copied k e =
        rw e
        (ap (λ (rest : List ℕ). take (i * 6) ws ++ (words_of b ++ rest)) (drop-drop 6 (i * 6) ws)
        ∙ sym (append_assoc (take (i * 6) ws) (words_of b) (drop (i * 6 + 6) ws))
        ∙ sym (with_record_lem ∙ sets-eq (words_of b) ws (i * 6) (omega arith)))

-- a closed end's word
pub closed_word : (t : Bool) → bool_byte t ≡ one_if t
closed_word true = refl
closed_word false = refl
