-- The node and mark words of a profile, of any length, lay it; so they say its nodes.
-- Assumes nothing.
use Prim.Native.Nat.{ℕ, suc}
use mathlib.Core.Path.{◌≡◌}
use native.Mathlib.Omega.{arith}
use Rattle.rules.specs.Profile.{Profile}
use Rattle.store.specs.SaidProfile.{said_nodes}
use Rattle.store.specs.SaidMarks.{between, said_marks}
use Rattle.store.specs.LaidNodes.{laid_nodes}
use Rattle.store.specs.LaidMarks.{laid_marks}
use Rattle.store.proofs.Lays.{Lays, lays_says_nodes}
use Rattle.store.proofs.LaidNodes.{laid_in_use, laid_marks_in_use, laid_first_link, laid_header_zero, laid_key, laid_level, laid_link, laid_fence}
use Rattle.store.proofs.LaidMarks.{slot_between}

pub laid_lays : (node_words mark_words : ℕ) (p : Profile) → Lays p (laid_nodes node_words p) (laid_marks mark_words p)
unfolding said_marks between
laid_lays node_words mark_words p = record {
  in_use_lem = laid_in_use node_words p;
  marks_in_use_lem = laid_marks_in_use node_words p;
  first_link = laid_first_link node_words p;
  header_slot = λ i l. rw (laid_header_zero node_words p i (omega arith), laid_header_zero node_words p (suc i) (omega arith));
  key = laid_key node_words p;
  level = laid_level node_words p;
  link = laid_link node_words p;
  slot = λ j n rest at s l.
      rw (laid_fence node_words p j n rest at s (omega arith), laid_fence node_words p j n rest at (suc s) (omega arith))
      (slot_between mark_words p j n rest at s l);
}

pub said_nodes_laid : (node_words : ℕ) (p : Profile) → said_nodes (laid_nodes node_words p) ≡ p.nodes
said_nodes_laid node_words p = lays_says_nodes (laid_lays node_words 0 p)
