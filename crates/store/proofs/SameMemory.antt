-- Two memories are the same, word for word, exactly when they are equal.
-- Assumes nothing.
use mathlib.Core.Path.{◌≡◌, ap}
use Rattle.rules.proofs.Means.{Means, reworded, and3_means}
use Rattle.rules.proofs.Lists.{same_numbers_means}
use Rattle.store.specs.Memory.{Memory, lent, same_memory}

pub same_memory_means : (m w : Memory) → Means (same_memory m w) (m ≡ w)
unfolding same_memory
same_memory_means m w =
    reworded
    (and3_means (same_numbers_means m.bands w.bands) (same_numbers_means m.nodes w.nodes) (same_numbers_means m.marks w.marks))
    (λ h i. lent (h.0 i) (h.1 i) (h.2 i))
    (λ e. (ap (λ x. x.bands) e, ap (λ x. x.nodes) e, ap (λ x. x.marks) e))
