-- The words of a memory that is lent as one value, to be asked or to be changed.
-- Assumes nothing.
use Rattle.std.specs.Prelude.{◌≡◌}
use Rattle.store.specs.declared.memory.Memory.{Memory as LentToAsk}
use Rattle.store.specs.declared.memory.MemoryMut.{MemoryMut as LentToChange}
use Rattle.store.specs.Memory.{Memory, lent}

abbrev pub words_in : LentToAsk → Memory
words_in m = lent m.bands.now m.nodes.now m.marks.now

abbrev pub words_in_mut : LentToChange → Memory
words_in_mut m = lent m.bands.now m.nodes.now m.marks.now

-- a call that changes gives back the very slices that it was lent, with what it wrote there: what a caller needs to know to go on with its own
pub record StillLent (old new : LentToChange) : Type 0 where
  pub bands : new.bands.ghost_name ≡ old.bands.ghost_name
  pub nodes : new.nodes.ghost_name ≡ old.nodes.ghost_name
  pub marks : new.marks.ghost_name ≡ old.marks.ghost_name
