-- What a call that is lent memory is given, as promises speak of it: the three slices, and what else; and how a slice lent by `&`, and a memory of three,
-- is seen at the end.
-- For the laws of whatever meets a promise.
-- Assumes nothing.
use mathlib.Core.Path.{◌≡◌, refl}
use mir.Syntax.{Lifetime}
use base.Fml.{Lft}
use denote.Exit.{Kept, Last, see}
use denote.Ref.{NamedLft}
use denote.RattleType.{RattleType}
use denote.MutBor.{MutBor}
use denote.Slice.{ShrSlice}
use Rattle.std.specs.Prelude.{Result}
use Rattle.rules.specs.BoxSaysNo.{Change}
use Rattle.hall.specs.declared.answers.Refusal.{Refusal}
use Rattle.store.specs.Memory.{Memory}
use Rattle.store.specs.LentMemory.{words_in, words_in_mut}
use Rattle.store.specs.declared.memory.Memory.{Memory as LentToAsk}
use Rattle.store.specs.declared.memory.MemoryMut.{MemoryMut as LentMut}
use Rattle.store.specs.contracts.memory.Memory.{the_row as lent_to_ask}
use Rattle.store.specs.Came.{came, Asked, asked}

-- what a call that asks is given: the memory, lent to be asked ..
abbrev pub Lent : Type 0 → Type 0
Lent A = LentToAsk × A

-- .. and what a call that changes is: the memory, lent to be changed, by `&mut`
abbrev pub LentToChange : Type 0 → Type 0
LentToChange A = MutBor LentMut × A

-- what else
abbrev pub also_given : {R A : Type 0} → R × A → A
also_given x = x.1

-- the memory that the slices are
abbrev pub lent_memory : {A : Type 0} → Lent A → Memory
lent_memory x = words_in x.0

abbrev pub memory_to_change : {A : Type 0} → LentToChange A → Memory
memory_to_change x = words_in_mut x.0.now

-- what comes of a call that changes, and of one that asks: a is answered, or told, and the words of x stand after it
abbrev pub came_with : {A : Type 0} → Result Unit Refusal → Lent A → Change Memory
came_with a x = came a (lent_memory x)

abbrev pub came_of_change : {A : Type 0} → Result Unit Refusal → LentToChange A → Change Memory
came_of_change a x = came a (memory_to_change x)

abbrev pub asked_with : {A B : Type 0} → A → Lent B → Asked A
asked_with a x = asked a (lent_memory x)

-- the words in all three are the same
abbrev pub SameThree : Memory → Memory → Type 0
SameThree m w = (m.bands ≡ w.bands) × (m.nodes ≡ w.nodes) × (m.marks ≡ w.marks)

abbrev pub SameWords : {A : Type 0} → Lent A → Lent A → Type 0
SameWords x y = SameThree (lent_memory x) (lent_memory y)

abbrev pub SameWordsLeft : {A : Type 0} → LentToChange A → LentToChange A → Type 0
SameWordsLeft x y = SameThree (memory_to_change x) (memory_to_change y)

-- how the kit reads a slice that is lent by `&`: when the call ends it is seen as it was passed, as one value. So that it then stands as it was holds of
-- every function that is lent it so, and that none writes it is the kit's own law of what such a slice owns
pub exit_is_entry : (ℓ : Lifetime) (κ : Lft) (A : RattleType) (kept : Kept) (x : (ShrSlice ℓ κ A).Denot) (w : Last ((ShrSlice ℓ κ A).exit kept) x)
    → see ((ShrSlice ℓ κ A).exit kept) x w ≡ x
exit_is_entry ℓ κ A kept x w = refl

-- .. and so it reads the memory that a call is lent to be asked, which is three such slices as one value: at the call's end it is the very value that was passed
pub memory_exit_is_entry : (l : NamedLft) (kept : Kept) (x : LentToAsk) (w : Last ((lent_to_ask l).exit kept) x) → see ((lent_to_ask l).exit kept) x w ≡ x
memory_exit_is_entry l kept x w = refl
