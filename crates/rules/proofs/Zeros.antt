-- "Zeros throughout", in numbers: what each stab and readout tells beside a refusal, word for word, and that the constants of the rules are that. The
-- numbers are written out here and come from no definition of the rules.
-- Assumes nothing.
use Prim.Native.Nat.{ℕ}
use mathlib.Core.Path.{◌≡◌, refl, ap}
use mathlib.Core.Bool.{false}
use mathlib.Core.List.{List, [], ◌∷◌}
use mathlib.Core.Option.{none}
use Rattle.rules.specs.Search.{Stab}
use Rattle.rules.specs.Readouts.{BandRead, EdgeRead, NodeRead, RoomRead, band_read_of}
use Rattle.rules.specs.BoxSaysNo.{Answered, no_flags, no_stab, no_edge_read, no_node_read, no_room_read}

-- flags: sixteen words of 0
abbrev pub sixteen_zeros : List ℕ
sixteen_zeros = 0 ∷ 0 ∷ 0 ∷ 0 ∷ 0 ∷ 0 ∷ 0 ∷ 0 ∷ 0 ∷ 0 ∷ 0 ∷ 0 ∷ 0 ∷ 0 ∷ 0 ∷ 0 ∷ []

-- a stab: these, and count, marks met and looks 0
abbrev pub StabOfZeros : Stab → Type 0
StabOfZeros s = s ≡ record { flags = sixteen_zeros; count = 0; met = 0; looks = 0 }

-- a band: scope and both ends 0, and both ends open
abbrev pub BandOfZeros : BandRead → Type 0
BandOfZeros b = b ≡ record { scope = 0; low = 0; high = 0; low_closed = false; high_closed = false }

-- an edge: no next key, and sixteen words of 0
abbrev pub EdgeOfZeros : EdgeRead → Type 0
EdgeOfZeros e = e ≡ record { next = none; flags = sixteen_zeros }

-- a node: level 0, and sixteen words of 0
abbrev pub NodeOfZeros : NodeRead → Type 0
NodeOfZeros n = n ≡ record { level = 0; flags = sixteen_zeros }

-- the room used: nodes and marks 0
abbrev pub RoomOfZeros : RoomRead → Type 0
RoomOfZeros r = r ≡ record { nodes = 0; marks = 0 }

-- an answer whose number is not 0 tells zeros
abbrev pub ZerosIfRefused : {A : Type 0} → (A → Type 0) → Answered A → Type 0
ZerosIfRefused Zero a = (a.refusal ≡ 0 → ⊥) → Zero a.read

-- ---- the constants of the rules

pub no_flags_zeros : no_flags ≡ sixteen_zeros
no_flags_zeros = refl

pub no_stab_zeros : StabOfZeros no_stab
no_stab_zeros = ap (λ flags. record { flags = flags; count = 0; met = 0; looks = 0 }) no_flags_zeros

pub no_band_zeros : BandOfZeros (band_read_of none)
no_band_zeros = refl

pub no_edge_zeros : EdgeOfZeros no_edge_read
no_edge_zeros = ap (λ flags. record { next = none; flags = flags }) no_flags_zeros

pub no_node_zeros : NodeOfZeros no_node_read
no_node_zeros = ap (λ flags. record { level = 0; flags = flags }) no_flags_zeros

pub no_room_zeros : RoomOfZeros no_room_read
no_room_zeros = refl
