-- The promise of each call that asks, under a name that other crates know: what its `ensures` says of what it was lent and given, of its answer and of what
-- stands after it.
-- Assumes nothing.
use Prim.{Unit}
use Prim.Native.Nat.{ℕ}
use contract.Lifetimes.{Lfts}
use Rattle.std.specs.Prelude.{Result}
use Rattle.hall.specs.declared.answers.Refusal.{Refusal}
use Rattle.hall.specs.declared.keys.Key.{Key}
use Rattle.hall.specs.declared.reads.StabRead.{StabRead}
use Rattle.hall.specs.declared.reads.BandRead.{BandRead}
use Rattle.hall.specs.declared.reads.EdgeRead.{EdgeRead}
use Rattle.hall.specs.declared.reads.NodeRead.{NodeRead}
use Rattle.hall.specs.declared.reads.RoomRead.{RoomRead}
use Rattle.store.proofs.LentWords.{Lent}
use Rattle.asking.proofs.stabbing.stab.Reads.{Post as stab_ensured}
use Rattle.asking.proofs.band_readout.band.Reads.{Post as band_ensured}
use Rattle.asking.proofs.edge_readout.edge.Reads.{Post as edge_ensured}
use Rattle.asking.proofs.node_readout.node.Reads.{Post as node_ensured}
use Rattle.asking.proofs.room_readout.room.Reads.{Post as room_ensured}

abbrev pub StabPromise : Lfts 1 → Lent (Key × Unit {0}) → Result StabRead Refusal → Lent (Key × Unit {0}) → Type 0
StabPromise κs given r after = stab_ensured κs given r after

abbrev pub BandPromise : Lfts 1 → Lent (ℕ × Unit {0}) → Result BandRead Refusal → Lent (ℕ × Unit {0}) → Type 0
BandPromise κs given r after = band_ensured κs given r after

abbrev pub EdgePromise : Lfts 1 → Lent (Key × (ℕ × Unit {0})) → Result EdgeRead Refusal → Lent (Key × (ℕ × Unit {0})) → Type 0
EdgePromise κs given r after = edge_ensured κs given r after

abbrev pub NodePromise : Lfts 1 → Lent (Key × Unit {0}) → Result NodeRead Refusal → Lent (Key × Unit {0}) → Type 0
NodePromise κs given r after = node_ensured κs given r after

abbrev pub RoomPromise : Lfts 1 → Lent (Unit {0}) → Result RoomRead Refusal → Lent (Unit {0}) → Type 0
RoomPromise κs given r after = room_ensured κs given r after
