-- What `call_in` says of a call that only asks, its number and the memory as it was, is what the call promises: whatever meets its `ensures` has that number
-- and leaves that memory. (Of a call that changes `call_in` is the very definition that its promise names.)
-- Assumes nothing.
use Prim.{Unit}
use Prim.Native.Nat.{ℕ}
use contract.Lifetimes.{Lfts}
use mathlib.Core.Path.{◌≡◌, ap}
use mathlib.Core.Bool.{Bool}
use mathlib.Core.Option.{none}
use Rattle.std.specs.Prelude.{Result, Ok, Err}
use Rattle.rules.specs.Readouts.{band_read_of}
use Rattle.rules.specs.BoxSaysNo.{Answered, leaving, no_stab, no_edge_read, no_node_read, no_room_read}
use Rattle.rules.specs.Calls.{checking, stabbing, reading_band, reading_edge, reading_node, reading_room}
use Rattle.hall.specs.declared.answers.Refusal.{Refusal}
use Rattle.hall.specs.declared.keys.Key.{Key}
use Rattle.hall.specs.declared.reads.StabRead.{StabRead}
use Rattle.hall.specs.declared.reads.BandRead.{BandRead}
use Rattle.hall.specs.declared.reads.EdgeRead.{EdgeRead}
use Rattle.hall.specs.declared.reads.NodeRead.{NodeRead}
use Rattle.hall.specs.declared.reads.RoomRead.{RoomRead}
use Rattle.store.proofs.LentWords.{Lent, also_given, lent_memory, came_with, asked_with}
use Rattle.store.specs.Memory.{Memory}
use Rattle.checking.proofs.Promise.{CheckPromise}
use Rattle.asking.specs.Says.{read_says, stab_said, band_said, edge_said, node_said, room_said}
use Rattle.asking.proofs.Promises.{StabPromise, BandPromise, EdgePromise, NodePromise, RoomPromise}
use Rattle.demands.specs.Calls.{call_in}

-- the answer of a call that asks, without what is read
abbrev pub answer_of : {A : Type 0} → Result A Refusal → Result Unit Refusal
answer_of (Ok a) = Ok tt
answer_of (Err r) = Err r

-- .. and what its promise says of that
as_answered : {A B C : Type 0} (said : A → B) (zeros : B) (r : Result A Refusal) (after : Lent C) {due : Answered B} {m : Memory}
    → asked_with (read_says said zeros r) after ≡ record { told = due; after = m } → came_with (answer_of r) after ≡ leaving due.refusal m
as_answered said zeros (Ok a) after met = ap (λ o. leaving o.told.refusal o.after) met
as_answered said zeros (Err r) after met = ap (λ o. leaving o.told.refusal o.after) met

module _ (κs : Lfts 1) where
  -- the check says yes or no, and is never refused
  pub check_as_promised : (given after : Lent (Unit {0})) (answer : Bool) → CheckPromise κs given answer after
      → leaving 0 (lent_memory after) ≡ call_in (lent_memory given) checking
  check_as_promised given after answer met = ap (λ o. leaving 0 o.after) met

  pub stab_as_promised : (given after : Lent (Key × Unit {0})) (r : Result StabRead Refusal) → StabPromise κs given r after
      → came_with (answer_of r) after ≡ call_in (lent_memory given) (stabbing (also_given given).0.0)
  stab_as_promised given after r met = as_answered stab_said no_stab r after met

  pub band_as_promised : (given after : Lent (ℕ × Unit {0})) (r : Result BandRead Refusal) → BandPromise κs given r after
      → came_with (answer_of r) after ≡ call_in (lent_memory given) (reading_band (also_given given).0)
  band_as_promised given after r met = as_answered band_said (band_read_of none) r after met

  pub edge_as_promised : (given after : Lent (Key × (ℕ × Unit {0}))) (r : Result EdgeRead Refusal) → EdgePromise κs given r after
      → came_with (answer_of r) after ≡ call_in (lent_memory given) (reading_edge (also_given given).0.0 (also_given given).1.0)
  edge_as_promised given after r met = as_answered edge_said no_edge_read r after met

  pub node_as_promised : (given after : Lent (Key × Unit {0})) (r : Result NodeRead Refusal) → NodePromise κs given r after
      → came_with (answer_of r) after ≡ call_in (lent_memory given) (reading_node (also_given given).0.0)
  node_as_promised given after r met = as_answered node_said no_node_read r after met

  pub room_as_promised : (given after : Lent (Unit {0})) (r : Result RoomRead Refusal) → RoomPromise κs given r after
      → came_with (answer_of r) after ≡ call_in (lent_memory given) reading_room
  room_as_promised given after r met = as_answered room_said no_room_read r after met
