-- No second outcome meets a call's promise: of two that meet what its `ensures` says, whatever it was lent and given, the answers are equal with every
-- value beside them and all three slices, which are those that it was lent. Stated of the promise itself: one that said less would not settle the outcome.
-- Assumes nothing.
use Prim.{Unit}
use contract.Lifetimes.{Lfts}
use Prim.Native.Nat.{ℕ}
use mathlib.Core.Path.{◌≡◌, sym, ap}
use mathlib.Core.Option.{none}
use Rattle.std.specs.Prelude.{Ok, Err}
use Rattle.rules.specs.Readouts.{band_read_of}
use Rattle.rules.specs.BoxSaysNo.{no_stab, no_edge_read, no_node_read, no_room_read}
use Rattle.hall.proofs.OneToOne.{refusal_one_to_one, no_refusal_says_0, next_key_one_to_one}
use Rattle.store.proofs.LentWords.{Lent, SameWords}
use Rattle.store.proofs.OnlyAsked.{asked_settled}
use Rattle.asking.specs.Says.{read_says, stab_said, band_said, edge_said, node_said, room_said, stab_says, band_read_says, edge_read_says, node_read_says, room_read_says}
use Rattle.hall.specs.declared.reads.StabRead.{StabRead}
use Rattle.hall.specs.declared.reads.BandRead.{BandRead}
use Rattle.hall.specs.declared.reads.EdgeRead.{EdgeRead}
use Rattle.hall.specs.declared.reads.NodeRead.{NodeRead}
use Rattle.hall.specs.declared.reads.RoomRead.{RoomRead}
use Rattle.asking.proofs.Promises.{StabPromise, BandPromise, EdgePromise, NodePromise, RoomPromise}
use Rattle.std.specs.Prelude.{Result}
use Rattle.hall.specs.declared.answers.Refusal.{Refusal}
use Rattle.hall.specs.declared.keys.Key.{Key}

-- ---- what an answer says tells it back

-- .. where what is read does: 0 stands beside it, and beside zeros a refusal's number
read_told_back : {A B : Type 0} (said : A → B) (zeros : B) → ((x y : A) → said x ≡ said y → x ≡ y)
    → (a b : Result A Refusal) → read_says said zeros a ≡ read_says said zeros b → a ≡ b
read_told_back said zeros back (Ok x) (Ok y) same = ap Ok (back x y (ap (λ s. s.read) same))
read_told_back said zeros back (Ok x) (Err s) same = absurd (no_refusal_says_0 s (sym (ap (λ s. s.refusal) same)))
read_told_back said zeros back (Err r) (Ok y) same = absurd (no_refusal_says_0 r (ap (λ s. s.refusal) same))
read_told_back said zeros back (Err r) (Err s) same = ap Err (refusal_one_to_one r s (ap (λ s. s.refusal) same))

pub stab_told_back : (a b : Result StabRead Refusal) → stab_says a ≡ stab_says b → a ≡ b
stab_told_back =
    read_told_back stab_said no_stab
    (λ x y same i. record { flags = (same i).flags; count = (same i).count; met = (same i).met; looks = (same i).looks })

band_told_back : (a b : Result BandRead Refusal) → band_read_says a ≡ band_read_says b → a ≡ b
band_told_back =
    read_told_back band_said (band_read_of none)
    (λ x y same i. record {
      scope = (same i).scope;
      low = record { 0 = (same i).low };
      high = record { 0 = (same i).high };
      low_closed = (same i).low_closed;
      high_closed = (same i).high_closed;
    })

pub edge_told_back : (a b : Result EdgeRead Refusal) → edge_read_says a ≡ edge_read_says b → a ≡ b
edge_told_back =
    read_told_back edge_said no_edge_read
    (λ x y same. let next = next_key_one_to_one x.next y.next (ap (λ e. e.next) same) in λ i. record { next = next i; flags = (same i).flags })

pub node_told_back : (a b : Result NodeRead Refusal) → node_read_says a ≡ node_read_says b → a ≡ b
node_told_back = read_told_back node_said no_node_read (λ x y same i. record { level = (same i).level; flags = (same i).flags })

room_told_back : (a b : Result RoomRead Refusal) → room_read_says a ≡ room_read_says b → a ≡ b
room_told_back = read_told_back room_said no_room_read (λ x y same i. record { nodes = (same i).nodes; marks = (same i).marks })

-- ---- the promises

module _ (κs : Lfts 1) where
  pub stab_settled : (given x y : Lent (Key × Unit {0})) (a b : Result StabRead Refusal) → StabPromise κs given a x → StabPromise κs given b y
      → (a ≡ b) × SameWords x y × SameWords x given
  stab_settled given x y a b p q = let same = asked_settled given x y p q in (stab_told_back a b same.0, same.1, same.2)

  pub band_settled : (given x y : Lent (ℕ × Unit {0})) (a b : Result BandRead Refusal) → BandPromise κs given a x → BandPromise κs given b y
      → (a ≡ b) × SameWords x y × SameWords x given
  band_settled given x y a b p q = let same = asked_settled given x y p q in (band_told_back a b same.0, same.1, same.2)

  pub edge_settled : (given x y : Lent (Key × (ℕ × Unit {0}))) (a b : Result EdgeRead Refusal) → EdgePromise κs given a x → EdgePromise κs given b y
      → (a ≡ b) × SameWords x y × SameWords x given
  edge_settled given x y a b p q = let same = asked_settled given x y p q in (edge_told_back a b same.0, same.1, same.2)

  pub node_settled : (given x y : Lent (Key × Unit {0})) (a b : Result NodeRead Refusal) → NodePromise κs given a x → NodePromise κs given b y
      → (a ≡ b) × SameWords x y × SameWords x given
  node_settled given x y a b p q = let same = asked_settled given x y p q in (node_told_back a b same.0, same.1, same.2)

  pub room_settled : (given x y : Lent (Unit {0})) (a b : Result RoomRead Refusal) → RoomPromise κs given a x → RoomPromise κs given b y
      → (a ≡ b) × SameWords x y × SameWords x given
  room_settled given x y a b p q = let same = asked_settled given x y p q in (room_told_back a b same.0, same.1, same.2)
