-- `hall::Band::fault` meets its contract: at each `return` the tests that led there say which line is the first that applies.
-- Assumes nothing.
use Prim.Native.Nat.{◌≤◌}
use mathlib.Core.Path.{sym, ◌∙◌}
use native.Mathlib.Omega.{arith}
use Rattle.rules.specs.HallLine.{highest_key}
use Rattle.rules.proofs.Faults.{by_2, by_3, by_4_low, by_4_high, by_5, by_6, by_none}
use Rattle.hall.proofs.KeyOrder.{below, not_below}
use Rattle.hall.proofs.bands.Band.fault.Goals as goal

pub returns-then-self-gt-HOUSE : goal.returns-then-self-gt-HOUSE
returns-then-self-gt-HOUSE c = by_2 _ (omega arith)

pub returns-then-self-gt-HIGHEST_NUMBER : goal.returns-then-self-gt-HIGHEST_NUMBER
returns-then-self-gt-HIGHEST_NUMBER c = by_3 _ (omega arith) (omega arith)

pub returns-then-lt : goal.returns-then-lt
returns-then-lt c = by_4_low _ (omega arith) (omega arith) (below _ _ c.lt.ensures c.if-lt.true)

pub returns-then-lt-2 : goal.returns-then-lt-2
returns-then-lt-2 c =
    by_4_high _ (omega arith) (omega arith)
    (not_below _ _ c.lt.ensures c.if-lt.false)
    (below _ _ c.lt-2.ensures c.if-lt-2.true)

pub returns-then-not-holds_whole_key : goal.returns-then-not-holds_whole_key
returns-then-not-holds_whole_key c =
    let low : c.args.self.low.0 ≤ highest_key = not_below _ _ c.lt.ensures c.if-lt.false in
    let high : c.args.self.high.0 ≤ highest_key = not_below _ _ c.lt-2.ensures c.if-lt-2.false in
    by_5 _ (omega arith) (sym c.holds_whole_key.ensures ∙ c.if-not-holds_whole_key.true)

pub returns-then-not-within_scope : goal.returns-then-not-within_scope
returns-then-not-within_scope c =
    let low : c.args.self.low.0 ≤ highest_key = not_below _ _ c.lt.ensures c.if-lt.false in
    let high : c.args.self.high.0 ≤ highest_key = not_below _ _ c.lt-2.ensures c.if-lt-2.false in
    by_6 _ (omega arith)
    (sym c.holds_whole_key.ensures ∙ c.if-not-holds_whole_key.false)
    (sym c.within_scope.ensures ∙ c.if-not-within_scope.true)

pub returns : goal.returns
returns c =
    let low : c.args.self.low.0 ≤ highest_key = not_below _ _ c.lt.ensures c.if-lt.false in
    let high : c.args.self.high.0 ≤ highest_key = not_below _ _ c.lt-2.ensures c.if-lt-2.false in
    by_none _ (omega arith)
    (sym c.holds_whole_key.ensures ∙ c.if-not-holds_whole_key.false)
    (sym c.within_scope.ensures ∙ c.if-not-within_scope.false)
