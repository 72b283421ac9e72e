-- `wheel::turn` meets its contract: the test by which a place is refused is the rule's; past it the place is on the wheel, and the entry
-- at index place - 1 is its own.
-- Assumes nothing.
use Prim.Native.Nat.{ℕ}
use native.Mathlib.Omega.{arith}
use mathlib.Core.Path.{◌≡◌, sym, ap, ap₂, ◌∙◌}
use mathlib.Core.Bool.{Bool, false}
use Rattle.rules.specs.BoxSaysNo.{saying}
use Rattle.rules.specs.Wheel.{wheel_level, off_wheel, turn_of}
use Rattle.rules.proofs.Wheel.{OnWheel, off_wheel_means, off_wheel_fails, turn_on_wheel, turn_off_wheel}
use Rattle.wheel.proofs.turning.turn.Goals as goal

-- a place that the test passed is on the wheel
passed : (place : ℕ) {off : Bool} → off ≡ (off_wheel place).applies → off ≡ false → OnWheel place
passed place told left = (off_wheel_fails place).fact (sym told ∙ left)

pub returns-then-is_off : goal.returns-then-is_off
returns-then-is_off c = sym (turn_off_wheel c.args.place.0 ((off_wheel_means _).fact (sym c.is_off.ensures ∙ c.if-is_off.true)))

pub overflow_sub-place : goal.overflow_sub-place
overflow_sub-place c =
    let on = passed c.args.place.0 c.is_off.ensures c.if-is_off.false in
    omega arith

pub level_at-requires : goal.level_at-requires
level_at-requires c =
    let on = passed c.args.place.0 c.is_off.ensures c.if-is_off.false in
    omega arith

pub next-requires : goal.next-requires
next-requires c = (passed _ c.is_off.ensures c.if-is_off.false).1

pub returns : goal.returns
returns c =
    let on = passed _ c.is_off.ensures c.if-is_off.false in
    ap₂ (λ level next. saying 0 (turn_of level next)) (c.level_at.ensures ∙ ap wheel_level (omega arith)) c.next.ensures
    ∙ sym (turn_on_wheel c.args.place.0 on)
