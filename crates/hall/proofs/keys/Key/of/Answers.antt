-- `hall::Key::of` meets its contract: at each `return` the tests that led there say whether all three numbers are in their ranges.
-- Assumes nothing.
use borrow.Author.Tests.{lt-ltb, le-ltb}
use Rattle.rules.specs.Connectives.{◌and◌}
use Rattle.rules.specs.HallLine.{parts_in_range, key_of}
use Rattle.hall.specs.MadeKeys.{key_made}
use Rattle.hall.proofs.keys.Key.of.Goals as goal

pub returns-then-machine-ge-MACHINES : goal.returns-then-machine-ge-MACHINES
unfolding key_made parts_in_range ◌and◌
returns-then-machine-ge-MACHINES c = rw (le-ltb _ _ c.if-machine-ge-MACHINES.true)

pub returns-then-sensor-ge-SENSORS : goal.returns-then-sensor-ge-SENSORS
unfolding key_made parts_in_range ◌and◌
returns-then-sensor-ge-SENSORS c = rw (lt-ltb _ _ c.if-machine-ge-MACHINES.false, le-ltb _ _ c.if-sensor-ge-SENSORS.true)

pub returns-then-counts-ge-PER_SENSOR : goal.returns-then-counts-ge-PER_SENSOR
unfolding key_made parts_in_range ◌and◌
returns-then-counts-ge-PER_SENSOR c = rw (lt-ltb _ _ c.if-machine-ge-MACHINES.false, lt-ltb _ _ c.if-sensor-ge-SENSORS.false, le-ltb _ _ c.if-counts-ge-PER_SENSOR.true)

pub returns : goal.returns
unfolding key_made parts_in_range ◌and◌ key_of
returns c = rw (lt-ltb _ _ c.if-machine-ge-MACHINES.false, lt-ltb _ _ c.if-sensor-ge-SENSORS.false, lt-ltb _ _ c.if-counts-ge-PER_SENSOR.false)
