-- `open_reading` meets its contract: flips and message are the two digits of the number. Assumes nothing.
use Rattle.std.proofs.Common.{◌/◌, eq-eqb, ne_eqb}
use Rattle.header_readings.specs.Stored.{opened}
use Rattle.header_readings.proofs.open_reading.Goals as goal

pub returns-then-flips-eq-LOST_FLIPS : goal.returns-then-flips-eq-LOST_FLIPS
unfolding opened
returns-then-flips-eq-LOST_FLIPS c = rw (eq-eqb (c.args.x / 65536) 3 c.if-flips-eq-LOST_FLIPS.true)

pub returns : goal.returns
unfolding opened
returns c = rw (ne_eqb (c.args.x / 65536) 3 c.if-flips-eq-LOST_FLIPS.false)
