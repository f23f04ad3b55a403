-- `pack_reading` meets its contract: at most two flips stand above sixteen bits of message. Assumes nothing.
use Rattle.std.proofs.Common.{subst, arith}
use Rattle.header_readings.specs.Stored.{Mended}
use Rattle.header_readings.proofs.pack_reading.Goals as goal

pub returns-in_default : goal.returns-in_default
returns-in_default c = rw c.in_default.is

pub overflow_mul-result-2 : goal.overflow_mul-result-2
overflow_mul-result-2 c = let h = subst Mended c.in-Some.is c.requires in record { fits = omega (arith, h.1) }

pub overflow_add-result : goal.overflow_add-result
overflow_add-result c = let h = subst Mended c.in-Some.is c.requires in record { fits = omega (arith, h.0, h.1) }

pub returns : goal.returns
returns c = rw c.in-Some.is (omega (arith, c.from.ensures))
