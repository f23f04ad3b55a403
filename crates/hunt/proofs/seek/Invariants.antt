-- `seek`: what was passed does not fit. Assumes nothing.
use Rattle.std.proofs.Common.{◌-◌}
use Rattle.bits.specs.Bits.{bits}
use Rattle.hunt.proofs.Steps.{Seeking}
use Rattle.hunt.proofs.seek.Given as goal

abbrev pub invariant-loop-t : goal.invariant-loop-t
invariant-loop-t l = Seeking (bits l.octets) l.from l.least l.t

abbrev pub decreases-loop-t : goal.decreases-loop-t
decreases-loop-t l = l.end - l.t
