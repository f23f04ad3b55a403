-- `crc::Crc::octets` meets its contract: after so many octets the register was fed their bits.
-- Assumes nothing.
use Rattle.std.proofs.Common.{◌≡◌, take}
use Rattle.bits.specs.Bits.{bits}
use Rattle.crc.specs.Crc.{code, coded, fed_all}
use Rattle.crc.proofs.Crc.octets.Given as goal

abbrev pub invariant-loop-octet : goal.invariant-loop-octet
invariant-loop-octet l = l.r.0 ≡ code (fed_all (coded l.initial.r.0) (bits (take l.octet-index l.octet-items)))
