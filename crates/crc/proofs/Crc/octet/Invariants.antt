-- `crc::Crc::octet` meets its contract: after so many turns the register was fed so many low bits of the octet.
-- Assumes nothing.
use Rattle.std.proofs.Common.{◌≡◌, ◌/◌, ◌^◌}
use Rattle.bits.specs.Bits.{field}
use Rattle.crc.specs.Crc.{code, coded, fed_all}
use Rattle.crc.proofs.Crc.octet.Given as goal

abbrev pub invariant-loop : goal.invariant-loop
invariant-loop l = (l.left ≡ l.x / 2 ^ l.counter) × (l.r.0 ≡ code (fed_all (coded l.initial.r.0) (field l.counter l.x)))
