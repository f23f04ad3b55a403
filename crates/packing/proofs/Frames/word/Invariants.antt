-- `packing::Frames::word`: after i turns the word holds the bits of i indices. Assumes nothing.
use Rattle.std.proofs.Common.{◌≡◌, replicate}
use Rattle.bits.specs.Bits.{value, laid}
use Rattle.packet.specs.Packet.{row}
use Rattle.packing.proofs.Frames.word.Given as goal

abbrev pub invariant-loop-i : goal.invariant-loop-i
invariant-loop-i l = l.x ≡ value (laid (replicate l.i 6) (row l.self.octets.now l.from l.i))
