-- `streams::put_stream` meets its contract: after g turns the packets of 2g pairs lie in 23g octets.
-- Assumes nothing.
use mathlib.Core.Path.{◌≡◌}
use Prim.Native.Nat.{◌*◌}
use Rattle.lists.specs.Parts.{over}
use Rattle.bits.specs.Bits.{octets}
use Rattle.packet.specs.Packet.{two_packets, stream}
use Rattle.streams.proofs.put_stream.Given as goal

abbrev pub invariant-loop-g : goal.invariant-loop-g
invariant-loop-g l = l.out ≡ over l.initial.out l.at (two_packets * l.g) (octets (two_packets * l.g) (stream l.frames.octets.now l.q.0 (2 * l.g)))
