-- `packet::is_right` meets its contract: the register is fed four zeros and the packet's 92 bits, and a packet is right exactly if
-- nothing is left.
-- Assumes nothing.
use Prim.Native.Nat.{◌+◌, ◌≤◌}
use native.Mathlib.Omega.{arith}
use lib.ListN.{length}
use Rattle.layout.specs.Layout.{packet_bits, packet_start}
use Rattle.bits.specs.Bits.{bits}
use Rattle.bits.proofs.Laws.{length_bits}
use Rattle.packet.proofs.Steps.{right_law}
use Rattle.packet.proofs.is_right.Goals as goal

pub returns : goal.returns
returns c =
    let l = bits c.args.s.now in
    let room : packet_start c.args.p.0 + packet_bits ≤ length l = rw length_bits (omega arith) in
    right_law l (packet_start c.args.p.0) c.words-a.result.0 c.words-a.result.1 c.new.result.0 c.octets-first.result.0 c.octets.result.0 room
    c.words-a.ensures.first c.words-a.ensures.second c.new.ensures c.octets-first.ensures c.octets.ensures
