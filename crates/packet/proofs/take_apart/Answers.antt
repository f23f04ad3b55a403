-- `packet::take_apart` meets its contract: one frame's octets behind the other's.
-- Assumes nothing.
use Prim.Native.Nat.{◌+◌, ◌≤◌}
use native.Mathlib.Omega.{arith}
use lib.ListN.{length}
use Rattle.layout.specs.Layout.{packet_bits, packet_start}
use Rattle.bits.specs.Bits.{bits}
use Rattle.bits.proofs.Laws.{length_bits}
use Rattle.packet.proofs.Steps.{apart_law}
use Rattle.packet.proofs.take_apart.Goals as goal

pub returns : goal.returns
returns c =
    let l = bits c.args.s.now in
    let at = packet_start c.args.p.0 in
    let room : at + packet_bits ≤ length l = rw length_bits (omega arith) in
    apart_law l at c.words.result.0 c.words-2.result.1 c.args.idx.now c.args.to room c.requires.1 c.words.ensures.first c.words-2.ensures.second
    c.take_frame.ensures c.take_frame-2.ensures
