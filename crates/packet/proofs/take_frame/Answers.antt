-- `packet::take_frame` meets its contract: after i turns the first i indices of the frame lie in their octets.
-- Assumes nothing.
use native.Mathlib.Omega.{arith}
use Rattle.layout.specs.Layout.{frame_bits}
use Rattle.bits.specs.Bits.{field}
use Rattle.packet.proofs.Steps.{take_none, take_more, take_last}
use Rattle.packet.proofs.take_frame.Goals as goal

pub loop-i-init : goal.loop-i-init
loop-i-init c = take_none c.args.idx.now c.args.to (field frame_bits c.args.w)

pub loop-i-preserved : goal.loop-i-preserved
loop-i-preserved c = take_more c.args.idx.now c.args.to c.loop-i.i c.args.w (omega arith) (omega arith) c.loop-i.invariant

pub returns : goal.returns
returns c = take_last c.args.idx.now c.args.to c.args.w c.loop-i.i (omega arith) (omega arith) c.loop-i.invariant
