-- `packing::Frames::word` meets its contract: after i turns the word holds the bits of i indices. Past the octets a frame is zeros, whose
-- word is 0; whole frames leave nothing between.
-- Assumes nothing.
use Rattle.std.proofs.Common.{◌*◌, ◌^◌, ◌<◌, arith, rules}
use Rattle.layout.specs.Layout.{frame_indices}
use Rattle.packing.proofs.Steps.{frame_none, frame_past, frame_more, frame_last}
use Rattle.packing.proofs.Frames.word.Goals as goal

pub returns-then-self-from : goal.returns-then-self-from
returns-then-self-from c = frame_past c.args.self.octets.now (frame_indices * c.args.k.0) c.if-self-from.true

pub loop-i-init : goal.loop-i-init
loop-i-init c = frame_none c.args.self.octets.now (frame_indices * c.args.k.0)

pub loop-i-preserved : goal.loop-i-preserved
loop-i-preserved c =
    frame_more c.args.self.octets.now (frame_indices * c.args.k.0) c.loop-i.i c.loop-i.x c.from.result (omega arith) c.from.ensures c.loop-i.invariant

pub returns : goal.returns
returns c =
    let small : c.from-2.result < 2 ^ 8 = search rules in
    frame_last c.args.self.octets.now (frame_indices * c.args.k.0) c.loop-i.i c.loop-i.x c.from-2.result (omega arith) c.from-2.ensures small c.loop-i.invariant
