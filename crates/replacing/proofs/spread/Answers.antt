-- `spread` meets its contract: the frames before frame k are the source's, and the source's own octets stand as they stood.
-- Assumes nothing.
use native.Mathlib.Omega.{arith}
use Rattle.replacing.proofs.Turns.{unchanged, one_frame}
use Rattle.replacing.proofs.spread.Goals as goal

pub loop-k-init : goal.loop-k-init
loop-k-init c = unchanged _ _ _

pub loop-k-preserved : goal.loop-k-preserved
loop-k-preserved c = one_frame _ _ _ c.args.source.0 c.args.first.0 c.loop-k.k (omega arith) c.copy_within.ensures.len c.copy_within.ensures.by_index c.loop-k.invariant
