-- `streams::put_stream` meets its contract: after g turns the packets of 2g pairs lie in 23g octets.
-- Assumes nothing.
use native.Mathlib.Omega.{arith}
use Rattle.streams.proofs.Steps.{stream_none, stream_more}
use Rattle.streams.proofs.put_stream.Goals as goal

pub loop-g-init : goal.loop-g-init
loop-g-init c = search (arith, stream_none)

pub loop-g-preserved : goal.loop-g-preserved
loop-g-preserved c = search (arith, stream_more)
