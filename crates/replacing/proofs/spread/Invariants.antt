-- `spread` meets its contract: the frames before frame k are the source's, and the source's own octets stand as they stood.
-- Assumes nothing.
use Rattle.replacing.specs.Steps.{Spread}
use Rattle.replacing.proofs.spread.Given as goal

abbrev pub invariant-loop-k : goal.invariant-loop-k
invariant-loop-k l = Spread l.initial.index l.index l.fn.source.0 l.fn.first.0 l.k
