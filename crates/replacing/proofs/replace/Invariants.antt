-- `replace` meets its contract: a good pair is passed, and a run of bad pairs is filled at once (`Turns`).
-- Assumes nothing.
use Prim.Native.Nat.{◌-◌}
use lib.ListN.{length}
use Rattle.replacing.proofs.Turns.{Going}
use Rattle.replacing.proofs.replace.Given as goal

abbrev pub invariant-loop-k : goal.invariant-loop-k
invariant-loop-k l = Going l.notes l.initial.index l.index l.k

abbrev pub decreases-loop-k : goal.decreases-loop-k
decreases-loop-k l = length l.notes - l.k
