-- `cut_into` meets its contract: each turn does what the piece that it meets asks for (`Turns`).
-- Assumes nothing.
use Prim.Native.Nat.{◌-◌}
use lib.ListN.{length}
use Rattle.cutting.proofs.Steps.{Going}
use Rattle.cutting.proofs.cut_into.Given as goal

abbrev pub invariant-loop-places : goal.invariant-loop-places
invariant-loop-places l = Going l.s l.initial.places l.places l.p l.m

abbrev pub decreases-loop-places : goal.decreases-loop-places
decreases-loop-places l = length l.s - l.p
