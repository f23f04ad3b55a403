-- `read_into` meets its contract: each turn does what the piece that it meets asks for (`Going`). Assumes nothing.
use Prim.Native.Nat.{◌-◌}
use mathlib.Core.Path.{◌≡◌}
use lib.ListN.{length}
use Rattle.beginning.proofs.Steps.{Going}
use Rattle.beginning.proofs.read_into.Given as goal

abbrev pub invariant-loop-headers : goal.invariant-loop-headers
invariant-loop-headers l = Going l.octets l.headers l.p l.m × (length l.headers ≡ length l.initial.headers)

abbrev pub decreases-loop-headers : goal.decreases-loop-headers
decreases-loop-headers l = length l.octets - l.p
