-- `copy` meets its contract: after so many words the bits of so many octets are copied. Assumes nothing.
use Prim.Native.Nat.{◌*◌}
use mathlib.Core.Path.{◌≡◌}
use Rattle.lists.specs.Parts.{over}
use Rattle.bits.proofs.Copied.{copied}
use Rattle.bits.proofs.copy.Given as goal

abbrev pub invariant-loop-j : goal.invariant-loop-j
invariant-loop-j l = l.out ≡ over l.initial.out l.to (7 * l.j) (copied l.s l.from (7 * l.j))
