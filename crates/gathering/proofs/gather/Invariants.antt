-- `gather` meets its contract: each turn takes what the hunt finds (`Turns`). Assumes nothing.
use Prim.Native.Nat.{◌-◌}
use mathlib.Core.Path.{◌≡◌}
use lib.ListN.{length}
use Rattle.layout.specs.Layout.{most_multiframes}
use Rattle.gathering.proofs.Turns.{Going}
use Rattle.gathering.proofs.gather.Given as goal

abbrev pub invariant-loop-found : goal.invariant-loop-found
invariant-loop-found l = Going l.octets l.from l.least l.image l.m l.at l.tested × (length l.image ≡ length l.initial.image)

abbrev pub decreases-loop-found : goal.decreases-loop-found
decreases-loop-found l = most_multiframes - l.m
