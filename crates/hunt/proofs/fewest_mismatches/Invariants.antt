-- After k places the number is the fewest of theirs. Assumes nothing.
use Rattle.std.proofs.Common.{◌≡◌}
use Rattle.hunt.specs.Hunt.{fewest_off}
use Rattle.hunt.proofs.fewest_mismatches.Given as goal

abbrev pub invariant-loop-k : goal.invariant-loop-k
invariant-loop-k l = l.fewest ≡ fewest_off l.k l.head
