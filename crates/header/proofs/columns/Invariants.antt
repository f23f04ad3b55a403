-- After i turns the columns of the first i message bits and of the first i parity bits stand at their places. Assumes nothing.
use mathlib.Core.Path.{◌≡◌}
use lib.ListN.{length}
use Rattle.header_code.specs.Code.Syndrome.{Filled}
use Rattle.header.proofs.columns.Given as goal

abbrev pub invariant-loop-i : goal.invariant-loop-i
invariant-loop-i l = (length l.columns ≡ 32) × Filled l.columns l.i
