-- The test said of no frame so far that it is wrong. Assumes nothing.
use Rattle.std.proofs.Common.{ℕ, ◌<◌, false}
use Rattle.wrong_frames.proofs.first.Given as goal

abbrev pub invariant-loop-k : goal.invariant-loop-k
invariant-loop-k g l = (j : ℕ) → j < l.k → goal.F-post g l.wrong (record { 0 = j }) false
