-- `first_agreeing`: what is left to settle from each header on is what was left at the first. Assumes nothing.
use Rattle.std.proofs.Common.{◌≡◌, [], drop}
use Rattle.settling.specs.Settling.{first_agreeing}
use Rattle.header_readings.specs.Stored.{open_all}
use Rattle.settling.specs.Steps.{seen_before}
use Rattle.settling.proofs.first_agreeing.Given as goal

abbrev pub invariant-loop-k : goal.invariant-loop-k
invariant-loop-k l = first_agreeing [] (open_all l.headers) ≡ first_agreeing (seen_before (open_all l.headers) l.k) (drop l.k (open_all l.headers))
