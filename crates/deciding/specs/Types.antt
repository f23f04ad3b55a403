-- What is decided before anything is written: the settled common bits, or a refusal.
-- Assumes nothing.
use Rattle.std.specs.Prelude.{Result, ℕ}
use Rattle.refusals.specs.declared.Reading.{Reading}

abbrev pub Verdict : Type 0
Verdict = Result ℕ Reading
