-- How cutting ends: with so many multiframes, or refused.
-- Assumes nothing.
use Rattle.std.specs.Prelude.{Result, ℕ}
use Rattle.refusals.specs.declared.Reading.{Reading}

abbrev pub Cut : Type 0
Cut = Result ℕ Reading
