-- What headers settle: common bits (SampRate, feType and EXP), as a message with its counter 0, or nothing.
-- Assumes nothing.
use Rattle.std.specs.Prelude.{Option, ℕ}

abbrev pub Settlement : Type 0
Settlement = Option ℕ
