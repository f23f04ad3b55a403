-- What a caller asked for by a number: choices, or none, where the number names none.
-- Assumes nothing.
use Rattle.std.specs.Prelude.{Option}
use Rattle.choices.specs.declared.Choices.{Choices}

abbrev pub Asked : Type 0
Asked = Option Choices
