-- What a writing answers: the octets written, or why it is refused.
-- Assumes nothing.
use Rattle.std.specs.Prelude.{Result, ℕ}
use Rattle.refusals.specs.declared.Writing.{Writing}

abbrev pub Answer : Type 0
Answer = Result ℕ Writing
