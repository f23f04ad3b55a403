-- What a hunting reading answers: its success, or why it is refused.
-- Assumes nothing.
use Rattle.std.specs.Prelude.{Result}
use Rattle.refusals.specs.declared.Hunting.{Hunting}
use Rattle.hunting.specs.declared.Counted.{Counted}

abbrev pub Answer : Type 0
Answer = Result Counted Hunting
