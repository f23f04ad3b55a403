-- What settings before the end answer: what the beginning tells, or why it is refused, one of the octet reader's 12 to 17.
-- Assumes nothing.
use Rattle.std.specs.Prelude.{Result}
use Rattle.refusals.specs.declared.Reading.{Reading}
use Rattle.until_settled.specs.declared.Beginning.{Beginning}

abbrev pub Answer : Type 0
Answer = Result Beginning Reading
