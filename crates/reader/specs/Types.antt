-- What a reading answers: its success, or why it is refused.
-- Assumes nothing.
use Rattle.std.specs.Prelude.{Result}
use Rattle.refusals.specs.declared.Reading.{Reading}
use Rattle.reader.specs.declared.Summary.{Summary}

abbrev pub Answer : Type 0
Answer = Result Summary Reading
