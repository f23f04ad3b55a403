-- What became of an utterance: back with the reader's summary, or why not.
-- Assumes nothing.
use Rattle.std.specs.Prelude.{Result}
use Rattle.reader.specs.declared.Summary.{Summary}
use Rattle.roundtrip.specs.declared.Failure.{Failure}

abbrev pub Trip : Type 0
Trip = Result Summary Failure
