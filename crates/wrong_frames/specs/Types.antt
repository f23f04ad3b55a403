-- What a search over the frames finds: a frame, or none.
-- Assumes nothing.
use Rattle.std.specs.Prelude.{Option}
use Rattle.layout.specs.declared.Frame.{Frame}

abbrev pub Found : Type 0
Found = Option Frame
