-- `speech_of` meets its contract: the frames passed from behind are zero, so what is left has the last nonzero one.
-- Assumes nothing.
use mathlib.Core.Path.{◌≡◌}
use Rattle.layout.specs.Layout.{multiframe_frames}
use Rattle.replacing.specs.Speech.{last_nonzero}
use Rattle.replacing.proofs.speech_of.Given as goal

abbrev pub invariant-loop-n : goal.invariant-loop-n
invariant-loop-n l = last_nonzero l.index l.start l.n ≡ last_nonzero l.index l.start multiframe_frames
