-- The first frame of which the test says so is what the definition's search finds, and each frame that is tested lies in the indices.
-- Assumes nothing.
use Rattle.std.proofs.Common.{rules}
use Rattle.wrong_frames.specs.WrongFrames.{ends_early, frame_count}
use Rattle.wrong_frames.proofs.Steps.{frames_begin, frame_lies, stops}
use Rattle.wrong_frames.proofs.first_early.Goals as goal

pub first-requires : goal.first-requires
first-requires c =
    let i = c.args.indices.now in
    let each = frame_lies ends_early i (frame_count i) 0 (frames_begin ends_early i) in
    -- of what is known where the test is called, only that k is one of the frames
    λ k h _ _ _ _ _ _. each k h

pub returns : goal.returns
returns c = stops ends_early c.args.indices.now _ (λ f b s. search rules) c.first.result c.first.ensures
