-- Frames that cannot be written (01, "Writing", refusals 4 and 5). Frames count from 0.
-- Assumes nothing.
use Rattle.std.specs.Prelude.{ℕ, ◌+◌, ◌-◌, ◌*◌, ◌/◌, ◌%◌, Bool, true, false, List, eqb, ltb, length, get_or}
use Rattle.lists.specs.Tests.{when}
use Rattle.lists.specs.Search.{Search, first_from, is_found}
use Rattle.layout.specs.Layout.{frame_indices, most_narrow, multiframe_frames}
use Rattle.frames.specs.Frames.{zero_frame}

abbrev pub frame_count : List ℕ → ℕ
frame_count idx = length idx / frame_indices

-- one of the first six indices of frame k is above 63
abbrev pub is_wide : List ℕ → ℕ → Bool
is_wide idx k = is_found (first_from (λ j. ltb most_narrow (get_or idx j 0)) (frame_indices * k) (frame_indices - 1))

-- frame k of n must not be zero: it is the last, or its number from 1 is a multiple of 24
abbrev pub must_speak : ℕ → ℕ → Bool
must_speak n k = when (eqb (k + 1) n) true (eqb ((k + 1) % multiframe_frames) 0)

abbrev pub ends_early : List ℕ → ℕ → Bool
ends_early idx k = when (must_speak (frame_count idx) k) (zero_frame idx k) false

-- ---- the first frame that 4 or 5 is about
abbrev pub first_wide : List ℕ → Search
first_wide idx = first_from (is_wide idx) 0 (frame_count idx)

abbrev pub first_early : List ℕ → Search
first_early idx = first_from (ends_early idx) 0 (frame_count idx)
