-- What the writer answers and leaves in the output, for every input (01, "Writing"). Frames count from 0; the places of refusals 4 and
-- 5 count them from 1, as 01 does.
-- Assumes nothing.
use Rattle.std.specs.Prelude.{ℕ, ◌+◌, ◌*◌, ◌/◌, ◌%◌, List, eqb, ltb, length, Ok, Err}
use Rattle.lists.specs.Tests.{when}
use Rattle.lists.specs.Parts.{over}
use Rattle.lists.specs.Search.{Search, at, nowhere}
use Rattle.settings.specs.declared.Settings.{Settings}
use Rattle.settings.specs.Settings.{settings_right}
use Rattle.layout.specs.Layout.{frame_indices, multiframe_frames, multiframe_octets, most_frames}
use Rattle.wrong_frames.specs.WrongFrames.{frame_count, first_wide, first_early}
use Rattle.image.specs.Image.{image}
use Rattle.refusals.specs.Refusals.{success, writing_number, writing_place}
use Rattle.refusals.specs.declared.Writing.TheVariants.{WrongSettings, PartFrame, TooMany, WideIndex, ZeroFrame, OutputShort}
use Rattle.writer.specs.Types.{Answer}

-- ---- 01's number and place of each answer: success has for its place the octets written
abbrev pub number_of : Answer → ℕ
number_of (Ok n) = success
number_of (Err r) = writing_number r

abbrev pub place_of : Answer → ℕ
place_of (Ok n) = n
place_of (Err r) = writing_place r

-- ---- multiframes
-- "for n frames, m = n div 24 + 1 multiframes"
abbrev pub multiframes_for : ℕ → ℕ
multiframes_for n = n / multiframe_frames + 1

-- ---- every refusal, in 01's order
-- 6: output shorter than 144m
unfoldable pub room_answer : ℕ → ℕ → Answer
room_answer out needed = when (ltb out needed) (Err (OutputShort needed)) (Ok needed)

-- 5: a zero frame that must not be one
abbrev pub early_answer : ℕ → ℕ → Search → Answer
early_answer out needed (at k) = Err (ZeroFrame (record { 0 = k }))
early_answer out needed nowhere = room_answer out needed

-- 4: an index above 63; it is searched over all frames before 5
abbrev pub wide_answer : ℕ → ℕ → Search → Search → Answer
wide_answer out needed early (at k) = Err (WideIndex (record { 0 = k }))
wide_answer out needed early nowhere = early_answer out needed early

abbrev pub needed : List ℕ → ℕ
needed idx = multiframe_octets * multiframes_for (frame_count idx)

-- 1: settings. 2: no multiple of 7. 3: more than 6,119 frames
unfoldable pub verdict : Settings → List ℕ → ℕ → Answer
verdict settings idx out =
    when (settings_right settings)
    (when (eqb (length idx % frame_indices) 0)
    (when (ltb most_frames (frame_count idx)) (Err (TooMany (frame_count idx)))
    (wide_answer out (needed idx) (first_early idx) (first_wide idx)))
    (Err (PartFrame (length idx))))
    (Err WrongSettings)

-- ---- the answer and the output
pub record Outcome : Type 0 where
  pub answer : Answer
  pub output : List ℕ

abbrev pub outcome : Answer → List ℕ → Outcome
outcome a o = record { answer = a; output = o }

-- success lays the image over the output's front, and octets beyond stay; a refusal changes no octet
abbrev pub finished : Settings → List ℕ → List ℕ → Answer → Outcome
finished settings idx out (Ok n) = outcome (Ok n) (over out 0 n (image settings idx (multiframes_for (frame_count idx))))
finished settings idx out (Err r) = outcome (Err r) out

unfoldable pub writing : Settings → List ℕ → List ℕ → Outcome
writing settings idx out = finished settings idx out (verdict settings idx (length out))
