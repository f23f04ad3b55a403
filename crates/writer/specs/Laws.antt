-- What an accepted utterance has, as records.
-- Assumes nothing.
use Rattle.std.specs.Prelude.{◌≡◌, true, List, ℕ, ◌%◌, ◌≤◌, length}
use Rattle.lists.specs.Search.{nowhere}
use Rattle.settings.specs.declared.Settings.{Settings}
use Rattle.settings.specs.Settings.{settings_right}
use Rattle.layout.specs.Layout.{frame_indices, most_frames}
use Rattle.wrong_frames.specs.WrongFrames.{frame_count, first_wide, first_early}
use Rattle.writer.specs.Writing.{needed}

-- ---- the answers, one by one, in 01's order
-- the settings are right, the frames whole and not too many
pub record Sized (settings : Settings) (idx : List ℕ) : Type 0 where
  pub right : settings_right settings ≡ true
  pub whole : length idx % frame_indices ≡ 0
  pub few : frame_count idx ≤ most_frames

-- ---- what an accepted utterance has, and that this is enough
pub record Accepted (settings : Settings) (idx : List ℕ) (out n : ℕ) : Type 0 where
  pub sizes : Sized settings idx
  pub narrow_indices : first_wide idx ≡ nowhere
  pub speaks : first_early idx ≡ nowhere
  pub octets_needed : n ≡ needed idx
  pub room : needed idx ≤ out
