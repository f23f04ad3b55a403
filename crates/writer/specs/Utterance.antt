-- An utterance that the writer accepts, and its image (01, "Writing").
-- Assumes nothing.
use Rattle.std.specs.Prelude.{◌≡◌, List, ℕ, ◌*◌, Ok}
use Rattle.settings.specs.declared.Settings.{Settings}
use Rattle.layout.specs.Layout.{multiframe_pairs}
use Rattle.image.specs.Image.{image}
use Rattle.image.specs.Made.{Small}
use Rattle.wrong_frames.specs.WrongFrames.{frame_count}
use Rattle.writer.specs.Writing.{multiframes_for, needed, verdict}

-- ---- an utterance that the writer accepts, given room for its image
pub record Utterance : Type 0 where
  pub settings : Settings
  pub indices : List ℕ
  pub small : Small indices
  pub written : verdict settings indices (needed indices) ≡ Ok (needed indices)

module _ (u : Utterance) where
  abbrev pub multiframes_of : ℕ
  multiframes_of = multiframes_for (frame_count u.indices)

  abbrev pub pairs_of : ℕ
  pairs_of = multiframe_pairs * multiframes_of

  abbrev pub image_of : List ℕ
  image_of = image u.settings u.indices multiframes_of
