-- What the searches find, and when a zero frame ends an utterance too early.
-- Assumes nothing.
use Rattle.std.specs.Prelude.{◌≡◌, Bool, true, false, List, ℕ, ◌+◌, ◌%◌, ◌<◌, Some, None}
use Rattle.std.proofs.Common.{eq-eqb, ne_eqb}
use Rattle.lists.specs.Search.{Search, at, nowhere}
use Rattle.layout.specs.declared.Frame.{Frame}
use Rattle.layout.specs.Layout.{multiframe_frames}
use Rattle.frames.specs.Frames.{zero_frame}
use Rattle.wrong_frames.specs.WrongFrames.{frame_count, ends_early}
use Rattle.wrong_frames.specs.Types.{Found}

-- what the code's search found
abbrev pub found_as : Found → Search
found_as (Some f) = at f.0
found_as None = nowhere

-- each of the first n frames can be tested
abbrev pub CanTest : ℕ → (Frame → Type 0) → Type 0
CanTest n pre = (k : ℕ) → k < n → pre (record { 0 = k })

-- the first of n frames of which the test says so, or none of them is one; `says k b` if it may answer b of frame k
unfoldable pub FirstOf : ℕ → (Frame → Bool → Type 0) → Found → Type 0
FirstOf n says (Some f) = (f.0 < n) × says f true × ((k : ℕ) → k < f.0 → says (record { 0 = k }) false)
FirstOf n says None = (k : ℕ) → k < n → says (record { 0 = k }) false

-- ---- when a zero frame ends the utterance too early
module _ (idx : List ℕ) (k : ℕ) where
  pub early_last : k + 1 ≡ frame_count idx → ends_early idx k ≡ zero_frame idx k
  early_last e = rw (eq-eqb (k + 1) (frame_count idx) e)

  pub early_boundary : (k + 1 ≡ frame_count idx → ⊥) → (k + 1) % multiframe_frames ≡ 0 → ends_early idx k ≡ zero_frame idx k
  early_boundary n e = rw (ne_eqb (k + 1) (frame_count idx) n, eq-eqb ((k + 1) % multiframe_frames) 0 e)

  pub early_never : (k + 1 ≡ frame_count idx → ⊥) → ((k + 1) % multiframe_frames ≡ 0 → ⊥) → ends_early idx k ≡ false
  early_never n m = rw (ne_eqb (k + 1) (frame_count idx) n, ne_eqb ((k + 1) % multiframe_frames) 0 m)
