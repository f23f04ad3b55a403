-- What an accepted utterance has (01, "Writing").
-- Assumes nothing.
use Rattle.std.specs.Prelude.{◌≡◌, refl, false, List, ℕ, ◌+◌, ◌-◌, ◌*◌, ◌%◌, ◌≤◌, ◌<◌, ltb, get_or}
use Rattle.std.proofs.Common.{sym, ◌∙◌, arith, ltb-false}
use Rattle.std.proofs.Math.Decide.{ℕ_discrete}
use Rattle.lists.specs.Tests.{true_false}
use Rattle.lists.specs.Search.{Search, at, nowhere, first_from, is_found, first_nowhere}
use Rattle.settings.specs.declared.Settings.{Settings}
use Rattle.layout.specs.Layout.{frame_indices, most_narrow, multiframe_frames}
use Rattle.frames.specs.Frames.{Nonzero, unzero}
use Rattle.wrong_frames.specs.WrongFrames.{frame_count, is_wide, ends_early}
use Rattle.wrong_frames.specs.Laws.{early_last, early_boundary}
use Rattle.writer.specs.Laws.{Accepted}

-- ---- what an accepted utterance has
module _ (settings : Settings) (idx : List ℕ) (out n : ℕ) (a : Accepted settings idx out n) where
  -- ITS LAST FRAME IS NOT ZERO
  pub last_speaks : (k : ℕ) → k + 1 ≡ frame_count idx → Nonzero idx k
  last_speaks k e = unzero idx k (sym (early_last idx k e) ∙ first_nowhere (ends_early idx) 0 (frame_count idx) a.speaks k (omega arith) (omega arith))

  -- NOR IS A FRAME WHOSE NUMBER FROM 1 IS A MULTIPLE OF 24
  pub boundary_speaks : (k : ℕ) → k < frame_count idx → (k + 1) % multiframe_frames ≡ 0 → Nonzero idx k
  boundary_speaks k h z =
      elim (ℕ_discrete (k + 1) (frame_count idx)) [
        | yes e ↦ last_speaks k e
        | no d ↦ unzero idx k (sym (early_boundary idx k d z) ∙ first_nowhere (ends_early idx) 0 (frame_count idx) a.speaks k (omega arith) (omega arith))
      ]

  -- THE FIRST SIX INDICES OF EVERY FRAME ARE AT MOST 63
  pub narrow : (k j : ℕ) → k < frame_count idx → j < frame_indices - 1 → get_or idx (frame_indices * k + j) 0 ≤ most_narrow
  narrow k j h l =
      ltb-false most_narrow (get_or idx (frame_indices * k + j) 0)
      (go (first_from (λ j. ltb most_narrow (get_or idx j 0)) (frame_indices * k) (frame_indices - 1)) refl
      (first_nowhere (is_wide idx) 0 (frame_count idx) a.narrow_indices k (omega arith) (omega arith)))
    where
      go : (s : Search) → first_from (λ j. ltb most_narrow (get_or idx j 0)) (frame_indices * k) (frame_indices - 1) ≡ s → is_found s ≡ false
          → ltb most_narrow (get_or idx (frame_indices * k + j) 0) ≡ false
      go (at i) f z = absurd (true_false z)
      go nowhere f z = first_nowhere (λ j. ltb most_narrow (get_or idx j 0)) (frame_indices * k) (frame_indices - 1) f (frame_indices * k + j) (omega arith) (omega arith)
