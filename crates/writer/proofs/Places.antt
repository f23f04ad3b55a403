-- Every place fits 64 bits, since the number of index octets does and no other place is larger than an image: by the tests of the verdict, one by one.
-- Assumes nothing.
use mathlib.Core.List.{List}
use Prim.Native.Nat.{ℕ, ◌%◌, ◌^◌, ◌≤◌, ◌<◌}
use native.Mathlib.Omega.{arith}
use lib.Dec.{eqb, ltb}
use lib.ListN.{length}
use borrow.Author.Tests.{ltb-false}
use Rattle.lists.specs.Tests.{by_test}
use Rattle.lists.specs.Search.{Search, at, nowhere, Says, first_says}
use Rattle.settings.specs.declared.Settings.{Settings}
use Rattle.settings.specs.Settings.{settings_right}
use Rattle.layout.specs.Layout.{frame_indices, most_frames}
use Rattle.wrong_frames.specs.WrongFrames.{frame_count, is_wide, ends_early, first_wide, first_early}
use Rattle.writer.specs.Writing.{place_of, room_answer, early_answer, wide_answer, needed, verdict}
use Rattle.writer.specs.Types.{Answer}

module _ (settings : Settings) (idx : List ℕ) (out : ℕ) (octets_fit : length idx < 2 ^ 64) where
  abbrev Fits : Answer → Type 0
  Fits a = place_of a < 2 ^ 64

  early_fits : (s : Search) → frame_count idx ≤ most_frames → Says (ends_early idx) 0 (frame_count idx) s → Fits (early_answer out (needed idx) s)
  unfolding room_answer
  early_fits (at k) few h = omega (arith, h.1)
  early_fits nowhere few h = by_test Fits (ltb out (needed idx)) (λ r. omega arith) (λ r. omega arith)

  wide_fits : (s : Search) → frame_count idx ≤ most_frames → Says (is_wide idx) 0 (frame_count idx) s → Fits (wide_answer out (needed idx) (first_early idx) s)
  wide_fits (at k) few h = omega (arith, h.1)
  wide_fits nowhere few h = early_fits (first_early idx) few (first_says (ends_early idx) 0 (frame_count idx))

  pub verdict_fits : place_of (verdict settings idx out) < 2 ^ 64
  unfolding verdict
  verdict_fits =
      by_test Fits (settings_right settings) (λ s.
      by_test Fits (eqb (length idx % frame_indices) 0) (λ w.
      by_test Fits (ltb most_frames (frame_count idx)) (λ f. omega arith) (λ f. wide_fits (first_wide idx) (ltb-false most_frames (frame_count idx) f) (first_says (is_wide idx) 0 (frame_count idx))))
      (λ w. octets_fit)) (λ s. omega arith)
