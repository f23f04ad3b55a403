-- Laws of the writer's definitions: answers, and what an accepted utterance has.
-- Assumes nothing.
use Rattle.std.specs.Prelude.{◌≡◌, true, false, List, ℕ, ◌%◌, ◌≤◌, ◌<◌, length, eqb, ltb, Ok, Err}
use Rattle.std.proofs.Math.Path.{refl, ap}
use Rattle.std.proofs.Common.{◌∙◌, arith}
use borrow.Author.Tests.{eq-eqb, ne_eqb, lt-ltb, le-ltb, eqb-true, ltb-false}
use Rattle.lists.specs.Tests.{by_test}
use Rattle.lists.specs.Search.{Search, at, nowhere}
use Rattle.settings.specs.declared.Settings.{Settings}
use Rattle.settings.specs.Settings.{settings_right}
use Rattle.layout.specs.Layout.{frame_indices, most_frames, most_multiframes}
use Rattle.wrong_frames.specs.WrongFrames.{frame_count, first_wide, first_early}
use Rattle.writer.specs.Writing.{room_answer, early_answer, wide_answer, needed, verdict, multiframes_for}
use Rattle.writer.specs.Types.{Answer}
use Rattle.refusals.specs.declared.Writing.TheVariants.{WrongSettings, PartFrame, TooMany, WideIndex, ZeroFrame, OutputShort}
use Rattle.writer.specs.Laws.{Accepted, Sized}

module _ (settings : Settings) (idx : List ℕ) (out : ℕ) where
  pub refuses_settings : settings_right settings ≡ false → verdict settings idx out ≡ Err WrongSettings
  unfolding verdict
  refuses_settings e = rw e

  pub refuses_part : settings_right settings ≡ true → (length idx % frame_indices ≡ 0 → ⊥) → verdict settings idx out ≡ Err (PartFrame (length idx))
  unfolding verdict
  refuses_part e n = rw (e, ne_eqb (length idx % frame_indices) 0 n)

  pub refuses_many : settings_right settings ≡ true → length idx % frame_indices ≡ 0 → most_frames < frame_count idx
      → verdict settings idx out ≡ Err (TooMany (frame_count idx))
  unfolding verdict
  refuses_many e w h = rw (e, eq-eqb (length idx % frame_indices) 0 w, lt-ltb most_frames (frame_count idx) h)

  sized : Sized settings idx → verdict settings idx out ≡ wide_answer out (needed idx) (first_early idx) (first_wide idx)
  unfolding verdict
  sized s = rw (s.right, eq-eqb (length idx % frame_indices) 0 s.whole, le-ltb most_frames (frame_count idx) s.few)

  pub refuses_wide : Sized settings idx → (k : ℕ) → first_wide idx ≡ at k → verdict settings idx out ≡ Err (WideIndex (record { 0 = k }))
  refuses_wide s k e = sized s ∙ ap (wide_answer out (needed idx) (first_early idx)) e

  narrow : Sized settings idx → first_wide idx ≡ nowhere → verdict settings idx out ≡ early_answer out (needed idx) (first_early idx)
  narrow s e = sized s ∙ ap (wide_answer out (needed idx) (first_early idx)) e

  pub refuses_zero : Sized settings idx → first_wide idx ≡ nowhere → (k : ℕ) → first_early idx ≡ at k
      → verdict settings idx out ≡ Err (ZeroFrame (record { 0 = k }))
  refuses_zero s e k g = narrow s e ∙ ap (early_answer out (needed idx)) g

  pub refuses_short : Sized settings idx → first_wide idx ≡ nowhere → first_early idx ≡ nowhere → out < needed idx
      → verdict settings idx out ≡ Err (OutputShort (needed idx))
  unfolding room_answer
  refuses_short s e g h = narrow s e ∙ ap (early_answer out (needed idx)) g ∙ rw (lt-ltb out (needed idx) h)

  pub accepts : Sized settings idx → first_wide idx ≡ nowhere → first_early idx ≡ nowhere → needed idx ≤ out
      → verdict settings idx out ≡ Ok (needed idx)
  unfolding room_answer
  accepts s e g h = narrow s e ∙ ap (early_answer out (needed idx)) g ∙ rw (le-ltb out (needed idx) h)

module _ (settings : Settings) (idx : List ℕ) (out : ℕ) where
  abbrev AcceptedBy : Answer → Type 0
  AcceptedBy (Ok n) = Accepted settings idx out n
  AcceptedBy (Err r) = Unit

  accepted_by : AcceptedBy (verdict settings idx out)
  unfolding verdict room_answer
  accepted_by =
      by_test AcceptedBy (settings_right settings) (λ hs.
      by_test AcceptedBy (eqb (length idx % frame_indices) 0) (λ hw.
      by_test AcceptedBy (ltb most_frames (frame_count idx)) (λ h. tt) (λ hf.
      wide (first_wide idx) refl
      (record { right = hs; whole = eqb-true (length idx % frame_indices) 0 hw; few = ltb-false most_frames (frame_count idx) hf }))) (λ h. tt)) (λ h. tt)
    where
      early : (s : Search) → first_early idx ≡ s → first_wide idx ≡ nowhere → Sized settings idx → AcceptedBy (early_answer out (needed idx) s)
      early (at k) e w z = tt
      early nowhere e w z =
          by_test AcceptedBy (ltb out (needed idx)) (λ h. tt)
          (λ h. record { sizes = z; narrow_indices = w; speaks = e; octets_needed = refl; room = ltb-false out (needed idx) h })

      wide : (s : Search) → first_wide idx ≡ s → Sized settings idx → AcceptedBy (wide_answer out (needed idx) (first_early idx) s)
      wide (at k) e z = tt
      wide nowhere e z = early (first_early idx) refl e z

  pub accepted : (n : ℕ) → verdict settings idx out ≡ Ok n → Accepted settings idx out n
  accepted n e = rw e at accepted_by

-- 6,119 frames are 255 multiframes, and no accepted utterance has more
pub few_multiframes : (settings : Settings) (idx : List ℕ) → Sized settings idx → multiframes_for (frame_count idx) ≤ most_multiframes
few_multiframes settings idx s = omega (arith, s.few)
