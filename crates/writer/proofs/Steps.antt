-- The last step by which the code writes.
-- Assumes nothing.
use Rattle.std.specs.Prelude.{Ok, Err}
use mathlib.Core.Path.{◌≡◌, sym, ap, ◌∙◌}
use mathlib.Core.List.{List}
use Prim.Native.Nat.{ℕ, ◌*◌, ◌/◌}
use native.Mathlib.Omega.{arith}
use lib.ListN.{length}
use Rattle.lists.specs.Parts.{over}
use Rattle.settings.specs.declared.Settings.{Settings}
use Rattle.layout.specs.Layout.{multiframe_octets}
use Rattle.image.specs.Image.{image}
use Rattle.wrong_frames.specs.WrongFrames.{frame_count}
use Rattle.writer.specs.Writing.{verdict, multiframes_for, outcome, writing}
use Rattle.refusals.specs.declared.Writing.{Writing as Refusal}
use Rattle.writer.proofs.Laws.{accepted}

-- the writer's end: the first n octets are the image, the rest is as it came
pub finishes : (settings : Settings) (idx out done : List ℕ) (n : ℕ) → verdict settings idx (length out) ≡ Ok n
    → done ≡ over out 0 (multiframe_octets * (n / multiframe_octets)) (image settings idx (n / multiframe_octets))
    → outcome (Ok n) done ≡ writing settings idx out
unfolding writing
finishes settings idx out done n e ed =
    let a = accepted settings idx (length out) n e in
    let q : n / multiframe_octets ≡ multiframes_for (frame_count idx) = omega (arith, a.octets_needed) in
    let p : multiframe_octets * multiframes_for (frame_count idx) ≡ n = sym a.octets_needed in
    rw e (ap (outcome (Ok n)) (ed ∙ ap (λ (m : ℕ). over out 0 (multiframe_octets * m) (image settings idx m)) q
    ∙ ap (λ (k : ℕ). over out 0 k (image settings idx (multiframes_for (frame_count idx)))) p))

pub leaves : (settings : Settings) (idx out : List ℕ) (r : Refusal) → verdict settings idx (length out) ≡ Err r → outcome (Err r) out ≡ writing settings idx out
unfolding writing
leaves settings idx out r e = rw e
