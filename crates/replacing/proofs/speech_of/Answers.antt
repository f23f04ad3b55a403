-- `speech_of` meets its contract: the frames passed from behind are zero, so what is left has the last nonzero one.
-- Assumes nothing.
use native.Mathlib.Omega.{arith}
use mathlib.Core.Path.{◌≡◌, ap, sym, ◌∙◌}
use Prim.Native.Nat.{◌-◌, ◌*◌}
use Rattle.layout.specs.Layout.{multiframe_frames}
use Rattle.replacing.specs.Speech.{last_nonzero, place_on, place_stop, place_none, speech_is}
use Rattle.replacing.proofs.speech_of.Goals as goal

pub loop-n-preserved : goal.loop-n-preserved
loop-n-preserved c = grind (arith, place_on c.args.index.now c.first_frame-first.result.0 c.loop-n.n)

pub returns-then-not-is_zero : goal.returns-then-not-is_zero
returns-then-not-is_zero c =
    let i = c.first_frame-first.result.0 in
    let n = c.loop-n.n in
    let first : i ≡ multiframe_frames * (c.args.m - 1) = omega arith in
    let place = place_stop c.args.index.now i n (omega arith) (sym c.is_zero.ensures ∙ c.if-not-is_zero.true) in
    let speech = speech_is c.args.index.now c.args.m i n first (sym place ∙ c.loop-n.invariant) in
    omega (arith, speech)

pub returns : goal.returns
returns c =
    let i = c.first_frame-first.result.0 in
    let none : c.loop-n.n ≡ 0 = omega arith in
    let first : i ≡ multiframe_frames * (c.args.m - 1) = omega arith in
    let place : 0 ≡ last_nonzero c.args.index.now i multiframe_frames =
    sym (place_none c.args.index.now i) ∙ ap (last_nonzero c.args.index.now i) (sym none) ∙ c.loop-n.invariant in
    let speech = speech_is c.args.index.now c.args.m i 0 first place in
    omega (arith, speech)
