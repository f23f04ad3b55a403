-- Each answer is the definition's, by the tests and searches that led to it: a law for each. Assumes nothing.
use Rattle.std.proofs.Common.{◌≡◌, Bool, true, List, ℕ, ◌/◌, ◌%◌, ◌≤◌, length, sym, ◌∙◌, arith}
use Rattle.settings.specs.declared.Settings.{Settings}
use Rattle.settings.specs.Settings.{settings_right}
use Rattle.layout.specs.Layout.{frame_indices, most_frames}
use Rattle.writer.specs.Laws.{Sized}
use Rattle.writer.proofs.Laws.{refuses_settings, refuses_part, refuses_many, refuses_wide, refuses_zero, refuses_short, accepts}
use Rattle.writer.proofs.decide.Goals as goal

-- what the first three tests let through
sized : (settings : Settings) (idx : List ℕ) (right : Bool) → right ≡ settings_right settings → right ≡ true → length idx % frame_indices ≡ 0
    → length idx / frame_indices ≤ most_frames → Sized settings idx
sized settings idx right is passed whole few = record { right = sym is ∙ passed; whole = whole; few = few }

pub returns-then-not-is_right : goal.returns-then-not-is_right
returns-then-not-is_right c =
    sym (refuses_settings c.args.settings c.args.indices.now c.args.room (sym c.is_right.ensures ∙ c.if-not-is_right.true))

pub returns-then-indices-ne0 : goal.returns-then-indices-ne0
returns-then-indices-ne0 c =
    sym (refuses_part c.args.settings c.args.indices.now c.args.room (sym c.is_right.ensures ∙ c.if-not-is_right.false) c.if-indices-ne0.true)

pub returns-then-frames-gt-FRAMES : goal.returns-then-frames-gt-FRAMES
returns-then-frames-gt-FRAMES c =
    sym (refuses_many c.args.settings c.args.indices.now c.args.room (sym c.is_right.ensures ∙ c.if-not-is_right.false) (omega (arith, c.if-indices-ne0.false)) c.if-frames-gt-FRAMES.true)

pub returns-in-Some : goal.returns-in-Some
returns-in-Some c =
    let z = sized c.args.settings c.args.indices.now c.is_right.result c.is_right.ensures c.if-not-is_right.false (omega (arith, c.if-indices-ne0.false)) (omega (arith, c.if-frames-gt-FRAMES.false)) in
    sym (refuses_wide c.args.settings c.args.indices.now c.args.room z _ (sym c.in-Some.ensures))

pub returns-in-Some-first_early : goal.returns-in-Some-first_early
returns-in-Some-first_early c =
    let z = sized c.args.settings c.args.indices.now c.is_right.result c.is_right.ensures c.if-not-is_right.false (omega (arith, c.if-indices-ne0.false)) (omega (arith, c.if-frames-gt-FRAMES.false)) in
    sym (refuses_zero c.args.settings c.args.indices.now c.args.room z (sym c.in_default.ensures) _ (sym c.in-Some-first_early.ensures))

pub returns-then-room-needed : goal.returns-then-room-needed
returns-then-room-needed c =
    let z = sized c.args.settings c.args.indices.now c.is_right.result c.is_right.ensures c.if-not-is_right.false (omega (arith, c.if-indices-ne0.false)) (omega (arith, c.if-frames-gt-FRAMES.false)) in
    sym (refuses_short c.args.settings c.args.indices.now c.args.room z (sym c.in_default.ensures) (sym c.in_default-first_early.ensures) c.if-room-needed.true)

pub returns : goal.returns
returns c =
    let z = sized c.args.settings c.args.indices.now c.is_right.result c.is_right.ensures c.if-not-is_right.false (omega (arith, c.if-indices-ne0.false)) (omega (arith, c.if-frames-gt-FRAMES.false)) in
    sym (accepts c.args.settings c.args.indices.now c.args.room z (sym c.in_default.ensures) (sym c.in_default-first_early.ensures) (omega (arith, c.if-room-needed.false)))
