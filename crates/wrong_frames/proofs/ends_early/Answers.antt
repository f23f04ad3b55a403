-- The frame's number decides whether it must speak; if so, whether it is zero: a law for each case. Assumes nothing.
use Rattle.std.proofs.Common.{sym, ◌∙◌, ◌+◌, ◌%◌, ne_eqb}
use Rattle.layout.specs.Layout.{multiframe_frames}
use Rattle.wrong_frames.specs.Laws.{early_last, early_boundary, early_never}
use Rattle.wrong_frames.proofs.ends_early.Goals as goal

pub returns-then-number-indices : goal.returns-then-number-indices
returns-then-number-indices c = c.is_zero.ensures ∙ sym (early_last c.args.indices.now c.args.frame.0 c.if-number-indices.true)

pub returns-then-number-eq0 : goal.returns-then-number-eq0
returns-then-number-eq0 c =
    c.is_zero-then-number-eq0.ensures ∙ sym (early_boundary c.args.indices.now c.args.frame.0 c.if-number-indices.false c.if-number-eq0.true)

pub returns-else-number-eq0 : goal.returns-else-number-eq0
returns-else-number-eq0 c =
    ne_eqb ((c.args.frame.0 + 1) % multiframe_frames) 0 c.if-number-eq0.false
    ∙ sym (early_never c.args.indices.now c.args.frame.0 c.if-number-indices.false c.if-number-eq0.false)
