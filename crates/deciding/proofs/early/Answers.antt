-- `early` meets its contract: the tests stand in the definition's order. Assumes nothing.
use Prim.Native.Nat.{◌*◌}
use mathlib.Core.Path.{◌≡◌, sym, ◌∙◌}
use mathlib.Core.Bool.{false}
use Rattle.std.proofs.Common.{arith}
use Rattle.std.proofs.lemmas.Bool.Decides.{nat_tests}
use borrow.Author.Tests.{lt-ltb, le-ltb}
use Rattle.unfit.specs.Unfit.{unfit}
use Rattle.deciding.specs.Steps.{early_verdict}
use Rattle.deciding.proofs.early.Goals as goal

pub returns-then-is_unfit : goal.returns-then-is_unfit
unfolding early_verdict
returns-then-is_unfit c = rw (sym c.is_unfit.ensures ∙ c.if-is_unfit.true)

pub returns-then-index-m : goal.returns-then-index-m
unfolding early_verdict
returns-then-index-m c =
    let fit : unfit c.args.common ≡ false = sym c.is_unfit.ensures ∙ c.if-is_unfit.false in
    rw (fit, lt-ltb c.args.index (168 * c.args.m) c.if-index-m.true)

pub returns-then-report-m : goal.returns-then-report-m
unfolding early_verdict
returns-then-report-m c =
    let fit : unfit c.args.common ≡ false = sym c.is_unfit.ensures ∙ c.if-is_unfit.false in
    rw fit (grind (arith, nat_tests))

pub returns : goal.returns
unfolding early_verdict
returns c =
    let fit : unfit c.args.common ≡ false = sym c.is_unfit.ensures ∙ c.if-is_unfit.false in
    rw (fit, le-ltb c.args.index (168 * c.args.m) c.if-index-m.false, le-ltb c.args.report (13 * c.args.m) c.if-report-m.false)
