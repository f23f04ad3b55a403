-- `at_end` meets its contract: no multiframe, or what all the headers settle. Assumes nothing.
use Rattle.std.specs.Prelude.{◌≡◌, Some, None}
use Rattle.std.proofs.Common.{arith}
use Rattle.std.proofs.lemmas.Result.{err_from_is_err_and}
use mathlib.Core.Path.{ap, sym, ◌∙◌}
use lib.ListN.{length}
use Rattle.refusals.specs.declared.Reading.TheVariants.{Unsettled}
use Rattle.until_settled.specs.UntilSettled.{settled_answer}
use Rattle.beginning.proofs.Steps.{ended_empty, ended_by}
use Rattle.beginning.proofs.at_end.Goals as goal

pub returns-then-is_empty : goal.returns-then-is_empty
returns-then-is_empty c = ended_empty c.args.choices c.args.octets c.args.headers.now (grind arith)

pub returns-in_err-common : goal.returns-in_err-common
returns-in_err-common c =
    let p = err_from_is_err_and c.from_residual.result c.from_residual.ensures.1 in
    let none : c.settle.result ≡ None = grind arith in
    let left : c.in_err-common.field-0.0 ≡ Unsettled = grind arith in
    ended_by c.args.choices c.args.octets c.args.headers.now (λ z. grind arith) c.settle.result c.settle.ensures _
    (rw (p.1, p.2, left) (ap (settled_answer (length c.args.headers.now)) (sym none)))

pub returns : goal.returns
returns c =
    let some : c.settle.result ≡ Some c.in_ok-common.common = grind arith in
    ended_by c.args.choices c.args.octets c.args.headers.now (λ z. grind arith) c.settle.result c.settle.ensures c.settled.result
    (c.settled.ensures ∙ ap (settled_answer (length c.args.headers.now)) (sym some))
