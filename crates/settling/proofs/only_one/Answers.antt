-- `only_one` meets its contract. Assumes nothing.
use Rattle.std.proofs.Common.{sym, ◌∙◌, arith}
use Rattle.settling.proofs.Laws.{not_only}
use Rattle.header_readings.specs.Stored.{length_open}
use Rattle.settling.proofs.Steps.{only_lost, only_clean}
use Rattle.settling.proofs.only_one.Goals as goal

pub returns-in_default : goal.returns-in_default
returns-in_default c = sym (not_only _ (λ e. omega (arith, length_open c.args.headers.now)))

pub returns-in_default-2 : goal.returns-in_default-2
returns-in_default-2 c = sym (not_only _ (λ e. omega (arith, length_open c.args.headers.now)))

pub returns-in_err-d : goal.returns-in_err-d
returns-in_err-d c =
    let o = c.open_reading in
    c.from_residual.ensures ∙ only_lost _ (omega arith) o.result o.ensures c.in_err-d.was

pub returns : goal.returns
returns c =
    let o = c.open_reading in
    only_clean _ (omega arith) o.result o.ensures _ _ _ c.in_ok-d.was c.common_of.ensures c.then_some.ensures
