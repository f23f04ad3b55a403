-- What was decided is finished: written in full, or left as it came. Number and place are those of that answer. Assumes nothing.
use Rattle.std.specs.Prelude.{Err}
use Rattle.std.proofs.Common.{rules, ◌≡◌, sym, ap}
use Rattle.writer.specs.Writing.{Outcome, number_of, place_of}
use Rattle.writer.proofs.Steps.{finishes, leaves}
use Rattle.writer.proofs.write.Goals as goal

pub returns-in_err-octets-clause-all : goal.returns-in_err-octets-clause-all
returns-in_err-octets-clause-all c =
    let e : c.from_residual.result ≡ Err c.in_err-octets.field-0.0 = search rules in
    rw e (leaves c.args.settings c.args.indices.now c.args.out.now _ (sym c.in_err-octets.ensures))

pub returns-in_err-octets-clause-number : goal.returns-in_err-octets-clause-number
returns-in_err-octets-clause-number c = ap (λ (o : Outcome). number_of o.answer) (returns-in_err-octets-clause-all c)

pub returns-in_err-octets-clause-place : goal.returns-in_err-octets-clause-place
returns-in_err-octets-clause-place c = ap (λ (o : Outcome). place_of o.answer) (returns-in_err-octets-clause-all c)

pub returns-clause-all : goal.returns-clause-all
returns-clause-all c = finishes c.args.settings c.args.indices.now c.args.out.now _ _ (sym c.in_ok-octets.ensures) c.put_image.ensures

pub returns-clause-number : goal.returns-clause-number
returns-clause-number c = ap (λ (o : Outcome). number_of o.answer) (returns-clause-all c)

pub returns-clause-place : goal.returns-clause-place
returns-clause-place c = ap (λ (o : Outcome). place_of o.answer) (returns-clause-all c)
