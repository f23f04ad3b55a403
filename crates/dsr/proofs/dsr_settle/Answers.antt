-- The answer before the end, told, of the choices that the number names. Assumes nothing.
use Rattle.std.proofs.Common.{ap}
use Rattle.choices.specs.Choices.{asked}
use Rattle.choices.specs.declared.Choices.{Choices}
use Rattle.until_settled.specs.UntilSettled.{until_settled}
use Rattle.entries.specs.Settle.{settle_numbers, settle_given}
use Rattle.dsr.proofs.Told.{not_read, read}
use Rattle.dsr.proofs.dsr_settle.Goals as goal

pub returns-in-Err : goal.returns-in-Err
returns-in-Err c =
    not_read settle_numbers c.args.answer.now c.args.place.now _ _ (λ (ch : Choices). settle_given (until_settled ch c.args.octets.now)) (asked c.args.choices) _ c.in-Err.ensures

pub returns-in-Ok : goal.returns-in-Ok
returns-in-Ok c =
    read settle_numbers c.args.answer.now c.args.place.now _ _ (λ (ch : Choices). settle_given (until_settled ch c.args.octets.now)) (asked c.args.choices) _ c.in-Ok.ensures
    _ _ _ _ _ _ (ap settle_given c.read.ensures) c.tell.ensures
