-- The reader's answer, told, of the choices that the number names. Assumes nothing.
use Rattle.std.proofs.Common.{ap}
use Rattle.choices.specs.Choices.{asked}
use Rattle.choices.specs.declared.Choices.{Choices}
use Rattle.tables.specs.Tables.{tables_of}
use Rattle.reader.specs.Reading.{reading}
use Rattle.entries.specs.Entries.{answer_numbers, given_of}
use Rattle.dsr.proofs.Told.{not_read, read}
use Rattle.dsr.proofs.dsr_read.Goals as goal

pub returns-in-Err : goal.returns-in-Err
returns-in-Err c =
    not_read answer_numbers c.args.answer.now c.args.place.now c.args.index.now c.args.report.now
    (λ (ch : Choices). given_of (reading ch c.args.octets.now (tables_of c.args.codebook.now c.args.thresholds.now) c.args.index.now c.args.report.now)) (asked c.args.choices) _ c.in-Err.ensures

pub returns-in-Ok : goal.returns-in-Ok
returns-in-Ok c =
    read answer_numbers c.args.answer.now c.args.place.now c.args.index.now c.args.report.now
    (λ (ch : Choices). given_of (reading ch c.args.octets.now (tables_of c.args.codebook.now c.args.thresholds.now) c.args.index.now c.args.report.now)) (asked c.args.choices) _ c.in-Ok.ensures
    _ _ _ _ _ _ (ap given_of c.read-read.ensures.all) c.tell.ensures
