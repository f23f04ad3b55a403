-- The hunting reader's answer, told, of the choices that the number names. Assumes nothing.
use Rattle.std.proofs.Common.{ap}
use Rattle.choices.specs.Choices.{asked}
use Rattle.choices.specs.declared.Choices.{Choices}
use Rattle.tables.specs.Tables.{tables_of}
use Rattle.hunting.specs.Hunting.{hunting_reading}
use Rattle.entries.specs.Bits.{counted_numbers, bits_given}
use Rattle.dsr.proofs.Told.{not_read, read}
use Rattle.dsr.proofs.dsr_read_bits.Goals as goal

pub returns-in-Err : goal.returns-in-Err
returns-in-Err c =
    not_read counted_numbers c.args.answer.now c.args.place.now c.args.index.now c.args.report.now
    (λ (ch : Choices). bits_given (hunting_reading ch c.args.octets.now c.args.from c.args.least (tables_of c.args.codebook.now c.args.thresholds.now) c.args.index.now c.args.report.now))
    (asked c.args.choices) _ c.in-Err.ensures

pub returns-in-Ok : goal.returns-in-Ok
returns-in-Ok c =
    read counted_numbers c.args.answer.now c.args.place.now c.args.index.now c.args.report.now
    (λ (ch : Choices). bits_given (hunting_reading ch c.args.octets.now c.args.from c.args.least (tables_of c.args.codebook.now c.args.thresholds.now) c.args.index.now c.args.report.now))
    (asked c.args.choices) _ c.in-Ok.ensures _ _ _ _ _ _ (ap bits_given c.read-read.ensures) c.tell.ensures
