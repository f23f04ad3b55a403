-- `read` meets its contract: the tables, and then the reading by those that are admitted. Assumes nothing.
use Rattle.std.proofs.Common.{sym, subst}
use Rattle.std.proofs.lemmas.Result.{err_from_is_err_and}
use Rattle.tables.specs.Tables.{tables_of, RightTables}
use Rattle.tables.proofs.AdmittedLaws.{passes_right, admitted_is}
use Rattle.reader.proofs.FirstTests.{not_admitted}
use Rattle.reader.proofs.Steps.{in_numbers}
use Rattle.reader.proofs.read.Goals as goal

pub returns-in_err-tables : goal.returns-in_err-tables
returns-in_err-tables c =
    let a = c.args in
    let tables = tables_of a.codebook.now a.thresholds.now in
    let p = err_from_is_err_and c.from_residual.result c.from_residual.ensures.1 in
    let n = in_numbers a.choices a.octets.now tables a.index.now a.report.now
    (not_admitted a.choices a.octets.now tables a.index.now a.report.now _ (sym c.in_err-tables.ensures)) in
    rw (p.1, p.2) (record { all = n.0; number = n.1.0; values = n.1.1 })

pub read_admitted-requires : goal.read_admitted-requires
read_admitted-requires c =
    let tables = tables_of c.args.codebook.now c.args.thresholds.now in
    subst RightTables (sym (admitted_is tables (sym c.in_ok-tables.ensures))) (passes_right tables (sym c.in_ok-tables.ensures))

pub returns : goal.returns
returns c =
    let a = c.args in
    let tables = tables_of a.codebook.now a.thresholds.now in
    let n = in_numbers a.choices a.octets.now tables a.index.now a.report.now (rw (admitted_is tables (sym c.in_ok-tables.ensures)) at c.read_admitted.ensures) in
    record { all = n.0; number = n.1.0; values = n.1.1 }
