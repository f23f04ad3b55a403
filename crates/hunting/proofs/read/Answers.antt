-- `read` meets its contract: what turns the tables away, then 21, then what is found. Assumes nothing.
use Rattle.std.proofs.Common.{sym, subst}
use Rattle.std.proofs.lemmas.Bool.{false_from_ne_true}
use Rattle.std.proofs.lemmas.Result.{err_from_is_err_and}
use Rattle.hunting.proofs.Ends.{not_admitted, out_of_range, in_range_lem}
use Rattle.tables.specs.Tables.{tables_of, RightTables}
use Rattle.tables.proofs.AdmittedLaws.{passes_right, admitted_is}
use Rattle.hunting.proofs.read.Goals as goal

pub returns-in_err-tables : goal.returns-in_err-tables
returns-in_err-tables c =
    let a = c.args in
    let p = err_from_is_err_and c.from_residual.result c.from_residual.ensures.1 in
    rw (p.1, p.2) (not_admitted a.choices a.octets.now a.from a.least (tables_of a.codebook.now a.thresholds.now) a.index.now a.report.now _ (sym c.in_err-tables.ensures))

pub read_found-requires : goal.read_found-requires
read_found-requires c =
    let tables = tables_of c.args.codebook.now c.args.thresholds.now in
    subst RightTables (sym (admitted_is tables (sym c.in_ok-tables.ensures))) (passes_right tables (sym c.in_ok-tables.ensures))

pub returns-in-Some : goal.returns-in-Some
returns-in-Some c =
    let a = c.args in
    let tables = tables_of a.codebook.now a.thresholds.now in
    let found = rw (admitted_is tables (sym c.in_ok-tables.ensures), c.in-Some.ensures.1) at c.read_found.ensures in
    in_range_lem a.choices a.octets.now a.from a.least tables a.index.now a.report.now (sym c.in_ok-tables.ensures) c.in-Some.ensures.0 _ found

pub returns-in-None : goal.returns-in-None
returns-in-None c =
    let a = c.args in
    out_of_range a.choices a.octets.now a.from a.least (tables_of a.codebook.now a.thresholds.now) a.index.now a.report.now (sym c.in_ok-tables.ensures) (false_from_ne_true _ c.in-None.ensures)
