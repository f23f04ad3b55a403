-- `read_found` meets its contract by what `gather` answers (`Ends`). Assumes nothing.
use Rattle.std.proofs.Common.{arith, refl, ◌*◌, ◌≤◌, length}
use lib.Seq.{length-take-le}
use Rattle.std.proofs.lemmas.Result.{err_from_is_err_and}
use Rattle.tables.specs.Lending.{lent_tables}
use Rattle.hunting.proofs.Ends.{read_counted, some_room, ends_many, ends_nowhere, ends_read}
use Rattle.hunting.proofs.read_found.Goals as goal

pub returns-then-count-eq0 : goal.returns-then-count-eq0
returns-then-count-eq0 c =
    ends_nowhere c.args.choices c.args.octets.now c.args.from c.args.least (lent_tables c.args.tables.now) c.args.index.now c.args.report.now _ _ c.in-Ok.ensures.answer c.if-count-eq0.true

pub outside_of-outside-requires : goal.outside_of-outside-requires
outside_of-outside-requires c =
    some_room c.args.choices c.args.octets.now c.args.from c.args.least _ _ c.in-Ok.ensures.answer c.if-count-eq0.false

pub overflow_mul-image : goal.overflow_mul-image
overflow_mul-image c =
    let few = (some_room c.args.choices c.args.octets.now c.args.from c.args.least _ _ c.in-Ok.ensures.answer c.if-count-eq0.false).1 in
    record { fits = omega (arith, few) }

pub slice_bounds-image-end : goal.slice_bounds-image-end
slice_bounds-image-end c =
    let few = (some_room c.args.choices c.args.octets.now c.args.from c.args.least _ _ c.in-Ok.ensures.answer c.if-count-eq0.false).1 in
    omega (arith, few, c.gather.auto.image)

pub slice_bounds-found-end : goal.slice_bounds-found-end
slice_bounds-found-end c =
    let few = (some_room c.args.choices c.args.octets.now c.args.from c.args.least _ _ c.in-Ok.ensures.answer c.if-count-eq0.false).1 in
    let fits : 144 * c.in-Ok.field-0.count ≤ length c.gather.new.image = omega (arith, few, c.gather.auto.image) in
    omega (arith, few, length-take-le (144 * c.in-Ok.field-0.count) c.gather.new.image fits)

pub returns-in-Err : goal.returns-in-Err
returns-in-Err c =
    ends_many c.args.choices c.args.octets.now c.args.from c.args.least (lent_tables c.args.tables.now) c.args.index.now c.args.report.now _ c.in-Err.ensures.answer

pub returns-in_err-summary-in-Ok : goal.returns-in_err-summary-in-Ok
returns-in_err-summary-in-Ok c =
    let p = err_from_is_err_and c.from_residual.result c.from_residual.ensures.1 in
    rw (p.1, p.2) (ends_read c.args.choices c.args.octets.now c.args.from c.args.least (lent_tables c.args.tables.now) c.args.index.now c.args.report.now _ _ c.in-Ok.ensures.answer _ c.outside_of-outside.result _ c.if-count-eq0.false c.gather.ensures.image
    c.outside_of-outside.ensures (read_counted _ _ _ _ _ _ _ c.in_err-summary-in-Ok.ensures refl))

pub returns-in_ok-summary-in-Ok : goal.returns-in_ok-summary-in-Ok
returns-in_ok-summary-in-Ok c =
    ends_read c.args.choices c.args.octets.now c.args.from c.args.least (lent_tables c.args.tables.now) c.args.index.now c.args.report.now _ _ c.in-Ok.ensures.answer _ c.outside_of-outside.result _ c.if-count-eq0.false c.gather.ensures.image
    c.outside_of-outside.ensures (read_counted _ _ _ _ _ _ _ c.in_ok-summary-in-Ok.ensures refl)
