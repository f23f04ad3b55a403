-- Each field is a shift and a mask, and fits its octet. Assumes nothing.
use Rattle.message.specs.Message.Laws.{rate_masked, type_masked, count_masked, exp_shifted}
use Rattle.message.proofs.FieldsFromU16.from.Goals as goal

pub returns : goal.returns
returns c =
    let m = c.args.message in
    simp (rate_masked m, type_masked m, count_masked m, exp_shifted m c.ranges.message.fits)
