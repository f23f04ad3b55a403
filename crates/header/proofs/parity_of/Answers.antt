-- The shifts of the code are those of the law. Assumes nothing.
use Rattle.header_code.proofs.Shifts.{parity_by_shifts}
use Rattle.header.proofs.parity_of.Goals as goal

pub returns : goal.returns
returns c = parity_by_shifts c.args.message c.requires
