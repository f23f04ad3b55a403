-- The mask and the shift there and back keep all but the counter. Assumes nothing.
use Rattle.message.specs.Message.Laws.{common_masked}
use Rattle.message.proofs.common_of.Goals as goal

pub returns : goal.returns
returns c = common_masked c.args.message c.ranges.message.fits
