-- The codeword is put together from the message, its parity and the count of ones. Assumes nothing.
use Rattle.header_code.specs.Code.Parity.{codeword_packed}
use Rattle.header.proofs.encode.Goals as goal

pub returns : goal.returns
returns c = codeword_packed c.args.message c.parity_of.result c.ranges.message.fits c.parity_of.ensures
