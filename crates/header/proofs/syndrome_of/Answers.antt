-- The syndrome is put together from the parity against the received one and the count of ones. Assumes nothing.
use lib.Bits.{mask_lt}
use Rattle.header_code.specs.Code.Syndrome.{syndrome_packed}
use Rattle.header.proofs.syndrome_of.Goals as goal

pub parity_of-requires : goal.parity_of-requires
parity_of-requires c = mask_lt c.args.word 16

pub returns : goal.returns
returns c = syndrome_packed c.args.word c.parity_of.result c.parity_of.ensures
