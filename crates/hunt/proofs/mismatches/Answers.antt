-- `mismatches` meets its contract: the bits that do not match are those set in the difference. Assumes nothing.
use Rattle.std.proofs.Common.{refl}
use lib.Bits.{and_mask}
use lib.Dec.{lit<}
use Rattle.bits.specs.Bits.{field, fields}
use Rattle.hunt.proofs.Steps.{all_bits}
use Rattle.hunt.proofs.mismatches.Goals as goal

pub returns : goal.returns
unfolding field fields
returns c = all_bits c.args.head _ _ (and_mask c.args.head 16) refl (lit< tt)
