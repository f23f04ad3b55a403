-- A codeword is read as it stands; any other word is handed on with what is wrong with it. Assumes nothing.
use mathlib.Core.Path.{refl}
use lib.Bits.{and_mask}
use Rattle.header.proofs.Search.{clean}
use Rattle.header.proofs.read.Goals as goal

pub returns : goal.returns
returns c =
    clean c.args.word _ _ c.ranges.word.fits c.syndrome_of-wrong.ensures c.if-wrong-ne0.false (and_mask c.args.word 16) refl
