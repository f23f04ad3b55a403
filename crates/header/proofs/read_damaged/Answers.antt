-- A pattern that was found mends the word, and where none was the word is lost. Assumes nothing.
use mathlib.Core.Path.{refl}
use lib.Bits.{bit_xor, and_mask}
use Rattle.header.proofs.Search.{miss_none, lost, found}
use Rattle.header.proofs.read_damaged.Goals as goal

pub returns-in_err-codeword : goal.returns-in_err-codeword
returns-in_err-codeword c =
    let none = c.in_err-codeword.ensures c.args.word c.requires.0 in
    rw c.from_residual.ensures (lost c.args.word c.ranges.word.fits (miss_none c.args.word _ c.requires.0 c.requires.1) none.0 none.1)

pub returns : goal.returns
returns c =
    let e = c.in_ok-codeword.field-0 in
    found c.args.word e _ c.ranges.word.fits (c.in_ok-codeword.ensures c.args.word c.requires.0) (and_mask (bit_xor c.args.word e) 16) refl
