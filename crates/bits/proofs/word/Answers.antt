-- `bits::word` meets its contract: the eight octets are lent, and their number is the value of their bits.
-- Assumes nothing.
use Rattle.std.proofs.Common.{◌≡◌, ◌∙◌, ap, arith, rules}
use Rattle.std.specs.Int.{w64, from_le_bytes}
use Rattle.lists.specs.Parts.{part}
use Rattle.bits.proofs.Places.{word_value}
use Rattle.bits.proofs.word.Goals as goal

pub returns : goal.returns
returns c =
    let e : c.unwrap.result ≡ part c.args.i 8 c.args.s.now = search rules in
    c.from_le_bytes.ensures ∙ ap (from_le_bytes w64) e ∙ word_value c.args.s.now c.args.i (omega arith) (λ k. (c.type_inv.s k).fits)
