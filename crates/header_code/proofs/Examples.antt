-- The worked examples of 01 on headers that count ones of the codeword of SampRate 1. The one table of the examples cites them. Assumes nothing.
use Rattle.std.specs.Prelude.{◌≡◌, ℕ}
use Rattle.std.proofs.Common.{sym, ap, ◌∙◌, lit<}
use Rattle.std.specs.Int.Bits.{bit_xor}
use Rattle.std.specs.Int.Count.{ones, ones_in}
use Rattle.polynomials.specs.Light.{ones_in_lem}
use Rattle.header_code.specs.Code.{codeword, flips_to}
use Rattle.header_code.specs.Code.Examples.{codeword_0, codeword_1}

-- SampRate 1 alone has six ones: two codewords that differ in six bits
pub six_ones : ones (codeword 1) ≡ 6
unfolding ones_in
six_ones = ap ones codeword_1 ∙ sym (ones_in_lem 32 0xD1010001 (lit< tt))

pub six_differ : ones (bit_xor (codeword 0) (codeword 1)) ≡ 6
six_differ = ap (λ (x : ℕ). ones (bit_xor x (codeword 1))) codeword_0 ∙ six_ones

-- 01 00 01 01 is three from SampRate 1 alone too
pub three_from_rate_1 : flips_to 0x01010001 1 ≡ 3
unfolding flips_to ones_in
three_from_rate_1 = ap (λ (x : ℕ). ones (bit_xor 0x01010001 x)) codeword_1 ∙ sym (ones_in_lem 32 0xD0000000 (lit< tt))
