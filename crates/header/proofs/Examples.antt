-- Literal examples of how many flips are mended, which no law would notice if definition, laws and code were changed alike: of 08 00 0E EE, the
-- header of 8 kHz, type 0, count 1, with its first bits flipped.
-- Assumes nothing.
use Rattle.std.specs.Prelude.{◌≡◌, ℕ, Some}
use Rattle.std.proofs.Common.{ap, sym, ◌∙◌, arith, lit<}
use Rattle.std.specs.Int.Bits.{bit_xor}
use Rattle.std.specs.Int.Count.{ones, ones_in}
use Rattle.polynomials.specs.Light.{ones_in_lem}
use Rattle.header_code.specs.Code.{codeword, flips_to}
use Rattle.header_code.specs.Code.Examples.{of_octets, count_1}
use Rattle.header.proofs.Laws.{near_upto, beyond_upto, near, lost_at_three}
use Rattle.header.specs.Reading.Examples.{decoded, Table}

word : codeword 8 ≡ 0xEE0E0008
word = of_octets (codeword 8) 0x08 0x00 0x0E 0xEE count_1

away_0 : flips_to 0xEE0E0008 8 ≡ 0
unfolding flips_to ones_in
away_0 = ap (λ (x : ℕ). ones (bit_xor 0xEE0E0008 x)) word ∙ sym (ones_in_lem 32 0 (lit< tt))

away_1 : flips_to 0xEE0E0009 8 ≡ 1
unfolding flips_to ones_in
away_1 = ap (λ (x : ℕ). ones (bit_xor 0xEE0E0009 x)) word ∙ sym (ones_in_lem 32 1 (lit< tt))

away_2 : flips_to 0xEE0E000B 8 ≡ 2
unfolding flips_to ones_in
away_2 = ap (λ (x : ℕ). ones (bit_xor 0xEE0E000B x)) word ∙ sym (ones_in_lem 32 3 (lit< tt))

away_3 : flips_to 0xEE0E000F 8 ≡ 3
unfolding flips_to ones_in
away_3 = ap (λ (x : ℕ). ones (bit_xor 0xEE0E000F x)) word ∙ sym (ones_in_lem 32 7 (lit< tt))

pub table : Table
table = record {
  none_clean = near_upto 0 0xEE0E0008 (omega arith) 8 (lit< tt) (omega (arith, away_0)) ∙ ap (λ (f : ℕ). Some (decoded 8 f)) away_0;
  none_one_flip = beyond_upto 0 0xEE0E0009 (omega arith) 8 (lit< tt) (omega (arith, away_1)) (omega (arith, away_1));
  one_one_flip = near_upto 1 0xEE0E0009 (omega arith) 8 (lit< tt) (omega (arith, away_1)) ∙ ap (λ (f : ℕ). Some (decoded 8 f)) away_1;
  one_two_flips = beyond_upto 1 0xEE0E000B (omega arith) 8 (lit< tt) (omega (arith, away_2)) (omega (arith, away_2));
  two_flips = near 0xEE0E000B 8 (lit< tt) (omega (arith, away_2)) ∙ ap (λ (f : ℕ). Some (decoded 8 f)) away_2;
  three_flips = lost_at_three 0xEE0E000F 8 (lit< tt) away_3;
}
