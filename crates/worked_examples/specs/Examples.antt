-- The worked examples of 01, "Examples at the edges", that are marked (P): one table, one line each, proved together.
-- The header code is shut here: its examples come from its own laws. Those of the CRC and of replacing stand beside their definitions.
-- Assumes nothing.
use Rattle.std.specs.Prelude.{◌≡◌, refl, Bool, true, false, List, [], ◌∷◌, ◌++◌, ℕ, length, replicate, None}
use Rattle.std.proofs.Common.{ap, ◌∙◌, lit<}
use Rattle.std.proofs.Math.Bool.{xor}
use Rattle.std.specs.Int.Count.{ones}
use Rattle.header_code.specs.Code.{codeword, flips_to}
use Rattle.header_code.specs.Code.Examples.{octets, count_1, count_2, count_3, rate_1, exp_9, three_from_zero}
use Rattle.header_code.proofs.Examples.{six_ones, three_from_rate_1}
use Rattle.message.specs.Message.{message}
use Rattle.message.specs.Message.Laws.{message_counts, message_nothing, message_rate_1, message_exp_9}
use Rattle.header.specs.Reading.{reading}
use Rattle.header.proofs.Laws.{lost_at_three}
use Rattle.layout.specs.Layout.{widths, data_bits, packet_bits}
use Rattle.settings.specs.Settings.{settings}
use Rattle.bits.specs.Bits.{field, laid}
use Rattle.crc.specs.Crc.{rem, crc, after, Right, flip}
use Rattle.packet.specs.Packet.{frame, guarded, packet}
use Rattle.packet.specs.Examples.{one_frame, zero_frame, crc_is_x, bit_90, flips_0_15, flips_0_14}
use Rattle.replacing.specs.Examples.{stand_ins, one_bad, two_bad_lem}

-- the header of 8 kHz, type 0 and this count, in sending order
abbrev pub header8 : ℕ → List ℕ
header8 count = octets (codeword (message (settings 0 0) count 0))

-- 01 00 01 01 as a word
abbrev pub halfway : ℕ
halfway = 0x01010001

-- 16 is bit 4 of the first index
abbrev pub sixteen_frame : List ℕ
sixteen_frame = 16 ∷ 0 ∷ 0 ∷ 0 ∷ 0 ∷ 0 ∷ 0 ∷ []

pub record Table : Type 0 where
  -- "Header 8 kHz, type 0, count 1: 08 00 0E EE. Count 2: 10 00 1D 0D. Count 3: 18 00 13 E3."
  pub header_count_1 : header8 1 ≡ 0x08 ∷ 0x00 ∷ 0x0E ∷ 0xEE ∷ []
  pub header_count_2 : header8 2 ≡ 0x10 ∷ 0x00 ∷ 0x1D ∷ 0x0D ∷ []
  pub header_count_3 : header8 3 ≡ 0x18 ∷ 0x00 ∷ 0x13 ∷ 0xE3 ∷ []
  -- "SampRate 1 alone: 01 00 01 D1, six ones."
  pub rate_1_alone : octets (codeword (message (settings 1 0) 0 0)) ≡ 0x01 ∷ 0x00 ∷ 0x01 ∷ 0xD1 ∷ []
  pub rate_1_six_ones : ones (codeword (message (settings 1 0) 0 0)) ≡ 6
  -- "01 00 01 01 is three from it and three from zero: lost."
  pub halfway_octets : octets halfway ≡ 0x01 ∷ 0x00 ∷ 0x01 ∷ 0x01 ∷ []
  pub three_from_it : flips_to halfway (message (settings 1 0) 0 0) ≡ 3
  pub three_from_nothing : flips_to halfway (message (settings 0 0) 0 0) ≡ 3
  pub halfway_lost : reading halfway ≡ None
  -- "EXP9 alone: 00 80 80 E8."
  pub exp_9_alone : octets (codeword (message (settings 0 0) 0 256)) ≡ 0x00 ∷ 0x80 ∷ 0x80 ∷ 0xE8 ∷ []
  -- "Frame 1,0,0,0,0,0,0 with a zero frame: the CRC is the single term X, stream bit 90."
  pub single_term : crc (frame widths one_frame ++ frame widths zero_frame) ≡ rem false false true false
  pub stream_bit_90 : packet widths one_frame zero_frame ≡ true ∷ (replicate 89 false ++ (true ∷ false ∷ []))
  -- not of 01: the frame 16,0,0,0,0,0,0 with a zero frame sets packet bits 4, 88, 89, 90 and 91 and no other. The examples above hold for the
  -- reciprocal generator 1 + X^3 + X^4 too; this one does not
  pub not_reciprocal : packet widths sixteen_frame zero_frame ≡ replicate 4 false ++ (true ∷ (replicate 83 false ++ replicate 4 true))
  -- "Flipping packet bits 0 and 15 leaves the CRC right; 0 and 14 does not."
  pub bits_0_and_15 : (p : List Bool) → length p ≡ packet_bits → Right data_bits p → Right data_bits (flip (flip p 0) 15)
  pub bits_0_and_14 : (p : List Bool) → length p ≡ packet_bits → Right data_bits p → Right data_bits (flip (flip p 0) 14) → ⊥
  -- "One bad pair, frames 3 and 4: 3 becomes 2, 4 becomes 5."
  pub one_bad_pair : stand_ins (0 ∷ 1 ∷ 0 ∷ []) (3 ∷ 4 ∷ []) ≡ 2 ∷ 5 ∷ []
  -- "Two, frames 3 to 6: 3 and 4 become 2, 5 and 6 become 7."
  pub two_bad_pairs : stand_ins (0 ∷ 1 ∷ 2 ∷ 0 ∷ []) (3 ∷ 4 ∷ 5 ∷ 6 ∷ []) ≡ 2 ∷ 2 ∷ 7 ∷ 7 ∷ []

sixteen : packet widths sixteen_frame zero_frame ≡ replicate 4 false ++ (true ∷ (replicate 83 false ++ replicate 4 true))
unfolding packet guarded crc after laid field xor
sixteen = refl

pub table : Table
-- nothing of the header code unfolds here
table =
    record {
      header_count_1 = ap (λ (m : ℕ). octets (codeword m)) message_counts.0 ∙ count_1;
      header_count_2 = ap (λ (m : ℕ). octets (codeword m)) message_counts.1 ∙ count_2;
      header_count_3 = ap (λ (m : ℕ). octets (codeword m)) message_counts.2 ∙ count_3;
      rate_1_alone = ap (λ (m : ℕ). octets (codeword m)) message_rate_1 ∙ rate_1;
      rate_1_six_ones = ap (λ (m : ℕ). ones (codeword m)) message_rate_1 ∙ six_ones;
      halfway_octets = refl;
      three_from_it = ap (flips_to halfway) message_rate_1 ∙ three_from_rate_1;
      three_from_nothing = ap (flips_to halfway) message_nothing ∙ three_from_zero;
      halfway_lost = lost_at_three halfway 0 (lit< tt) three_from_zero;
      exp_9_alone = ap (λ (m : ℕ). octets (codeword m)) message_exp_9 ∙ exp_9;
      single_term = crc_is_x;
      stream_bit_90 = bit_90;
      not_reciprocal = sixteen;
      bits_0_and_15 = flips_0_15;
      bits_0_and_14 = flips_0_14;
      one_bad_pair = one_bad;
      two_bad_pairs = two_bad_lem;
    }
