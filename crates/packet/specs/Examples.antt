-- The (P) examples of 01 that concern the CRC, as laws that the one table of examples cites.
-- Assumes nothing.
use Rattle.std.specs.Prelude.{◌≡◌, refl, Bool, true, false, List, [], ◌∷◌, ◌++◌, ℕ, length, replicate}
use Rattle.std.proofs.Math.Bool.{xor}
use Rattle.std.proofs.Common.{arith, lit<}
use Rattle.layout.specs.Layout.{widths, data_bits, packet_bits}
use Rattle.bits.specs.Bits.{field, laid}
use Rattle.crc.specs.Crc.{rem, crc, after, Right, flip}
use Rattle.crc.proofs.Damage.{two_flips}
use Rattle.packet.specs.Packet.{frame, guarded, packet}

-- frame 1,0,0,0,0,0,0 and a zero frame
abbrev pub one_frame : List ℕ
one_frame = 1 ∷ 0 ∷ 0 ∷ 0 ∷ 0 ∷ 0 ∷ 0 ∷ []

abbrev pub zero_frame : List ℕ
zero_frame = 0 ∷ 0 ∷ 0 ∷ 0 ∷ 0 ∷ 0 ∷ 0 ∷ []

-- the CRC is the single term X
pub crc_is_x : crc (frame widths one_frame ++ frame widths zero_frame) ≡ rem false false true false
unfolding crc after laid field xor
crc_is_x = refl

-- so of the packet only bit 0 and bit 90 are set
pub bit_90 : packet widths one_frame zero_frame ≡ true ∷ (replicate 89 false ++ (true ∷ false ∷ []))
unfolding packet guarded crc after laid field xor
bit_90 = refl

-- packet bits 0 and 15 flipped leave any right CRC right
pub flips_0_15 : (p : List Bool) → length p ≡ packet_bits → Right data_bits p → Right data_bits (flip (flip p 0) 15)
flips_0_15 p h r = (two_flips data_bits p 0 15 h (lit< tt) (omega arith) r).1 refl

-- 0 and 14 do not
pub flips_0_14 : (p : List Bool) → length p ≡ packet_bits → Right data_bits p → Right data_bits (flip (flip p 0) 14) → ⊥
flips_0_14 p h r g = let z : ◌≡◌ {A = ℕ} 14 0 = (two_flips data_bits p 0 14 h (lit< tt) (omega arith) r).0 g in omega arith
