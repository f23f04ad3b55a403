-- Literal examples of the hunt: bit orders, numbers, places and limits that no law would notice if definition and code were changed alike.
-- Assumes nothing.
use Rattle.std.specs.Prelude.{◌≡◌, refl, Bool, true, false, List, [], ◌∷◌, ℕ, ◌+◌, ◌≤◌, leb, replicate}
use Rattle.std.proofs.Common.{ap, ap₂, ◌∙◌, arith, lit<}
use Rattle.lists.specs.Tests.{both}
use Rattle.lists.specs.Parts.{part}
use Rattle.bits.specs.Bits.{field, value, fields, bits}
use Rattle.header_code.specs.Code.{codeword, flips_to}
use Rattle.header_code.specs.Code.Distance.{itself_near}
use Rattle.header_code.specs.Code.Examples.{of_octets, count_1, three_from_zero}
use Rattle.header.specs.Reading.{reading}
use Rattle.header.proofs.Laws.{near, lost_at_three}
use Rattle.hunt.specs.Hunt.{sync_bits, header_bits, multiframe_bits, sync, in_range, matches, readable, passes}
use Rattle.refusals.specs.Refusals.{hunt_number, hunt_place, hunt_tested}
use Rattle.refusals.specs.declared.Hunt.TheVariants.{MatchRange, Nowhere}

-- a sync and the header 8 kHz, type 0, count 1 of 01's examples; and the same from bit 3 on, behind three bits that are 0
abbrev pub opening : List ℕ
opening = 0x87 ∷ 0xB2 ∷ 0x08 ∷ 0x00 ∷ 0x0E ∷ 0xEE ∷ []

abbrev pub opening_at3 : List ℕ
opening_at3 = 0x38 ∷ 0x94 ∷ 0x45 ∷ 0x00 ∷ 0x70 ∷ 0x70 ∷ 0x07 ∷ []

-- the first four bits of the sync flipped
abbrev pub four_off : List ℕ
four_off = 0x88 ∷ 0xB2 ∷ 0x08 ∷ 0x00 ∷ 0x0E ∷ 0xEE ∷ []

-- a sync and 01 00 01 01, which is lost
abbrev pub lost_opening : List ℕ
lost_opening = 0x87 ∷ 0xB2 ∷ 0x01 ∷ 0x00 ∷ 0x01 ∷ 0x01 ∷ []

pub record Table : Type 0 where
  -- "87 B2 (hex, in sending order)", least significant bit first
  pub sync_sent : sync ≡ true ∷ true ∷ true ∷ false ∷ false ∷ false ∷ false ∷ true ∷ false ∷ true ∷ false ∷ false ∷ true ∷ true ∷ false ∷ true ∷ []
  pub multiframe_bits_lem : multiframe_bits ≡ 1152
  -- zeros match in the eight zeros of the sync, the inverse sync nowhere
  pub zeros_match : matches (replicate sync_bits false) sync ≡ 8
  pub inverse_matches : matches (bits (0x78 ∷ 0x4D ∷ [])) sync ≡ 0
  -- "T is the caller's, 12 to 16"
  pub too_few : in_range 11 ≡ false
  pub fewest : in_range 12 ≡ true
  pub most : in_range 16 ≡ true
  pub too_many : in_range 17 ≡ false
  -- "at least T of the 16 bits match the sync and the header that follows is readable"
  pub at_0 : passes 16 (bits opening) 0 ≡ true
  pub at_3 : passes 16 (bits opening_at3) 3 ≡ true
  pub not_at_2 : passes 12 (bits opening_at3) 2 ≡ false
  pub four_off_12 : passes 12 (bits four_off) 0 ≡ true
  pub four_off_13 : passes 13 (bits four_off) 0 ≡ false
  pub lost : passes 12 (bits lost_opening) 0 ≡ false
  -- "21, T outside 12 to 16, place T; 22, no place found by the first hunt, place the first bit searched"
  pub number_21 : hunt_number (MatchRange 17) ≡ 21
  pub place_21 : hunt_place (MatchRange 17) ≡ 17
  pub number_22 : hunt_number (Nowhere 5 9) ≡ 22
  pub place_22 : hunt_place (Nowhere 5 9) ≡ 5
  pub tested_22 : hunt_tested (Nowhere 5 9) ≡ 9
  pub tested_21 : hunt_tested (MatchRange 17) ≡ 0

-- ---- the two headers
header_word_lem : codeword 8 ≡ 0xEE0E0008
header_word_lem = of_octets (codeword 8) 0x08 0x00 0x0E 0xEE count_1

header_readable : readable (reading 0xEE0E0008) ≡ true
header_readable =
    let few : flips_to 0xEE0E0008 8 ≤ 2 = omega (arith, itself_near 0xEE0E0008 8 header_word_lem) in
    ap readable (near 0xEE0E0008 8 (lit< tt) few)

header_lost : readable (reading 0x01010001) ≡ false
header_lost = ap readable (lost_at_three 0x01010001 0 (lit< tt) three_from_zero)

-- a place by its two tests
by_tests : (least : ℕ) (l : List Bool) (t w : ℕ) (a b : Bool) → leb least (matches (part t sync_bits l) sync) ≡ a → value (part (t + sync_bits) header_bits l) ≡ w
    → readable (reading w) ≡ b → passes least l t ≡ both a b
unfolding passes
by_tests least l t w a b ea ew eb = ap₂ both ea (ap (λ (x : ℕ). readable (reading x)) ew ∙ eb)

pub table : Table
unfolding matches fields field value in_range
table = record {
  sync_sent = refl;
  multiframe_bits_lem = refl;
  zeros_match = refl;
  inverse_matches = refl;
  too_few = refl;
  fewest = refl;
  most = refl;
  too_many = refl;
  at_0 = by_tests 16 (bits opening) 0 0xEE0E0008 true true refl refl header_readable;
  at_3 = by_tests 16 (bits opening_at3) 3 0xEE0E0008 true true refl refl header_readable;
  not_at_2 = by_tests 12 (bits opening_at3) 2 (value (part 18 header_bits (bits opening_at3))) false (readable (reading (value (part 18 header_bits (bits opening_at3))))) refl refl refl;
  four_off_12 = by_tests 12 (bits four_off) 0 0xEE0E0008 true true refl refl header_readable;
  four_off_13 = by_tests 13 (bits four_off) 0 0xEE0E0008 false true refl refl header_readable;
  lost = by_tests 12 (bits lost_opening) 0 0x01010001 true false refl refl header_lost;
  number_21 = refl;
  place_21 = refl;
  number_22 = refl;
  place_22 = refl;
  tested_22 = refl;
  tested_21 = refl;
}
