-- Literal examples of how many flips are mended, which no law would notice if definition, laws and code were changed alike: of 08 00 0E EE, the
-- header of 8 kHz, type 0, count 1, with its first bits flipped.
-- Assumes nothing.
use Rattle.std.specs.Prelude.{◌≡◌, ℕ, Some, None}
use Rattle.header.specs.Reading.{reading_up_to, reading}
use Rattle.header.specs.declared.Decoded.{Decoded}

abbrev pub decoded : ℕ → ℕ → Decoded
decoded m f = record { message = m; flips = f }

pub record Table : Type 0 where
  -- mending none: a codeword is read, one flip is lost (02, C-23: "a header that is no codeword is lost")
  pub none_clean : reading_up_to 0 0xEE0E0008 ≡ Some (decoded 8 0)
  pub none_one_flip : reading_up_to 0 0xEE0E0009 ≡ None
  -- mending one: one flip is mended, two are lost
  pub one_one_flip : reading_up_to 1 0xEE0E0009 ≡ Some (decoded 8 1)
  pub one_two_flips : reading_up_to 1 0xEE0E000B ≡ None
  -- 01 mends two: two flips are mended, three are lost
  pub two_flips : reading 0xEE0E000B ≡ Some (decoded 8 2)
  pub three_flips : reading 0xEE0E000F ≡ None
