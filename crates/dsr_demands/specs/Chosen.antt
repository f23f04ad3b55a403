-- WHAT A CALLER CHOOSES at dsr_read and dsr_read_bits, by the number that is handed over (02, C-20): 0 and 1 are choices, and every other number is
-- refused with 96. By default, with 0, an only multiframe is refused with 16, whatever its header is; 1 asks for the old rule; and two multiframes
-- or more are read alike by both.
-- Assumes nothing.
use Rattle.std.specs.Prelude.{◌≡◌, [], ◌∷◌, replicate, Some, None}
use Rattle.choices.specs.Choices.{by_default, by_one_header, asked}
use Rattle.tables.specs.Tables.{zero_tables}
use Rattle.entries.specs.Entries.{dsr_read}
use Rattle.entries.specs.Bits.{dsr_read_bits}
use Rattle.writer.specs.Utterance.{image_of}
use Rattle.damage.specs.Instances.{says1}
use Rattle.demands_met.specs.Met.{index_for, report_for}
use Rattle.hunting_demands.specs.Met as H
use Rattle.dsr_demands.specs.Met.{six, eight}

-- ---- the numbers, literally
pub record Numbers : Type 0 where
  pub number_0 : asked 0 ≡ Some by_default
  pub number_1 : asked 1 ≡ Some by_one_header
  -- none is cut to a right one
  pub number_2 : asked 2 ≡ None
  pub number_3 : asked 3 ≡ None
  pub number_256 : asked 256 ≡ None
  pub number_257 : asked 257 ≡ None
  pub above_32_bits : asked 0x100000000 ≡ None
  pub above_32_bits_and_1 : asked 0x100000001 ≡ None
  pub largest : asked 0xFFFFFFFFFFFFFFFF ≡ None

-- ---- both sides, literally: 01's frame 1 alone, in one multiframe
pub record OneMultiframe : Type 0 where
  pub by_default_lem : dsr_read (image_of says1) (asked 0) zero_tables (index_for 1) (report_for 1) six 0 ≡ record { number = 16; index = index_for 1; report = report_for 1; answer = six; place = 0 }
  pub asked_for_number : (dsr_read (image_of says1) (asked 1) zero_tables (index_for 1) (report_for 1) six 0).number ≡ 0
  pub asked_for : (dsr_read (image_of says1) (asked 1) zero_tables (index_for 1) (report_for 1) six 0).answer ≡ 0 ∷ 0 ∷ 1 ∷ 1 ∷ 0 ∷ 1 ∷ []
  pub asked_for_index : (dsr_read (image_of says1) (asked 1) zero_tables (index_for 1) (report_for 1) six 0).index ≡ 1 ∷ replicate 167 0
  -- and at bit 3 of bits with no octet boundary, T = 16
  pub bits_by_default : dsr_read_bits (H.shifted_octets says1) 0 16 (asked 0) zero_tables (index_for 1) (report_for 1) eight 0
      ≡ record { number = 16; index = index_for 1; report = report_for 1; answer = eight; place = 0 }
  pub bits_asked_for : (dsr_read_bits (H.shifted_octets says1) 0 16 (asked 1) zero_tables (index_for 1) (report_for 1) eight 0).answer ≡ 0 ∷ 0 ∷ 1 ∷ 1 ∷ 0 ∷ 1 ∷ 8 ∷ 4 ∷ []
