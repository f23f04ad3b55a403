-- Literal examples of the entries: which number stands where, and what stays, which no law would notice if definition and code were changed alike.
-- Assumes nothing.
use Rattle.hunt.specs.Types.{found_at}
use Rattle.std.specs.Prelude.{◌≡◌, refl, List, [], ◌∷◌, ◌++◌, ℕ, ℤ, pos, negsuc, replicate, Ok, Err}
use Rattle.std.proofs.Common.{subst}
use Rattle.std.proofs.Math.Bool.{xor}
use Rattle.lists.specs.Search.{first_from}
use Rattle.settings.specs.Settings.{settings}
use Rattle.refusals.specs.declared.Hunt.TheVariants as HR
use Rattle.refusals.specs.declared.Reading.TheVariants as RR
use Rattle.reader.specs.Reading as R
use Rattle.writer.specs.Writing.{verdict, writing}
use Rattle.hunting.specs.Hunting.{Outcome, outcome}
use Rattle.refusals.specs.declared.Hunting.TheVariants.{Octets, MatchRange, Nowhere, TooMany}
use Rattle.bits.specs.Bits.{numbers, value, fields, field, laid, total}
use Rattle.crc.specs.Crc.{after, crc, alike, right}
use Rattle.packet.specs.Packet.{apart, row, stream, packet_of, packet, guarded}
use Rattle.bad_pairs.specs.BadPairs.{note_by}
use Rattle.notes.specs.Notes.{pair_fails, frames_of, all_frames}
use Rattle.header.specs.Reading.{reading}
use Rattle.header.proofs.Examples as H
use Rattle.choices.specs.Choices.{asked}
use Rattle.tables.specs.Tables.{tables_of, zero_tables, sizes_right, admission}
use Rattle.hunt.specs.Hunt.{hunted, found, in_range, misses}
use Rattle.hunting.specs.Hunting.{hunting_reading}
use Rattle.entries.specs.Entries.{header_read, packed, packing, unpacked, unpacking, returning, unchosen, given_of, dsr_write, dsr_read}
use Rattle.entries.specs.Settle.{settle_given}
use Rattle.entries.specs.Bits.{hunt_returning, bits_given, dsr_hunt, dsr_read_bits}

-- 16 kHz, noise robust, 2 multiframes, 30 frames of speech, 4 bad pairs, no end; 32 bits outside, 21 places tested
abbrev pub talk : Outcome
talk =
    outcome (Ok (record { summary = record { settings = settings 3 1; multiframes = 2; speech = 30; bad = 4; end = 0 }; outside = 32; tested = 21 })) (1 ∷ []) (2 ∷ [])

-- the same, read from octets
abbrev pub heard : R.Outcome
heard = R.outcome (Ok (record { settings = settings 3 1; multiframes = 2; speech = 30; bad = 4; end = 0 })) (1 ∷ []) (2 ∷ [])

abbrev pub nine : List ℕ
nine = 90 ∷ 91 ∷ 92 ∷ 93 ∷ 94 ∷ 95 ∷ 96 ∷ 97 ∷ 98 ∷ []

pub record Table : Type 0 where
  -- found came as 7, the place as 8
  pub hunt_found : hunt_returning 7 8 (found_at 19 20) ≡ record { number = 0; found = 19; tested = 20; place = 8 }
  pub hunt_21 : hunt_returning 7 8 (Err (HR.MatchRange 11)) ≡ record { number = 21; found = 7; tested = 0; place = 11 }
  pub hunt_22 : hunt_returning 7 8 (Err (HR.Nowhere 6 3)) ≡ record { number = 22; found = 7; tested = 3; place = 6 }
  -- eight numbers, a ninth stays; index and report came as 5 and 6
  pub eight : returning 8 nine 8 (5 ∷ []) (6 ∷ []) (bits_given talk)
      ≡ record { number = 0; index = 1 ∷ []; report = 2 ∷ []; answer = 3 ∷ 1 ∷ 2 ∷ 30 ∷ 4 ∷ 0 ∷ 32 ∷ 21 ∷ 98 ∷ []; place = 8 }
  -- dsr_read's six, and two stay
  pub six : returning 6 nine 8 (5 ∷ []) (6 ∷ []) (given_of heard)
      ≡ record { number = 0; index = 1 ∷ []; report = 2 ∷ []; answer = 3 ∷ 1 ∷ 2 ∷ 30 ∷ 4 ∷ 0 ∷ 96 ∷ 97 ∷ 98 ∷ []; place = 8 }
  pub five : returning 6 (replicate 5 90) 8 (5 ∷ []) (6 ∷ []) (given_of heard) ≡ record { number = 99; index = 5 ∷ []; report = 6 ∷ []; answer = replicate 5 90; place = 8 }
  pub octets_16 : returning 6 nine 8 (5 ∷ []) (6 ∷ []) (given_of (R.outcome (Err RR.Unsettled) (5 ∷ []) (6 ∷ [])))
      ≡ record { number = 16; index = 5 ∷ []; report = 6 ∷ []; answer = nine; place = 0 }
  pub octets_13 : returning 6 nine 8 (5 ∷ []) (6 ∷ []) (given_of (R.outcome (Err (RR.CutShort 290)) (5 ∷ []) (6 ∷ [])))
      ≡ record { number = 13; index = 5 ∷ []; report = 6 ∷ []; answer = nine; place = 290 }
  -- dsr_settle's three: rate, type and multiframes read, and the rest stays; no buffer is lent
  pub three : returning 3 nine 8 [] [] (settle_given (Ok (record { settings = settings 3 1; multiframes = 5 })))
      ≡ record { number = 0; index = []; report = []; answer = 3 ∷ 1 ∷ 5 ∷ 93 ∷ 94 ∷ 95 ∷ 96 ∷ 97 ∷ 98 ∷ []; place = 8 }
  pub settle_12 : returning 3 nine 8 [] [] (settle_given (Err (RR.Unknown 144))) ≡ record { number = 12; index = []; report = []; answer = nine; place = 144 }
  pub two : returning 3 (replicate 2 90) 8 [] [] (settle_given (Err (RR.Unknown 144))) ≡ record { number = 99; index = []; report = []; answer = replicate 2 90; place = 8 }
  -- no room for eight: 99 comes before all, and all stays
  pub seven : returning 8 (replicate 7 90) 8 (5 ∷ []) (6 ∷ []) (bits_given talk) ≡ record { number = 99; index = 5 ∷ []; report = 6 ∷ []; answer = replicate 7 90; place = 8 }
  pub seven_11 : returning 8 (replicate 7 90) 8 (5 ∷ []) (6 ∷ []) (bits_given (outcome (Err (Octets RR.WrongTables)) (5 ∷ []) (6 ∷ [])))
      ≡ record { number = 99; index = 5 ∷ []; report = 6 ∷ []; answer = replicate 7 90; place = 8 }
  -- a refusal leaves the answer and has a place of its own
  pub bits_15 : returning 8 nine 8 (5 ∷ []) (6 ∷ []) (bits_given (outcome (Err (TooMany 293763)) (5 ∷ []) (6 ∷ [])))
      ≡ record { number = 15; index = 5 ∷ []; report = 6 ∷ []; answer = nine; place = 293763 }
  pub bits_18 : returning 8 nine 8 (5 ∷ []) (6 ∷ []) (bits_given (outcome (Err (Octets (RR.IndexShort 336))) (5 ∷ []) (6 ∷ [])))
      ≡ record { number = 18; index = 5 ∷ []; report = 6 ∷ []; answer = nine; place = 336 }
  pub bits_21 : returning 8 nine 8 (5 ∷ []) (6 ∷ []) (bits_given (outcome (Err (MatchRange 17)) (5 ∷ []) (6 ∷ [])))
      ≡ record { number = 21; index = 5 ∷ []; report = 6 ∷ []; answer = nine; place = 17 }
  pub bits_22 : returning 8 nine 8 (5 ∷ []) (6 ∷ []) (bits_given (outcome (Err (Nowhere 4 3)) (5 ∷ []) (6 ∷ [])))
      ≡ record { number = 22; index = 5 ∷ []; report = 6 ∷ []; answer = nine; place = 4 }

pub table : Table
unfolding returning
table = record {
  hunt_found = refl;
  hunt_21 = refl;
  hunt_22 = refl;
  eight = refl;
  six = refl;
  five = refl;
  octets_16 = refl;
  octets_13 = refl;
  three = refl;
  settle_12 = refl;
  two = refl;
  seven = refl;
  seven_11 = refl;
  bits_15 = refl;
  bits_18 = refl;
  bits_21 = refl;
  bits_22 = refl;
}

-- ---- a header of two flips is 0, message 8 and two flips; one of three is 97, lost, and what came as 90 and 91 stays
pub header_two_flips : (r m f : ℕ) → header_read r m f 90 91 (reading 0xEE0E000B) → (r ≡ 0) × (m ≡ 8) × (f ≡ 2)
header_two_flips r m f h = subst (header_read r m f 90 91) (H.table).two_flips h

pub header_lost : (r m f : ℕ) → header_read r m f 90 91 (reading 0xEE0E000F) → (r ≡ 97) × (m ≡ 90) × (f ≡ 91)
header_lost r m f h = subst (header_read r m f 90 91) (H.table).three_flips h

-- ---- a stream of zeros but for the first bit of the second packet: its first index is 1, its CRC fails and is noted 1, the others 0
pub second_fails : unpacking (replicate 11 0 ++ (0x10 ∷ replicate 126 0)) (replicate 168 9) (replicate 12 9)
    ≡ unpacked 0 (replicate 14 0 ++ (1 ∷ replicate 153 0)) (0 ∷ 1 ∷ replicate 10 0)
unfolding unpacking all_frames frames_of apart numbers value fields field total pair_fails right alike crc after xor note_by
second_fails = refl

-- ---- and packed: frame 1,0,0,0,0,0,0 and zeros are 0, stream bits 0 and 90 (01), and nothing of what came as 9 stays
pub first_packs : packing (1 ∷ replicate 167 0) (replicate 138 9) ≡ packed 0 (1 ∷ (replicate 10 0 ++ (4 ∷ replicate 126 0)))
unfolding packing first_from numbers value stream packet_of packet guarded crc after laid field xor row
first_packs = refl

-- and the last index of the last frame: stream bit 1,092, and the CRC of X^7, which is X^3 + X^2 + X, in the last half octet
pub last_packs : packing (replicate 167 0 ++ (1 ∷ [])) (replicate 138 9) ≡ packed 0 (replicate 136 0 ++ (0x10 ∷ 0x70 ∷ []))
unfolding packing first_from numbers value stream packet_of packet guarded crc after laid field xor row
last_packs = refl

-- ---- a wrong length is 98 and comes before an index above 63, which is 4; what came as 9 stays
pub record Lengths : Type 0 where
  pub indices_short : packing (replicate 167 64) (replicate 138 9) ≡ packed 98 (replicate 138 9)
  pub indices_long : packing (replicate 169 0) (replicate 138 9) ≡ packed 98 (replicate 138 9)
  pub stream_long : packing (replicate 168 64) (replicate 139 9) ≡ packed 98 (replicate 139 9)
  pub wide : packing (replicate 161 0 ++ (0 ∷ 0 ∷ 0 ∷ 0 ∷ 0 ∷ 64 ∷ 0 ∷ [])) (replicate 138 9) ≡ packed 4 (replicate 138 9)
  pub stream_short : unpacking (replicate 137 0) (replicate 168 9) (replicate 12 9) ≡ unpacked 98 (replicate 168 9) (replicate 12 9)
  pub sent_long : unpacking (replicate 139 0) (replicate 168 9) (replicate 12 9) ≡ unpacked 98 (replicate 168 9) (replicate 12 9)
  pub frames_long : unpacking (replicate 138 0) (replicate 169 9) (replicate 12 9) ≡ unpacked 98 (replicate 169 9) (replicate 12 9)
  pub notes_long : unpacking (replicate 138 0) (replicate 168 9) (replicate 13 9) ≡ unpacked 98 (replicate 168 9) (replicate 13 9)
  pub notes_short : unpacking (replicate 138 0) (replicate 168 9) (replicate 11 9) ≡ unpacked 98 (replicate 168 9) (replicate 11 9)

pub lengths : Lengths
unfolding packing unpacking first_from
lengths = record {
  indices_short = refl;
  indices_long = refl;
  stream_long = refl;
  wide = refl;
  stream_short = refl;
  sent_long = refl;
  frames_long = refl;
  notes_long = refl;
  notes_short = refl;
}

-- ---- dsr_write takes rate and type as they are: numbers that would be 0, 1 or 3 in eight or 32 bits are 1, place 0. The output came as 7
pub record Whole : Type 0 where
  pub rate_256 : dsr_write 256 0 [] (7 ∷ []) ≡ record { number = 1; output = 7 ∷ []; place = 0 }
  pub rate_above_32_bits : dsr_write 0x100000003 0 [] (7 ∷ []) ≡ record { number = 1; output = 7 ∷ []; place = 0 }
  pub rate_largest : dsr_write 0xFFFFFFFFFFFFFFFF 0 [] (7 ∷ []) ≡ record { number = 1; output = 7 ∷ []; place = 0 }
  pub type_256 : dsr_write 0 256 [] (7 ∷ []) ≡ record { number = 1; output = 7 ∷ []; place = 0 }
  pub type_above_32_bits : dsr_write 3 0x100000001 [] (7 ∷ []) ≡ record { number = 1; output = 7 ∷ []; place = 0 }
  pub type_largest : dsr_write 0 0xFFFFFFFFFFFFFFFF [] (7 ∷ []) ≡ record { number = 1; output = 7 ∷ []; place = 0 }

pub whole : Whole
unfolding writing verdict
whole = record {
  rate_256 = refl;
  rate_above_32_bits = refl;
  rate_largest = refl;
  type_256 = refl;
  type_above_32_bits = refl;
  type_largest = refl;
}

-- ---- dsr_hunt and dsr_read_bits take the bit to begin at and then T: of no octets, from bit 5, T = 17 is 21 with place 17, and T = 16 is 22 with
-- place 5. What came as 7, 8 and 90 stays
pub record FromThenT : Type 0 where
  pub hunt_17 : dsr_hunt [] 5 17 7 8 ≡ record { number = 21; found = 7; tested = 0; place = 17 }
  pub hunt_16 : dsr_hunt [] 5 16 7 8 ≡ record { number = 22; found = 7; tested = 0; place = 5 }
  pub read_17 : dsr_read_bits [] 5 17 (asked 0) zero_tables [] [] (replicate 8 90) 8 ≡ record { number = 21; index = []; report = []; answer = replicate 8 90; place = 17 }

pub from_then_t : FromThenT
unfolding hunted found in_range misses hunting_reading admission sizes_right first_from returning fields asked
from_then_t = record { hunt_17 = refl; hunt_16 = refl; read_17 = refl }

-- ---- a number that names no choice is 96, behind 99 and before 11 and 21, and all stays, the place too. Index and report came as 5 and 6, the place as 8
pub record Choosing : Type 0 where
  pub read_2 : dsr_read [] (asked 2) (tables_of [] []) (5 ∷ []) (6 ∷ []) nine 8 ≡ record { number = 96; index = 5 ∷ []; report = 6 ∷ []; answer = nine; place = 8 }
  pub read_no_room : dsr_read [] (asked 2) (tables_of [] []) (5 ∷ []) (6 ∷ []) (replicate 5 90) 8
      ≡ record { number = 99; index = 5 ∷ []; report = 6 ∷ []; answer = replicate 5 90; place = 8 }
  pub bits_2 : dsr_read_bits [] 5 17 (asked 2) (tables_of [] []) (5 ∷ []) (6 ∷ []) nine 8 ≡ record { number = 96; index = 5 ∷ []; report = 6 ∷ []; answer = nine; place = 8 }
  pub bits_no_room : dsr_read_bits [] 5 17 (asked 2) (tables_of [] []) (5 ∷ []) (6 ∷ []) (replicate 7 90) 8
      ≡ record { number = 99; index = 5 ∷ []; report = 6 ∷ []; answer = replicate 7 90; place = 8 }
  -- both choices are read: no tables are 11
  pub read_0 : dsr_read [] (asked 0) (tables_of [] []) (5 ∷ []) (6 ∷ []) nine 8 ≡ record { number = 11; index = 5 ∷ []; report = 6 ∷ []; answer = nine; place = 0 }
  pub read_1 : dsr_read [] (asked 1) (tables_of [] []) (5 ∷ []) (6 ∷ []) nine 8 ≡ record { number = 11; index = 5 ∷ []; report = 6 ∷ []; answer = nine; place = 0 }

pub choosing : Choosing
unfolding asked unchosen returning R.reading R.verdict admission sizes_right
choosing = record { read_2 = refl; read_no_room = refl; bits_2 = refl; bits_no_room = refl; read_0 = refl; read_1 = refl }

-- ---- a negative threshold (02, C-12) is 10, and its place the first one's number from 0: here 2, and 13, the last, is negative too. Behind 99, 96 and 11, before
-- anything received is looked at and before 21; index and report came as 5 and 6, the place as 8
abbrev book : List ℤ
book = replicate 1280 (pos 0)

abbrev third : List ℤ
third = pos 0 ∷ pos 0 ∷ negsuc 0 ∷ replicate 10 (pos 7) ++ (negsuc 2147483647 ∷ [])

abbrev last : List ℤ
last = replicate 13 (pos 0) ++ (negsuc 2147483647 ∷ [])

pub record Negative : Type 0 where
  pub read_10 : dsr_read (1 ∷ []) (asked 0) (tables_of book third) (5 ∷ []) (6 ∷ []) nine 8 ≡ record { number = 10; index = 5 ∷ []; report = 6 ∷ []; answer = nine; place = 2 }
  pub read_10_last : dsr_read [] (asked 1) (tables_of book last) (5 ∷ []) (6 ∷ []) nine 8 ≡ record { number = 10; index = 5 ∷ []; report = 6 ∷ []; answer = nine; place = 13 }
  pub read_11 : dsr_read [] (asked 0) (tables_of (pos 0 ∷ book) third) (5 ∷ []) (6 ∷ []) nine 8 ≡ record { number = 11; index = 5 ∷ []; report = 6 ∷ []; answer = nine; place = 0 }
  pub read_96 : dsr_read [] (asked 2) (tables_of book third) (5 ∷ []) (6 ∷ []) nine 8 ≡ record { number = 96; index = 5 ∷ []; report = 6 ∷ []; answer = nine; place = 8 }
  pub read_99 : dsr_read [] (asked 0) (tables_of book third) (5 ∷ []) (6 ∷ []) (replicate 5 90) 8
      ≡ record { number = 99; index = 5 ∷ []; report = 6 ∷ []; answer = replicate 5 90; place = 8 }
  pub bits_10 : dsr_read_bits [] 5 17 (asked 0) (tables_of book third) (5 ∷ []) (6 ∷ []) nine 8 ≡ record { number = 10; index = 5 ∷ []; report = 6 ∷ []; answer = nine; place = 2 }
  pub bits_10_last : dsr_read_bits [] 5 16 (asked 0) (tables_of book last) (5 ∷ []) (6 ∷ []) nine 8 ≡ record { number = 10; index = 5 ∷ []; report = 6 ∷ []; answer = nine; place = 13 }
  pub bits_96 : dsr_read_bits [] 5 17 (asked 2) (tables_of book third) (5 ∷ []) (6 ∷ []) nine 8 ≡ record { number = 96; index = 5 ∷ []; report = 6 ∷ []; answer = nine; place = 8 }
  pub bits_99 : dsr_read_bits [] 5 17 (asked 0) (tables_of book third) (5 ∷ []) (6 ∷ []) (replicate 7 90) 8
      ≡ record { number = 99; index = 5 ∷ []; report = 6 ∷ []; answer = replicate 7 90; place = 8 }
  pub bits_11 : dsr_read_bits [] 5 17 (asked 0) (tables_of book (pos 0 ∷ third)) (5 ∷ []) (6 ∷ []) nine 8 ≡ record { number = 11; index = 5 ∷ []; report = 6 ∷ []; answer = nine; place = 0 }

pub negative : Negative
unfolding asked unchosen returning R.reading R.verdict hunting_reading admission sizes_right first_from
negative = record {
  read_10 = refl;
  read_10_last = refl;
  read_11 = refl;
  read_96 = refl;
  read_99 = refl;
  bits_10 = refl;
  bits_10_last = refl;
  bits_96 = refl;
  bits_99 = refl;
  bits_11 = refl;
}
