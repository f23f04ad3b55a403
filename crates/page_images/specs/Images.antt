-- Images, octet for octet: what the writer's contract promises for two utterances, and the reader's for their octets. The octets come from
-- 01 and from a program outside of Rattle, none from the definitions, and sizes stand as 01 prints them.
-- Assumes nothing.
use Rattle.std.specs.Prelude.{◌≡◌, true, false, List, [], ◌∷◌, ◌++◌, ℕ, ◌+◌, ◌-◌, ◌*◌, ◌<◌, pos, length, get_or, replicate, Ok}
use Rattle.std.specs.Int.Signed.{lt_z}
use Rattle.lists.specs.Parts.{part}
use Rattle.lists.specs.Rows.{joined}
use Rattle.layout.specs.Layout.{widths}
use Rattle.choices.specs.Choices.{by_one_header}
use Rattle.choices.specs.declared.Choices.{Choices}
use Rattle.tables.specs.Tables.{Tables, tables_of}
use Rattle.settings.specs.Settings.{settings}
use Rattle.bits.specs.Bits.{bits}
use Rattle.packet.specs.Packet.{packet}
use Rattle.packet.specs.Examples.{one_frame, zero_frame}
use Rattle.image.specs.Image.{image}
use Rattle.writer.specs.Writing.{outcome, writing}
use Rattle.reader.specs.Reading.{reading}
use Rattle.reader.specs.Reading as R

-- tables that nothing turns away: "codebook, 1,280 numbers", "14 thresholds", and no "negative threshold" (02, C-12)
abbrev pub Right : Tables → Type 0
Right tables =
    (length tables.codebook ≡ 1280) × (length tables.thresholds ≡ 14) × ((k : ℕ) → k < 14 → lt_z (get_or tables.thresholds k (pos 0)) (pos 0) ≡ false)

-- a buffer before: every octet is AA
abbrev pub lent : ℕ → List ℕ
lent n = replicate n 0xAA

-- "Input 87 B2 08 00 0E EE 01, ten 00, 04, 126 times 00"
abbrev pub dsrlist_input : List ℕ
dsrlist_input = 0x87 ∷ 0xB2 ∷ 0x08 ∷ 0x00 ∷ 0x0E ∷ 0xEE ∷ 0x01 ∷ (replicate 10 0x00 ++ (0x04 ∷ replicate 126 0x00))

-- the same behind any header's four octets
abbrev pub spoken_behind : List ℕ → List ℕ
spoken_behind header = 0x87 ∷ 0xB2 ∷ (header ++ (0x01 ∷ (replicate 10 0x00 ++ (0x04 ∷ replicate 126 0x00))))

-- 25 frames, each other than the others; frame k from 0
abbrev pub said : List ℕ
said = joined (λ (k : ℕ). (k + 1) ∷ (2 * k) ∷ 3 ∷ 0 ∷ (63 - k) ∷ 63 ∷ (255 - k) ∷ []) 25

-- their two multiframes at 16 kHz, type 1
abbrev pub said_first : List ℕ
said_first =
    0x87 ∷ 0xB2 ∷ 0x0F ∷ 0x00 ∷ 0x0B ∷ 0xFB ∷ 0x01 ∷ 0x30 ∷ 0x00 ∷ 0xFF ∷ 0xFF ∷ 0x2F ∷ 0x08 ∷ 0x03 ∷ 0xE0 ∷ 0xFF ∷
    0xFE ∷ 0x3F ∷ 0x10 ∷ 0x03 ∷ 0xD0 ∷ 0xFF ∷ 0xFD ∷ 0x84 ∷ 0x31 ∷ 0x00 ∷ 0xFC ∷ 0xCF ∷ 0x1F ∷ 0x05 ∷ 0x32 ∷ 0x00 ∷
    0xFB ∷ 0xBF ∷ 0x6F ∷ 0x28 ∷ 0x03 ∷ 0xA0 ∷ 0xFF ∷ 0xFA ∷ 0x73 ∷ 0x30 ∷ 0x03 ∷ 0x90 ∷ 0xFF ∷ 0xF9 ∷ 0x88 ∷ 0x33 ∷
    0x00 ∷ 0xF8 ∷ 0x8F ∷ 0x4F ∷ 0x09 ∷ 0x34 ∷ 0x00 ∷ 0xF7 ∷ 0x7F ∷ 0xAF ∷ 0x48 ∷ 0x03 ∷ 0x60 ∷ 0xFF ∷ 0xF6 ∷ 0xBE ∷
    0x50 ∷ 0x03 ∷ 0x50 ∷ 0xFF ∷ 0xF5 ∷ 0x8C ∷ 0x35 ∷ 0x00 ∷ 0xF4 ∷ 0x4F ∷ 0x0F ∷ 0x0D ∷ 0x36 ∷ 0x00 ∷ 0xF3 ∷ 0x3F ∷
    0xEF ∷ 0x68 ∷ 0x03 ∷ 0x20 ∷ 0xFF ∷ 0xF2 ∷ 0xF2 ∷ 0x70 ∷ 0x03 ∷ 0x10 ∷ 0xFF ∷ 0xF1 ∷ 0x90 ∷ 0x37 ∷ 0x00 ∷ 0xF0 ∷
    0x0F ∷ 0xEF ∷ 0x11 ∷ 0x38 ∷ 0x00 ∷ 0xEF ∷ 0xFF ∷ 0x2E ∷ 0x89 ∷ 0x03 ∷ 0xE0 ∷ 0xFE ∷ 0xEE ∷ 0x3D ∷ 0x91 ∷ 0x03 ∷
    0xD0 ∷ 0xFE ∷ 0xED ∷ 0x94 ∷ 0x39 ∷ 0x00 ∷ 0xEC ∷ 0xCF ∷ 0x3E ∷ 0x15 ∷ 0x3A ∷ 0x00 ∷ 0xEB ∷ 0xBF ∷ 0x6E ∷ 0xA9 ∷
    0x03 ∷ 0xA0 ∷ 0xFE ∷ 0xEA ∷ 0x71 ∷ 0xB1 ∷ 0x03 ∷ 0x90 ∷ 0xFE ∷ 0xE9 ∷ 0x98 ∷ 0x3B ∷ 0x00 ∷ 0xE8 ∷ 0x8F ∷ 0x6E ∷ []

abbrev pub said_second : List ℕ
said_second =
    0x87 ∷ 0xB2 ∷ 0x17 ∷ 0x00 ∷ 0x18 ∷ 0x18 ∷ 0x19 ∷ 0x3C ∷ 0x00 ∷ 0xE7 ∷ 0x7F ∷ 0x0E ∷ 0x00 ∷ 0x00 ∷ 0x00 ∷ 0x00 ∷ 0x00 ∷ 0x0E ∷ replicate 126 0

-- 01's own input, the image of one frame; 25 frames in two multiframes
pub record Table (ch : Choices) : Type 0 where
  -- "Input 87 B2 08 00 0E EE 01, ten 00, 04, 126 times 00": the frame 1,0,0,0,0,0,0 at 8 kHz, type 0, is written so; "octets beyond that stay"
  pub one_written : writing (settings 0 0) (1 ∷ 0 ∷ 0 ∷ 0 ∷ 0 ∷ 0 ∷ 0 ∷ []) (lent 146) ≡ outcome (Ok 144) (dsrlist_input ++ lent 2)
  -- "gives: 0 000000000000, rate 0 type 0 multiframes 1 speech 1 bad 0 end 1", "with all codebook numbers and thresholds 0"
  pub one_read : reading by_one_header dsrlist_input (tables_of (replicate 1280 (pos 0)) (replicate 14 (pos 0))) (lent 170) (lent 15)
      ≡ R.outcome (Ok (record { settings = settings 0 0; multiframes = 1; speech = 1; bad = 0; end = 1 })) (1 ∷ (replicate 167 0 ++ lent 2)) (replicate 13 0 ++ lent 2)
  -- "Header 8 kHz, type 0, count 1: 08 00 0E EE. Count 2: 10 00 1D 0D. Count 3: 18 00 13 E3.": octets 2 to 5 of the first three multiframes
  pub header_1 : (idx : List ℕ) (m : ℕ) → 0 < m → part 2 4 (image (settings 0 0) idx m) ≡ 0x08 ∷ 0x00 ∷ 0x0E ∷ 0xEE ∷ []
  pub header_2 : (idx : List ℕ) (m : ℕ) → 1 < m → part 146 4 (image (settings 0 0) idx m) ≡ 0x10 ∷ 0x00 ∷ 0x1D ∷ 0x0D ∷ []
  pub header_3 : (idx : List ℕ) (m : ℕ) → 2 < m → part 290 4 (image (settings 0 0) idx m) ≡ 0x18 ∷ 0x00 ∷ 0x13 ∷ 0xE3 ∷ []
  -- "The counter is 1 in the first multiframe and steps modulo 16": 0 in the sixteenth, 1 in the seventeenth
  pub header_16 : (idx : List ℕ) (m : ℕ) → 15 < m → part 2162 4 (image (settings 0 0) idx m) ≡ 0x00 ∷ 0x00 ∷ 0x00 ∷ 0x00 ∷ []
  pub header_17 : (idx : List ℕ) (m : ℕ) → 16 < m → part 2306 4 (image (settings 0 0) idx m) ≡ 0x08 ∷ 0x00 ∷ 0x0E ∷ 0xEE ∷ []
  -- "SampRate 1 alone: 01 00 01 D1": so it is in the sixteenth multiframe of 11 kHz, type 0
  pub rate_1_alone : (idx : List ℕ) (m : ℕ) → 15 < m → part 2162 4 (image (settings 1 0) idx m) ≡ 0x01 ∷ 0x00 ∷ 0x01 ∷ 0xD1 ∷ []
  -- "Frame 1,0,0,0,0,0,0 with a zero frame: the CRC is the single term X, stream bit 90": the stream begins at bit 48 of the image, behind a
  -- sync of 16 and a header of 32, with the packet of the (P) example
  pub first_packet : part 48 92 (bits (image (settings 0 0) one_frame 1)) ≡ packet widths one_frame zero_frame
  pub stream_bit_90 : get_or (bits (image (settings 0 0) one_frame 1)) (48 + 90) false ≡ true
  pub octet_17 : get_or (image (settings 0 0) one_frame 1) 17 0 ≡ 0x04
  -- "for n frames, m = n div 24 + 1 multiframes are written; the last holds n mod 24 frames and then zeros": 25 frames at 16 kHz, type 1
  pub two_written : writing (settings 3 1) said (lent 290) ≡ outcome (Ok 288) (said_first ++ (said_second ++ lent 2))
  -- and they are read back, with any tables
  pub two_read : (tables : Tables) → Right tables
      → reading ch (said_first ++ said_second) tables (lent 338) (lent 28)
      ≡ R.outcome (Ok (record { settings = settings 3 1; multiframes = 2; speech = 25; bad = 0; end = 1 })) (said ++ (replicate 161 0 ++ lent 2)) (replicate 26 0 ++ lent 2)
