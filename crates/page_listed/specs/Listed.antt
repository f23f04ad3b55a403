-- Two listings, octet for octet (01, "Reading"): what the reader's contract promises for received octets with damage in headers and packets.
-- The octets come from a program outside of Rattle, none from the definitions, and sizes stand as 01 prints them.
-- Assumes nothing.
use Rattle.std.specs.Prelude.{ℕ, ◌≤◌, pos, replicate}
use mathlib.Core.List.{List, [], ◌∷◌, ◌++◌}
use Rattle.std.proofs.Math.ListN.{length}
use Rattle.choices.specs.declared.Choices.{Choices}
use Rattle.tables.specs.Tables.{Tables, tables_of}
use Rattle.bad_pairs.specs.BadPairs.{notes}
use Rattle.page_images.specs.Images.{Right}
use Rattle.page_received.specs.Received.{Reads, headed}

-- ---- the first listing: bad pairs, and what stands in for their frames
abbrev pub hurt_first : List ℕ
hurt_first =
    0x87 ∷ 0xB2 ∷ 0x08 ∷ 0x00 ∷ 0x0E ∷ 0xEE ∷ 0x01 ∷ 0x00 ∷ 0x00 ∷ 0x00 ∷ 0x10 ∷ 0x00 ∷ 0x00 ∷ 0x00 ∷ 0x00 ∷ 0x00 ∷
    0x02 ∷ 0x00 ∷ 0x00 ∷ 0x00 ∷ 0x00 ∷ 0x00 ∷ 0x03 ∷ 0x41 ∷ 0x00 ∷ 0x00 ∷ 0x00 ∷ 0x40 ∷ 0xB0 ∷ 0x41 ∷ 0x00 ∷ 0x00 ∷
    0x00 ∷ 0x50 ∷ 0x00 ∷ 0x00 ∷ 0x00 ∷ 0x00 ∷ 0x00 ∷ 0x06 ∷ 0x05 ∷ 0x00 ∷ 0x00 ∷ 0x00 ∷ 0x00 ∷ 0x07 ∷ 0x00 ∷ 0x00 ∷
    0x00 ∷ 0x00 ∷ 0x80 ∷ 0xB0 ∷ 0x00 ∷ 0x00 ∷ 0x00 ∷ 0x00 ∷ 0x90 ∷ 0x20 ∷ 0x00 ∷ 0x00 ∷ 0x00 ∷ 0x00 ∷ 0x0A ∷ 0x03 ∷
    0x00 ∷ 0x00 ∷ 0x00 ∷ 0x00 ∷ 0x8B ∷ 0x00 ∷ 0x00 ∷ 0x00 ∷ 0x00 ∷ 0xC0 ∷ 0x90 ∷ 0x00 ∷ 0x00 ∷ 0x00 ∷ 0x00 ∷ 0xD0 ∷
    0x00 ∷ 0x00 ∷ 0x00 ∷ 0x00 ∷ 0x00 ∷ 0x0E ∷ 0x08 ∷ 0x00 ∷ 0x00 ∷ 0x00 ∷ 0x00 ∷ 0x0F ∷ 0x41 ∷ 0x00 ∷ 0x00 ∷ 0x00 ∷
    0x00 ∷ 0x41 ∷ 0x41 ∷ 0x00 ∷ 0x00 ∷ 0x00 ∷ 0x10 ∷ 0x01 ∷ 0x00 ∷ 0x00 ∷ 0x00 ∷ 0x00 ∷ 0x12 ∷ 0x04 ∷ 0x00 ∷ 0x00 ∷
    0x00 ∷ 0x00 ∷ 0x13 ∷ 0x00 ∷ 0x00 ∷ 0x00 ∷ 0x00 ∷ 0x40 ∷ 0x01 ∷ 0x00 ∷ 0x00 ∷ 0x00 ∷ 0x00 ∷ 0x50 ∷ 0x11 ∷ 0x04 ∷
    0x00 ∷ 0x00 ∷ 0x00 ∷ 0x16 ∷ 0x14 ∷ 0x04 ∷ 0x00 ∷ 0x00 ∷ 0x00 ∷ 0x17 ∷ 0x00 ∷ 0x00 ∷ 0x00 ∷ 0x00 ∷ 0x80 ∷ 0xF1 ∷ []

abbrev pub hurt_second : List ℕ
hurt_second =
    0x87 ∷ 0xB2 ∷ 0x10 ∷ 0x00 ∷ 0x1D ∷ 0x8D ∷ 0x00 ∷ 0x00 ∷ 0x00 ∷ 0x00 ∷ 0x90 ∷ 0x01 ∷ 0x00 ∷ 0x00 ∷ 0x00 ∷ 0x00 ∷
    0x1A ∷ 0x01 ∷ 0x04 ∷ 0x00 ∷ 0x00 ∷ 0x00 ∷ 0x1B ∷ 0x01 ∷ 0x00 ∷ 0x00 ∷ 0x00 ∷ 0xC0 ∷ 0xB1 ∷ 0x41 ∷ 0x00 ∷ 0x00 ∷
    0x00 ∷ 0xD0 ∷ 0x01 ∷ 0x00 ∷ 0x00 ∷ 0x00 ∷ 0x00 ∷ 0x1E ∷ 0x0C ∷ 0x00 ∷ 0x00 ∷ 0x00 ∷ 0x00 ∷ 0x1F ∷ 0x00 ∷ 0x00 ∷
    0x00 ∷ 0x00 ∷ 0x00 ∷ 0xF0 ∷ (replicate 86 0x00 ++ (0x01 ∷ replicate 5 0x00))

-- two multiframes of 31 frames at 8 kHz, type 0, with inverse syncs before, between and after. The last bit of the second header is flipped, and
-- of pairs 0, 5, 12 and 23 (from 0) one bit each: bits 0, 43, 91 and 44 of the packet
abbrev pub hurt : List ℕ
hurt = 0x78 ∷ 0x4D ∷ (hurt_first ++ (0x78 ∷ 0x4D ∷ 0x78 ∷ 0x4D ∷ (hurt_second ++ (0x78 ∷ 0x4D ∷ []))))

-- tables: in codebook 0 entry 1 is 1, 0 and entry 2 is 1, 1; in codebook 1 entry 1 is 0, 2; all others are 0, 0. Elements of codebook 0 may move by 0,
-- the second of codebook 1 by 1, all others by 9
abbrev pub steep : Tables
steep =
    tables_of (pos 0 ∷ pos 0 ∷ pos 1 ∷ pos 0 ∷ pos 1 ∷ pos 1 ∷ (replicate 125 (pos 0) ++ (pos 2 ∷ replicate 1148 (pos 0))))
    (pos 0 ∷ pos 0 ∷ pos 9 ∷ pos 1 ∷ replicate 10 (pos 9))

-- its frames as they stand in the index buffer with these tables
abbrev pub standing : List ℕ
standing =
    0 ∷ 0 ∷ 0 ∷ 0 ∷ 0 ∷ 0 ∷ 7 ∷ 0 ∷ 0 ∷ 0 ∷ 0 ∷ 0 ∷ 0 ∷ 7 ∷ 0 ∷ 0 ∷ 0 ∷ 0 ∷ 0 ∷ 0 ∷ 7 ∷ 0 ∷ 0 ∷ 0 ∷ 0 ∷ 0 ∷ 0 ∷ 7 ∷ 0 ∷ 0 ∷ 0 ∷ 0 ∷ 0 ∷ 0 ∷ 7 ∷
    0 ∷ 0 ∷ 0 ∷ 0 ∷ 0 ∷ 0 ∷ 7 ∷ 0 ∷ 0 ∷ 0 ∷ 0 ∷ 0 ∷ 0 ∷ 7 ∷ 0 ∷ 0 ∷ 0 ∷ 0 ∷ 0 ∷ 0 ∷ 8 ∷ 0 ∷ 0 ∷ 0 ∷ 0 ∷ 0 ∷ 0 ∷ 9 ∷ 2 ∷ 0 ∷ 0 ∷ 0 ∷ 0 ∷ 0 ∷ 10 ∷
    2 ∷ 0 ∷ 0 ∷ 0 ∷ 0 ∷ 0 ∷ 10 ∷ 0 ∷ 0 ∷ 0 ∷ 0 ∷ 0 ∷ 0 ∷ 13 ∷ 0 ∷ 0 ∷ 0 ∷ 0 ∷ 0 ∷ 0 ∷ 13 ∷ 0 ∷ 0 ∷ 0 ∷ 0 ∷ 0 ∷ 0 ∷ 14 ∷ 0 ∷ 0 ∷ 0 ∷ 0 ∷ 0 ∷ 0 ∷ 15 ∷
    1 ∷ 1 ∷ 0 ∷ 0 ∷ 0 ∷ 0 ∷ 16 ∷ 1 ∷ 1 ∷ 0 ∷ 0 ∷ 0 ∷ 0 ∷ 17 ∷ 0 ∷ 0 ∷ 0 ∷ 0 ∷ 0 ∷ 0 ∷ 18 ∷ 0 ∷ 0 ∷ 0 ∷ 0 ∷ 0 ∷ 0 ∷ 19 ∷ 0 ∷ 0 ∷ 0 ∷ 0 ∷ 0 ∷ 0 ∷ 20 ∷
    0 ∷ 0 ∷ 0 ∷ 0 ∷ 0 ∷ 0 ∷ 21 ∷ 1 ∷ 1 ∷ 0 ∷ 0 ∷ 0 ∷ 0 ∷ 22 ∷ 1 ∷ 1 ∷ 0 ∷ 0 ∷ 0 ∷ 0 ∷ 22 ∷ 1 ∷ 1 ∷ 0 ∷ 0 ∷ 0 ∷ 0 ∷ 22 ∷ 1 ∷ 1 ∷ 0 ∷ 0 ∷ 0 ∷ 0 ∷ 22 ∷
    1 ∷ 1 ∷ 0 ∷ 0 ∷ 0 ∷ 0 ∷ 22 ∷ 0 ∷ 0 ∷ 0 ∷ 0 ∷ 0 ∷ 0 ∷ 31 ∷ 0 ∷ 0 ∷ 0 ∷ 0 ∷ 0 ∷ 0 ∷ 31 ∷ 0 ∷ 0 ∷ 0 ∷ 0 ∷ 0 ∷ 0 ∷ 31 ∷ 0 ∷ 0 ∷ 0 ∷ 0 ∷ 0 ∷ 0 ∷ 31 ∷
    0 ∷ 0 ∷ 0 ∷ 0 ∷ 0 ∷ 0 ∷ 31 ∷ replicate 119 0

-- and with tables of zeros
abbrev pub standing_plain : List ℕ
standing_plain =
    0 ∷ 0 ∷ 0 ∷ 0 ∷ 0 ∷ 0 ∷ 3 ∷ 0 ∷ 0 ∷ 0 ∷ 0 ∷ 0 ∷ 0 ∷ 3 ∷ 0 ∷ 0 ∷ 0 ∷ 0 ∷ 0 ∷ 0 ∷ 3 ∷ 1 ∷ 1 ∷ 0 ∷ 0 ∷ 0 ∷ 0 ∷ 4 ∷ 1 ∷ 1 ∷ 0 ∷ 0 ∷ 0 ∷ 0 ∷ 5 ∷
    0 ∷ 0 ∷ 0 ∷ 0 ∷ 0 ∷ 0 ∷ 6 ∷ 0 ∷ 0 ∷ 0 ∷ 0 ∷ 0 ∷ 0 ∷ 7 ∷ 0 ∷ 0 ∷ 0 ∷ 0 ∷ 0 ∷ 0 ∷ 8 ∷ 0 ∷ 0 ∷ 0 ∷ 0 ∷ 0 ∷ 0 ∷ 9 ∷ 2 ∷ 0 ∷ 0 ∷ 0 ∷ 0 ∷ 0 ∷ 10 ∷
    2 ∷ 0 ∷ 0 ∷ 0 ∷ 0 ∷ 0 ∷ 10 ∷ 0 ∷ 0 ∷ 0 ∷ 0 ∷ 0 ∷ 0 ∷ 13 ∷ 0 ∷ 0 ∷ 0 ∷ 0 ∷ 0 ∷ 0 ∷ 13 ∷ 0 ∷ 0 ∷ 0 ∷ 0 ∷ 0 ∷ 0 ∷ 14 ∷ 0 ∷ 0 ∷ 0 ∷ 0 ∷ 0 ∷ 0 ∷ 15 ∷
    1 ∷ 1 ∷ 0 ∷ 0 ∷ 0 ∷ 0 ∷ 16 ∷ 1 ∷ 1 ∷ 0 ∷ 0 ∷ 0 ∷ 0 ∷ 17 ∷ 0 ∷ 0 ∷ 0 ∷ 0 ∷ 0 ∷ 0 ∷ 18 ∷ 0 ∷ 0 ∷ 0 ∷ 0 ∷ 0 ∷ 0 ∷ 19 ∷ 0 ∷ 0 ∷ 0 ∷ 0 ∷ 0 ∷ 0 ∷ 20 ∷
    0 ∷ 0 ∷ 0 ∷ 0 ∷ 0 ∷ 0 ∷ 21 ∷ 1 ∷ 1 ∷ 0 ∷ 0 ∷ 0 ∷ 0 ∷ 22 ∷ 1 ∷ 1 ∷ 0 ∷ 0 ∷ 0 ∷ 0 ∷ 23 ∷ 0 ∷ 0 ∷ 0 ∷ 0 ∷ 0 ∷ 0 ∷ 24 ∷ 0 ∷ 0 ∷ 0 ∷ 0 ∷ 0 ∷ 0 ∷ 24 ∷
    0 ∷ 1 ∷ 0 ∷ 0 ∷ 0 ∷ 0 ∷ 27 ∷ 0 ∷ 1 ∷ 0 ∷ 0 ∷ 0 ∷ 0 ∷ 27 ∷ 1 ∷ 0 ∷ 0 ∷ 0 ∷ 0 ∷ 0 ∷ 28 ∷ 1 ∷ 1 ∷ 0 ∷ 0 ∷ 0 ∷ 0 ∷ 29 ∷ 0 ∷ 0 ∷ 0 ∷ 0 ∷ 0 ∷ 0 ∷ 30 ∷
    0 ∷ 0 ∷ 0 ∷ 0 ∷ 0 ∷ 0 ∷ 31 ∷ replicate 119 0

-- the report with these tables, and with tables of zeros
abbrev pub hurt_notes : List ℕ
hurt_notes =
    0 ∷ 1 ∷ 2 ∷ 2 ∷ 0 ∷ 0 ∷ 1 ∷ 0 ∷ 0 ∷ 0 ∷ 0 ∷ 0 ∷ 2 ∷
    1 ∷ 1 ∷ 2 ∷ 2 ∷ 0 ∷ 0 ∷ 0 ∷ 0 ∷ 0 ∷ 0 ∷ 0 ∷ 0 ∷ 1 ∷ []

abbrev pub plain_notes : List ℕ
plain_notes =
    0 ∷ 1 ∷ 0 ∷ 0 ∷ 0 ∷ 0 ∷ 1 ∷ 0 ∷ 0 ∷ 0 ∷ 0 ∷ 0 ∷ 0 ∷
    1 ∷ 1 ∷ 0 ∷ 0 ∷ 0 ∷ 0 ∷ 0 ∷ 0 ∷ 0 ∷ 0 ∷ 0 ∷ 0 ∷ 1 ∷ []

-- ---- the second listing: header notes
-- five multiframes with streams of zeros. 8 kHz, type 0: count 1 twice; 01's lost header; 11 kHz, type 0: count 4, and count 1 with its bits 3 and 14
-- flipped
abbrev pub strange : List ℕ
strange =
    headed (0x08 ∷ 0x00 ∷ 0x0E ∷ 0xEE ∷ []) ++ (headed (0x08 ∷ 0x00 ∷ 0x0E ∷ 0xEE ∷ []) ++ (headed (0x01 ∷ 0x00 ∷ 0x01 ∷ 0x01 ∷ [])
    ++ (headed (0x21 ∷ 0x00 ∷ 0x3B ∷ 0xCB ∷ []) ++ headed (0x01 ∷ 0x40 ∷ 0x0F ∷ 0x3F ∷ []))))

-- a header note, and twelve pair notes of 0
abbrev pub noted : ℕ → List ℕ
noted n = n ∷ replicate 12 0

abbrev pub strange_notes : List ℕ
strange_notes = noted 0 ++ (noted 4 ++ (noted 3 ++ (noted 8 ++ noted 14)))

-- ---- what a line says: what is read, into any buffers with room
abbrev pub Lists : (ch : Choices) → List ℕ → Tables → List ℕ → List ℕ → List ℕ → Type 0
Lists ch octets tables values frames notes =
    (index report : List ℕ) → length frames ≤ length index → length notes ≤ length report → Reads ch octets tables index report values frames notes

-- the values are rate, type, multiframes, speech, bad and end
pub record Table (ch : Choices) : Type 0 where
  -- Header notes "0 clean, 1 or 2 flips mended": 0 and 1.
  -- "A pair is bad if its CRC fails": 0, 5, 12 and 23 (from 0).
  -- "An inconsistent pair is bad too if either the next pair's CRC fails": 11, in the multiframe before; "or the pair before it is bad": 1, 2, 13 and 14.
  -- "The absolute difference" (02, C-12): 1 rises, 2, 11 and 14 fall, and of 13 one index pair rises and one falls.
  -- Not so 7, which rises, and 8, which falls, with good neighbours on both sides; 4, of which one index pair is flagged, by both its elements; nor 10,
  -- before a bad pair whose CRC is right.
  -- "In a run of B bad pairs the first B frames become the good frame before the run, the last B the good frame after it": 11 becomes 10 and 12
  -- becomes 13; 23 to 26 become 22 and 27 to 30 become 31. "At the start of an utterance all 2B take the frame after": 1 to 6 become 7; "at the end, the
  -- one before": 47 and 48 become 46, which is zero. So speech is 31 and end 1 "after replacing" only
  pub bad_pairs_lem : Lists ch hurt steep (0 ∷ 0 ∷ 2 ∷ 31 ∷ 9 ∷ 1 ∷ []) standing hurt_notes
  -- "with all codebook numbers and thresholds 0", as dsrlist lists them, no pair is inconsistent: 1 and 2 become 3; 25 becomes 24 and 26 becomes 27
  pub bad_by_crc : Lists ch hurt (tables_of (replicate 1280 (pos 0)) (replicate 14 (pos 0))) (0 ∷ 0 ∷ 2 ∷ 31 ∷ 4 ∷ 1 ∷ []) standing_plain plain_notes
  -- "3 lost; a readable one adds 4 if its counter is not (position from 1) mod 16, and 8 if its common bits differ from the settled": settled is
  -- "the first readable header that agrees in them with an earlier readable one", the second, and not what the last two agree in
  pub header_notes : (tables : Tables) → Right tables
      → Lists ch strange tables (0 ∷ 0 ∷ 5 ∷ 96 ∷ 0 ∷ 1 ∷ []) (replicate 840 0) strange_notes
