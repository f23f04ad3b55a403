-- The rules on pairs (01, "Pair packet" and "Bad pairs"), over the packets of n pairs: `packets q` are the 92 bits of pair q, wherever they
-- were carried. Pairs count from 0.
-- Assumes nothing.
use Rattle.std.specs.Prelude.{ℕ, List, Bool, false, not, take, drop}
use Rattle.lists.specs.Rows.{each, joined}
use Rattle.layout.specs.Layout.{widths, frame_indices, data_bits}
use Rattle.tables.specs.Tables.{Tables}
use Rattle.crc.specs.Crc.{right}
use Rattle.packet.specs.Packet.{apart}
use Rattle.consistency.specs.Consistency.{inconsistent}
use Rattle.bad_pairs.specs.BadPairs.{note_by, notes}

-- pair q's CRC fails
unfoldable pub pair_fails : (ℕ → List Bool) → ℕ → Bool
pair_fails packets q = not (right data_bits (packets q))

-- its two frames, fourteen indices
unfoldable pub frames_of : (ℕ → List Bool) → ℕ → List ℕ
frames_of packets q = apart widths (packets q)

-- all frames in order, before replacing
unfoldable pub all_frames : (ℕ → List Bool) → ℕ → List ℕ
all_frames packets n = joined (frames_of packets) n

-- the notes of the CRCs alone, before any pair is judged: 0 right, 1 failed
abbrev pub crc_note : Bool → ℕ
crc_note fails = note_by false fails false false

abbrev pub crc_notes : (ℕ → List Bool) → ℕ → List ℕ
crc_notes packets n = each (λ q. crc_note (pair_fails packets q)) n

-- with the quantiser's tables: which pairs are inconsistent
unfoldable pub pair_inconsistent : (ℕ → List Bool) → Tables → ℕ → Bool
pair_inconsistent packets tables q =
    inconsistent tables (take frame_indices (frames_of packets q)) (drop frame_indices (frames_of packets q))

-- the notes of all pairs: 0 good, 1 CRC failed, 2 bad otherwise
unfoldable pub pair_notes : (ℕ → List Bool) → ℕ → Tables → List ℕ
pair_notes packets n tables = notes (each (pair_fails packets) n) (each (pair_inconsistent packets tables) n)
