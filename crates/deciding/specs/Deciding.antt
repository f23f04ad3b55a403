-- What is decided of multiframes at places of the octets, before anything is written (01, "Reading"; 02, C-20): 14 and 16 to 20, in 01's order. m is the
-- number of multiframes, c the settled common bits, ch what the caller chose; index and report are the lengths of both buffers.
-- Assumes nothing.
use Rattle.std.specs.Prelude.{ℕ, ◌*◌, List, length, ltb, eqb, Some, None, Ok, Err}
use Rattle.lists.specs.Tests.{when}
use Rattle.layout.specs.Layout.{index_octets, report_octets}
use Rattle.choices.specs.declared.Choices.{Choices}
use Rattle.tables.specs.Tables.{Tables}
use Rattle.refusals.specs.declared.Reading.TheVariants.{Empty, Unsettled, Unfit, IndexShort, ReportShort, AllBad}
use Rattle.header_readings.specs.Readings.{readings}
use Rattle.settling.specs.Settling.{settling}
use Rattle.unfit.specs.Unfit.{unfit}
use Rattle.settling.specs.Types.{Settlement}
use Rattle.carrier.specs.Carrier.{received, pair_count}
use Rattle.notes.specs.Notes.{pair_notes}
use Rattle.bad_pairs.specs.BadPairs.{bad_pairs}
use Rattle.deciding.specs.Types.{Verdict}

-- the notes of all pairs received
abbrev pub received_notes : List ℕ → List ℕ → Tables → List ℕ
received_notes octets places tables = pair_notes (received octets places) (pair_count places) tables

-- 18: index buffer under 168m. 19: report buffer under 13m. 20: every pair bad
unfoldable pub room_verdict : (m bad pairs index report c : ℕ) → Verdict
room_verdict m bad pairs index report c =
    when (ltb index (index_octets * m)) (Err (IndexShort (index_octets * m)))
    (when (ltb report (report_octets * m)) (Err (ReportShort (report_octets * m)))
    (when (eqb bad pairs) (Err AllBad) (Ok c)))

-- 16: settings not settled. 17: settled rate is 2 or any EXP is 1
unfoldable pub settled_verdict : (m bad pairs index report : ℕ) → Settlement → Verdict
settled_verdict m bad pairs index report None = Err Unsettled
settled_verdict m bad pairs index report (Some c) = when (unfit c) (Err Unfit) (room_verdict m bad pairs index report c)

module _ (ch : Choices) (octets : List ℕ) (tables : Tables) (index report : ℕ) where
  -- 14: no multiframe
  unfoldable pub whole_verdict : List ℕ → Verdict
  whole_verdict places =
      when (eqb (length places) 0) (Err (Empty (length octets)))
      (settled_verdict (length places) (bad_pairs (received_notes octets places tables)) (pair_count places) index report
      (settling ch (readings octets places)))
