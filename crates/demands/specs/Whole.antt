-- Octets of m whole multiframes and nothing else: their places, the tables and the room that the reader is lent, and where each note stands in
-- its report.
-- Assumes nothing.
use Rattle.std.specs.Prelude.{ℕ, ◌+◌, ◌*◌, ◌%◌, ◌≤◌, get_or}
use mathlib.Core.List.{List}
use Rattle.std.proofs.Math.ListN.{length}
use Rattle.layout.specs.Layout.{multiframe_pairs, index_octets, report_octets, multiframe_of}
use Rattle.tables.specs.Tables.{Tables, RightTables}
use Rattle.cutting.specs.Laws.{every}

-- the places of m multiframes, one behind the other
abbrev pub row_of : ℕ → List ℕ
row_of m = every 0 m

-- what 01's tables and room are: any codebook of 1,280 numbers and any 14 thresholds, none of them negative (02, C-12); 168m index octets and 13m
-- report octets
pub record Lent (m : ℕ) (tables : Tables) (index report : List ℕ) : Type 0 where
  pub right_tables : RightTables tables
  pub index_room : index_octets * m ≤ length index
  pub report_room : report_octets * m ≤ length report

-- ---- the report: 13 octets a multiframe, its header note and then its twelve pair notes
abbrev pub header_note_in : List ℕ → ℕ → ℕ
header_note_in report k = get_or report (report_octets * k) 0

abbrev pub pair_note_in : List ℕ → ℕ → ℕ
pair_note_in report q = get_or report (report_octets * multiframe_of q + 1 + q % multiframe_pairs) 0
