-- WRITES AGAIN (demand 2). "For every image that is read without a note (all notes 0, end 1, no inverse sync) and whose reading the writer
-- accepts: writing the settings and the first `speech` frames of the index buffer gives the same octets, all of them, and the same length."
-- Assumes nothing.
use Rattle.std.proofs.Math.Path.{◌≡◌}
use Rattle.std.specs.Prelude.{ℕ, ◌*◌, ◌<◌, length, take, get_or, Ok}
use mathlib.Core.List.{List}
use Rattle.lists.specs.Parts.{over}
use Rattle.layout.specs.Layout.{frame_indices, multiframe_octets, index_octets, report_octets}
use Rattle.choices.specs.declared.Choices.{Choices}
use Rattle.tables.specs.Tables.{Tables}
use Rattle.cutting.specs.Cutting.{cutting}
use Rattle.deciding.specs.Deciding.{received_notes}
use Rattle.report.specs.Report.{report_part}
use Rattle.reader.specs.Reading.{index_part, summary, Outcome, outcome, reading}
use Rattle.reader.specs.ReadingLaws.{Accepted}
use Rattle.reader.specs.declared.Summary.{Summary}
use Rattle.image.specs.Made.{Small}
use Rattle.writer.specs.Writing.{multiframes_for, writing}
use Rattle.writer.specs.Writing as W

module _ (ch : Choices) (s : List ℕ) (tables : Tables) (index report output : List ℕ) (given : Summary) where
  abbrev pub result : Outcome
  result = reading ch s tables index report

  -- "the settings and the first `speech` frames of the index buffer", written
  abbrev pub again : W.Outcome
  again = writing given.settings (take (frame_indices * given.speech) result.index) output

  pub record Premises : Type 0 where
    -- "every image": octets
    pub small : Small s
    -- "that is read"
    pub succeeds : result.answer ≡ Ok given
    -- "without a note": "all notes 0",
    pub notes_0 : (i : ℕ) → i < report_octets * given.multiframes → get_or result.report i 0 ≡ 0
    -- "end 1",
    pub ended : given.end ≡ 1
    -- "no inverse sync": the octets are those of the multiframes
    pub no_inverses : length s ≡ multiframe_octets * given.multiframes
    -- "and whose reading the writer accepts"
    pub octets : ℕ
    pub accepts : again.answer ≡ Ok octets

  pub record Again (p : Premises) : Type 0 where
    -- "the same length"
    pub same_length : p.octets ≡ length s
    -- "the same octets, all of them"; what is lent beyond them stays
    pub same_octets : again.output ≡ over output 0 (length s) s

  -- ---- what was read
  abbrev places : List ℕ
  places = (cutting s).places

  abbrev ns : List ℕ
  ns = received_notes s places tables

  pub record WasRead : Type 0 where
    pub common : ℕ
    pub reader_accepts : Accepted ch s tables (length index) (length report) common
    pub result_is : result
        ≡ outcome (Ok (summary s places ns common)) (over index 0 (index_octets * length places) (index_part s places ns))
        (over report 0 (report_octets * length places) (report_part s places ns common))
    pub given_is : given ≡ summary s places ns common
