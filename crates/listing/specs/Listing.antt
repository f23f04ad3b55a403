-- The listing that dsrlist prints (01, "Examples at the edges"): the whole of it, as octets in ASCII.
-- Assumes nothing.
use Rattle.std.specs.Prelude.{ℕ, ◌+◌, ◌*◌, List, ◌++◌, replicate, Ok, Err}
use Rattle.lists.specs.Rows.{joined}
use Rattle.layout.specs.Layout.{most_multiframes, index_octets, report_octets}
use Rattle.choices.specs.Choices.{by_one_header}
use Rattle.tables.specs.Tables.{zero_tables}
use Rattle.reader.specs.Reading.{Outcome, reading}
use Rattle.reader.specs.Types.{Answer}
use Rattle.lines.specs.Lines.{most_line, line_of}
use Rattle.last_line.specs.LastLine.{most_total, total, refusal}

-- a line for each multiframe and a total, or the refusal alone
abbrev pub listed : List ℕ → Answer → List ℕ
listed report (Ok s) = joined (line_of report) s.multiframes ++ total s
listed report (Err r) = refusal r

-- the reading that is listed: by the old rule, for which "`dsrlist` [..] ask[s] by name" (02, C-20), with tables of zeros, and room for every
-- utterance
abbrev pub reading_of : List ℕ → Outcome
reading_of octets = reading by_one_header octets zero_tables (replicate (index_octets * most_multiframes) 0) (replicate (report_octets * most_multiframes) 0)

-- THE LISTING of octets
unfoldable pub listing : List ℕ → List ℕ
listing octets = listed (reading_of octets).report (reading_of octets).answer

-- the most octets that it can take
abbrev pub most_listing : ℕ
most_listing = most_line * most_multiframes + most_total
