-- The lines of multiframes in the listing that dsrlist prints (01, "Examples at the edges"), as octets in ASCII.
-- Assumes nothing.
use Rattle.std.specs.Prelude.{ℕ, ◌+◌, ◌*◌, List, [], ◌∷◌, ◌++◌, get_or}
use Rattle.lists.specs.Parts.{part}
use Rattle.lists.specs.Rows.{joined}
use Rattle.layout.specs.Layout.{multiframe_pairs, report_octets}
use Rattle.text.specs.Text.{note_digits, decimal}

-- ---- what stands between
abbrev pub newline : List ℕ
newline = 10 ∷ []

abbrev pub space : List ℕ
space = 32 ∷ []

-- ---- the lines
-- the twelve pair notes behind the header note, one behind the other
unfoldable pub pair_text : List ℕ → List ℕ
pair_text notes = joined (λ p. decimal (get_or notes (p + 1) 0)) multiframe_pairs

-- a multiframe's line: header note, space, twelve pair notes
unfoldable pub line : List ℕ → List ℕ
line notes = decimal (get_or notes 0 0) ++ (space ++ (pair_text notes ++ newline))

-- the line of multiframe k, from its part of the report
abbrev pub line_of : List ℕ → ℕ → List ℕ
line_of report k = line (part (report_octets * k) report_octets report)

-- ---- the most octets that each can take
-- of the twelve pair notes, and of a multiframe's line: thirteen notes, a space and a line feed
abbrev pub most_pairs : ℕ
most_pairs = note_digits * multiframe_pairs

abbrev pub most_line : ℕ
most_line = note_digits * report_octets + 2
