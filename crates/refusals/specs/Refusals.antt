-- The number and the place of every refusal: 01's tables of the writer and the reader, 02's 10 of the reader and its two of the hunt. The cases stand in src/.
-- Assumes nothing.
use Rattle.std.specs.Prelude.{ℕ, ◌+◌}
use Rattle.refusals.specs.declared.Writing.{Writing}
use Rattle.refusals.specs.declared.Writing.TheVariants as W
use Rattle.refusals.specs.declared.Reading.{Reading}
use Rattle.refusals.specs.declared.Reading.TheVariants as R
use Rattle.refusals.specs.declared.Hunt.{Hunt}
use Rattle.refusals.specs.declared.Hunt.TheVariants as H
use Rattle.refusals.specs.declared.Hunting.{Hunting}
use Rattle.refusals.specs.declared.Hunting.TheVariants as G

-- the number of an answer that is no refusal
abbrev pub success : ℕ
success = 0

-- ---- numbers that 01 does not have (house)
-- a caller's number names no choice
abbrev pub no_such_choice : ℕ
no_such_choice = 96

-- no codeword is near enough to a header
abbrev pub unreadable : ℕ
unreadable = 97

-- a slice has another length than the multiframe's
abbrev pub wrong_length : ℕ
wrong_length = 98

-- no room for the numbers of an answer
abbrev pub no_room : ℕ
no_room = 99

-- ---- the writer's (01, "Writing"); frames count from 0, in the places from 1
abbrev pub writing_number : Writing → ℕ
writing_number W.WrongSettings = 1
writing_number (W.PartFrame n) = 2
writing_number (W.TooMany n) = 3
writing_number (W.WideIndex f) = 4
writing_number (W.ZeroFrame f) = 5
writing_number (W.OutputShort n) = 6

abbrev pub writing_place : Writing → ℕ
writing_place W.WrongSettings = 0
writing_place (W.PartFrame n) = n
writing_place (W.TooMany n) = n
writing_place (W.WideIndex f) = f.0 + 1
writing_place (W.ZeroFrame f) = f.0 + 1
writing_place (W.OutputShort n) = n

-- ---- the reader's (01, "Reading"; 10: 02, C-12)
abbrev pub reading_number : Reading → ℕ
reading_number R.WrongTables = 11
reading_number (R.NegativeThreshold k) = 10
reading_number (R.Unknown p) = 12
reading_number (R.CutShort p) = 13
reading_number (R.Empty n) = 14
reading_number (R.TooMany p) = 15
reading_number R.Unsettled = 16
reading_number R.Unfit = 17
reading_number (R.IndexShort n) = 18
reading_number (R.ReportShort n) = 19
reading_number R.AllBad = 20

abbrev pub reading_place : Reading → ℕ
reading_place R.WrongTables = 0
-- the first negative one's number, from 0
reading_place (R.NegativeThreshold k) = k
reading_place (R.Unknown p) = p
reading_place (R.CutShort p) = p
reading_place (R.Empty n) = n
reading_place (R.TooMany p) = p
reading_place R.Unsettled = 0
reading_place R.Unfit = 0
reading_place (R.IndexShort n) = n
reading_place (R.ReportShort n) = n
reading_place R.AllBad = 0

-- ---- the hunt's (02, C-13)
abbrev pub hunt_number : Hunt → ℕ
hunt_number (H.MatchRange least) = 21
hunt_number (H.Nowhere from n) = 22

abbrev pub hunt_place : Hunt → ℕ
hunt_place (H.MatchRange least) = least
hunt_place (H.Nowhere from n) = from

-- how many places were tested before the refusal
abbrev pub hunt_tested : Hunt → ℕ
hunt_tested (H.MatchRange least) = 0
hunt_tested (H.Nowhere from n) = n

-- ---- the hunting reader's: 01's, and 02's for those of the hunt
abbrev pub hunting_number : Hunting → ℕ
hunting_number (G.Octets r) = reading_number r
hunting_number (G.MatchRange least) = 21
hunting_number (G.Nowhere from n) = 22
hunting_number (G.TooMany p) = 15

abbrev pub hunting_place : Hunting → ℕ
hunting_place (G.Octets r) = reading_place r
hunting_place (G.MatchRange least) = least
hunting_place (G.Nowhere from n) = from
hunting_place (G.TooMany p) = p
