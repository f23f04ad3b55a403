-- What each admission of the tables says of them: that they are right, or the refusal's own condition.
-- Assumes nothing.
use Rattle.std.specs.Prelude.{Result, Ok, Err}
use Rattle.refusals.specs.declared.Reading.{Reading}
use Rattle.refusals.specs.declared.Reading.TheVariants as R
use Rattle.tables.specs.Tables.{Tables, RightSizes, RightTables, FirstNegative}

-- right tables, or the refusal's own condition, with that of the one before it ruled out; no other refusal is about the tables
abbrev pub Shown : Tables → Result Tables Reading → Type 0
Shown tables (Ok admitted) = RightTables tables
Shown tables (Err R.WrongTables) = RightSizes tables → ⊥
Shown tables (Err (R.NegativeThreshold k)) = RightSizes tables × FirstNegative tables k
Shown tables (Err (R.Unknown p)) = ⊥
Shown tables (Err (R.CutShort p)) = ⊥
Shown tables (Err (R.Empty n)) = ⊥
Shown tables (Err (R.TooMany p)) = ⊥
Shown tables (Err R.Unsettled) = ⊥
Shown tables (Err R.Unfit) = ⊥
Shown tables (Err (R.IndexShort n)) = ⊥
Shown tables (Err (R.ReportShort n)) = ⊥
Shown tables (Err R.AllBad) = ⊥
