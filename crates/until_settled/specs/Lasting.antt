-- The answers that come of two headers, which stay however a recording grows (02, C-11). Assumes nothing.
use Rattle.std.specs.Prelude.{◌≤◌, ◌⊎◌, Ok, Err}
use Rattle.std.proofs.Math.Path.{◌≡◌}
use Rattle.std.proofs.Math.Bool.{false}
use Rattle.choices.specs.Choices.{one_settles}
use Rattle.choices.specs.declared.Choices.{Choices}
use Rattle.refusals.specs.declared.Reading.TheVariants.{WrongTables, NegativeThreshold, Unknown, CutShort, Empty, TooMany, Unsettled, Unfit, IndexShort, ReportShort, AllBad}
use Rattle.until_settled.specs.Types.{Answer}

-- ---- answers that come of two headers: settings, and 17, if one header alone was not asked to settle; and settings of two multiframes or more
abbrev pub OfTwo : Choices → Answer → Type 0
OfTwo ch (Ok b) = (one_settles ch ≡ false) ⊎ (2 ≤ b.multiframes)
OfTwo ch (Err Unfit) = one_settles ch ≡ false
OfTwo ch (Err WrongTables) = ⊥
OfTwo ch (Err (NegativeThreshold k)) = ⊥
OfTwo ch (Err (Unknown p)) = ⊥
OfTwo ch (Err (CutShort p)) = ⊥
OfTwo ch (Err (Empty n)) = ⊥
OfTwo ch (Err (TooMany p)) = ⊥
OfTwo ch (Err Unsettled) = ⊥
OfTwo ch (Err (IndexShort n)) = ⊥
OfTwo ch (Err (ReportShort n)) = ⊥
OfTwo ch (Err AllBad) = ⊥
