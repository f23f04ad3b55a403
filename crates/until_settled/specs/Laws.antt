-- What the laws of settings that come before the end (02, C-11) speak of: headers that agree, where the settling multiframe ends, and the refusals that come.
-- Assumes nothing.
use Rattle.std.specs.Prelude.{ℕ, ◌+◌, ◌-◌, get_or, Some}
use Rattle.std.proofs.Math.Path.{◌≡◌}
use mathlib.Core.List.{List, []}
use Rattle.layout.specs.Layout.{multiframe_octets}
use Rattle.refusals.specs.declared.Reading.{Reading as Refusal}
use Rattle.refusals.specs.declared.Reading.TheVariants.{WrongTables, NegativeThreshold, Unknown, CutShort, Empty, TooMany, Unsettled, Unfit, IndexShort, ReportShort, AllBad}
use Rattle.header.specs.Types.{Header}
use Rattle.cutting.specs.Cutting.{cutting}
use Rattle.header_readings.specs.Readings.{readings}
use Rattle.settling.specs.Settling.{first_agreeing}
use Rattle.until_settled.specs.UntilSettled.{read_until}

-- the headers of the multiframes that cutting meets, read
abbrev pub headers : List ℕ → List Header
headers s = readings s (cutting s).places

-- two of them agree, the first two in the common bits c
abbrev pub Agreed : List ℕ → ℕ → Type 0
Agreed s c = first_agreeing [] (headers s) ≡ Some c

-- the number of multiframes that are read, and the octet behind the last of them, which settles
abbrev pub multiframes_read : List ℕ → ℕ
multiframes_read s = read_until [] (headers s)

abbrev pub settling_end : List ℕ → ℕ
settling_end s = get_or (cutting s).places (multiframes_read s - 1) 0 + multiframe_octets

-- ---- which refusals come: 12 to 17, and never 11, 10 or 18 to 20
abbrev pub Comes : Refusal → Type 0
Comes WrongTables = ⊥
Comes (NegativeThreshold k) = ⊥
Comes (Unknown p) = Unit
Comes (CutShort p) = Unit
Comes (Empty n) = Unit
Comes (TooMany p) = Unit
Comes Unsettled = Unit
Comes Unfit = Unit
Comes (IndexShort n) = ⊥
Comes (ReportShort n) = ⊥
Comes AllBad = ⊥
