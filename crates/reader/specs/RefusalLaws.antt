-- When each refusal is given (01, the reader's table): the answer is that refusal exactly if its own condition holds and that of none before it in
-- 01's order, 10 behind 11 (02, C-12). `Given` has a line for each of 10 to 20, in 01's words, of 10 in 02's; of 12, 13 and 15 it speaks by where cutting gets to and what stands there,
-- not by cutting's answer.
-- Assumes nothing.
use Rattle.std.specs.Prelude.{ℕ, ◌*◌, ◌≤◌, ◌<◌, ◌≡◌, List, Some, None}
use Rattle.std.proofs.Math.ListN.{length}
use Rattle.layout.specs.Layout.{index_octets, report_octets}
use Rattle.choices.specs.declared.Choices.{Choices}
use Rattle.tables.specs.Tables.{Tables, RightSizes, RightTables, FirstNegative}
use Rattle.refusals.specs.declared.Reading.{Reading as Refusal}
use Rattle.refusals.specs.declared.Reading.TheVariants.{WrongTables, NegativeThreshold, Unknown, CutShort, Empty, TooMany, Unsettled, Unfit, IndexShort, ReportShort, AllBad}
use Rattle.cutting.specs.Cutting.{cutting}
use Rattle.cutting.specs.Reached.{Reached, Meets}
use Rattle.cutting.specs.declared.Piece.TheVariants as P
use Rattle.header_readings.specs.Readings.{readings}
use Rattle.settling.specs.Settling.{settling}
use Rattle.unfit.specs.Laws.{Usable, Unusable}
use Rattle.carrier.specs.Carrier.{pair_count}
use Rattle.bad_pairs.specs.BadPairs.{bad_pairs}
use Rattle.deciding.specs.Deciding.{received_notes}

-- ---- what holds where the refusals before do not apply; m of 01 is the number of places
-- none of 10 to 13 and 15: cutting gets to the end of the octets
abbrev pub CutUp : List ℕ → Tables → Type 0
CutUp octets tables = RightTables tables × Reached octets (length octets) (length (cutting octets).places)

-- nor 14
abbrev pub AnyMultiframe : List ℕ → Tables → Type 0
AnyMultiframe octets tables = CutUp octets tables × (length (cutting octets).places ≡ 0 → ⊥)

module _ (ch : Choices) (octets : List ℕ) (tables : Tables) (index report : ℕ) where
  abbrev places : List ℕ
  places = (cutting octets).places

  -- nor 16 and 17: the settings are settled, and can be used
  abbrev pub Fit : Type 0
  Fit = AnyMultiframe octets tables × ((c : ℕ) × ((settling ch (readings octets places) ≡ Some c) × Usable c))

  -- nor 18
  abbrev pub IndexRoom : Type 0
  IndexRoom = Fit × (index_octets * length places ≤ index)

  -- nor 19
  abbrev pub Room : Type 0
  Room = IndexRoom × (report_octets * length places ≤ report)

  -- ---- when each refusal is given
  abbrev pub Given : Refusal → Type 0
  -- 11: codebook not 1,280 or thresholds not 14. It comes first
  Given WrongTables = RightSizes tables → ⊥
  -- 10: a negative threshold, place the first one's number from 0. It comes after 11 and before cutting
  Given (NegativeThreshold k) = RightSizes tables × FirstNegative tables k
  -- 12, 13 and 15 come as cutting meets them: it gets to p (`Reached`), and of the octets there and the multiframes before holds what the table
  -- says (`Says`). 12: octets at p begin nothing known
  Given (Unknown p) = RightTables tables × Meets octets p P.Unknown
  -- 13: sync with too few octets, or a lone last 87 or 78
  Given (CutShort p) = RightTables tables × Meets octets p P.CutShort
  -- 15: a sync after 255 multiframes, even a cut one
  Given (TooMany p) = RightTables tables × Meets octets p P.TooMany
  -- 14: no multiframe
  Given (Empty n) = CutUp octets tables × (length places ≡ 0) × (n ≡ length octets)
  -- 16: settings not settled
  Given Unsettled = AnyMultiframe octets tables × (settling ch (readings octets places) ≡ None)
  -- 17: settled rate is 2 or any EXP is 1
  Given Unfit = AnyMultiframe octets tables × ((c : ℕ) × ((settling ch (readings octets places) ≡ Some c) × Unusable c))
  -- 18: index buffer under 168m
  Given (IndexShort n) = Fit × (index < index_octets * length places) × (n ≡ index_octets * length places)
  -- 19: report buffer under 13m
  Given (ReportShort n) = IndexRoom × (report < report_octets * length places) × (n ≡ report_octets * length places)
  -- 20: every pair bad
  Given AllBad = Room × (bad_pairs (received_notes octets places tables) ≡ pair_count places)
