-- What the laws of a hunting reading speak of: how it ends, what a success says, and which refusals come.
-- Assumes nothing.
use Rattle.std.specs.Prelude.{ℕ, ◌+◌, ◌-◌, ◌*◌, ◌≤◌, ◌<◌, ◌⊎◌, List, true, false, length, Ok, Err}
use Rattle.std.proofs.Math.Path.{◌≡◌}
use Rattle.layout.specs.Layout.{most_multiframes}
use Rattle.choices.specs.declared.Choices.{Choices}
use Rattle.tables.specs.Tables.{Tables, RightSizes, RightTables, FirstNegative}
use Rattle.tables.specs.Admitted.{Shown}
use Rattle.bits.specs.Bits.{bits}
use Rattle.hunt.specs.Hunt.{multiframe_bits, in_range, searched, passes, places_left}
use Rattle.reader.specs.Reading as R
use Rattle.refusals.specs.declared.Reading.{Reading as OctetRefusal}
use Rattle.refusals.specs.declared.Reading.TheVariants as RR
use Rattle.gathering.specs.Gathering.{whole, too_many, Gathering, gathering, outside_of, image_of}
use Rattle.gathering.specs.Laws.{Among, Overlapped, Apart}
use Rattle.gathering.specs.Says.{NonePasses, Tested, Beyond}
use Rattle.hunting.specs.Hunting.{counted, Outcome, outcome, hunting_reading}
use Rattle.hunting.specs.declared.Counted.{Counted}
use Rattle.refusals.specs.declared.Hunting.{Hunting as Refusal}
use Rattle.refusals.specs.declared.Hunting.TheVariants.{Octets, MatchRange, Nowhere, TooMany}

-- ---- so the octet reader refuses it with 16 to 20 only
abbrev pub Late : OctetRefusal → Type 0
Late RR.WrongTables = ⊥
Late (RR.NegativeThreshold k) = ⊥
Late (RR.Unknown p) = ⊥
Late (RR.CutShort p) = ⊥
Late (RR.Empty n) = ⊥
Late (RR.TooMany p) = ⊥
Late RR.Unsettled = Unit
Late RR.Unfit = Unit
Late (RR.IndexShort n) = Unit
Late (RR.ReportShort n) = Unit
Late RR.AllBad = Unit

module _ (ch : Choices) (s : List ℕ) (from least : ℕ) (tables : Tables) (index report : List ℕ) where
  abbrev found : Gathering
  found = gathering (bits s) least most_multiframes from

  abbrev result : Outcome
  result = hunting_reading ch s from least tables index report

  abbrev keeps : Refusal → Outcome
  keeps r = outcome (Err r) index report

  -- HOW IT ENDS: each case says that the tests before it passed
  pub data Fate : Type 0 where
    wrong_tables : (RightSizes tables → ⊥) → result ≡ keeps (Octets RR.WrongTables) → Fate
    negative_threshold : (k : ℕ) → RightSizes tables → FirstNegative tables k → result ≡ keeps (Octets (RR.NegativeThreshold k)) → Fate
    range : RightTables tables → in_range least ≡ false → result ≡ keeps (MatchRange least) → Fate
    nowhere : RightTables tables → in_range least ≡ true → NonePasses (bits s) least from → result ≡ keeps (Nowhere from (places_left (bits s) from)) → Fate
    many : (p : ℕ) → RightTables tables → in_range least ≡ true → found.ending ≡ too_many p → Beyond (bits s) least most_multiframes from p found.places → result ≡ keeps (TooMany p) → Fate
    read : RightTables tables → in_range least ≡ true → 0 < length found.places → found.ending ≡ whole
        → result ≡ counted (R.reading ch (image_of s found.places) tables index report) (outside_of (bits s) from (length found.places)) found.tested → Fate

  -- A SUCCESS, and what it says
  pub record Success (c : Counted) : Type 0 where
    -- it is the octet reader's of the multiframes found, put together
    pub as_01_says : R.reading ch (image_of s found.places) tables index report ≡ R.outcome (Ok c.summary) result.index result.report
    pub count : c.summary.multiframes ≡ length found.places
    pub some : 0 < length found.places
    pub few : length found.places ≤ most_multiframes
    -- "bits outside the multiframes found, inverse syncs and tail included"
    pub bits_in_all : c.outside + multiframe_bits * c.summary.multiframes ≡ searched (bits s) - from
    pub begins : from ≤ searched (bits s)
    pub places_tested : Tested (bits s) least from c.tested found.places
    -- they stand apart from the first bit on, and each passes the test
    pub stand_apart : Apart (bits s) least from found.places
    -- "a whole multiframe from the given bit on, whose own place passes the test, is found [..] if no earlier match taken overlaps it"
    pub all_taken : (t : ℕ) → from ≤ t → t + multiframe_bits ≤ searched (bits s) → passes least (bits s) t ≡ true → Among t found.places ⊎ Overlapped t found.places

  -- 12 TO 14 NEVER COME, and 15 only with a bit for its place: of the octet reader's refusals only those of the tables, 11 and 10, and 16 to 20 do
  abbrev pub Comes : Refusal → Type 0
  Comes (Octets q) = Shown tables (Err q) ⊎ Late q
  Comes (MatchRange k) = Unit
  Comes (Nowhere f n) = Unit
  Comes (TooMany p) = Unit
