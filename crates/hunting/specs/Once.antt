-- What the laws of the hunting reading say leaves only one answer: the places, and with them the count, the bits outside and the places tested.
-- Assumes nothing.
use Rattle.std.specs.Prelude.{ℕ, ◌≡◌, List, false, Err}
use Rattle.std.proofs.Common.{sym, ◌∙◌, arith}
use Rattle.layout.specs.Layout.{most_multiframes}
use Rattle.choices.specs.declared.Choices.{Choices}
use Rattle.tables.specs.Tables.{Tables, RightSizes, RightTables, FirstNegative}
use Rattle.tables.proofs.AdmittedLaws.{right_passes, wrong_sizes, negative_refused}
use Rattle.bits.specs.Bits.{bits}
use Rattle.hunt.specs.Hunt.{in_range}
use Rattle.refusals.specs.declared.Reading.TheVariants as RR
use Rattle.gathering.specs.Gathering.{gathering}
use Rattle.gathering.specs.Laws.{Apart}
use Rattle.gathering.specs.Once.{Takes, places_once, tested_once}
use Rattle.hunting.specs.Hunting.{Outcome, outcome, hunting_reading}
use Rattle.hunting.specs.Says.{Success}
use Rattle.hunting.specs.declared.Counted.{Counted}
use Rattle.refusals.specs.declared.Hunting.TheVariants.{Octets, MatchRange}

module _ (ch : Choices) (s : List ℕ) (from least : ℕ) (tables : Tables) (index report : List ℕ) where
  abbrev result : Outcome
  result = hunting_reading ch s from least tables index report

  abbrev found : List ℕ
  found = (gathering (bits s) least most_multiframes from).places

  -- A SUCCESS SAYS ALL: the multiframes found are the only list that stands apart and takes what passes, and two answers of which the laws hold
  -- have the same count, bits outside and places tested
  pub success_places : (c : Counted) → Success ch s from least tables index report c
      → (ps : List ℕ) → Apart (bits s) least from ps → Takes (bits s) least from ps → found ≡ ps
  success_places c w ps a f = places_once (bits s) least from found ps w.stand_apart w.all_taken a f

  pub success_once : (c d : Counted) → Success ch s from least tables index report c → Success ch s from least tables index report d
      → (c.summary.multiframes ≡ d.summary.multiframes) × (c.outside ≡ d.outside) × (c.tested ≡ d.tested)
  success_once c d v w = (
    v.count ∙ sym w.count,
    omega (arith, v.count, w.count, v.bits_in_all, w.bits_in_all),
    tested_once (bits s) least from c.tested d.tested found v.places_tested w.places_tested,
  )

  -- 11 COMES FIRST, whatever T is and whatever was received
  pub tables_first : (RightSizes tables → ⊥) → result ≡ outcome (Err (Octets RR.WrongTables)) index report
  unfolding hunting_reading
  tables_first n = rw (wrong_sizes tables n)

  -- THEN 10 (02, C-12), whatever T is and whatever was received
  pub negative_next : (k : ℕ) → RightSizes tables → FirstNegative tables k → result ≡ outcome (Err (Octets (RR.NegativeThreshold k))) index report
  unfolding hunting_reading
  negative_next k h f = rw (negative_refused tables k h f)

  -- THEN 21, whatever was received
  pub range_next : RightTables tables → in_range least ≡ false → result ≡ outcome (Err (MatchRange least)) index report
  unfolding hunting_reading
  range_next right e = rw (right_passes tables right, e)
