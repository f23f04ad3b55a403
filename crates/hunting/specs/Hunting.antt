-- The hunting reading (02, C-13): what was found is read as 01 says.
-- Assumes nothing.
use Rattle.std.specs.Prelude.{ℕ, List, [], ◌∷◌, length, Ok, Err}
use Rattle.lists.specs.Tests.{when}
use Rattle.layout.specs.Layout.{most_multiframes}
use Rattle.choices.specs.declared.Choices.{Choices}
use Rattle.tables.specs.Tables.{Tables, admission, if_admitted}
use Rattle.bits.specs.Bits.{bits}
use Rattle.hunt.specs.Hunt.{in_range}
use Rattle.gathering.specs.Gathering.{Ending, whole, too_many, Gathering, gathering, outside_of, image_of}
use Rattle.reader.specs.Reading as R
use Rattle.reader.specs.Types.{Answer as OctetAnswer}
use Rattle.refusals.specs.declared.Hunting.{Hunting as Refusal}
use Rattle.refusals.specs.declared.Hunting.TheVariants.{Octets, MatchRange, Nowhere, TooMany}
use Rattle.hunting.specs.Types.{Answer}

pub record Outcome : Type 0 where
  pub answer : Answer
  pub index : List ℕ
  pub report : List ℕ

abbrev pub outcome : Answer → List ℕ → List ℕ → Outcome
outcome a i r = record { answer = a; index = i; report = r }

-- the octet reader's answer, with the bits outside and the places tested
abbrev pub with_counts : OctetAnswer → ℕ → ℕ → Answer
with_counts (Ok s) n t = Ok (record { summary = s; outside = n; tested = t })
with_counts (Err r) n t = Err (Octets r)

abbrev pub counted : R.Outcome → ℕ → ℕ → Outcome
counted o n t = outcome (with_counts o.answer n t) o.index o.report

module _ (ch : Choices) (s : List ℕ) (from least : ℕ) (tables : Tables) (index report : List ℕ) where
  abbrev pub refuse : Refusal → Outcome
  refuse r = outcome (Err r) index report

  -- 22: nothing found by the first hunt. 15: a match after 255 multiframes. Else what was found is read as 01 says
  abbrev pub reading_by : List ℕ → ℕ → Ending → Outcome
  reading_by [] n whole = refuse (Nowhere from n)
  reading_by (p ∷ ps) n whole =
      counted (R.reading ch (image_of s (p ∷ ps)) tables index report) (outside_of (bits s) from (length (p ∷ ps))) n
  reading_by ps n (too_many p) = refuse (TooMany p)

  abbrev pub all : Gathering
  all = gathering (bits s) least most_multiframes from

  unfoldable pub reading_found : Outcome
  reading_found = reading_by all.places all.tested all.ending

  -- 11 comes first, then 10 (02, C-12), then 21
  unfoldable pub hunting_reading : Outcome
  hunting_reading =
      if_admitted (admission tables) (λ r. refuse (Octets r)) (when (in_range least) reading_found (refuse (MatchRange least)))
