-- The settings before the end and the full reading of the same octets (02, C-11): "Its answer equals the full reading's settings whenever the full
-- reading succeeds. Where the full reading refuses further on, this call still gives the settings, or 17. If nothing settles before the end it
-- refuses as the full reading does, with 11 and 18 to 20 not applying."
-- Assumes nothing.
use Rattle.std.specs.Prelude.{ℕ, ◌≤◌, ◌≡◌, ◌⊎◌, List, [], length, Some, None, Ok, Err}
use Rattle.choices.specs.declared.Choices.{Choices}
use Rattle.settings.specs.declared.Settings.{Settings}
use Rattle.message.specs.Message.{settings_of}
use Rattle.refusals.specs.declared.Reading.{Reading as Refusal}
use Rattle.refusals.specs.declared.Reading.TheVariants.{WrongTables, NegativeThreshold, Unknown, CutShort, Empty, TooMany, Unsettled, Unfit, IndexShort, ReportShort, AllBad}
use Rattle.cutting.specs.Cutting.{cutting}
use Rattle.settling.specs.Settling.{first_agreeing, settling}
use Rattle.unfit.specs.Laws.{Usable, Unusable}
use Rattle.reader.specs.Types as Ra
use Rattle.until_settled.specs.UntilSettled.{until_settled}
use Rattle.until_settled.specs.Laws.{headers, Agreed, multiframes_read}

module _ (ch : Choices) (s : List ℕ) where
  -- these settings are answered, of so many multiframes at most
  pub record Answers (x : Settings) (most : ℕ) : Type 0 where
    pub multiframes : ℕ
    pub answer : until_settled ch s ≡ Ok (record { settings = x; multiframes = multiframes })
    pub few : multiframes ≤ most

  -- two headers agree: "this call still gives the settings, or 17"
  pub record SettlesBefore : Type 0 where
    pub common : ℕ
    pub agreed : Agreed s common
    pub answer : (Usable common × (until_settled ch s ≡ Ok (record { settings = settings_of common; multiframes = multiframes_read s })))
        ⊎ (Unusable common × (until_settled ch s ≡ Err Unfit))

  -- the settings are settled, can be used, and are given, of so many multiframes at most
  pub record GivesSettled (most : ℕ) : Type 0 where
    pub common : ℕ
    pub settled : settling ch (headers s) ≡ Some common
    pub usable : Usable common
    pub answers : Answers (settings_of common) most

  -- 12, 13 or 15 in full: "Where the full reading refuses further on", or nothing settles and it is refused so
  abbrev pub CutSays : Refusal → Type 0
  CutSays r = SettlesBefore ⊎ ((first_agreeing [] (headers s) ≡ None) × (until_settled ch s ≡ Err r))

  -- what each answer of the full reading says of the answer before the end
  abbrev pub FullSays : Ra.Answer → Type 0
  FullSays (Ok g) = Answers g.settings g.multiframes
  -- 11 and 10 are of the tables, which are not lent here
  FullSays (Err WrongTables) = Unit
  FullSays (Err (NegativeThreshold k)) = Unit
  FullSays (Err (Unknown p)) = CutSays (Unknown p)
  FullSays (Err (CutShort p)) = CutSays (CutShort p)
  FullSays (Err (TooMany p)) = CutSays (TooMany p)
  FullSays (Err (Empty n)) = until_settled ch s ≡ Err (Empty n)
  FullSays (Err Unsettled) = until_settled ch s ≡ Err Unsettled
  FullSays (Err Unfit) = until_settled ch s ≡ Err Unfit
  -- 18 to 20 do not apply: the settled settings are given
  FullSays (Err (IndexShort n)) = GivesSettled (length (cutting s).places)
  FullSays (Err (ReportShort n)) = GivesSettled (length (cutting s).places)
  FullSays (Err AllBad) = GivesSettled (length (cutting s).places)
