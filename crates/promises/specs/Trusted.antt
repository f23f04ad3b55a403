-- A LIST WITHOUT A WARNING CAN BE TRUSTED. "Under demand 3's damage, a reading that succeeds with all notes 0 is of the image as written:
-- settings, frames, speech and end are those sent. Neither premise of demand 3 is needed." Nor are its limits on headers: it is enough that one
-- of them has at most five flips, since a header with note 0 is a codeword and two codewords are six bits apart.
-- Its terms stand here; the theorems, in proofs/Trusted.antt. Assumes nothing.
use Rattle.std.specs.Prelude.{◌≡◌, List, ℕ, ◌*◌, ◌≤◌, ◌<◌, get_or, replicate, Ok}
use Rattle.lists.specs.Parts.{over}
use Rattle.layout.specs.Layout.{index_octets, report_octets}
use Rattle.choices.specs.declared.Choices.{Choices}
use Rattle.tables.specs.Tables.{Tables}
use Rattle.reader.specs.Reading.{Outcome, reading}
use Rattle.reader.specs.declared.Summary.{Summary}
use Rattle.writer.specs.Utterance.{Utterance, multiframes_of, image_of}
use Rattle.damage.specs.Damage.{DamageUpTo, header_bits, header_flips}
use Rattle.demands.specs.ReadsBack.{spoken, padded}

-- ---- "a reading that succeeds with all notes 0"
module _ (ch : Choices) (s : List ℕ) (tables : Tables) (index report : List ℕ) (given : Summary) where
  abbrev pub result : Outcome
  result = reading ch s tables index report

  pub record WithoutWarning : Type 0 where
    pub succeeds : result.answer ≡ Ok given
    pub notes_0 : (i : ℕ) → i < report_octets * given.multiframes → get_or result.report i 0 ≡ 0

-- ---- "is of the image as written: settings, frames, speech and end are those sent"
module _ (ch : Choices) (u : Utterance) (s : List ℕ) (tables : Tables) (index report : List ℕ) (given : Summary) where
  pub record AsWritten : Type 0 where
    pub image : s ≡ image_of u
    -- the same settings, m, speech equal to n, no bad pair, end 1
    pub sent : given ≡ spoken u
    -- the frames as written and zeros after them
    pub frames : (result ch s tables index report given).index ≡ over index 0 (index_octets * multiframes_of u) (padded u)
    pub notes : (result ch s tables index report given).report ≡ over report 0 (report_octets * multiframes_of u) (replicate (report_octets * multiframes_of u) 0)

-- demand 3's damage to pairs, any damage to headers but for one, which has at most five flips
pub record Premises (u : Utterance) (s : List ℕ) : Type 0 where
  pub damage : DamageUpTo header_bits (multiframes_of u) (image_of u) s
  pub header : ℕ
  pub within : header < multiframes_of u
  pub five : header_flips (image_of u) s header ≤ 5
