-- One definition of what a reading answers and leaves in both buffers, for every input (01, "Reading"; 02, C-12 and C-20). ch is what the caller chose.
-- Frames, pairs and multiframes count from 0.
-- Assumes nothing.
use Rattle.std.specs.Prelude.{ℕ, ◌*◌, List, [], ◌∷◌, length, Ok, Err}
use Rattle.lists.specs.Parts.{over}
use Rattle.layout.specs.Layout.{index_octets, report_octets}
use Rattle.choices.specs.declared.Choices.{Choices}
use Rattle.tables.specs.Tables.{Tables, admission, if_admitted}
use Rattle.refusals.specs.Refusals.{success, reading_number, reading_place}
use Rattle.cutting.specs.Cutting.{Ending, whole, refused, cutting}
use Rattle.message.specs.Message.{settings_of}
use Rattle.carrier.specs.Carrier.{received, pair_count}
use Rattle.notes.specs.Notes.{all_frames}
use Rattle.bad_pairs.specs.BadPairs.{bad_pairs}
use Rattle.replacing.specs.Replacing.{replaced}
use Rattle.replacing.specs.Speech.{speech_of, end_of}
use Rattle.reader.specs.declared.Summary.{Summary}
use Rattle.report.specs.Report.{report_part}
use Rattle.deciding.specs.Deciding.{received_notes, whole_verdict}
use Rattle.deciding.specs.Types.{Verdict}
use Rattle.reader.specs.Types.{Answer}

-- ---- 01's number and values of each answer: success gives settings, m, speech, the number of bad pairs and end; a refusal gives its place
abbrev pub answer_number : Answer → ℕ
answer_number (Ok s) = success
answer_number (Err r) = reading_number r

abbrev pub answer_values : Answer → List ℕ
answer_values (Ok s) = s.settings.rate ∷ s.settings.kind ∷ s.multiframes ∷ s.speech ∷ s.bad ∷ s.end ∷ []
answer_values (Err r) = reading_place r ∷ []

-- ---- what a reading gives, of multiframes at places of the octets; ns are the notes of all pairs

-- all frames received, in order, before replacing
abbrev pub received_frames : List ℕ → List ℕ → List ℕ
received_frames octets places = all_frames (received octets places) (pair_count places)

-- the index buffer's part: all frames in order, seven octets each, after replacing
abbrev pub index_part : List ℕ → List ℕ → List ℕ → List ℕ
index_part octets places ns = replaced ns (received_frames octets places)

-- the settings, m, speech, the number of bad pairs and end
abbrev pub summary : List ℕ → List ℕ → List ℕ → ℕ → Summary
summary octets places ns c =
    record {
      settings = settings_of c;
      multiframes = length places;
      speech = speech_of (length places) (index_part octets places ns);
      bad = bad_pairs ns;
      end = end_of (length places) (index_part octets places ns);
    }

-- ---- every refusal, in 01's order: 11 and then 10 (02, C-12), then what cutting meets, then `whole_verdict`
module _ (ch : Choices) (octets : List ℕ) (tables : Tables) (index report : ℕ) where
  -- 12, 13 and 15, as cutting meets them
  abbrev pub end_verdict : List ℕ → Ending → Verdict
  end_verdict places whole = whole_verdict ch octets tables index report places
  end_verdict places (refused r) = Err r

  -- 11 and 10: the tables are turned away (`admission`). They come first
  unfoldable pub verdict : Verdict
  verdict = if_admitted (admission tables) Err (end_verdict (cutting octets).places (cutting octets).ending)

-- ---- the answer and both buffers
pub record Outcome : Type 0 where
  pub answer : Answer
  pub index : List ℕ
  pub report : List ℕ

abbrev pub outcome : Answer → List ℕ → List ℕ → Outcome
outcome a i r = record { answer = a; index = i; report = r }

module _ (octets : List ℕ) (tables : Tables) (index report : List ℕ) where
  -- a refusal changes no octet; success lays both parts over the buffers' fronts, and octets beyond stay
  abbrev pub finished : List ℕ → Verdict → Outcome
  finished places (Err r) = outcome (Err r) index report
  finished places (Ok c) =
      outcome (Ok (summary octets places (received_notes octets places tables) c))
      (over index 0 (index_octets * length places) (index_part octets places (received_notes octets places tables)))
      (over report 0 (report_octets * length places) (report_part octets places (received_notes octets places tables) c))

-- by what the caller chose
module _ (ch : Choices) (octets : List ℕ) (tables : Tables) (index report : List ℕ) where
  -- the reading of multiframes already found: 14 and 16 to 20, or what is read
  abbrev pub reading_found : List ℕ → Outcome
  reading_found places = finished octets tables index report places (whole_verdict ch octets tables (length index) (length report) places)

  -- what cutting refuses, else the reading of what it found
  abbrev pub end_reading : List ℕ → Ending → Outcome
  end_reading places whole = reading_found places
  end_reading places (refused r) = outcome (Err r) index report

  -- decided first, then finished; `in_order` says it by its parts: 11 and 10, what cutting refuses, else `reading_found`
  unfoldable pub reading : Outcome
  reading = finished octets tables index report (cutting octets).places (verdict ch octets tables (length index) (length report))
