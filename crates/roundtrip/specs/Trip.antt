-- Writing and reading back in one call: what it answers for every input and what it leaves in the three buffers, by its three ends: back, written
-- but not read, not written. The theorem "reads back" put to use: an accepted utterance with 01's tables and room comes back. One header alone
-- settles here: "the bench recorder [..] ask[s] for it by name" (02, C-20), so that utterances of one multiframe come back too.
-- Assumes nothing.
use Rattle.std.specs.Prelude.{◌≡◌, ℕ, ◌-◌, ◌*◌, replicate, Ok, Err}
use mathlib.Core.List.{List, ◌++◌}
use Rattle.std.proofs.Math.ListN.{length, take}
use Rattle.lists.specs.Parts.{over}
use Rattle.layout.specs.Layout.{index_octets, report_octets}
use Rattle.choices.specs.Choices.{by_one_header}
use Rattle.tables.specs.Tables.{Tables}
use Rattle.settings.specs.declared.Settings.{Settings}
use Rattle.settings.specs.Settings.{settings}
use Rattle.image.specs.Image.{image}
use Rattle.wrong_frames.specs.WrongFrames.{frame_count}
use Rattle.writer.specs.Writing.{multiframes_for, verdict, writing}
use Rattle.writer.specs.Types as WA
use Rattle.refusals.specs.declared.Writing as WR
use Rattle.reader.specs.Reading.{reading}
use Rattle.reader.specs.declared.Summary.{Summary}
use Rattle.reader.specs.Types as Ra
use Rattle.refusals.specs.declared.Reading as RR
use Rattle.demands.specs.Whole.{Lent}
use Rattle.roundtrip.specs.Types.{Trip}
use Rattle.roundtrip.specs.declared.Failure.TheVariants.{NotRead, NotWritten}

-- the answer, and what the three buffers hold
pub record Made : Type 0 where
  pub answer : Trip
  pub output : List ℕ
  pub index : List ℕ
  pub report : List ℕ

abbrev pub made : Trip → List ℕ → List ℕ → List ℕ → Made
made t o i r = record { answer = t; output = o; index = i; report = r }

abbrev pub trip_of : Ra.Answer → Trip
trip_of (Ok s) = Ok s
trip_of (Err r) = Err (NotRead r)

-- a refusal of the writer ends it; else the octets written are read
abbrev pub after_writing : Tables → List ℕ → List ℕ → List ℕ → WA.Answer → Made
after_writing tables index report o (Ok n) =
    made (trip_of (reading by_one_header (take n o) tables index report).answer) o (reading by_one_header (take n o) tables index report).index
    (reading by_one_header (take n o) tables index report).report
after_writing tables index report o (Err r) = made (Err (NotWritten r)) o index report

unfoldable pub trip : Settings → List ℕ → Tables → List ℕ → List ℕ → List ℕ → Made
trip settings idx tables out index report =
    after_writing tables index report (writing settings idx out).output (writing settings idx out).answer

-- what a caller of both needs: the same settings, all multiframes and frames, no bad pair, and the end
abbrev pub whole : Settings → List ℕ → Summary
whole settings idx =
    record { settings = settings; multiframes = multiframes_for (frame_count idx); speech = frame_count idx; bad = 0; end = 1 }

-- the first n octets are the utterance's image, and octets beyond are as they came
abbrev pub imaged : Settings → List ℕ → ℕ → List ℕ → List ℕ
imaged settings idx n out = over out 0 n (image settings idx (multiframes_for (frame_count idx)))

-- the frames as written and zeros after them, 168 octets a multiframe, and octets beyond as they came
abbrev pub frames_back : List ℕ → List ℕ → List ℕ
frames_back idx index =
    let size = index_octets * multiframes_for (frame_count idx) in over index 0 size (idx ++ replicate (size - length idx) 0)

-- all notes 0, 13 octets a multiframe, and octets beyond as they came
abbrev pub noteless : List ℕ → List ℕ → List ℕ
noteless idx report = let size = report_octets * multiframes_for (frame_count idx) in over report 0 size (replicate size 0)

-- ---- the three ends
-- BACK, of n octets written
pub record IsBack (settings : Settings) (idx : List ℕ) (n : ℕ) (out index report : List ℕ) (t : Made) : Type 0 where
  pub answer : t.answer ≡ Ok (whole settings idx)
  pub image_out : t.output ≡ imaged settings idx n out
  pub frames_back_lem : t.index ≡ frames_back idx index
  pub no_notes : t.report ≡ noteless idx report

-- WRITTEN BUT NOT READ: the output holds the image, which the reader refuses, and what was lent to the reader is as it came
pub record IsUnread (settings : Settings) (idx : List ℕ) (tables : Tables) (out index report : List ℕ) (x : RR.Reading) (t : Made) : Type 0 where
  pub octets : ℕ
  pub written : verdict settings idx (length out) ≡ Ok octets
  pub image_out : t.output ≡ imaged settings idx octets out
  pub refused : (reading by_one_header (image settings idx (multiframes_for (frame_count idx))) tables index report).answer ≡ Err x
  pub index_stays : t.index ≡ index
  pub report_stays : t.report ≡ report

-- NOT WRITTEN: all three are as they came
pub record IsUnwritten (settings : Settings) (idx out index report : List ℕ) (x : WR.Writing) (t : Made) : Type 0 where
  pub refused : verdict settings idx (length out) ≡ Err x
  pub all_stay : (t.output ≡ out) × (t.index ≡ index) × (t.report ≡ report)

module _ (settings : Settings) (idx : List ℕ) (tables : Tables) (out index report : List ℕ) where
  -- whatever the writer accepts, with 01's tables and room, is back
  abbrev pub ComesBack : Made → Type 0
  ComesBack t =
      (n : ℕ) → verdict settings idx (length out) ≡ Ok n → Lent (multiframes_for (frame_count idx)) tables index report
      → IsBack settings idx n out index report t

  -- what the buffers hold if the reader refuses, and if the writer does
  abbrev pub Unread : Made → Type 0
  Unread t = (x : RR.Reading) → t.answer ≡ Err (NotRead x) → IsUnread settings idx tables out index report x t

  abbrev pub Unwritten : Made → Type 0
  Unwritten t = (x : WR.Writing) → t.answer ≡ Err (NotWritten x) → IsUnwritten settings idx out index report x t
