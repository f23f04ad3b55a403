-- What the entries for C and Rust answer, in numbers, and what they leave in lent memory. Assumes nothing.
use Rattle.std.specs.Prelude.{◌≡◌, ◌⊎◌, ◌<◌, ◌≤◌, List, [], ◌∷◌, ℕ, eqb, ltb, length, Some, None, Result, Ok, Err}
use Rattle.lists.specs.Tests.{when}
use Rattle.lists.specs.Parts.{over}
use Rattle.lists.specs.Search.{Search, at, nowhere}
use Rattle.layout.specs.Layout.{stream_octets, index_octets, multiframe_pairs}
use Rattle.choices.specs.declared.Choices.{Choices}
use Rattle.choices.specs.Types.{Asked}
use Rattle.tables.specs.Tables.{Tables}
use Rattle.settings.specs.Settings.{settings}
use Rattle.bits.specs.Bits.{bits, octets}
use Rattle.carrier.specs.Carrier.{stream_packet}
use Rattle.packet.specs.Packet.{stream}
use Rattle.notes.specs.Notes.{all_frames, crc_notes}
use Rattle.header.specs.Types.{Header}
use Rattle.refusals.specs.Refusals.{success, no_such_choice, unreadable, wrong_length, no_room, writing_number, reading_number, reading_place}
use Rattle.refusals.specs.declared.Writing.TheVariants.{WideIndex}
use Rattle.reader.specs.Reading.{Outcome, reading}
use Rattle.reader.specs.declared.Summary.{Summary}
use Rattle.reader.specs.Types.{Answer}
use Rattle.writer.specs.Writing as W
use Rattle.wrong_frames.specs.WrongFrames.{first_wide}
use Rattle.writer.specs.Writing.{writing}

-- Every entry but the encoder of headers answers 0 if it is done, and else the number of a refusal.

-- a header's reading: the answer and the two lent numbers, as they are and as they came
abbrev pub header_read : ℕ → ℕ → ℕ → ℕ → ℕ → Header → Type 0
header_read r m f m₀ f₀ (Some d) = (r ≡ success) × (m ≡ d.message) × (f ≡ d.flips)
header_read r m f m₀ f₀ None = (r ≡ unreadable) × (m ≡ m₀) × (f ≡ f₀)

-- ---- a multiframe's stream, packed
pub record Packing : Type 0 where
  pub answer : ℕ
  pub stream : List ℕ

abbrev pub packed : ℕ → List ℕ → Packing
packed a s = record { answer = a; stream = s }

-- with right lengths: the stream of 24 frames, or the writer's refusal 4 for a frame with an index above 63, and the octets as they came
abbrev pub narrow_packing : List ℕ → List ℕ → Search → Packing
narrow_packing idx s (at k) = packed (writing_number (WideIndex (record { 0 = k }))) s
narrow_packing idx s nowhere = packed success (octets stream_octets (stream idx 0 multiframe_pairs))

-- a wrong length comes before all else, and then the octets are as they came
unfoldable pub packing : List ℕ → List ℕ → Packing
packing idx s =
    when (eqb (length idx) index_octets) (when (eqb (length s) stream_octets) (narrow_packing idx s (first_wide idx)) (packed wrong_length s)) (packed wrong_length s)

-- ---- and unpacked
pub record Unpacking : Type 0 where
  pub answer : ℕ
  pub indices : List ℕ
  pub notes : List ℕ

abbrev pub unpacked : ℕ → List ℕ → List ℕ → Unpacking
unpacked a i n = record { answer = a; indices = i; notes = n }

-- the frames of its twelve packets and the notes of their CRCs (0 right, 1 failed), or a wrong length and both as they came
unfoldable pub unpacking : List ℕ → List ℕ → List ℕ → Unpacking
unpacking s i n =
    when (eqb (length s) stream_octets)
    (when (eqb (length i) index_octets)
    (when (eqb (length n) multiframe_pairs) (unpacked success (all_frames (stream_packet (bits s)) multiframe_pairs) (crc_notes (stream_packet (bits s)) multiframe_pairs)) (unpacked wrong_length i n))
    (unpacked wrong_length i n))
    (unpacked wrong_length i n)

-- ---- a reading's answer in numbers
abbrev pub answer_numbers : ℕ
answer_numbers = 6

-- rate, type, multiframes, speech, bad pairs, end
abbrev pub summary_numbers : Summary → List ℕ
summary_numbers s = s.settings.rate ∷ s.settings.kind ∷ s.multiframes ∷ s.speech ∷ s.bad ∷ s.end ∷ []

-- what a reading tells in numbers: those of a success, or the number and the place of a refusal
pub data Told : Type 0 where
  numbers : List ℕ → Told
  refusal : ℕ → ℕ → Told

-- and both buffers
pub record Given : Type 0 where
  pub told : Told
  pub index : List ℕ
  pub report : List ℕ

abbrev pub given : Told → List ℕ → List ℕ → Given
given t i r = record { told = t; index = i; report = r }

-- what is returned: the number, the two buffers, the lent numbers and the place
pub record Returned : Type 0 where
  pub number : ℕ
  pub index : List ℕ
  pub report : List ℕ
  pub answer : List ℕ
  pub place : ℕ

abbrev pub returned : ℕ → List ℕ → List ℕ → List ℕ → ℕ → Returned
returned n i r a p = record { number = n; index = i; report = r; answer = a; place = p }

-- success is 0 and lays its w numbers over the front of the answer, and the place stays; a refusal is its number and its place, and the answer
-- stays. The answer came as a, the place as p
abbrev pub answered : ℕ → List ℕ → ℕ → List ℕ → List ℕ → Told → Returned
answered w a p i r (numbers l) = returned success i r (over a 0 w l) p
answered w a p i r (refusal n q) = returned n i r a q

-- with no room for w numbers nothing is read, and all stays
unfoldable pub returning : ℕ → List ℕ → ℕ → List ℕ → List ℕ → Given → Returned
returning w a p i r g = when (ltb (length a) w) (returned no_room i r a p) (answered w a p g.index g.report g.told)

-- a number that names no choice is refused, if there is room: nothing is read, and all stays
unfoldable pub unchosen : ℕ → List ℕ → ℕ → List ℕ → List ℕ → Returned
unchosen w a p i r = when (ltb (length a) w) (returned no_room i r a p) (returned no_such_choice i r a p)

-- g is what a reading gives by each choice, of which one was asked for
abbrev pub choosing : ℕ → List ℕ → ℕ → List ℕ → List ℕ → (Choices → Given) → Asked → Returned
choosing w a p i r g (Some ch) = returning w a p i r (g ch)
choosing w a p i r g None = unchosen w a p i r

-- whether a choice was asked for with room for w numbers, of n, and if not, with what number it is refused: no room comes first
abbrev pub Chosen : ℕ → ℕ → Asked → Choices → Type 0
Chosen w n q ch = (w ≤ n) × (q ≡ Some ch)

abbrev pub Unchosen : ℕ → ℕ → Asked → ℕ → Type 0
Unchosen w n q number = ((n < w) × (number ≡ no_room)) ⊎ ((w ≤ n) × (q ≡ None) × (number ≡ no_such_choice))

-- a reading's answer in numbers, by what is put of a success, and a refusal's number and place
abbrev pub told : {A R : Type 0} → (A → List ℕ) → (R → ℕ) → (R → ℕ) → Result A R → Told
told put number place (Ok s) = numbers (put s)
told put number place (Err x) = refusal (number x) (place x)

-- 01's reading in numbers
abbrev pub told_of : Answer → Told
told_of = told summary_numbers reading_number reading_place

abbrev pub given_of : Outcome → Given
given_of o = given (told_of o.answer) o.index o.report

-- ---- what the entries give, for every input: their contracts are equations with these
-- dsr_write: its number, the output and the place. Rate and type are the caller's numbers themselves, however large: 256 is no rate
pub record WriteReturned : Type 0 where
  pub number : ℕ
  pub output : List ℕ
  pub place : ℕ

abbrev pub write_returned : ℕ → List ℕ → ℕ → WriteReturned
write_returned n o p = record { number = n; output = o; place = p }

abbrev pub dsr_write : ℕ → ℕ → List ℕ → List ℕ → WriteReturned
dsr_write rate kind indices out =
    write_returned (W.number_of (writing (settings rate kind) indices out).answer) (writing (settings rate kind) indices out).output (W.place_of (writing (settings rate kind) indices out).answer)

-- dsr_read: its number, both buffers, the lent numbers and the place, by what was asked for (`asked` of the caller's number)
abbrev pub dsr_read : List ℕ → Asked → Tables → List ℕ → List ℕ → List ℕ → ℕ → Returned
dsr_read octets q tables index report answer place =
    choosing answer_numbers answer place index report (λ ch. given_of (reading ch octets tables index report)) q
