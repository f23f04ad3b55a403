-- The premises of what the yards are told are met, and not only by images as they were written.
-- What is claimed stands here, and is proved in proofs/MetLaws.antt. Assumes nothing.
use Rattle.std.specs.Prelude.{◌≡◌, refl, Bool, List, ◌∷◌, ℕ, zero, suc, ◌+◌, ◌-◌, ◌*◌, ◌%◌, ◌^◌, ◌<◌, eqb, ltb, replicate, Ok}
use Rattle.std.proofs.Common.{lit<}
use Rattle.lists.specs.Tests.{when}
use Rattle.lists.specs.Parts.{over}
use Rattle.lists.specs.Search.{first_from}
use Rattle.layout.specs.Layout.{multiframe_pairs, index_octets, first_pair}
use Rattle.choices.specs.declared.Choices.{Choices}
use Rattle.tables.specs.Tables.{Tables}
use Rattle.settings.specs.Settings.{settings}
use Rattle.frames.specs.Frames.{zero_frame}
use Rattle.crc.specs.Crc.{flip}
use Rattle.packet.specs.Packet.{packet_of}
use Rattle.reader.specs.Reading.{reading}
use Rattle.reader.specs.declared.Summary.{Summary}
use Rattle.image.specs.Made.{Small}
use Rattle.wrong_frames.specs.WrongFrames.{frame_count}
use Rattle.writer.specs.Writing.{verdict, room_answer, needed}
use Rattle.writer.specs.Utterance.{Utterance, multiframes_of, image_of}
use Rattle.damage.specs.Damage.{header_flips}
use Rattle.demands.specs.ReadsBack.{spoken, padded}
use Rattle.demands.specs.Whole.{header_note_in, pair_note_in}
use Rattle.damage.specs.ToldApart.{Near}
use Rattle.demands_met.specs.Met.{distance, small_ones}
use Rattle.promises.specs.Misled as M
use Rattle.promises.specs.Flipped.{flipped}
use Rattle.promises.specs.Flipped.{but_one, hit}
use Rattle.promises.specs.Flipped.{rate_bits}
use Rattle.promises.specs.Flipped.{zero_read}

-- ---- 48 frames of ones, which take three multiframes
written_48 : verdict (settings 0 0) (replicate 336 1) (needed (replicate 336 1)) ≡ Ok (needed (replicate 336 1))
unfolding verdict room_answer first_from zero_frame
written_48 = refl

pub says48 : Utterance
says48 = record { settings = settings 0 0; indices = replicate 336 1; small = small_ones 336; written = written_48 }

pub three_multiframes : multiframes_of says48 ≡ 3
unfolding says48
three_multiframes = refl

pub rate_48 : says48.settings.rate ≡ 0
unfolding says48
rate_48 = refl

-- ---- NEVER MISLED: bits b are flipped in the second header, bits c in every other, and the packets are any bits whatsoever
abbrev pub in_second : ℕ → ℕ → ℕ → ℕ
in_second b c k = when (eqb k 1) b c

-- the incident: the second header is that of 11 kHz (if 8 kHz was sent), six flips from the one sent, every other has three, and the packets are garbage
abbrev pub garbled : Utterance → (ℕ → List Bool) → List ℕ
garbled u f = flipped u (in_second rate_bits 7) f

pub record Incident (u : Utterance) (f : ℕ → List Bool) : Type 0 where
  pub premises : M.Premises u (garbled u f)
  pub second : header_flips (image_of u) (garbled u f) 1 ≡ 6
  pub others : (k : ℕ) → k < multiframes_of u → (k ≡ 1 → ⊥) → header_flips (image_of u) (garbled u f) k ≡ 3

-- a second header that is read as one of 11 kHz is harmless alone: the reading succeeds with what was sent, and its note has 8 added
pub record Harmless (ch : Choices) (u : Utterance) (s : List ℕ) (note : ℕ) : Type 0 where
  pub given : Summary
  pub succeeds : (zero_read ch u s).answer ≡ Ok given
  pub sent : M.AsSent u s given
  pub noted : header_note_in (zero_read ch u s).report 1 ≡ note + 8

-- the premises of trusted-by-one alone leave more: one header has five flips and the others seven, and every pair is damaged
abbrev pub five_else : ℕ → ℕ
five_else k = when (eqb k 0) 31 127

-- ---- HEARD WHOLE, and names-the-damage wider: the first header has two flips, the second three and is lost, the others have one
abbrev pub lost_second : ℕ → ℕ
lost_second k = when (eqb k 0) 3 (when (eqb k 1) 7 1)

-- no pair is damaged
abbrev pub lost_one : Utterance → List ℕ
lost_one u = flipped u lost_second (packet_of u.indices)

-- so it is heard whole: the frames, then zeros, speech n, end 1; and the notes of the headers are 2, 3 and 1
pub record Heard (ch : Choices) (u : Utterance) (tables : Tables) (index report : List ℕ) : Type 0 where
  pub succeeds : (reading ch (lost_one u) tables index report).answer ≡ Ok (spoken u)
  pub frames : (reading ch (lost_one u) tables index report).index ≡ over index 0 (index_octets * multiframes_of u) (padded u)
  pub first : header_note_in (reading ch (lost_one u) tables index report).report 0 ≡ 2
  pub second : header_note_in (reading ch (lost_one u) tables index report).report 1 ≡ 3
  pub third : header_note_in (reading ch (lost_one u) tables index report).report 2 ≡ 1

-- ---- NAMES THE DAMAGE WIDER: the same headers, a burst in the first packet of every multiframe, and two flips at distance 14 in the second
module _ (u : Utterance) (q : ℕ) where
  abbrev pub burst : List Bool
  burst = flip (flip (packet_of u.indices q) 0) 2

  abbrev pub double : List Bool
  double = flip (flip (packet_of u.indices q) 0) distance

  abbrev pub hurt_packet : List Bool
  hurt_packet = when (eqb (q % multiframe_pairs) 0) burst (when (eqb (q % multiframe_pairs) 1) double (packet_of u.indices q))

abbrev pub all_hurt : Utterance → List ℕ
all_hurt u = flipped u lost_second (hurt_packet u)

-- so its damage is named: the lost header by 3, the first two pairs by 1; the third is good
pub record Hurt (ch : Choices) (u : Utterance) : Type 0 where
  pub lost : header_note_in (zero_read ch u (all_hurt u)).report 1 ≡ 3
  pub first : pair_note_in (zero_read ch u (all_hurt u)).report 0 ≡ 1
  pub second : pair_note_in (zero_read ch u (all_hurt u)).report 1 ≡ 1
  pub third : pair_note_in (zero_read ch u (all_hurt u)).report 2 ≡ 0

-- ---- LAST HEARD: of two multiframes or more every header has two flips, and every pair is damaged but those of the last multiframe
abbrev pub earlier : Utterance → ℕ → Bool
earlier u q = ltb q (first_pair (multiframes_of u - 1))

abbrev pub earlier_hurt : Utterance → List ℕ
earlier_hurt u = flipped u (λ k. 3) (hit u (earlier u))

-- they are named, and yet speech and end are as sent
pub record LastHeard (ch : Choices) (u : Utterance) : Type 0 where
  pub named : (q : ℕ) → q < first_pair (multiframes_of u - 1) → pair_note_in (zero_read ch u (earlier_hurt u)).report q ≡ 1
  pub given : Summary
  pub succeeds : (zero_read ch u (earlier_hurt u)).answer ≡ Ok given
  pub speech : given.speech ≡ frame_count u.indices
  pub end : given.end ≡ 1

-- ---- TOLD APART BY ONE HEADER: two utterances with the same settings that differ in their first pair alone, and a packet that is a damaged one
-- of either. The first header has two flips, and every other seven. With the same settings both images have the same header, so the flips in it
-- add up to four here and never to five
abbrev pub far_others : ℕ → ℕ
far_others k = when (eqb k 0) 3 127

abbrev pub first_as : Utterance → List Bool → List ℕ
first_as u p = flipped u far_others (but_one u 0 p)

-- 24 frames of ones, and the same with 2 for the first index
abbrev pub headed : ℕ → List ℕ
headed x = x ∷ replicate 167 1

pub written_one : verdict (settings 0 0) (headed 1) (needed (headed 1)) ≡ Ok (needed (headed 1))
unfolding verdict room_answer first_from zero_frame
written_one = refl

pub written_two : verdict (settings 0 0) (headed 2) (needed (headed 2)) ≡ Ok (needed (headed 2))
unfolding verdict room_answer first_from zero_frame
written_two = refl

pub small_headed : (x : ℕ) → x < 2 ^ 8 → Small (headed x)
small_headed x h zero = h
small_headed x h (suc i) = small_ones 167 i

unfoldable pub one24 : Utterance
one24 = record { settings = settings 0 0; indices = headed 1; small = small_headed 1 (lit< tt); written = written_one }

unfoldable pub two24 : Utterance
two24 = record { settings = settings 0 0; indices = headed 2; small = small_headed 2 (lit< tt); written = written_two }

-- a packet that is a damaged one of either
abbrev pub hurt_first : List Bool
hurt_first = flip (flip (packet_of (headed 1) 0) 0) 1

-- one message is a damaged image of two utterances that are not the same
pub record Near24 : Type 0 where
  pub near : Near one24 two24 (first_as one24 hurt_first) (first_as two24 hurt_first)
  pub first : header_flips (image_of one24) (first_as one24 hurt_first) 0 ≡ 2
  pub second : header_flips (image_of one24) (first_as one24 hurt_first) 1 ≡ 7
  pub different : one24.indices ≡ two24.indices → ⊥
