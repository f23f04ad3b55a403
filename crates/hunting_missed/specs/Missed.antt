-- WHY EVERY HEADER MAY HAVE AT MOST TWO FLIPS at the hunting reader. Of two multiframes the first header has three flips, so that its multiframe is
-- not found, and the second has eight and is a codeword of another rate; all else is as it was sent. Where the caller asks for the old rule (02, C-20),
-- the reading succeeds and every note is 0, yet rate, count and speech are not those sent: only the bits outside and the places tested tell. By default
-- the same bits are refused with 16. The octet reader refuses the same octets by either choice.
-- Assumes nothing.
use Rattle.std.specs.Prelude.{ℕ, zero, suc, ◌-◌, ◌<◌, ◌≡◌, refl, List, ◌++◌, Bool, length, replicate, Ok, Err}
use Rattle.std.proofs.Common.{lit<}
use Rattle.lists.specs.Parts.{over}
use Rattle.lists.specs.Search.{first_from}
use Rattle.layout.specs.Layout.{frame_indices, multiframe_pairs, index_octets, report_octets, first_pair}
use Rattle.choices.specs.declared.Choices.{Choices}
use Rattle.tables.specs.Tables.{Tables}
use Rattle.settings.specs.Settings.{settings}
use Rattle.frames.specs.Frames.{zero_frame}
use Rattle.packet.specs.Packet.{stream}
use Rattle.hunt.specs.Hunt.{multiframe_bits}
use Rattle.reader.specs.Reading as R
use Rattle.refusals.specs.declared.Reading.TheVariants.{Unsettled}
use Rattle.hunting.specs.Hunting.{outcome, hunting_reading}
use Rattle.image.specs.Made.{Small, sync_in, packet_in, made}
use Rattle.wrong_frames.specs.WrongFrames.{frame_count}
use Rattle.writer.specs.Writing.{verdict, room_answer, needed}
use Rattle.writer.specs.Utterance.{Utterance, multiframes_of, pairs_of, image_of}
use Rattle.damage.specs.Damage.{header_flips}
use Rattle.promises.specs.Misled as NeverMisled
use Rattle.promises.specs.Trusted as Trusted
use Rattle.hunting_demands.specs.HuntsBack.{Premise, Headers, Holds}

-- ---- what was sent, and what is heard instead
pub small_fours : (n : ℕ) → Small (replicate n 4)
small_fours zero i = lit< tt
small_fours (suc n) zero = lit< tt
small_fours (suc n) (suc i) = small_fours n i

pub written_25 : verdict (settings 0 0) (replicate 175 4) (needed (replicate 175 4)) ≡ Ok (needed (replicate 175 4))
unfolding verdict room_answer first_from zero_frame
written_25 = refl

pub written_1 : verdict (settings 1 0) (replicate 7 4) (needed (replicate 7 4)) ≡ Ok (needed (replicate 7 4))
unfolding verdict room_answer first_from zero_frame
written_1 = refl

-- sent: 8 kHz, type 0, 25 frames of fours, which take two multiframes
abbrev pub sent : Utterance
sent = record { settings = settings 0 0; indices = replicate 175 4; small = small_fours 175; written = written_25 }

-- heard: 11 kHz, type 0, the last of those frames, which takes one
abbrev pub heard : Utterance
heard = record { settings = settings 1 0; indices = replicate 7 4; small = small_fours 7; written = written_1 }

-- ---- what came: 08 00 00 EE for the first header, 08 00 0E EE, and 09 00 0F 3F for the second, 10 00 1D 0D
abbrev pub words : ℕ → ℕ
words zero = 0xEE000008
words (suc k) = 0x3F0F0009

abbrev pub streams : ℕ → List Bool
streams k = stream sent.indices (first_pair k) multiframe_pairs

abbrev pub garbled : List ℕ
garbled = made words streams 2

module _ (ch : Choices) (least : ℕ) (tables : Tables) (index report : List ℕ) where
  -- THE COUNTEREXAMPLE, where the caller asks for the old rule
  pub record Misses : Type 0 where
    -- sent: 8 kHz, two multiframes, 25 frames
    pub sent_rate : sent.settings.rate ≡ 0
    pub sent_multiframes : multiframes_of sent ≡ 2
    pub sent_frames : frame_count sent.indices ≡ 25
    -- no octet is lost or added, and syncs and packets come as they were sent
    pub size : length garbled ≡ length (image_of sent)
    pub syncs : (k : ℕ) → k < multiframes_of sent → sync_in garbled k ≡ sync_in (image_of sent) k
    pub packets : (q : ℕ) → q < pairs_of sent → packet_in garbled q ≡ packet_in (image_of sent) q
    -- three bits are flipped in the first header, eight in the second
    pub first_header : header_flips (image_of sent) garbled 0 ≡ 3
    pub second_header : header_flips (image_of sent) garbled 1 ≡ 8
    -- so at the octet reader NEVER MISLED and A LIST WITHOUT A WARNING CAN BE TRUSTED speak of them
    pub never_misled_met : NeverMisled.Premises sent garbled
    pub trusted_met : Trusted.Premises sent garbled
    -- all premises of HUNTS BACK hold but the one of the headers
    pub others : (p : Premise) → (p ≡ Headers → ⊥) → Holds ch sent garbled 0 0 least tables index report p
    -- MISLED WITHOUT A NOTE: the hunting reader gives 11 kHz, one multiframe, one frame and end 1, and every note is 0; a multiframe's
    -- bits outside, and as many places tested before the one found, are all that tells
    pub answers : hunting_reading ch garbled 0 least tables index report
        ≡ outcome (Ok (record { summary = record { settings = settings 1 0; multiframes = 1; speech = 1; bad = 0; end = 1 }; outside = multiframe_bits; tested = suc multiframe_bits }))
        (over index 0 index_octets (replicate frame_indices 4 ++ replicate (index_octets - frame_indices) 0)) (over report 0 report_octets (replicate report_octets 0))
    -- the octet reader is not misled: it refuses them, 16
    pub refuses : R.reading ch garbled tables index report ≡ R.outcome (Err Unsettled) index report
