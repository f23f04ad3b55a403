-- What shows why premises are there: images where every pair is bad, where two flips are 15 apart, and where a header has three flips, and what
-- of the last two is so. Sizes, tables and room are refusals by definition and stand in `page_written` and `page_received`.
-- Assumes nothing.
use Rattle.std.specs.Prelude.{◌≡◌, refl, Bool, List, [], ◌∷◌, ℕ, zero, suc, ◌+◌, ◌<◌, Ok}
use Rattle.std.proofs.Common.{lit<}
use Rattle.std.specs.Int.Bits.{bit_xor}
use Rattle.image.specs.Made.{Small, sync_in, word_in, packet_in, made}
use Rattle.lists.specs.Rows.{joined}
use Rattle.lists.specs.Search.{first_from}
use Rattle.layout.specs.Layout.{multiframe_pairs, first_pair}
use Rattle.settings.specs.Settings.{settings}
use Rattle.frames.specs.Frames.{zero_frame}
use Rattle.crc.specs.Crc.{flip}
use Rattle.packet.specs.Packet.{packet_of, stream}
use Rattle.header_code.specs.Code.{codeword}
use Rattle.writer.specs.Writing.{verdict, room_answer, needed}
use Rattle.writer.specs.Utterance.{Utterance, multiframes_of, image_of}
use Rattle.damage.specs.Damage.{header_flips, sent_message}
use Rattle.damage.specs.Instances.{lone, small_lone, says1}

-- ---- ALL PAIRS BAD: each utterance can be damaged so, by one flip in every packet
module _ (u : Utterance) where
  abbrev pub all_hit : ℕ → List Bool
  all_hit k = joined (λ r. flip (packet_of u.indices (first_pair k + r)) 0) multiframe_pairs

  abbrev pub sent_word : ℕ → ℕ
  sent_word k = codeword (sent_message u k)

  abbrev pub all_hurt : List ℕ
  all_hurt = made sent_word all_hit (multiframes_of u)

-- ---- DISTANCE 15 PASSES: the image of one utterance is that of another with packet bits 0 and 15 flipped, and nothing else. A damage that
-- allowed this distance would have its image equal an undamaged one
abbrev pub eighth : List ℕ
eighth = 0 ∷ 0 ∷ 8 ∷ 0 ∷ 0 ∷ 0 ∷ 0 ∷ []

pub small_eighth : Small eighth
small_eighth zero = lit< tt
small_eighth (suc zero) = lit< tt
small_eighth (suc (suc zero)) = lit< tt
small_eighth (suc (suc (suc zero))) = lit< tt
small_eighth (suc (suc (suc (suc zero)))) = lit< tt
small_eighth (suc (suc (suc (suc (suc zero))))) = lit< tt
small_eighth (suc (suc (suc (suc (suc (suc zero)))))) = lit< tt
small_eighth (suc (suc (suc (suc (suc (suc (suc i))))))) = lit< tt

pub written_eighth : verdict (settings 0 0) eighth (needed eighth) ≡ Ok (needed eighth)
unfolding verdict room_answer first_from zero_frame
written_eighth = refl

abbrev pub says_eighth : Utterance
says_eighth = record { settings = settings 0 0; indices = eighth; small = small_eighth; written = written_eighth }

pub record Passes15 : Type 0 where
  pub syncs : (k : ℕ) → k < 1 → sync_in (image_of says_eighth) k ≡ sync_in (image_of says1) k
  pub headers : (k : ℕ) → k < 1 → word_in (image_of says_eighth) k ≡ word_in (image_of says1) k
  pub first : packet_in (image_of says_eighth) 0 ≡ flip (flip (packet_in (image_of says1) 0) 0) 15
  pub others : (q : ℕ) → 0 < q → q < multiframe_pairs → packet_in (image_of says_eighth) q ≡ packet_in (image_of says1) q
  pub different : packet_of eighth 0 ≡ packet_of (lone 1) 0 → ⊥

-- ---- THREE FLIPS IN A HEADER CONFUSE TWO RATES: the same frames at 8 and at 11 kHz, and octets that are three header flips from the image of
-- either and otherwise whole. This is how 8 kHz went to the 11 kHz model
pub written_11 : verdict (settings 1 0) (lone 1) (needed (lone 1)) ≡ Ok (needed (lone 1))
unfolding verdict room_answer first_from zero_frame
written_11 = refl

abbrev pub says1_at11 : Utterance
says1_at11 = record { settings = settings 1 0; indices = lone 1; small = small_lone 1 (lit< tt); written = written_11 }

-- 01 00 01 01, halfway between SampRate 1 alone and nothing, laid on the header sent
abbrev pub halfway : ℕ
halfway = 0x01010001

abbrev pub halfway_word : ℕ → ℕ
halfway_word k = bit_xor (codeword 8) halfway

abbrev pub confused : List ℕ
confused = made halfway_word (λ k. stream (lone 1) (first_pair k) multiframe_pairs) 1

pub record Confuses : Type 0 where
  pub three_of_8 : header_flips (image_of says1) confused 0 ≡ 3
  pub three_of_11 : header_flips (image_of says1_at11) confused 0 ≡ 3
  pub whole_of_8 : (q : ℕ) → q < multiframe_pairs → packet_in confused q ≡ packet_in (image_of says1) q
  pub whole_of_11 : (q : ℕ) → q < multiframe_pairs → packet_in confused q ≡ packet_in (image_of says1_at11) q
  pub syncs_of_8 : sync_in confused 0 ≡ sync_in (image_of says1) 0
  pub syncs_of_11 : sync_in confused 0 ≡ sync_in (image_of says1_at11) 0
