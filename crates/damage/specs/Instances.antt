-- Utterances and damaged images that meet the premises of the theorems, so that none of them speaks of nothing.
-- Assumes nothing.
use Rattle.std.specs.Prelude.{◌≡◌, refl, Bool, List, [], ◌∷◌, ◌++◌, ℕ, zero, suc, ◌^◌, ◌<◌, Ok}
use Rattle.std.proofs.Common.{lit<}
use Rattle.std.specs.Int.Bits.{bit_xor}
use Rattle.lists.specs.Search.{first_from}
use Rattle.settings.specs.Settings.{settings}
use Rattle.frames.specs.Frames.{zero_frame}
use Rattle.crc.specs.Crc.{flip}
use Rattle.packet.specs.Packet.{packet_of, stream}
use Rattle.header_code.specs.Code.{codeword}
use Rattle.image.specs.Made.{Small, made}
use Rattle.writer.specs.Writing.{verdict, room_answer, needed}
use Rattle.writer.specs.Utterance.{Utterance}
use Rattle.damage.specs.Damage.{sent_message}

-- ---- utterances of one frame, one multiframe long
-- index x first, zeros behind
abbrev pub lone : ℕ → List ℕ
lone x = x ∷ 0 ∷ 0 ∷ 0 ∷ 0 ∷ 0 ∷ 0 ∷ []

pub small_lone : (x : ℕ) → x < 2 ^ 8 → Small (lone x)
small_lone x h zero = h
small_lone x h (suc zero) = lit< tt
small_lone x h (suc (suc zero)) = lit< tt
small_lone x h (suc (suc (suc zero))) = lit< tt
small_lone x h (suc (suc (suc (suc zero)))) = lit< tt
small_lone x h (suc (suc (suc (suc (suc zero))))) = lit< tt
small_lone x h (suc (suc (suc (suc (suc (suc zero)))))) = lit< tt
small_lone x h (suc (suc (suc (suc (suc (suc (suc i))))))) = lit< tt

pub written_1 : verdict (settings 0 0) (lone 1) (needed (lone 1)) ≡ Ok (needed (lone 1))
unfolding verdict room_answer first_from zero_frame
written_1 = refl

pub written_2 : verdict (settings 0 0) (lone 2) (needed (lone 2)) ≡ Ok (needed (lone 2))
unfolding verdict room_answer first_from zero_frame
written_2 = refl

-- 8 kHz, type 0, the frame 1,0,0,0,0,0,0; and the same with 2 for 1
abbrev pub says1 : Utterance
says1 = record { settings = settings 0 0; indices = lone 1; small = small_lone 1 (lit< tt); written = written_1 }

abbrev pub says2 : Utterance
says2 = record { settings = settings 0 0; indices = lone 2; small = small_lone 2 (lit< tt); written = written_2 }

-- ---- one multiframe whose first packet is another
abbrev pub first_swapped : List ℕ → List Bool → List Bool
first_swapped idx p = p ++ stream idx 1 11

-- ---- TOLD APART speaks of something: 1 and 2 are different utterances, and a damaged image of the one equals a damaged image of the other.
-- The first packet of the one has its bits 0 and 1 flipped, that of the other its CRC's bits 90 and 91; the header has two flips in both
abbrev pub from1 : List Bool
from1 = flip (flip (packet_of (lone 1) 0) 0) 1

abbrev pub from2 : List Bool
from2 = flip (flip (packet_of (lone 2) 0) 90) 91

abbrev pub hurt1 : List ℕ
hurt1 = made (λ k. bit_xor (codeword (sent_message says1 k)) 3) (λ k. first_swapped (lone 1) from1) 1

abbrev pub hurt2 : List ℕ
hurt2 = made (λ k. bit_xor (codeword (sent_message says2 k)) 3) (λ k. first_swapped (lone 2) from2) 1
