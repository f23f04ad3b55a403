-- What meets the premises of the theorems: just enough room, damage to any utterance that leaves a good pair, and an utterance of two multiframes.
-- Assumes nothing.
use Rattle.std.specs.Prelude.{◌≡◌, Bool, List, ◌++◌, replicate, Ok}
use Rattle.std.proofs.Math.Path.{refl}
use Rattle.std.proofs.Common.{lit<}
use Prim.Native.Nat.{ℕ, zero, suc, ◌+◌, ◌*◌}
use Rattle.std.specs.Int.Bits.{bit_xor}
use Rattle.lists.specs.Search.{first_from}
use Rattle.layout.specs.Layout.{index_octets, report_octets, first_pair}
use Rattle.settings.specs.Settings.{settings}
use Rattle.frames.specs.Frames.{zero_frame}
use Rattle.crc.specs.Crc.{flip}
use Rattle.packet.specs.Packet.{packet_of, stream}
use Rattle.header_code.specs.Code.{codeword}
use Rattle.image.specs.Made.{Small, made}
use Rattle.wrong_frames.specs.WrongFrames.{frame_count}
use Rattle.writer.specs.Writing.{verdict, room_answer, needed}
use Rattle.writer.specs.Utterance.{Utterance, multiframes_of}
use Rattle.damage.specs.Damage.{sent_message}

-- ---- just enough room
abbrev pub index_for : ℕ → List ℕ
index_for m = replicate (index_octets * m) 0

abbrev pub report_for : ℕ → List ℕ
report_for m = replicate (report_octets * m) 0

-- ---- damage to any utterance: two flips in every header, a burst in the first packet of every multiframe, and two flips at this distance in
-- the second
abbrev pub distance : ℕ
distance = 14

module _ (u : Utterance) where
  abbrev pub burst_at : ℕ → List Bool
  burst_at k = flip (flip (packet_of u.indices (first_pair k)) 0) 2

  abbrev pub double_at : ℕ → List Bool
  double_at k = flip (flip (packet_of u.indices (first_pair k + 1)) 0) distance

  abbrev pub hurt_word : ℕ → ℕ
  hurt_word k = bit_xor (codeword (sent_message u k)) 3

  abbrev pub hurt_stream : ℕ → List Bool
  hurt_stream k = burst_at k ++ (double_at k ++ stream u.indices (first_pair k + 2) 10)

  abbrev pub hurt_image : List ℕ
  hurt_image = made hurt_word hurt_stream (multiframes_of u)

-- ---- an utterance of two multiframes: 24 frames of ones, which take them
pub small_ones : (n : ℕ) → Small (replicate n 1)
small_ones zero i = lit< tt
small_ones (suc n) zero = lit< tt
small_ones (suc n) (suc i) = small_ones n i

written_24 : verdict (settings 0 0) (replicate 168 1) (needed (replicate 168 1)) ≡ Ok (needed (replicate 168 1))
unfolding verdict room_answer first_from zero_frame
written_24 = refl

pub says24 : Utterance
says24 = record { settings = settings 0 0; indices = replicate 168 1; small = small_ones 168; written = written_24 }

pub two_multiframes : multiframes_of says24 ≡ 2
unfolding says24
two_multiframes = refl

pub settings_24 : says24.settings ≡ settings 0 0
unfolding says24
settings_24 = refl

pub frames_24 : frame_count says24.indices ≡ 24
unfolding says24
frames_24 = refl
