-- The sizes of 01, "Bits and octets", once for all definitions; `all_sizes` in the code holds its constants to these, as proofs/Constants.antt does.
-- A frame is 10 ms of speech, a pair two frames, a multiframe twelve pairs. A frame, pair or multiframe number counts from 0 here
-- unless a comment says otherwise; 01's places count frames from 1.
-- Assumes nothing.
use Rattle.std.specs.Prelude.{ℕ, ◌+◌, ◌-◌, ◌*◌, ◌/◌, ◌%◌, List, [], ◌∷◌}

-- ---- the frame: six indices of 6 bits, then one of 8 (01, "Frame")
abbrev pub widths : List ℕ
widths = 6 ∷ 6 ∷ 6 ∷ 6 ∷ 6 ∷ 6 ∷ 8 ∷ []

abbrev pub frame_indices : ℕ
frame_indices = 7

abbrev pub frame_bits : ℕ
frame_bits = 44

-- the most that an index of 6 bits holds
abbrev pub most_narrow : ℕ
most_narrow = 63

-- ---- the pair packet: frame, frame, CRC of 4 (01, "Pair packet")
abbrev pub pair_frames : ℕ
pair_frames = 2

abbrev pub pair_indices : ℕ
pair_indices = pair_frames * frame_indices

abbrev pub crc_bits : ℕ
crc_bits = 4

abbrev pub data_bits : ℕ
data_bits = pair_frames * frame_bits

abbrev pub packet_bits : ℕ
packet_bits = data_bits + crc_bits

-- ---- the multiframe, 144 octets: sync 2, header 4, feature stream 138 (01, "Multiframe")
abbrev pub multiframe_pairs : ℕ
multiframe_pairs = 12

abbrev pub multiframe_frames : ℕ
multiframe_frames = pair_frames * multiframe_pairs

abbrev pub sync_octets : ℕ
sync_octets = 2

-- the sync 87 B2 and the inverse sync 78 4D, in sending order
abbrev pub sync_first : ℕ
sync_first = 0x87

abbrev pub sync_second : ℕ
sync_second = 0xB2

abbrev pub sync : List ℕ
sync = sync_first ∷ sync_second ∷ []

abbrev pub inverse_first : ℕ
inverse_first = 0x78

abbrev pub inverse_second : ℕ
inverse_second = 0x4D

-- the sync's sixteen bits as a number, the first sent lowest
abbrev pub sync_word : ℕ
sync_word = 256 * sync_second + sync_first

abbrev pub header_octets : ℕ
header_octets = 4

abbrev pub stream_octets : ℕ
stream_octets = 138

abbrev pub multiframe_octets : ℕ
multiframe_octets = sync_octets + header_octets + stream_octets

-- ---- the utterance: at most 255 multiframes, and at least one frame of padding (01, "Writing")
abbrev pub most_multiframes : ℕ
most_multiframes = 255

abbrev pub most_frames : ℕ
most_frames = multiframe_frames * most_multiframes - 1

-- ---- what a reading lends (01, "Reading")
abbrev pub index_octets : ℕ
index_octets = frame_indices * multiframe_frames

abbrev pub report_octets : ℕ
report_octets = 1 + multiframe_pairs

abbrev pub codebook_numbers : ℕ
codebook_numbers = 1280

abbrev pub threshold_numbers : ℕ
threshold_numbers = 14

-- ---- from one counter to another, by 2, 12 and 24
abbrev pub pair_of : ℕ → ℕ
pair_of frame = frame / pair_frames

abbrev pub first_frame : ℕ → ℕ
first_frame pair = pair_frames * pair

abbrev pub second_frame : ℕ → ℕ
second_frame pair = pair_frames * pair + 1

abbrev pub multiframe_of : ℕ → ℕ
multiframe_of pair = pair / multiframe_pairs

abbrev pub first_pair : ℕ → ℕ
first_pair multiframe = multiframe_pairs * multiframe

abbrev pub first_frame_of : ℕ → ℕ
first_frame_of multiframe = multiframe_frames * multiframe

-- the stream bit at which a pair's packet starts: packet p of a multiframe at bit 92p
abbrev pub packet_start : ℕ → ℕ
packet_start pair = packet_bits * (pair % multiframe_pairs)
