-- The constants of the code are the sizes of the definitions, and its sync and inverse sync theirs.
-- Assumes nothing.
use Rattle.std.specs.Prelude.{◌≡◌, refl}
use Rattle.layout.specs.declared.TheConstants.FrameLayout as F
use Rattle.layout.specs.declared.TheConstants.PacketLayout as P
use Rattle.layout.specs.declared.TheConstants.MultiframeLayout as M
use Rattle.layout.specs.declared.TheConstants.UtteranceLayout as U
use Rattle.layout.specs.declared.TheConstants.ReadingLayout as R
use Rattle.layout.specs.Layout.{frame_indices, frame_bits, pair_frames, crc_bits, data_bits, packet_bits, multiframe_pairs, multiframe_frames, sync_octets, sync_first, sync_second, sync_word, inverse_first, inverse_second, header_octets, stream_octets, multiframe_octets, most_multiframes, most_frames, index_octets, report_octets, codebook_numbers, threshold_numbers}

pub frame : (F.INDICES ≡ frame_indices) × (F.BITS ≡ frame_bits)
frame = (refl, refl)

pub packet : (P.FRAMES ≡ pair_frames) × (P.CRC_BITS ≡ crc_bits) × (P.DATA_BITS ≡ data_bits) × (P.BITS ≡ packet_bits)
packet = (refl, refl, refl, refl)

pub multiframe : (M.PAIRS ≡ multiframe_pairs) × (M.FRAMES ≡ multiframe_frames) × (M.HEADER ≡ header_octets) × (M.STREAM ≡ stream_octets) × (M.OCTETS ≡ multiframe_octets)
multiframe = (refl, refl, refl, refl, refl)

pub sync : (M.SYNC ≡ sync_octets) × (M.SYNC_FIRST ≡ sync_first) × (M.SYNC_SECOND ≡ sync_second) × (M.SYNC_WORD ≡ sync_word)
sync = (refl, refl, refl, refl)

pub inverse : (M.INVERSE_FIRST ≡ inverse_first) × (M.INVERSE_SECOND ≡ inverse_second)
inverse = (refl, refl)

pub utterance : (U.MULTIFRAMES ≡ most_multiframes) × (U.FRAMES ≡ most_frames)
utterance = (refl, refl)

pub lent : (R.INDEX ≡ index_octets) × (R.REPORT ≡ report_octets) × (R.CODEBOOK ≡ codebook_numbers) × (R.THRESHOLDS ≡ threshold_numbers)
lent = (refl, refl, refl, refl)
