-- Frames, pair packets and the feature stream, as bits (01, "Frame", "Pair packet"). What a frame holds is given by a list of widths, so
-- that a second layout is a second list. A frame is its indices, a pair two frames, a packet a pair's bits and their CRC.
-- Assumes nothing.
use Rattle.std.specs.Prelude.{Bool, List, [], ◌∷◌, ◌++◌, ℕ, zero, suc, ◌+◌, ◌-◌, ◌*◌, ◌/◌, ◌%◌, drop, get_or}
use Rattle.layout.specs.Layout.{widths, frame_indices, frame_bits, crc_bits, packet_bits, first_frame, second_frame}
use Rattle.bits.specs.Bits.{laid, numbers, total}
use Rattle.crc.specs.Crc.{crc, sent}

-- ---- sizes of the words and octets by which packets are written and read
-- a packet's bits behind its first 64
abbrev pub rest_bits : ℕ
rest_bits = packet_bits - 64

-- a packet's bits in its last octet, if it began with one; as many lead an odd packet in its first
abbrev pub half_bits : ℕ
half_bits = packet_bits % 8

-- the second frame and the CRC
abbrev pub second_bits : ℕ
second_bits = frame_bits + crc_bits

-- the octets of two packets
abbrev pub two_packets : ℕ
two_packets = 2 * packet_bits / 8

-- ---- frames, packets and streams
-- a frame's bits: its indices as fields of the widths ws, one after the other; a missing index counts as 0
abbrev pub frame : List ℕ → List ℕ → List Bool
frame ws f = laid ws f

-- the indices at the front of bits
abbrev pub indices : List ℕ → List Bool → List ℕ
indices ws l = numbers ws l

-- bits and then their CRC
unfoldable pub guarded : List Bool → List Bool
guarded d = d ++ sent (crc d)

-- a pair's packet: frame, frame, CRC
unfoldable pub packet : List ℕ → List ℕ → List ℕ → List Bool
packet ws f g = guarded (frame ws f ++ frame ws g)

-- a packet taken apart: the indices of its two frames
unfoldable pub apart : List ℕ → List Bool → List ℕ
apart ws p = indices ws p ++ indices ws (drop (total ws) p)

-- n octets from place at on, 0 past the end
unfoldable pub row : List ℕ → ℕ → ℕ → List ℕ
row idx at zero = []
row idx at (suc n) = row idx at n ++ (get_or idx (at + n) 0 ∷ [])

-- the seven octets of frame k; past the end of the indices stand zero frames (01, "Writing")
abbrev pub frame_at : List ℕ → ℕ → List ℕ
frame_at idx k = row idx (frame_indices * k) frame_indices

-- the packet of pair q
unfoldable pub packet_of : List ℕ → ℕ → List Bool
packet_of idx q = packet widths (frame_at idx (first_frame q)) (frame_at idx (second_frame q))

-- the packets of n pairs from pair q on
unfoldable pub stream : List ℕ → ℕ → ℕ → List Bool
stream idx q zero = []
stream idx q (suc n) = stream idx q n ++ packet_of idx (q + n)
