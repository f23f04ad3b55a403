-- Where the sync, the header and the packets of multiframes stand in octets (01, "Multiframe", "Pair packet"), once for writer and reader.
-- Multiframe k begins at octet `place k`; pairs run on through all multiframes, so pair q is packet q mod 12 of multiframe q div 12. The
-- rules on pairs ask for packets alone: another carrier of them is another module beside this. Pairs and multiframes count from 0.
-- Assumes nothing.
use Rattle.std.specs.Prelude.{ℕ, ◌+◌, ◌*◌, Bool, List, length, get_or}
use Rattle.lists.specs.Parts.{part}
use Rattle.layout.specs.Layout.{packet_bits, multiframe_pairs, multiframe_octets, sync_octets, header_octets, stream_octets, multiframe_of, packet_start}
use Rattle.bits.specs.Bits.{value, bits}

-- ---- a multiframe that begins at octet p: its sync, its header's octets, and its feature stream behind them
abbrev pub sync_from : List ℕ → ℕ → List ℕ
sync_from octets p = part p sync_octets octets

abbrev pub header_from : List ℕ → ℕ → List ℕ
header_from octets p = part (p + sync_octets) header_octets octets

abbrev pub stream_from : List ℕ → ℕ → List ℕ
stream_from octets p = part (p + sync_octets + header_octets) stream_octets octets

-- the header as a word: 32 bits, the first sent the least significant
abbrev pub header_word : List ℕ → ℕ → ℕ
header_word octets p = value (bits (header_from octets p))

-- packet p of the bits of a feature stream: 92 bits
abbrev pub stream_packet : List Bool → ℕ → List Bool
stream_packet stream p = part (packet_start p) packet_bits stream

-- ---- multiframes in octets, multiframe k from octet place k on
abbrev pub word_at : List ℕ → (ℕ → ℕ) → ℕ → ℕ
word_at octets place k = header_word octets (place k)

abbrev pub stream_at : List ℕ → (ℕ → ℕ) → ℕ → List ℕ
stream_at octets place k = stream_from octets (place k)

-- the packet of pair q
abbrev pub packet_at : List ℕ → (ℕ → ℕ) → ℕ → List Bool
packet_at octets place q = stream_packet (bits (stream_at octets place (multiframe_of q))) q

-- ---- a writer's places: one multiframe behind the other
abbrev pub in_row : ℕ → ℕ
in_row k = multiframe_octets * k

-- ---- a reader's places: a list, as cutting up gives them; the packets received there, and how many
abbrev pub in_places : List ℕ → ℕ → ℕ
in_places places k = get_or places k 0

abbrev pub received : List ℕ → List ℕ → ℕ → List Bool
received octets places = packet_at octets (in_places places)

abbrev pub pair_count : List ℕ → ℕ
pair_count places = multiframe_pairs * length places

-- octets that are cut up, and the places at which their multiframes begin
pub record Multiframes : Type 0 where
  pub octets : List ℕ
  pub places : List ℕ

abbrev pub multiframes_of : List ℕ → List ℕ → Multiframes
multiframes_of octets places = record { octets = octets; places = places }
