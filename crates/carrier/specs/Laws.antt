-- What the code finds in a multiframe, and where the packet of a pair stands: packet p of multiframe k is that of pair 12k + p.
-- Assumes nothing.
use Rattle.std.specs.Prelude.{ℕ, ◌+◌, ◌*◌, ◌/◌, ◌%◌, ◌^◌, ◌≤◌, ◌<◌, ◌≡◌, List, length}
use Rattle.std.proofs.Common.{ap, ap₂, sym, ◌∙◌, pow_pos, div-one, mod-lt, arith}
use Rattle.std.specs.Int.Bits.{bit_and}
use Rattle.std.proofs.lemmas.Nat.{and_mask}
use Rattle.lists.specs.Parts.{part, length_part}
use Rattle.layout.specs.Layout.{packet_bits, multiframe_pairs, multiframe_octets, sync_octets, stream_octets, first_pair, packet_start}
use Rattle.bits.specs.Bits.{value, bits}
use Rattle.bits.proofs.Laws.{in_word, bits_part}
use Rattle.carrier.specs.Carrier.{header_word, stream_from, stream_at, stream_packet, packet_at}

-- ---- a header's word is the low half of eight octets
pub low_half : (x : ℕ) → bit_and x 4294967295 < 2 ^ 32
low_half x = rw (and_mask x 32) (mod-lt x (pow_pos 32))

pub word_is : (s : List ℕ) (place x : ℕ) → place + multiframe_octets ≤ length s → x ≡ value (part (8 * (place + sync_octets)) 64 (bits s))
    → bit_and x 4294967295 ≡ header_word s place
word_is s place x h e =
    let a : x / 2 ^ 0 ≡ x = div-one x in
    let z : 8 * (place + 2) + 0 ≡ 8 * (place + 2) = omega arith in
    and_mask x 32 ∙ ap (λ (n : ℕ). n % 2 ^ 32) (sym a) ∙ in_word s (place + 2) 0 32 x (omega arith) (omega arith) e
    ∙ ap (λ (n : ℕ). value (part n 32 (bits s))) z ∙ ap value (sym (bits_part (place + 2) 4 s (omega arith)))

-- ---- a whole multiframe has a whole stream
pub length_stream : (octets : List ℕ) (p : ℕ) → p + multiframe_octets ≤ length octets → length (stream_from octets p) ≡ stream_octets
length_stream octets p h = length_part octets (p + 2 + 4) 138 (omega arith)

-- and every pair's packet lies inside it
pub packet_inside : (q n : ℕ) → stream_octets ≤ n → packet_start q + packet_bits ≤ 8 * n
packet_inside q n h = omega arith

-- ---- packet p of multiframe k
pub packet_of_lem : (octets : List ℕ) (place : ℕ → ℕ) (k p : ℕ) → p < multiframe_pairs → packet_at octets place (first_pair k + p) ≡ stream_packet (bits (stream_at octets place k)) p
packet_of_lem octets place k p h =
    let e : (12 * k + p) / 12 ≡ k = omega arith in
    let f : (12 * k + p) % 12 ≡ p % 12 = omega arith in
    ap₂ (λ (i j : ℕ). part (92 * i) 92 (bits (stream_at octets place j))) f e
