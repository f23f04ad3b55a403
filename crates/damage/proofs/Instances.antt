-- The utterances and damaged images of specs/Instances meet the premises of the theorems, so that none of them speaks of nothing.
-- Assumes nothing.
use Rattle.std.specs.Prelude.{◌≡◌, refl, Bool, true, false, List, [], ◌∷◌, ◌++◌, ◌⊎◌, ℕ, zero, suc, ◌+◌, ◌*◌, ◌%◌, ◌≤◌, ◌<◌, length, take, drop, get_or, replicate}
use Rattle.std.proofs.Math.Path.{sym}
use Rattle.std.proofs.Common.{ap, ap₂, ◌∙◌, subst, inl, inr, arith, lit<, length-append, take_at}
use Rattle.std.proofs.Math.Bool.{xor}
use Rattle.std.proofs.Math.Nat.{le_of_eq}
use Rattle.std.specs.Int.Bits.{bit_xor}
use Rattle.std.proofs.lemmas.Nat.{xor_lt}
use Rattle.std.specs.Int.Count.{ones, ones_in}
use Rattle.std.proofs.Math.Seq.{drop-append-add}
use Rattle.polynomials.specs.Light.{ones_in_lem}
use Rattle.lists.specs.Parts.{part}
use Rattle.layout.specs.Layout.{widths, frame_indices, multiframe_pairs, first_frame, packet_bits, stream_octets}
use Rattle.bits.specs.Bits.{field, laid}
use Rattle.carrier.specs.Carrier.{stream_packet}
use Rattle.crc.specs.Crc.{crc, after, flip, Damaged}
use Rattle.crc.proofs.Damage.{length_flip, flips_burst}
use Rattle.packet.specs.Packet.{guarded, packet, row, packet_of, stream}
use Rattle.packet.proofs.Laws.{row_past, length_packet_of, length_stream, stream_part}
use Rattle.header_code.specs.Code.{codeword, flips_to}
use Rattle.header_code.specs.Code.Distance.{codeword_lt}
use Rattle.message.specs.Message.Laws.{message_lt}
use Rattle.header.proofs.Laws.{flips_of}
use Rattle.image.specs.Made.{made}
use Rattle.writer.specs.Utterance.{Utterance, multiframes_of, pairs_of, image_of}
use Rattle.damage.specs.Damage.{Damage, sent_message}
use Rattle.damage.proofs.Damages.{damage_made}
use Rattle.damage.specs.ToldApart.{Equal}
use Rattle.damage.specs.Instances.{first_swapped, from1, from2, hurt1, hurt2, lone, says1, says2}

module _ (idx : List ℕ) (p : List Bool) (size : length p ≡ packet_bits) where
  pub length_swapped : length (first_swapped idx p) ≡ 8 * stream_octets
  length_swapped = length-append p (stream idx 1 11) ∙ ap₂ ◌+◌ size (length_stream idx 1 11)

  pub swapped_first : part 0 packet_bits (first_swapped idx p) ≡ p
  swapped_first = take_at p (stream idx 1 11) packet_bits size

  pub swapped_rest : (q : ℕ) → q < 11 → part (packet_bits * suc q) packet_bits (first_swapped idx p) ≡ packet_of idx (suc q)
  swapped_rest q h =
      let z : packet_bits * suc q ≡ length p + packet_bits * q = omega arith in
      let e : 1 + q ≡ suc q = omega arith in
      ap (λ (n : ℕ). take packet_bits (drop n (first_swapped idx p))) z ∙ ap (take packet_bits) (drop-append-add p (stream idx 1 11) (packet_bits * q))
      ∙ stream_part idx 1 11 q h ∙ ap (packet_of idx) e

-- of a one-multiframe utterance: two flips in the header, and the first packet damaged
module _ (u : Utterance) (single : multiframes_of u ≡ 1) (p : List Bool) (d : Damaged (packet_of u.indices 0) p) (size : length p ≡ packet_bits) where
  abbrev pub flipped_word : ℕ → ℕ
  flipped_word k = bit_xor (codeword (sent_message u k)) 3

  abbrev pub swapped_stream : ℕ → List Bool
  swapped_stream k = first_swapped u.indices p

  two_flips : (k : ℕ) → flips_to (flipped_word k) (sent_message u k) ≤ 2
  unfolding ones_in
  two_flips k = let e : ones 3 ≡ 2 = sym (ones_in_lem 2 3 (lit< tt)) in le_of_eq (flips_of (sent_message u k) 3 ∙ e)

  each_packet : (q : ℕ) → q < pairs_of u
      → (stream_packet (first_swapped u.indices p) q ≡ packet_of u.indices q)
      ⊎ Damaged (packet_of u.indices q) (stream_packet (first_swapped u.indices p) q)
  each_packet zero h = inr (subst (Damaged (packet_of u.indices 0)) (sym (swapped_first u.indices p size)) d)
  each_packet (suc q) h =
      let e : suc q % multiframe_pairs ≡ suc q = omega (arith, single) in
      inl (ap (λ (n : ℕ). part (packet_bits * n) packet_bits (first_swapped u.indices p)) e ∙ swapped_rest u.indices p size q (omega (arith, single)))

  pub hurt : Damage (multiframes_of u) (image_of u) (made flipped_word swapped_stream (multiframes_of u))
  hurt =
      damage_made u flipped_word swapped_stream
      record {
        words = λ k h. xor_lt 32 (codeword (sent_message u k)) 3 (codeword_lt (sent_message u k) (message_lt u.settings (k + 1) 0)) (lit< tt);
        near_words = λ k h. two_flips k;
        sizes = λ k h. length_swapped u.indices p size;
        each = each_packet;
      }

-- both packets, bit by bit
sent1 : packet_of (lone 1) 0 ≡ true ∷ false ∷ (replicate 88 false ++ (true ∷ false ∷ []))
unfolding packet_of packet guarded crc after row laid field xor
sent1 = refl

sent2 : packet_of (lone 2) 0 ≡ false ∷ true ∷ (replicate 88 false ++ (false ∷ true ∷ []))
unfolding packet_of packet guarded crc after row laid field xor
sent2 = refl

same_packet : from1 ≡ from2
same_packet = ap (λ (p : List Bool). flip (flip p 0) 1) sent1 ∙ sym (ap (λ (p : List Bool). flip (flip p 90) 91) sent2)

-- past its frames every utterance has the same packets
pub past_packet : (idx other : List ℕ) (q : ℕ) → length idx ≤ frame_indices * first_frame q → length other ≤ frame_indices * first_frame q → packet_of idx q ≡ packet_of other q
unfolding packet_of
past_packet idx other q h k =
    ap₂ (packet widths) (row_past idx (frame_indices * (2 * q)) frame_indices h ∙ sym (row_past other (frame_indices * (2 * q)) frame_indices k))
    (row_past idx (frame_indices * (2 * q + 1)) frame_indices (omega arith) ∙ sym (row_past other (frame_indices * (2 * q + 1)) frame_indices (omega arith)))

past_stream : (idx other : List ℕ) (q n : ℕ) → length idx ≤ frame_indices * first_frame q → length other ≤ frame_indices * first_frame q → stream idx q n ≡ stream other q n
unfolding stream
past_stream idx other q zero h k = refl
past_stream idx other q (suc n) h k =
    ap₂ (λ (l m : List Bool). l ++ m) (past_stream idx other q n h k) (past_packet idx other (q + n) (omega arith) (omega arith))

same_rest : stream (lone 1) 1 11 ≡ stream (lone 2) 1 11
same_rest = past_stream (lone 1) (lone 2) 1 11 (omega arith) (omega arith)

size1 : length from1 ≡ packet_bits
size1 = length_flip (flip (packet_of (lone 1) 0) 0) 1 ∙ length_flip (packet_of (lone 1) 0) 0 ∙ length_packet_of (lone 1) 0

size2 : length from2 ≡ packet_bits
size2 = length_flip (flip (packet_of (lone 2) 0) 90) 91 ∙ length_flip (packet_of (lone 2) 0) 90 ∙ length_packet_of (lone 2) 0

burst1 : Damaged (packet_of (lone 1) 0) from1
burst1 = inl (flips_burst (packet_of (lone 1) 0) 0 1 (lit< tt) (lit< tt) (omega (arith, length_packet_of (lone 1) 0)))

burst2 : Damaged (packet_of (lone 2) 0) from2
burst2 = inl (flips_burst (packet_of (lone 2) 0) 90 91 (lit< tt) (lit< tt) (omega (arith, length_packet_of (lone 2) 0)))

pub equal_images : Equal says1 says2 hurt1 hurt2
equal_images = record {
  one = hurt says1 refl from1 burst1 size1;
  other = hurt says2 refl from2 burst2 size2;
  equal = ap (λ (x : List Bool). made (λ k. bit_xor (codeword (sent_message says1 k)) 3) (λ k. x) 1) (ap₂ (λ (x y : List Bool). x ++ y) same_packet same_rest);
}

pub yet_different : says1.indices ≡ says2.indices → ⊥
yet_different e = let z : ◌≡◌ {A = ℕ} 1 2 = ap (λ (l : List ℕ). get_or l 0 0) e in omega arith
