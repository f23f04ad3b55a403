-- An image of any utterance with one pair damaged, in one bit, and nothing else.
-- Assumes nothing.
use Rattle.std.specs.Prelude.{◌≡◌, refl, Bool, List, ℕ, ◌+◌, ◌*◌, ◌/◌, ◌%◌, ◌<◌, eqb, length}
use Rattle.std.proofs.Math.Path.{sym, ap}
use Rattle.std.proofs.Common.{◌∙◌, subst, inl, inr, arith, lit<, eq-eqb, ne_eqb}
use Rattle.std.proofs.Math.Decide.{ℕ_discrete}
use Rattle.std.specs.Int.Bits.{xor_self}
use Rattle.std.specs.Int.Count.{ones, ones_in}
use Rattle.polynomials.specs.Light.{ones_in_lem}
use Rattle.lists.specs.Tests.{when}
use Rattle.lists.specs.Rows.{joined, length_joined, joined_part}
use Rattle.layout.specs.Layout.{packet_bits, stream_octets, multiframe_pairs, first_pair, multiframe_of}
use Rattle.carrier.specs.Carrier.{stream_packet}
use Rattle.crc.specs.Crc.{flip, Damaged}
use Rattle.crc.proofs.Damage.{length_flip, flip_burst}
use Rattle.packet.specs.Packet.{packet_of}
use Rattle.packet.proofs.Laws.{length_packet_of}
use Rattle.header_code.specs.Code.{codeword, flips_to}
use Rattle.header_code.specs.Code.Distance.{codeword_lt}
use Rattle.message.specs.Message.Laws.{message_lt}
use Rattle.image.specs.Made.{packet_in, made, made_word, made_packet}
use Rattle.image.proofs.Laws.{image_packet}
use Rattle.writer.specs.Utterance.{Utterance, multiframes_of, pairs_of, image_of}
use Rattle.damage.specs.Damage.{Damage, Touched, header_flips, sent_message, header_near, differs}
use Rattle.damage.proofs.Damages.{damage_made}

module _ (u : Utterance) (p : ℕ) where
  -- the packet of pair q, its first bit flipped if it is pair p
  abbrev pub hit_at : ℕ → List Bool
  hit_at q = when (eqb q p) (flip (packet_of u.indices q) 0) (packet_of u.indices q)

  abbrev pub hit_stream : ℕ → List Bool
  hit_stream k = joined (λ r. hit_at (first_pair k + r)) multiframe_pairs

  abbrev pub word : ℕ → ℕ
  word k = codeword (sent_message u k)

  -- the image, with that
  abbrev pub hit_image : List ℕ
  hit_image = made word hit_stream (multiframes_of u)

  hit_here : (q : ℕ) → q ≡ p → hit_at q ≡ flip (packet_of u.indices q) 0
  hit_here q e = rw (eq-eqb q p e)

  hit_else : (q : ℕ) → (q ≡ p → ⊥) → hit_at q ≡ packet_of u.indices q
  hit_else q n = rw (ne_eqb q p n)

  hit_length : (q : ℕ) → length (hit_at q) ≡ packet_bits
  hit_length q =
      elim (ℕ_discrete q p) [
        | yes e ↦ ap length (hit_here q e) ∙ length_flip (packet_of u.indices q) 0 ∙ length_packet_of u.indices q
        | no n ↦ ap length (hit_else q n) ∙ length_packet_of u.indices q
      ]

  stream_length : (k : ℕ) → length (hit_stream k) ≡ 8 * stream_octets
  stream_length k = length_joined (λ r. hit_at (first_pair k + r)) packet_bits multiframe_pairs (λ r h. hit_length (first_pair k + r))

  hit_part : (q : ℕ) → stream_packet (hit_stream (multiframe_of q)) q ≡ hit_at q
  hit_part q =
      let e : multiframe_pairs * (q / multiframe_pairs) + q % multiframe_pairs ≡ q = omega arith in
      joined_part (λ r. hit_at (first_pair (q / multiframe_pairs) + r)) packet_bits multiframe_pairs (q % multiframe_pairs) (λ r h. hit_length (first_pair (q / multiframe_pairs) + r)) (omega arith) ∙ ap hit_at e

  one_flip : (q : ℕ) → Damaged (packet_of u.indices q) (flip (packet_of u.indices q) 0)
  one_flip q = inl (flip_burst (packet_of u.indices q) 0 (omega (arith, length_packet_of u.indices q)))

  none_wrong : (k : ℕ) → flips_to (word k) (sent_message u k) ≡ 0
  unfolding flips_to ones_in
  none_wrong k = ap ones (xor_self (codeword (sent_message u k))) ∙ sym (ones_in_lem 1 0 (lit< tt))

  -- it is such damage as demand 3 counts
  pub hits : Damage (multiframes_of u) (image_of u) hit_image
  hits =
      damage_made u word hit_stream
      record {
        words = λ k h. codeword_lt (sent_message u k) (message_lt u.settings (k + 1) 0);
        near_words = λ k h. omega (arith, none_wrong k);
        sizes = λ k h. stream_length k;
        each = λ q h. elim (ℕ_discrete q p) [
          | yes e ↦ inr (subst (Damaged (packet_of u.indices q)) (sym (hit_part q ∙ hit_here q e)) (one_flip q))
          | no n ↦ inl (hit_part q ∙ hit_else q n)
        ];
      }

  got : (q : ℕ) → q < pairs_of u → packet_in hit_image q ≡ hit_at q
  got q h = made_packet word hit_stream (multiframes_of u) q h (stream_length (q / multiframe_pairs)) ∙ hit_part q

  sent : (q : ℕ) → q < pairs_of u → packet_in (image_of u) q ≡ packet_of u.indices q
  sent q h = image_packet u.settings u.indices (multiframes_of u) q h

  -- pair p is damaged, and no other
  pub is_hit : p < pairs_of u → Touched (image_of u) hit_image p
  is_hit h e = differs (packet_of u.indices p) (flip (packet_of u.indices p) 0) (one_flip p) (sym (got p h ∙ hit_here p refl) ∙ e ∙ sent p h)

  pub not_hit : (q : ℕ) → q < pairs_of u → (q ≡ p → ⊥) → Touched (image_of u) hit_image q → ⊥
  not_hit q h n t = t (got q h ∙ hit_else q n ∙ sym (sent q h))

  -- and no header
  pub clean_header : (k : ℕ) → k < multiframes_of u → header_flips (image_of u) hit_image k ≡ 0
  clean_header k h =
      sym (header_near u hit_image k h)
      ∙ ap (λ (x : ℕ). flips_to x (sent_message u k)) (made_word word hit_stream (multiframes_of u) k h (codeword_lt (sent_message u k) (message_lt u.settings (k + 1) 0)))
      ∙ none_wrong k
