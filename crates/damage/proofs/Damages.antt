-- Which images are damaged ones: no other limit is hidden in `Damage`.
-- Assumes nothing.
use Rattle.std.specs.Prelude.{◌≡◌, refl, Bool, List, ◌⊎◌}
use Rattle.std.proofs.Math.Path.{sym, subst}
use Rattle.std.proofs.Common.{ap₂, ◌∙◌, inl, inr, ⊎_elim, arith, lit<}
use Prim.Native.Nat.{ℕ, ◌/◌, ◌≤◌, ◌<◌}
use Rattle.std.specs.Int.Bits.{bit_xor, xor_self}
use Rattle.std.specs.Int.Count.{ones}
use Rattle.std.proofs.lemmas.Nat.{ones-le}
use Rattle.layout.specs.Layout.{multiframe_pairs, multiframe_of}
use Rattle.carrier.specs.Carrier.{stream_packet}
use Rattle.crc.specs.Crc.{Damaged}
use Rattle.packet.specs.Packet.{packet_of}
use Rattle.header_code.specs.Code.{flips_to}
use Rattle.image.specs.Made.{word_in, packet_in, made, length_made, small_made, made_sync, made_word, made_packet}
use Rattle.image.proofs.Laws.{length_image, image_sync, image_word, image_packet, image_small}
use Rattle.writer.specs.Utterance.{Utterance, multiframes_of, pairs_of, image_of}
use Rattle.damage.specs.Damage.{DamageUpTo, Damage}
use Rattle.damage.specs.Damages.{PartsUpTo, Parts}

-- parts within so many flips of those sent, damaged or not, make one
module _ (most : ℕ) (u : Utterance) (w : ℕ → ℕ) (x : ℕ → List Bool) where
  pub damage_up_to : PartsUpTo most u w x → DamageUpTo most (multiframes_of u) (image_of u) (made w x (multiframes_of u))
  unfolding flips_to
  damage_up_to p = record {
    size = length_made w x m ∙ sym (length_image u.settings u.indices m);
    small = small_made w x m;
    syncs = λ k h. made_sync w x m k h ∙ sym (image_sync u.settings u.indices m k h);
    headers = λ k h.
        subst (λ (n : ℕ). n ≤ most)
        (sym (ap₂ (λ (a b : ℕ). ones (bit_xor a b)) (made_word w x m k h (p.words k h)) (image_word u.settings u.indices m k h)))
        (p.near_words k h);
    packets = λ q h. packet q h (p.each q h);
  }
    where
      m : ℕ
      m = multiframes_of u

      packet : (q : ℕ) → q < pairs_of u
          → (stream_packet (x (multiframe_of q)) q ≡ packet_of u.indices q) ⊎ Damaged (packet_of u.indices q) (stream_packet (x (multiframe_of q)) q)
          → (packet_in (made w x m) q ≡ packet_in (image_of u) q) ⊎ Damaged (packet_in (image_of u) q) (packet_in (made w x m) q)
      packet q h e =
          let got = made_packet w x m q h (p.sizes (q / multiframe_pairs) (omega arith)) in
          let sent = image_packet u.settings u.indices m q h in
          ⊎_elim (λ a. inl (got ∙ a ∙ sym sent)) (λ a. inr (subst (λ (l : List Bool). Damaged l (packet_in (made w x m) q)) (sym sent) (subst (Damaged (packet_of u.indices q)) (sym got) a))) e

pub damage_made : (u : Utterance) (w : ℕ → ℕ) (x : ℕ → List Bool) → Parts u w x → Damage (multiframes_of u) (image_of u) (made w x (multiframes_of u))
damage_made = damage_up_to 2

-- and so does none at all
pub unharmed : (u : Utterance) → Damage (multiframes_of u) (image_of u) (image_of u)
unharmed u = record {
  size = refl;
  small = image_small u.settings u.indices (multiframes_of u);
  syncs = λ k h. refl;
  headers = λ k h. subst (λ (n : ℕ). ones n ≤ 2) (sym (xor_self (word_in (image_of u) k))) (omega (arith, ones-le 0 0 (lit< tt)));
  packets = λ q h. inl refl;
}
