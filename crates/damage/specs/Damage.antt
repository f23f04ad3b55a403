-- Damage to an image, as demand 3 counts it, and what is left of the utterance in a damaged image.
-- Assumes nothing.
use Rattle.std.specs.Prelude.{◌≡◌, Bool, true, false, List, ◌⊎◌, ℕ, ◌+◌, ◌*◌, ◌^◌, ◌≤◌, ◌<◌, length, drop, get_or, Some, None}
use Rattle.std.proofs.Common.{sym, ◌∙◌, subst, inl, inr, lt_of_lt_of_le, arith, length-take, pow_mono}
use Rattle.std.proofs.Math.Path.{ap}
use Rattle.std.specs.Int.Bits.{bit_xor}
use Rattle.std.proofs.lemmas.Nat.{xor_lt, ones-le}
use Rattle.std.specs.Int.Count.{ones}
use Rattle.layout.specs.Layout.{data_bits, multiframe_pairs, multiframe_octets}
use Rattle.bits.specs.Bits.{bits}
use Rattle.bits.proofs.Laws.{length_bits, value_lt}
use Rattle.crc.specs.Crc.{Damaged, right}
use Rattle.packet.specs.Packet.{packet_of}
use Rattle.packet.proofs.Laws.{packet_of_good, packet_of_damaged}
use Rattle.header_code.specs.Code.{flips_to}
use Rattle.message.specs.Message.{message}
use Rattle.message.specs.Message.Laws.{message_lt}
use Rattle.header.specs.Reading.{decoded_as, reading}
use Rattle.header.proofs.Laws.{near, lost_at_three}
use Rattle.image.specs.Made.{Small, sync_in, header_in, word_in, packet_in}
use Rattle.image.proofs.Laws.{image_word, image_packet}
use Rattle.writer.specs.Utterance.{Utterance, multiframes_of, pairs_of, image_of}

-- ---- the damage: `sent` is an image of m multiframes, `got` is what came of it
-- in how many bits header k differs
abbrev pub header_flips : List ℕ → List ℕ → ℕ → ℕ
header_flips sent got k = ones (bit_xor (word_in got k) (word_in sent k))

-- pair q is damaged: its packet came as another
abbrev pub Touched : List ℕ → List ℕ → ℕ → Type 0
Touched sent got q = packet_in got q ≡ packet_in sent q → ⊥

-- with at most `most` bits flipped in each header
pub record DamageUpTo (most m : ℕ) (sent got : List ℕ) : Type 0 where
  -- "same length", and what came are octets
  pub size : length got ≡ length sent
  pub small : Small got
  -- "syncs whole"
  pub syncs : (k : ℕ) → k < m → sync_in got k ≡ sync_in sent k
  -- "bits flipped in each header"
  pub headers : (k : ℕ) → k < m → header_flips sent got k ≤ most
  -- "in each 92-bit packet nothing, at least one flip and all inside four neighbouring bits, or exactly two flips whose distance is no multiple
  -- of 15"
  pub packets : (q : ℕ) → q < multiframe_pairs * m → (packet_in got q ≡ packet_in sent q) ⊎ Damaged (packet_in sent q) (packet_in got q)

-- demand 3's: "at most two bits flipped in each header"
abbrev pub Damage : ℕ → List ℕ → List ℕ → Type 0
Damage m sent got = DamageUpTo 2 m sent got

-- as much as a header can have, and so no limit: a header has 32 bits
abbrev pub header_bits : ℕ
header_bits = 32

word_lt : (s : List ℕ) (k : ℕ) → word_in s k < 2 ^ header_bits
word_lt s k =
    let h = header_in s k in
    let l : length (bits h) ≤ 32 = omega (arith, length_bits h, length-take 4 (drop (multiframe_octets * k + 2) s)) in
    lt_of_lt_of_le (value_lt (bits h)) (pow_mono l)

pub any_header : (sent got : List ℕ) (k : ℕ) → header_flips sent got k ≤ header_bits
any_header sent got k = ones-le 32 (bit_xor (word_in got k) (word_in sent k)) (xor_lt 32 (word_in got k) (word_in sent k) (word_lt got k) (word_lt sent k))

-- less damage is such damage
pub loosened : {a b m : ℕ} {sent got : List ℕ} → a ≤ b → DamageUpTo a m sent got → DamageUpTo b m sent got
loosened le d =
    record { size = d.size; small = d.small; syncs = d.syncs; headers = λ k h. let l = d.headers k h in omega arith; packets = d.packets }

-- the message that the writer sends in header k
abbrev pub sent_message : Utterance → ℕ → ℕ
sent_message u k = message u.settings (k + 1) 0

-- ---- what is left
-- damage is a difference
pub differs : (p q : List Bool) → Damaged p q → q ≡ p → ⊥
differs p q (inl b) e = b.differs (ap (λ (l : List Bool). get_or l b.place false) (sym e))
differs p q (inr d) e = d.at_one (ap (λ (l : List Bool). get_or l d.one false) (sym e))

-- ---- headers
module _ (u : Utterance) (s : List ℕ) (k : ℕ) (h : k < multiframes_of u) where
  -- header k is that far from the codeword sent
  pub header_near : flips_to (word_in s k) (sent_message u k) ≡ header_flips (image_of u) s k
  unfolding flips_to
  header_near = ap (λ (w : ℕ). ones (bit_xor (word_in s k) w)) (sym (image_word u.settings u.indices (multiframes_of u) k h))

  -- with at most two flips it is read as that codeword, and its flips are counted
  pub header_read_lem : header_flips (image_of u) s k ≤ 2 → reading (word_in s k) ≡ Some (decoded_as (word_in s k) (sent_message u k))
  header_read_lem few =
      near (word_in s k) (sent_message u k) (message_lt u.settings (k + 1) 0) (subst (λ (n : ℕ). n ≤ 2) (sym header_near) few)

  -- and with three it is lost
  pub header_lost : header_flips (image_of u) s k ≡ 3 → reading (word_in s k) ≡ None
  header_lost e = lost_at_three (word_in s k) (sent_message u k) (message_lt u.settings (k + 1) 0) (header_near ∙ e)

-- ---- pairs
module _ {most : ℕ} (u : Utterance) (s : List ℕ) (d : DamageUpTo most (multiframes_of u) (image_of u) s) where
  module _ (q : ℕ) (h : q < pairs_of u) where
    sent : packet_in (image_of u) q ≡ packet_of u.indices q
    sent = image_packet u.settings u.indices (multiframes_of u) q h

    -- a pair is damaged or it is as it was sent, and the CRC tells which
    pub data Fate : Type 0 where
      whole : packet_in s q ≡ packet_of u.indices q → right data_bits (packet_in s q) ≡ true → Fate
      hit : Touched (image_of u) s q → right data_bits (packet_in s q) ≡ false → Fate

    pub fate : Fate
    fate = by (d.packets q h)
      where
        by : (packet_in s q ≡ packet_in (image_of u) q) ⊎ Damaged (packet_in (image_of u) q) (packet_in s q) → Fate
        by (inl e) = whole (e ∙ sent) (ap (right data_bits) (e ∙ sent) ∙ packet_of_good u.indices q)
        by (inr x) =
            hit (λ e. differs (packet_in (image_of u) q) (packet_in s q) x e)
            (packet_of_damaged u.indices q (packet_in s q) (subst (λ (p : List Bool). Damaged p (packet_in s q)) sent x))

    pub not_touched : packet_in s q ≡ packet_of u.indices q → Touched (image_of u) s q → ⊥
    not_touched e t = t (e ∙ sym sent)
