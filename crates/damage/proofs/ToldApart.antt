-- TOLD APART (demand 3), proved. "If a damaged image of one accepted utterance equals a damaged image of another, then settings and multiframe counts
-- are equal, a pair is damaged in the one exactly if it is in the other, and every undamaged pair is equal."
-- Assumes nothing.
use Rattle.std.specs.Prelude.{◌≡◌, List, ◌↔◌, ℕ, ◌+◌, ◌≤◌, ◌<◌}
use Rattle.std.proofs.Common.{sym, ◌∙◌, subst, arith, lit<}
use Rattle.std.proofs.Math.Decide.{ℕ_discrete}
use Rattle.lists.specs.Tests.{true_false}
use Rattle.packet.specs.Packet.{packet_of}
use Rattle.header_code.specs.Code.Distance.{far_from_one}
use Rattle.message.specs.Message.Laws.{message_lt}
use Rattle.image.specs.Made.{word_in}
use Rattle.image.proofs.Laws.{length_image}
use Rattle.writer.specs.Utterance.{Utterance, multiframes_of, pairs_of, image_of}
use Rattle.writer.proofs.Utterance.{same_settings, same_pair}
use Rattle.damage.specs.Damage.{DamageUpTo, header_bits, loosened, header_flips, Touched, sent_message, header_near, fate, Fate, whole, hit, not_touched}
use Rattle.damage.specs.ToldApart.{Alike, Equal, Near}

-- two damaged images that are one
module _ (u v : Utterance) (s : List ℕ) (d : DamageUpTo header_bits (multiframes_of u) (image_of u) s) (e : DamageUpTo header_bits (multiframes_of v) (image_of v) s)
    (k : ℕ) (within : k < multiframes_of u) (five : header_flips (image_of u) s k + header_flips (image_of v) s k ≤ 5) where
  counts : multiframes_of u ≡ multiframes_of v
  counts =
      omega (arith, d.size, e.size, length_image u.settings u.indices (multiframes_of u), length_image v.settings v.indices (multiframes_of v))

  -- two codewords that are that near to one word are the same
  settings : u.settings ≡ v.settings
  settings =
      let a = header_near u s k within in
      let b = header_near v s k (omega (arith, counts)) in
      same_settings u v (k + 1)
      (elim (ℕ_discrete (sent_message u k) (sent_message v k)) [
        | yes y ↦ y
        | no n ↦
            absurd
            (omega (arith, a, b, far_from_one (word_in s k) (sent_message u k) (sent_message v k) (message_lt u.settings (k + 1) 0) (message_lt v.settings (k + 1) 0) n))
      ])

  module _ (q : ℕ) (h : q < pairs_of u) where
    there : q < pairs_of v
    there = omega (arith, counts)

    -- by the CRC, which is right of a packet as it was sent and wrong of a damaged one
    both_ways : Touched (image_of u) s q ↔ Touched (image_of v) s q
    both_ways = by (fate u s d q h) (fate v s e q there)
      where
        by : Fate u s d q h → Fate v s e q there → Touched (image_of u) s q ↔ Touched (image_of v) s q
        by (whole a r) (whole b z) = ((λ t. absurd (not_touched u s d q h a t)), (λ t. absurd (not_touched v s e q there b t)))
        by (whole a r) (hit b z) = absurd (true_false (sym r ∙ z))
        by (hit a r) (whole b z) = absurd (true_false (sym z ∙ r))
        by (hit a r) (hit b z) = ((λ t. b), (λ t. a))

    same_packet : (Touched (image_of u) s q → ⊥) → packet_of u.indices q ≡ packet_of v.indices q
    same_packet n = by (fate u s d q h) (fate v s e q there)
      where
        by : Fate u s d q h → Fate v s e q there → packet_of u.indices q ≡ packet_of v.indices q
        by (whole a r) (whole b z) = sym a ∙ b
        by (whole a r) (hit b z) = absurd (true_false (sym r ∙ z))
        by (hit a r) f = absurd (n a)

  alike : Alike u v s s
  alike = record {
    settings = settings;
    counts = counts;
    damaged = both_ways;
    packets = same_packet;
    firsts = λ q h n. (same_pair u v q (same_packet q h n)).0;
    seconds = λ q h n. (same_pair u v q (same_packet q h n)).1;
  }

-- TOLD APART BY ONE HEADER
pub told_by_one : (u v : Utterance) (s t : List ℕ) → Near u v s t → Alike u v s t
told_by_one u v s t x =
    subst (Alike u v s) x.equal
    (alike u v s x.one (subst (DamageUpTo header_bits (multiframes_of v) (image_of v)) (sym x.equal) x.other) x.header x.within
    (subst (λ (l : List ℕ). header_flips (image_of u) s x.header + header_flips (image_of v) l x.header ≤ 5) (sym x.equal) x.flips))

-- so demand 3's images are told apart: two and two flips add up to four
pub told_apart : (u v : Utterance) (s t : List ℕ) → Equal u v s t → Alike u v s t
told_apart u v s t x =
    told_by_one u v s t
    (record {
      one = loosened (lit< tt) x.one;
      other = loosened (lit< tt) x.other;
      equal = x.equal;
      header = 0;
      within = omega arith;
      flips = let a = x.one.headers 0 (omega arith) in let b = x.other.headers 0 (omega arith) in omega arith;
    })
