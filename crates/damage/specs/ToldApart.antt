-- TOLD APART (demand 3). "If a damaged image of one accepted utterance equals a damaged image of another, then settings and multiframe counts
-- are equal, a pair is damaged in the one exactly if it is in the other, and every undamaged pair is equal."
-- Assumes nothing.
use Rattle.std.specs.Prelude.{◌≡◌, List, ◌↔◌, ℕ, ◌+◌, ◌≤◌, ◌<◌}
use Rattle.layout.specs.Layout.{first_frame, second_frame}
use Rattle.packet.specs.Packet.{packet_of, frame_at}
use Rattle.writer.specs.Utterance.{Utterance, multiframes_of, pairs_of, image_of}
use Rattle.damage.specs.Damage.{DamageUpTo, Damage, header_bits, header_flips, Touched}

-- a damaged image of one accepted utterance equals a damaged image of another
pub record Equal (u v : Utterance) (s t : List ℕ) : Type 0 where
  pub one : Damage (multiframes_of u) (image_of u) s
  pub other : Damage (multiframes_of v) (image_of v) t
  pub equal : s ≡ t

pub record Alike (u v : Utterance) (s t : List ℕ) : Type 0 where
  -- settings
  pub settings : u.settings ≡ v.settings
  -- and multiframe counts are equal
  pub counts : multiframes_of u ≡ multiframes_of v
  -- a pair is damaged in the one exactly if it is in the other
  pub damaged : (q : ℕ) → q < pairs_of u → Touched (image_of u) s q ↔ Touched (image_of v) t q
  -- and every undamaged pair is equal: its packet, and so both frames
  pub packets : (q : ℕ) → q < pairs_of u → (Touched (image_of u) s q → ⊥) → packet_of u.indices q ≡ packet_of v.indices q
  pub firsts : (q : ℕ) → q < pairs_of u → (Touched (image_of u) s q → ⊥) → frame_at u.indices (first_frame q) ≡ frame_at v.indices (first_frame q)
  pub seconds : (q : ℕ) → q < pairs_of u → (Touched (image_of u) s q → ⊥) → frame_at u.indices (second_frame q) ≡ frame_at v.indices (second_frame q)

-- the same of headers with any flips, but for one: its flips in the two images add up to at most five
pub record Near (u v : Utterance) (s t : List ℕ) : Type 0 where
  pub one : DamageUpTo header_bits (multiframes_of u) (image_of u) s
  pub other : DamageUpTo header_bits (multiframes_of v) (image_of v) t
  pub equal : s ≡ t
  pub header : ℕ
  pub within : header < multiframes_of u
  pub flips : header_flips (image_of u) s header + header_flips (image_of v) t header ≤ 5
