-- What a damaged image can be made of: header words and streams within its limits.
-- Assumes nothing.
use Rattle.std.specs.Prelude.{◌≡◌, Bool, List, ◌⊎◌, length}
use Prim.Native.Nat.{ℕ, ◌*◌, ◌^◌, ◌≤◌, ◌<◌}
use Rattle.layout.specs.Layout.{stream_octets, multiframe_of}
use Rattle.carrier.specs.Carrier.{stream_packet}
use Rattle.crc.specs.Crc.{Damaged}
use Rattle.packet.specs.Packet.{packet_of}
use Rattle.header_code.specs.Code.{flips_to}
use Rattle.writer.specs.Utterance.{Utterance, multiframes_of, pairs_of}
use Rattle.damage.specs.Damage.{sent_message}

-- any header words within so many flips of those sent, and any streams of packets that are damaged or not
module _ (most : ℕ) (u : Utterance) (w : ℕ → ℕ) (x : ℕ → List Bool) where
  pub record PartsUpTo : Type 0 where
    pub words : (k : ℕ) → k < multiframes_of u → w k < 2 ^ 32
    pub near_words : (k : ℕ) → k < multiframes_of u → flips_to (w k) (sent_message u k) ≤ most
    pub sizes : (k : ℕ) → k < multiframes_of u → length (x k) ≡ 8 * stream_octets
    pub each : (q : ℕ) → q < pairs_of u
        → (stream_packet (x (multiframe_of q)) q ≡ packet_of u.indices q) ⊎ Damaged (packet_of u.indices q) (stream_packet (x (multiframe_of q)) q)

-- demand 3's: within two flips
abbrev pub Parts : Utterance → (ℕ → ℕ) → (ℕ → List Bool) → Type 0
Parts u w x = PartsUpTo 2 u w x
