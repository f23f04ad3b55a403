-- NAMES THE DAMAGE AT ANY BIT, said of the bits received: an accepted utterance stands at any bit, up to 16 - T bits are flipped in each sync, at
-- most two in each header, and its packets are damaged as demand 3 says; no place before it and none behind it passes the test. Then, with demand 3's
-- premises (two multiframes, or an untouched only header where the caller asks for the old rule; one pair not bad), the hunting reader says of it all that demand 3 asks.
-- Assumes nothing.
use Rattle.std.specs.Prelude.{ℕ, ◌+◌, ◌*◌, ◌≤◌, ◌<◌, ◌≡◌, List, Bool, false, ◌⊎◌}
use Rattle.layout.specs.Layout.{multiframe_of}
use Rattle.choices.specs.declared.Choices.{Choices}
use Rattle.tables.specs.Tables.{Tables}
use Rattle.bits.specs.Bits.{bits}
use Rattle.carrier.specs.Carrier.{stream_packet}
use Rattle.crc.specs.Crc.{Damaged}
use Rattle.hunt.specs.Hunt.{fewest_matches, multiframe_bits, sync, matches, passes, searched}
use Rattle.gathering.specs.Gathering.{image_of as foundImage}
use Rattle.image.specs.Made.{packet_in}
use Rattle.writer.specs.Utterance.{Utterance, multiframes_of, pairs_of, image_of}
use Rattle.demands.specs.Headers.{CanSettle}
use Rattle.demands.specs.Whole.{Lent}
use Rattle.demands.specs.Received.{BadPair}
use Rattle.hunting_demands.specs.Standing.{place_in_row, row, sync_at, stream_at}
use Rattle.hunting_demands.specs.HuntsBack.{received_flips}

-- packet q of multiframes that stand from bit `at` on
abbrev pub received_packet : List ℕ → ℕ → ℕ → List Bool
received_packet s at q = stream_packet (stream_at (bits s) (place_in_row at (multiframe_of q))) q

-- the multiframes that stand there, put together on octets
abbrev pub together : Utterance → List ℕ → ℕ → List ℕ
together u s at = foundImage s (row at (multiframes_of u))

-- an utterance received at bit `at`, searched from bit `from` on, where a sync must match in `least` bits; whatever happened to its packets
pub record Caught (u : Utterance) (s : List ℕ) (from at least : ℕ) : Type 0 where
  -- "T is the caller's, 12 to 16"
  pub low : fewest_matches ≤ least
  pub begins : from ≤ at
  pub inside : at + multiframe_bits * multiframes_of u ≤ searched (bits s)
  -- "up to 16 - T flips in each sync"
  pub syncs : (k : ℕ) → k < multiframes_of u → least ≤ matches (sync_at (bits s) (place_in_row at k)) sync
  -- "at most two bits flipped in each header"
  pub headers : (k : ℕ) → k < multiframes_of u → received_flips u s at k ≤ 2
  -- "if no place before it and none behind it fits"
  pub none_before : (t : ℕ) → from ≤ t → t < at → passes least (bits s) t ≡ false
  pub none_behind : (t : ℕ) → at + multiframe_bits * multiframes_of u ≤ t → t + multiframe_bits ≤ searched (bits s) → passes least (bits s) t ≡ false

-- and demand 3's damage to the packets
pub record OnAir (u : Utterance) (s : List ℕ) (from at least : ℕ) : Type 0 where
  pub caught : Caught u s from at least
  pub packets : (q : ℕ) → q < pairs_of u → (received_packet s at q ≡ packet_in (image_of u) q) ⊎ Damaged (packet_in (image_of u) q) (received_packet s at q)

module _ (ch : Choices) (u : Utterance) (s : List ℕ) (from at least : ℕ) (o : OnAir u s from at least) where
  module _ (tables : Tables) (index report : List ℕ) where
    pub record Premises : Type 0 where
      -- "two multiframes or more, or an untouched only header" where the caller asks for the old rule (02, C-20)
      pub settled : CanSettle ch (multiframes_of u) (received_flips u s at 0)
      -- "and one pair not bad"
      pub pair : ℕ
      pub within : pair < pairs_of u
      pub not_bad : BadPair u (together u s at) tables pair → ⊥
      -- 01's tables and room
      pub lent : Lent (multiframes_of u) tables index report
