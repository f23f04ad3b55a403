-- HUNTS BACK (demand 2's reading back, for 02's C-13). A written image standing at any bit of octets, behind bits in which no place passes the
-- test and followed by any in which none does, its syncs damaged as far as the test allows and its headers by at most two flips each, is found
-- and read with the same settings, frames and count, and each header's note is the number of bits flipped there: of two multiframes or more, or of one
-- whose header is untouched where the caller asks for the old rule (02, C-20). By default one multiframe is refused.
-- Assumes nothing.
use Rattle.std.specs.Prelude.{ℕ, ◌+◌, ◌*◌, ◌≤◌, ◌<◌, ◌≡◌, List, ◌∷◌, ◌++◌, Bool, false, length, replicate, Ok}
use Rattle.std.specs.Int.Bits.{bit_xor}
use Rattle.std.specs.Int.Count.{ones}
use Rattle.lists.specs.Parts.{over}
use Rattle.lists.specs.Rows.{joined}
use Rattle.layout.specs.Layout.{multiframe_pairs, index_octets, report_octets}
use Rattle.choices.specs.declared.Choices.{Choices}
use Rattle.tables.specs.Tables.{Tables}
use Rattle.bits.specs.Bits.{bits}
use Rattle.hunt.specs.Hunt.{fewest_matches, multiframe_bits, sync, matches, passes, searched}
use Rattle.gathering.specs.Gathering.{outside_of}
use Rattle.hunting.specs.Hunting as G
use Rattle.hunting.specs.Hunting.{counted, outcome, hunting_reading}
use Rattle.image.specs.Made.{word_in, stream_in}
use Rattle.writer.specs.Utterance.{Utterance, multiframes_of, image_of}
use Rattle.demands.specs.Headers.{CanSettle}
use Rattle.demands.specs.Whole.{Lent}
use Rattle.demands.specs.ReadsBack.{spoken, padded}
use Rattle.hunting_demands.specs.Standing.{place_in_row, tested_in_row, sync_at, word_at, stream_at}

-- in how many bits the header of multiframe k, standing from bit `at` on, differs from the one written
abbrev pub received_flips : Utterance → List ℕ → ℕ → ℕ → ℕ
received_flips u s at k = ones (bit_xor (word_at (bits s) (place_in_row at k)) (word_in (image_of u) k))

-- the premises of reading back, by name
pub data Premise : Type 0 where
  Begins Inside Syncs Headers Streams NoneBefore NoneBehind Low Settled TablesAndRoom : Premise

-- a written image standing at bit `at` of octets searched from bit `from` on, where a sync must match in `least` bits
module _ (ch : Choices) (u : Utterance) (s : List ℕ) (from at least : ℕ) (tables : Tables) (index report : List ℕ) where
  -- what each says
  abbrev pub Holds : Premise → Type 0
  Holds Begins = from ≤ at
  Holds Inside = at + multiframe_bits * multiframes_of u ≤ searched (bits s)
  -- "at least T of the 16 bits match the sync"
  Holds Syncs = (k : ℕ) → k < multiframes_of u → least ≤ matches (sync_at (bits s) (place_in_row at k)) sync
  -- at most two flips in each header
  Holds Headers = (k : ℕ) → k < multiframes_of u → received_flips u s at k ≤ 2
  -- and the streams as they were written
  Holds Streams = (k : ℕ) → k < multiframes_of u → stream_at (bits s) (place_in_row at k) ≡ bits (stream_in (image_of u) k)
  -- no match that could be taken instead, before it or behind
  Holds NoneBefore = (t : ℕ) → from ≤ t → t < at → passes least (bits s) t ≡ false
  Holds NoneBehind = (t : ℕ) → at + multiframe_bits * multiframes_of u ≤ t → t + multiframe_bits ≤ searched (bits s) → passes least (bits s) t ≡ false
  -- "T is the caller's, 12 to 16"; the syncs say that it is at most 16
  Holds Low = fewest_matches ≤ least
  -- two multiframes or more, or an only header that is untouched where the caller asks for the old rule (02, C-20)
  Holds Settled = CanSettle ch (multiframes_of u) (received_flips u s at 0)
  -- 01's tables and room
  Holds TablesAndRoom = Lent (multiframes_of u) tables index report

  abbrev pub Premises : Type 0
  Premises = (p : Premise) → Holds p

  -- what is read: the settings, count and frames written, the bits outside and the places tested, and these header notes
  abbrev pub heard : (ℕ → ℕ) → G.Outcome
  heard notes =
      outcome (Ok (record { summary = spoken u; outside = outside_of (bits s) from (multiframes_of u); tested = tested_in_row (bits s) from at (multiframes_of u) }))
      (over index 0 (index_octets * multiframes_of u) (padded u))
      (over report 0 (report_octets * multiframes_of u) (joined (λ k. notes k ∷ replicate multiframe_pairs 0) (multiframes_of u)))

-- ---- an image that is only shifted: any bits in front of it and behind, and nothing damaged
module _ (ch : Choices) (u : Utterance) (s : List ℕ) (from least : ℕ) (front behind : List Bool) where
  pub record Shifted : Type 0 where
    pub same : bits s ≡ front ++ (bits (image_of u) ++ behind)
    pub begins : from ≤ length front
    pub inside : length front + multiframe_bits * multiframes_of u ≤ searched (bits s)
    pub none_before : (t : ℕ) → from ≤ t → t < length front → passes least (bits s) t ≡ false
    pub none_behind : (t : ℕ) → length front + multiframe_bits * multiframes_of u ≤ t → t + multiframe_bits ≤ searched (bits s) → passes least (bits s) t ≡ false
