-- FROM CALL TO CALL: what dsr_write wrote, damaged on its way, and read by dsr_read. The sentences of the yards with nothing between them and the two
-- entries: what a caller of dsr_read is told of what a caller of dsr_write said.
-- Assumes nothing.
use Rattle.std.specs.Prelude.{◌≡◌, List, ◌⊎◌, ℕ, ◌≤◌, ◌<◌, length}
use Rattle.tables.specs.Tables.{Tables}
use Rattle.image.specs.Made.{sync_in}
use Rattle.damage.specs.Damage.{header_flips}
use Rattle.dsr_demands.specs.Called.{Call, octets_of, count_of}

module _ (rate kind : ℕ) (indices out : List ℕ) (call : Call rate kind indices out) (s : List ℕ) (tables : Tables) (index report answer : List ℕ) (place : ℕ) where
  -- NEVER MISLED: no octet lost or added, syncs whole; of two multiframes or more at most one header, number but, has more than three flips, or an only
  -- one has at most five; and dsr_read answers 0
  pub record Spared : Type 0 where
    pub size : length s ≡ length (octets_of rate kind indices out)
    pub syncs : (k : ℕ) → k < count_of indices → sync_in s k ≡ sync_in (octets_of rate kind indices out) k
    pub headers : ((but : ℕ) × ((2 ≤ count_of indices) × ((k : ℕ) → k < count_of indices → (k ≡ but → ⊥) → header_flips (octets_of rate kind indices out) s k ≤ 3)))
        ⊎ ((count_of indices ≡ 1) × (header_flips (octets_of rate kind indices out) s 0 ≤ 5))
