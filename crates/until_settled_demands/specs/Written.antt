-- The settings of a written utterance before its end (02, C-11): "for a written utterance of two multiframes or more it settles at the second, and
-- under demand 3's header damage too". Its first 288 octets are enough, whatever stands behind them and whatever happened to the pairs.
-- Assumes nothing.
use Rattle.std.specs.Prelude.{ℕ, ◌*◌, ◌≤◌, ◌<◌, ◌≡◌, List, length}
use Rattle.layout.specs.Layout.{multiframe_octets, sync}
use Rattle.image.specs.Made.{sync_in}
use Rattle.writer.specs.Utterance.{Utterance, multiframes_of, image_of}
use Rattle.damage.specs.Damage.{header_flips}

-- octets that begin with the first two multiframes of a written utterance: their syncs whole, and up to two bits flipped in each of their headers.
-- Nothing is said of their pairs, nor of what stands behind them
pub record Begins (u : Utterance) (s : List ℕ) : Type 0 where
  pub sent : 2 ≤ multiframes_of u
  pub both : multiframe_octets * 2 ≤ length s
  pub syncs : (k : ℕ) → k < 2 → sync_in s k ≡ sync
  pub headers : (k : ℕ) → k < 2 → header_flips (image_of u) s k ≤ 2
