-- NEVER MISLED. "Syncs whole, pairs damaged in any way whatsoever. If of two multiframes or more at most one header has more than three flips,
-- or an only header has at most five, a reading that succeeds gives the settings and the count sent." So 8 kHz never goes to the 11 kHz model.
-- An only header settles only where the caller asks for the old rule; by default no reading of one multiframe succeeds (02, C-20).
-- Its terms stand here; the theorems, in proofs/Misled.antt. Assumes nothing.
use Rattle.std.specs.Prelude.{◌≡◌, List, ◌⊎◌, ℕ, ◌≤◌, ◌<◌, length}
use Rattle.reader.specs.declared.Summary.{Summary}
use Rattle.image.specs.Made.{sync_in}
use Rattle.writer.specs.Utterance.{Utterance, multiframes_of, image_of}
use Rattle.damage.specs.Damage.{header_flips}

module _ (u : Utterance) (s : List ℕ) where
  -- "of two multiframes or more at most one header", number but, "has more than three flips"
  pub record AllButOne : Type 0 where
    pub two : 2 ≤ multiframes_of u
    pub but : ℕ
    pub others : (k : ℕ) → k < multiframes_of u → (k ≡ but → ⊥) → header_flips (image_of u) s k ≤ 3

  -- "an only header has at most five"
  pub record OnlyFive : Type 0 where
    pub single : multiframes_of u ≡ 1
    pub five : header_flips (image_of u) s 0 ≤ 5

  pub record Premises : Type 0 where
    -- no octet is lost or added
    pub size : length s ≡ length (image_of u)
    -- "syncs whole"
    pub syncs : (k : ℕ) → k < multiframes_of u → sync_in s k ≡ sync_in (image_of u) k
    pub headers : AllButOne ⊎ OnlyFive

  -- "the settings and the count sent"
  pub record AsSent (given : Summary) : Type 0 where
    pub settings : given.settings ≡ u.settings
    pub multiframes : given.multiframes ≡ multiframes_of u
