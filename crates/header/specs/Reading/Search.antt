-- What the search over none, one and two flipped places is said with: a pattern that misses, and one that fits. Assumes nothing.
use Rattle.std.specs.Prelude.{◌≡◌, ℕ, ◌^◌, ◌≤◌, ◌<◌, Option, Some, None}
use Rattle.std.specs.Int.Bits.{bit_xor}
use Rattle.std.specs.Int.Count.{ones}
use Rattle.header_code.specs.Code.{syndrome}

-- ---- no pattern fits
-- flipping the pattern's bits makes no codeword of the word
abbrev pub Misses : ℕ → ℕ → Type 0
Misses w e = syndrome e ≡ syndrome w → ⊥

-- ---- a pattern fits
pub record Fit (w e : ℕ) : Type 0 where
  pub fits : syndrome e ≡ syndrome w
  pub few : ones e ≤ 2
  pub bits : e < 2 ^ 32

-- ---- what the search answers
-- a pattern that fits; or nothing, if no flip of one bit and no two flips do
abbrev pub Found : ℕ → Option ℕ → Type 0
Found w (Some e) = Fit w e
Found w None = ((i : ℕ) → i < 32 → Misses w (2 ^ i)) × ((i j : ℕ) → i < j → j < 32 → Misses w (bit_xor (2 ^ i) (2 ^ j)))
