-- The run of bad pairs that the laws of proofs/Laws.antt speak of.
-- Assumes nothing.
use Prim.Native.Nat.{ℕ, ◌-◌, ◌≤◌, ◌<◌}
use Rattle.std.specs.Prelude.{◌≡◌, ◌⊎◌, List}
use Rattle.std.proofs.Math.ListN.{length, get_or}

-- the pairs a to b - 1 are bad, and what bounds them is good or the start or end of the utterance
pub record Run (notes : List ℕ) (a b : ℕ) : Type 0 where
  pub some : a < b
  pub within : b ≤ length notes
  pub bad : (q : ℕ) → a ≤ q → q < b → get_or notes q 0 ≡ 0 → ⊥
  pub start : (a ≡ 0) ⊎ (get_or notes (a - 1) 0 ≡ 0)
  pub stop : (b ≡ length notes) ⊎ (get_or notes b 0 ≡ 0)
