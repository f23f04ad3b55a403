-- The pairs that were passed miss: each with its lower place among the columns gone over. Assumes nothing.
use Prim.Native.Nat.{ℕ, ◌^◌, ◌<◌}
use mathlib.Core.Path.{◌≡◌}
use Rattle.std.specs.Int.Bits.{bit_xor}
use Rattle.header_code.specs.Code.{syndrome}
use Rattle.header.specs.Reading.Search.{Misses}
use Rattle.header.proofs.pattern_of.Given as goal

abbrev pub invariant-loop-i : goal.invariant-loop-i
invariant-loop-i l = (w : ℕ) → l.wrong ≡ syndrome w → (i : ℕ) → i < l.i → (j : ℕ) → i < j → j < 32 → Misses w (bit_xor (2 ^ i) (2 ^ j))

abbrev pub invariant-loop-j : goal.invariant-loop-j
invariant-loop-j l = (w : ℕ) → l.wrong ≡ syndrome w → (j : ℕ) → j < l.j → l.i < j → Misses w (bit_xor (2 ^ l.i) (2 ^ j))
