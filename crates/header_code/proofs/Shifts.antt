-- Parity by shifts and exclusive ors alone, of every message. Assumes nothing.
use Rattle.std.specs.Prelude.{◌≡◌, ℕ, ◌-◌, ◌^◌, ◌<◌}
use Rattle.std.proofs.Common.{◌∙◌}
use Rattle.std.specs.Int.Bits.{bit_and}
use Rattle.std.proofs.lemmas.Nat.{and_mask}
use Rattle.polynomials.specs.Xor.{agree_below}
use Rattle.header_code.specs.Code.{parity}
use Rattle.header_code.specs.Code.Parity.{parity_xor}
use Rattle.header_code.specs.Code.Shifts.{quotient, times_low_g, shifts, shifts_linear, bits_right}

-- the parity, as a word of 32 bits has it
pub parity_by_shifts : (m : ℕ) → m < 2 ^ 16 → bit_and (times_low_g (quotient m)) (2 ^ 15 - 1) ≡ parity m
unfolding shifts
parity_by_shifts m h = and_mask (times_low_g (quotient m)) 15 ∙ agree_below shifts parity shifts_linear parity_xor 16 bits_right m h
