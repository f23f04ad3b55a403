-- Polynomials over bits: the number's digit i is the coefficient of X^i, and `bit_xor` adds.
-- Assumes nothing.
use Rattle.std.specs.Prelude.{ℕ, zero, suc, ◌+◌, ◌*◌, ◌/◌, ◌%◌, ◌^◌}
use Rattle.std.specs.Int.Bits.{bit_xor}

-- one step of division by g of degree d: where the term X^d is there, g is taken off
abbrev pub reduced : ℕ → ℕ → ℕ → ℕ
reduced d g r = bit_xor (r / 2 ^ d * g) r

-- the remainder of p, a polynomial of k coefficients, modulo g of degree d: the coefficients are brought down one by one, highest first
unfoldable pub remainder : ℕ → ℕ → ℕ → ℕ → ℕ
remainder d g zero p = zero
remainder d g (suc k) p = reduced d g (remainder d g k (p / 2) * 2 + p % 2)
