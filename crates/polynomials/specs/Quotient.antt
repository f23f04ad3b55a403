-- Polynomials over bits multiply, and `remainder` is what it is called, for every divisor g of degree d: any polynomial is a multiple of g and its
-- remainder, and in no other way a multiple of g and something below X^d. (Taking away and adding are the same over bits.)
-- Assumes nothing.
use Rattle.std.specs.Prelude.{◌≡◌, refl}
use Prim.Native.Nat.{ℕ, zero, suc, ◌*◌, ◌/◌, ◌%◌}
use Rattle.std.specs.Int.Bits.{bit_xor}

-- g times q, of which k coefficients are taken: each term of q adds g at its place
unfoldable pub product : ℕ → ℕ → ℕ → ℕ
product g zero q = 0
product g (suc k) q = bit_xor (q % 2 * g) (product g k (q / 2) * 2)

-- (1 + X)(1 + X) = 1 + X^2
pub square : product 3 2 3 ≡ 5
unfolding product
square = refl
