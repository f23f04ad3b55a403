-- Parity by shifts and exclusive ors alone: how often g goes into the message times X^15, and that many times g. Both are linear, so
-- sixteen computed cases are all (proofs/Shifts). Assumes nothing.
use Rattle.std.specs.Prelude.{◌≡◌, refl, Bool, ℕ, ◌*◌, ◌/◌, ◌%◌, ◌^◌, ◌<◌, eqb}
use Rattle.std.proofs.Common.{ap, ap₂, ◌∙◌, eqb→eq}
use Rattle.std.specs.Int.Bits.{bit_xor}
use Rattle.std.proofs.lemmas.Nat.{xor_shr, xor_mod}
use Rattle.lists.specs.Tests.{all_holds}
use Rattle.polynomials.specs.Polynomials.{remainder}
use Rattle.polynomials.specs.Xor.{Linear, xor_shl, xor_swap}
use Rattle.header_code.specs.Code.{parity}

-- 1 over g is X^-15 + X^-16 + X^-17 + X^-19 + X^-23, and what begins with X^-31: sixteen bits do not reach it
abbrev pub quotient : ℕ → ℕ
quotient m = bit_xor (bit_xor (bit_xor (bit_xor m (m / 2 ^ 1)) (m / 2 ^ 2)) (m / 2 ^ 4)) (m / 2 ^ 8)

-- times g but for its term X^15, of which nothing below X^15 comes: 1 + X^8 + X^12 + X^14, in words of 32 bits
abbrev pub times_low_g : ℕ → ℕ
times_low_g q = bit_xor (bit_xor (bit_xor q (q * 2 ^ 8 % 2 ^ 32)) (q * 2 ^ 12 % 2 ^ 32)) (q * 2 ^ 14 % 2 ^ 32)

unfoldable pub shifts : ℕ → ℕ
shifts m = times_low_g (quotient m) % 2 ^ 15

sum_linear : (f g : ℕ → ℕ) → Linear f → Linear g → Linear (λ (m : ℕ). bit_xor (f m) (g m))
sum_linear f g lf lg a b = ap₂ bit_xor (lf a b) (lg a b) ∙ xor_swap (f a) (f b) (g a) (g b)

shr_linear : (k : ℕ) → Linear (λ (m : ℕ). m / 2 ^ k)
shr_linear k a b = xor_shr a b k

shl_linear : (k : ℕ) → Linear (λ (q : ℕ). q * 2 ^ k % 2 ^ 32)
shl_linear k a b = ap (λ (x : ℕ). x % 2 ^ 32) (xor_shl k a b) ∙ xor_mod (a * 2 ^ k) (b * 2 ^ k) 32

-- exclusive ors of linear maps, one more each time
quotient_linear : Linear quotient
quotient_linear =
    sum_linear (λ (m : ℕ). bit_xor (bit_xor (bit_xor m (m / 2 ^ 1)) (m / 2 ^ 2)) (m / 2 ^ 4)) (λ (m : ℕ). m / 2 ^ 8)
    (sum_linear (λ (m : ℕ). bit_xor (bit_xor m (m / 2 ^ 1)) (m / 2 ^ 2)) (λ (m : ℕ). m / 2 ^ 4)
    (sum_linear (λ (m : ℕ). bit_xor m (m / 2 ^ 1)) (λ (m : ℕ). m / 2 ^ 2)
    (sum_linear (λ (m : ℕ). m) (λ (m : ℕ). m / 2 ^ 1) (λ a b. refl) (shr_linear 1)) (shr_linear 2)) (shr_linear 4)) (shr_linear 8)

times_low_g_linear : Linear times_low_g
times_low_g_linear =
    sum_linear (λ (q : ℕ). bit_xor (bit_xor q (q * 2 ^ 8 % 2 ^ 32)) (q * 2 ^ 12 % 2 ^ 32)) (λ (q : ℕ). q * 2 ^ 14 % 2 ^ 32)
    (sum_linear (λ (q : ℕ). bit_xor q (q * 2 ^ 8 % 2 ^ 32)) (λ (q : ℕ). q * 2 ^ 12 % 2 ^ 32)
    (sum_linear (λ (q : ℕ). q) (λ (q : ℕ). q * 2 ^ 8 % 2 ^ 32) (λ a b. refl) (shl_linear 8)) (shl_linear 12)) (shl_linear 14)

pub shifts_linear : Linear shifts
unfolding shifts
shifts_linear a b =
    ap (λ (x : ℕ). x % 2 ^ 15) (ap times_low_g (quotient_linear a b) ∙ times_low_g_linear (quotient a) (quotient b))
    ∙ xor_mod (times_low_g (quotient a)) (times_low_g (quotient b)) 15

right : ℕ → Bool
right i = eqb (shifts (2 ^ i)) (parity (2 ^ i))

pub bits_right : (i : ℕ) → i < 16 → shifts (2 ^ i) ≡ parity (2 ^ i)
unfolding right shifts parity remainder
bits_right i h = eqb→eq (shifts (2 ^ i)) (parity (2 ^ i)) (all_holds right 16 tt i h)
