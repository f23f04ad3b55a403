-- Division of polynomials over bits is linear: the remainder of a ⊕ b is the remainders' ⊕. For every divisor of degree d.
-- Assumes nothing.
use Rattle.std.specs.Prelude.{◌≡◌}
use Rattle.std.proofs.Math.Path.{refl, ap, ap₂}
use Rattle.std.proofs.Common.{sym, ◌∙◌, zero-mul, one-mul, div-lt_iff_lt-mul, arith, shr-shr}
use Prim.Native.Nat.{ℕ, zero, suc, ◌+◌, ◌*◌, ◌/◌, ◌%◌, ◌^◌, ◌<◌}
use Rattle.std.proofs.Math.Nat.{zero-div}
use Rattle.std.specs.Int.Bits.{bit_xor, xor_self, xor_zero_r}
use Rattle.std.proofs.lemmas.Nat.{xor_shr, xor_mod, xor_block, xor_comm}
use Rattle.std.proofs.Math.Pow.{pow_pos}
use Rattle.polynomials.specs.Polynomials.{reduced, remainder}
use Rattle.polynomials.specs.Xor.{digit, low, xor_swap}

-- a digit times g: where both are there, nothing is left
pub times_xor : (g x y : ℕ) → x < 2 → y < 2 → bit_xor x y * g ≡ bit_xor (x * g) (y * g)
times_xor g x y hx hy =
    digit (λ (x : ℕ). bit_xor x y * g ≡ bit_xor (x * g) (y * g)) (rw (zero-mul g))
    (digit (λ (y : ℕ). bit_xor 1 y * g ≡ bit_xor (1 * g) (y * g)) (rw (zero-mul g) (sym (xor_zero_r (1 * g))))
    (zero-mul g ∙ sym (xor_self (1 * g))) y hy)
    x hx

-- what is left of the digit at X^d, which g has
top_xor : (d g x : ℕ) → g / 2 ^ d ≡ 1 → x < 2 → bit_xor (x * g / 2 ^ d) x ≡ 0
top_xor d g x top h =
    digit (λ (x : ℕ). bit_xor (x * g / 2 ^ d) x ≡ 0) (rw (zero-mul g, zero-div (2 ^ d))) (rw (one-mul g, top)) x h

high : (d a : ℕ) → a < 2 ^ suc d → a / 2 ^ d < 2
high d a h = (div-lt_iff_lt-mul (pow_pos d)).1 (omega arith)

module _ (d g : ℕ) (top : g / 2 ^ d ≡ 1) where
  reduced_xor : (a b : ℕ) → a < 2 ^ suc d → b < 2 ^ suc d → reduced d g (bit_xor a b) ≡ bit_xor (reduced d g a) (reduced d g b)
  reduced_xor a b ha hb =
      ap (λ (x : ℕ). bit_xor (x * g) (bit_xor a b)) (xor_shr a b d)
      ∙ ap (λ (x : ℕ). bit_xor x (bit_xor a b)) (times_xor g (a / 2 ^ d) (b / 2 ^ d) (high d a ha) (high d b hb))
      ∙ xor_swap (a / 2 ^ d * g) (b / 2 ^ d * g) a b

  reduced_lt : (a : ℕ) → a < 2 ^ suc d → reduced d g a < 2 ^ d
  reduced_lt a h =
      let e : reduced d g a / 2 ^ d ≡ 0 = xor_shr (a / 2 ^ d * g) a d ∙ top_xor d g (a / 2 ^ d) top (high d a h) in
      let l : reduced d g a < 1 * 2 ^ d = (div-lt_iff_lt-mul (pow_pos d)).0 (omega arith) in
      omega arith

  pub remainder_lt : (k p : ℕ) → remainder d g k p < 2 ^ d
  unfolding remainder
  remainder_lt zero p = pow_pos d
  remainder_lt (suc k) p = reduced_lt (remainder d g k (p / 2) * 2 + p % 2) (omega (arith, remainder_lt k (p / 2), low p))

  pub remainder_xor : (k a b : ℕ) → remainder d g k (bit_xor a b) ≡ bit_xor (remainder d g k a) (remainder d g k b)
  unfolding remainder
  remainder_xor zero a b = refl
  remainder_xor (suc k) a b =
      ap₂ (λ (x y : ℕ). reduced d g (remainder d g k x * 2 + y)) (xor_shr a b 1) (xor_mod a b 1)
      ∙ ap (λ (x : ℕ). reduced d g (x * 2 + bit_xor (a % 2) (b % 2))) (remainder_xor k (a / 2) (b / 2))
      ∙ ap (reduced d g) (sym (xor_block 1 (remainder d g k (a / 2)) (remainder d g k (b / 2)) (a % 2) (b % 2) (low a) (low b)))
      ∙ reduced_xor (remainder d g k (a / 2) * 2 + a % 2) (remainder d g k (b / 2) * 2 + b % 2)
      (omega (arith, remainder_lt k (a / 2), low a)) (omega (arith, remainder_lt k (b / 2), low b))

-- one digit more of p is brought down
pub next_digit : (d g n k p : ℕ) → remainder d g (suc n) (p / 2 ^ k) ≡ reduced d g (remainder d g n (p / 2 ^ (k + 1)) * 2 + p / 2 ^ k % 2)
unfolding remainder
next_digit d g n k p = ap (λ (x : ℕ). reduced d g (remainder d g n x * 2 + p / 2 ^ k % 2)) (shr-shr p k 1)

-- with the term X^d g is taken off, and without it nothing is
pub taken_off : (d g r : ℕ) → r / 2 ^ d ≡ 1 → reduced d g r ≡ bit_xor r g
taken_off d g r e = ap (λ (x : ℕ). bit_xor (x * g) r) e ∙ ap (λ (x : ℕ). bit_xor x r) (one-mul g) ∙ xor_comm g r

pub left_alone : (d g r : ℕ) → r / 2 ^ d ≡ 0 → reduced d g r ≡ r
left_alone d g r e = ap (λ (x : ℕ). bit_xor (x * g) r) e ∙ ap (λ (x : ℕ). bit_xor x r) (zero-mul g)
