-- Parity is linear, so that of a message is put together from those of its sixteen bits: the words of matrix 6.2, read with its transpose.
-- Assumes nothing.
use Rattle.std.specs.Prelude.{◌≡◌, refl, Bool, List, [], ◌∷◌, ℕ, ◌+◌, ◌*◌, ◌/◌, ◌%◌, ◌^◌, ◌<◌, eqb, get_or}
use Rattle.std.proofs.Common.{sym, ap, ◌∙◌, mod-lt, add_comm, zero-mul, one-mul, mul-zero, mul-one, arith, eqb→eq, pow_pos, shl_exact}
use Rattle.std.specs.Int.Bits.{bit_xor, bit_or, bit_and, xor_shifted}
use Rattle.std.proofs.lemmas.Nat.{xor_comm, and_mask, or_shifted, mod-pow-add}
use Rattle.std.specs.Int.Count.{ones}
use Rattle.lists.specs.Tests.{all_holds}
use Rattle.polynomials.specs.Polynomials.{remainder}
use Rattle.polynomials.specs.Xor.{digit, low, xor_shl}
use Rattle.polynomials.specs.Division.{remainder_lt, remainder_xor}
use Rattle.header_code.specs.Code.{generator, parity, front, codeword}

pub parity_lt : (m : ℕ) → parity m < 2 ^ 15
unfolding parity
parity_lt m = remainder_lt 15 generator refl 31 (m * 2 ^ 15)

pub parity_xor : (a b : ℕ) → parity (bit_xor a b) ≡ bit_xor (parity a) (parity b)
unfolding parity
parity_xor a b = ap (remainder 15 generator 31) (xor_shl 15 a b) ∙ remainder_xor 15 generator refl 31 (a * 2 ^ 15) (b * 2 ^ 15)

pub parity_zero : parity 0 ≡ 0
unfolding parity remainder
parity_zero = refl

-- a bit's own parity, or none
parity_bit : (i b : ℕ) → b < 2 → parity (b * 2 ^ i) ≡ parity (2 ^ i) * b
parity_bit i b h =
    digit (λ (b : ℕ). parity (b * 2 ^ i) ≡ parity (2 ^ i) * b) (ap parity (zero-mul (2 ^ i)) ∙ parity_zero ∙ sym (mul-zero (parity (2 ^ i))))
    (ap parity (one-mul (2 ^ i)) ∙ sym (mul-one (parity (2 ^ i)))) b h

-- bit i, and the bits below it
pub parity_next : (m i : ℕ) → parity (m % 2 ^ (i + 1)) ≡ bit_xor (parity (m % 2 ^ i)) (parity (2 ^ i) * (m / 2 ^ i % 2))
parity_next m i =
    ap (λ (x : ℕ). parity (m % 2 ^ x)) (add_comm i 1)
    ∙ ap parity (mod-pow-add m 1 i ∙ sym (xor_shifted (m / 2 ^ i % 2) i (m % 2 ^ i) (mod-lt m (pow_pos i))))
    ∙ parity_xor (m / 2 ^ i % 2 * 2 ^ i) (m % 2 ^ i)
    ∙ ap (λ (x : ℕ). bit_xor x (parity (m % 2 ^ i))) (parity_bit i (m / 2 ^ i % 2) (low (m / 2 ^ i)))
    ∙ xor_comm (parity (2 ^ i) * (m / 2 ^ i % 2)) (parity (m % 2 ^ i))

-- the sixteen words of matrix 6.2: word i is the parity of message bit i alone
unfoldable pub words : List ℕ
words = 20737 ∷ 29443 ∷ 14087 ∷ 28174 ∷ 3357 ∷ 6714 ∷ 13428 ∷ 26856 ∷ 209 ∷ 418 ∷ 836 ∷ 1672 ∷ 3344 ∷ 6688 ∷ 13376 ∷ 26752 ∷ []

right : ℕ → Bool
right i = eqb (get_or words i 0) (parity (2 ^ i))

-- the table agrees with the division: one computed test
pub words_right : (i : ℕ) → i < 16 → get_or words i 0 ≡ parity (2 ^ i)
unfolding words right parity remainder
words_right i h = eqb→eq (get_or words i 0) (parity (2 ^ i)) (all_holds right 16 tt i h)

-- what a codeword is put together from: the message, P1 to P15 behind it, and P16
pub codeword_packed : (m p : ℕ) → m < 2 ^ 16 → p ≡ parity m
    → bit_or (bit_and (ones (bit_or (p * 2 ^ 16 % 2 ^ 32) m)) 1 * 2 ^ 31 % 2 ^ 32) (bit_or (p * 2 ^ 16 % 2 ^ 32) m) ≡ codeword m
unfolding codeword front
codeword_packed m p hm e =
    let hp : parity m * 2 ^ 16 % 2 ^ 32 ≡ parity m * 2 ^ 16 = shl_exact 15 16 32 (parity_lt m) (omega arith) in
    let f : bit_or (p * 2 ^ 16 % 2 ^ 32) m ≡ front m =
    ap (λ (x : ℕ). bit_or (x * 2 ^ 16 % 2 ^ 32) m) e ∙ ap (λ (x : ℕ). bit_or x m) hp ∙ or_shifted (parity m) 16 m hm in
    let l : front m < 2 ^ 31 = omega (arith, parity_lt m) in
    let h : ones (front m) % 2 * 2 ^ 31 % 2 ^ 32 ≡ ones (front m) % 2 * 2 ^ 31 = shl_exact 1 31 32 (low (ones (front m))) (omega arith) in
    ap (λ (x : ℕ). bit_or (bit_and (ones x) 1 * 2 ^ 31 % 2 ^ 32) x) f
    ∙ ap (λ (x : ℕ). bit_or x (front m)) (ap (λ (x : ℕ). x * 2 ^ 31 % 2 ^ 32) (and_mask (ones (front m)) 1) ∙ h)
    ∙ or_shifted (ones (front m) % 2) 31 (front m) l
