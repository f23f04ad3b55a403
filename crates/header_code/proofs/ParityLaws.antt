-- Parity is linear, so that of a message is put together from those of its sixteen bits: the words of matrix 6.2, read with its transpose.
-- Assumes nothing.
use Rattle.std.specs.Prelude.{◌≡◌, refl, ℕ, ◌*◌, ◌/◌, ◌%◌, ◌^◌, ◌<◌, get_or}
use Rattle.std.proofs.Common.{ap, ap₂, ◌∙◌, mul-zero, mul-one, arith}
use Rattle.std.specs.Int.Bits.{bit_and}
use Rattle.std.proofs.lemmas.Nat.{and_mask}
use Rattle.polynomials.specs.Xor.{digit, low}
use Rattle.header_code.specs.Code.{parity}
use Rattle.header_code.specs.Code.Parity.{words, words_right, parity_lt}

-- a word times a bit of the message stays below 2^15
pub word_times_bit : (m i : ℕ) → i < 16 → get_or words i 0 * bit_and (m / 2 ^ i) 1 < 2 ^ 15
word_times_bit m i h =
    let e : get_or words i 0 * bit_and (m / 2 ^ i) 1 ≡ parity (2 ^ i) * (m / 2 ^ i % 2) = ap₂ ◌*◌ (words_right i h) (and_mask (m / 2 ^ i) 1) in
    digit (λ (b : ℕ). m / 2 ^ i % 2 ≡ b → get_or words i 0 * bit_and (m / 2 ^ i) 1 < 2 ^ 15)
    (λ z. let q = e ∙ ap (◌*◌ (parity (2 ^ i))) z ∙ mul-zero (parity (2 ^ i)) in omega arith)
    (λ z. let q = e ∙ ap (◌*◌ (parity (2 ^ i))) z ∙ mul-one (parity (2 ^ i)) in omega (arith, parity_lt (2 ^ i)))
    (m / 2 ^ i % 2) (low (m / 2 ^ i)) refl
