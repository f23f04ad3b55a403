-- Parity is the remainder that 01 asks for: the message times X^15 is a multiple of g and the parity, and nothing else below X^15 is.
-- Assumes nothing.
use Rattle.std.specs.Prelude.{◌≡◌, refl, ℕ, ◌+◌, ◌*◌, ◌^◌, ◌<◌}
use Rattle.std.proofs.Common.{sym, ap, ◌∙◌, mod-eq_of_lt, arith, lit<}
use Rattle.std.specs.Int.Bits.{bit_xor}
use Rattle.polynomials.specs.Quotient.{product}
use Rattle.polynomials.proofs.QuotientLaws.{product_more, quotient_remainder, quotient_lt, remainder_unique}
use Rattle.header_code.specs.Code.{generator, parity}
use Rattle.header_code.specs.Code.Parity.{parity_lt}

-- THERE IS ONE: a multiple of g, by sixteen coefficients, and the parity are the message times X^15
pub parity_divides : (m : ℕ) → m < 2 ^ 16 → (q : ℕ) × ((q < 2 ^ 16) × (m * 2 ^ 15 ≡ bit_xor (product generator 16 q) (parity m)))
unfolding parity
parity_divides m h =
    let hp : m * 2 ^ 15 < 2 ^ 31 = omega arith in
    let i = quotient_remainder 15 generator refl 31 (m * 2 ^ 15) hp in
    let q = i.0 in
    let l : q < 2 ^ 16 = quotient_lt 15 generator refl 31 16 (m * 2 ^ 15) q (parity m) i.1.0 hp (parity_lt m) i.1.1 in
    let e : product generator 31 q ≡ product generator 16 q = ap (product generator 31) (sym (mod-eq_of_lt l)) ∙ product_more generator 16 15 q in
    (q, (l, i.1.1 ∙ ap (λ (x : ℕ). bit_xor x (parity m)) e))

-- ONLY ONE: what is left below X^15 beside any multiple of g is the parity
pub parity_unique : (m j q r : ℕ) → m < 2 ^ 16 → r < 2 ^ 15 → m * 2 ^ 15 ≡ bit_xor (product generator j q) r → parity m ≡ r
unfolding parity
parity_unique m j q r h hr e = remainder_unique 15 generator refl 31 j (m * 2 ^ 15) q r (omega arith) hr e

-- message bit 15 alone: X^30 is g times X^15 + X^14 + X^13 + X^11 + X^7, and X^7 + X^11 + X^13 + X^14
pub parity_exp_9 : parity (2 ^ 15) ≡ 2 ^ 7 + 2 ^ 11 + 2 ^ 13 + 2 ^ 14
unfolding product
parity_exp_9 = parity_unique (2 ^ 15) 16 (2 ^ 15 + 2 ^ 14 + 2 ^ 13 + 2 ^ 11 + 2 ^ 7) (2 ^ 7 + 2 ^ 11 + 2 ^ 13 + 2 ^ 14) (lit< tt) (lit< tt) refl
