-- Two different codewords differ in at least six bits, and two differ in six: so two flips can be mended and three cannot.
-- Only messages of at most four ones are computed; a heavier one has five ones already, and five is lifted to six by evenness.
-- Assumes nothing.
use Rattle.std.specs.Prelude.{◌≡◌, refl, Bool, true, ℕ, zero, suc, ◌+◌, ◌*◌, ◌%◌, ◌^◌, ◌≤◌, ◌<◌, T, leb}
use Rattle.std.proofs.Common.{sym, ap, ◌∙◌, arith, leb→le, lit<}
use Rattle.std.proofs.Math.Decide.{dec_le, ℕ_discrete}
use Rattle.std.proofs.Math.Arith.{bin_ind}
use Rattle.std.specs.Int.Bits.{bit_xor, xor_self}
use Rattle.std.proofs.lemmas.Nat.{xor_block, xor_lt, ones_cat, ones-le}
use Rattle.std.specs.Int.Count.{ones, ones_in, ones_step}
use Rattle.polynomials.specs.Polynomials.{remainder}
use Rattle.polynomials.specs.Xor.{digit, low, xor_twice, between, ones_xor, ones_xor_le}
use Rattle.polynomials.specs.Light.{light, light_holds, ones_in_lem}
use Rattle.header_code.specs.Code.{parity, front, codeword, flips_to}
use Rattle.header_code.specs.Code.Parity.{parity_lt, parity_xor}

-- the test: a message with something in it has five ones among its 31 bits
far : ℕ → Bool
far zero = true
far (suc n) = leb 5 (ones_in 16 (suc n) + ones_in 15 (parity (suc n)))

far_light : T (light 16 4 far)
unfolding light far parity remainder ones_in
far_light = tt

far_is : (n : ℕ) → 0 < n → n < 2 ^ 16 → T (far n) → 5 ≤ ones n + ones (parity n)
unfolding far
far_is zero p h t = absurd (omega arith)
far_is (suc n) p h t =
    omega (arith, leb→le 5 (ones_in 16 (suc n) + ones_in 15 (parity (suc n))) t, ones_in_lem 16 (suc n) h, ones_in_lem 15 (parity (suc n)) (parity_lt (suc n)))

five : (n : ℕ) → 0 < n → n < 2 ^ 16 → 5 ≤ ones n + ones (parity n)
five n p h = elim (dec_le 5 (ones n)) [ yes l ↦ omega arith | no l ↦ far_is n p h (light_holds 16 4 far far_light n h (omega arith)) ]

pub front_lt : (m : ℕ) → m < 2 ^ 16 → front m < 2 ^ 31
unfolding front
front_lt m h = omega (arith, parity_lt m)

pub front_xor : (a b : ℕ) → a < 2 ^ 16 → b < 2 ^ 16 → bit_xor (front a) (front b) ≡ front (bit_xor a b)
unfolding front
front_xor a b ha hb =
    xor_block 16 (parity a) (parity b) a b ha hb ∙ ap (λ (x : ℕ). x * 2 ^ 16 + bit_xor a b) (sym (parity_xor a b))

front_ones : (m : ℕ) → m < 2 ^ 16 → ones (front m) ≡ ones (parity m) + ones m
unfolding front
front_ones m h = ones_cat 16 (parity m) m h

pub codeword_lt : (m : ℕ) → m < 2 ^ 16 → codeword m < 2 ^ 32
unfolding codeword
codeword_lt m h = omega (arith, front_lt m h)

-- the message stands in the first sixteen bits
pub codeword_low : (m : ℕ) → m < 2 ^ 16 → codeword m % 2 ^ 16 ≡ m
unfolding codeword front
codeword_low m h = omega arith

ones_bit : (x : ℕ) → x < 2 → ones x ≡ x
unfolding ones ones_in
ones_bit = digit (λ (x : ℕ). ones x ≡ x) refl refl

-- the number of ones of a codeword is even
pub codeword_even : (m : ℕ) → m < 2 ^ 16 → ones (codeword m) % 2 ≡ 0
unfolding codeword
codeword_even m h =
    omega (arith, ones_cat 31 (ones (front m) % 2) (front m) (front_lt m h), ones_bit (ones (front m) % 2) (low (ones (front m))))

-- two words that differ have something in their sum
xor_pos : (a b : ℕ) → (a ≡ b → ⊥) → 0 < bit_xor a b
xor_pos a b d = pos (bit_xor a b) refl
  where
    pos : (x : ℕ) → bit_xor a b ≡ x → 0 < x
    pos zero e = absurd (d (sym (xor_twice a b) ∙ ap (λ (x : ℕ). bit_xor x b) e))
    pos (suc x) e = omega arith

-- what two codewords differ by: the front of the messages' difference, and P16 or not
apart : (a b : ℕ) → a < 2 ^ 16 → b < 2 ^ 16 → (a ≡ b → ⊥) → 5 ≤ ones (bit_xor (codeword a) (codeword b))
unfolding codeword
apart a b ha hb d =
    let c = bit_xor a b in
    let p = bit_xor (ones (front a) % 2) (ones (front b) % 2) in
    let hc : c < 2 ^ 16 = xor_lt 16 a b ha hb in
    let e : bit_xor (codeword a) (codeword b) ≡ p * 2 ^ 31 + front c =
    xor_block 31 (ones (front a) % 2) (ones (front b) % 2) (front a) (front b) (front_lt a ha) (front_lt b hb)
    ∙ ap (λ (x : ℕ). p * 2 ^ 31 + x) (front_xor a b ha hb) in
    omega (arith, ap ones e, ones_cat 31 p (front c) (front_lt c hc), front_ones c hc, five c (xor_pos a b d) hc)

-- SIX APART: two different codewords differ in at least six bits
pub six_apart : (a b : ℕ) → a < 2 ^ 16 → b < 2 ^ 16 → (a ≡ b → ⊥) → 6 ≤ ones (bit_xor (codeword a) (codeword b))
six_apart a b ha hb d = omega (arith, ones_xor (codeword a) (codeword b), codeword_even a ha, codeword_even b hb, apart a b ha hb d)

-- a word's distances from two different codewords are six together at least
pub far_from_one : (w a b : ℕ) → a < 2 ^ 16 → b < 2 ^ 16 → (a ≡ b → ⊥) → 6 ≤ flips_to w a + flips_to w b
unfolding flips_to
far_from_one w a b ha hb d =
    omega (arith, six_apart a b ha hb d, ap ones (between w (codeword a) (codeword b)), ones_xor_le (bit_xor w (codeword a)) (bit_xor w (codeword b)))

-- so at most one codeword is within two bits of a word
pub nearest : (w a b : ℕ) → a < 2 ^ 16 → b < 2 ^ 16 → flips_to w a ≤ 2 → flips_to w b ≤ 2 → a ≡ b
nearest w a b ha hb la lb = elim (ℕ_discrete a b) [ yes e ↦ e | no d ↦ absurd (omega (arith, far_from_one w a b ha hb d)) ]

-- ---- no flips at all
no_ones : (n : ℕ) → ones n ≡ 0 → n ≡ 0
no_ones = bin_ind (λ (n : ℕ). ones n ≡ 0 → n ≡ 0) (λ e. refl) (λ n ih e. let z = ih (omega (arith, ones_step n)) in omega (arith, ones_step n))

-- a word that differs from a codeword in no bit is that codeword
pub no_flips : (w m : ℕ) → flips_to w m ≡ 0 → w ≡ codeword m
unfolding flips_to
no_flips w m e = sym (xor_twice w (codeword m)) ∙ ap (λ (x : ℕ). bit_xor x (codeword m)) (no_ones (bit_xor w (codeword m)) e)

-- and a codeword differs from itself in none
pub itself_near : (w m : ℕ) → codeword m ≡ w → flips_to w m ≡ 0
unfolding flips_to
itself_near w m e = let z = ap ones (ap (bit_xor w) e ∙ xor_self w) in omega (arith, ones-le 0 0 (lit< tt))
