-- The worked examples of 01 on headers, computed. The one table of the examples cites them. Assumes nothing.
use Rattle.std.specs.Prelude.{◌≡◌, List, [], ◌∷◌, ℕ, ◌+◌, ◌*◌, ◌/◌, ◌%◌, ◌^◌, ◌<◌, get_or}
use Rattle.std.proofs.Common.{sym, ap, ◌∙◌, arith, lit<}
use Rattle.std.specs.Int.Bits.{bit_xor}
use Rattle.std.specs.Int.Count.{ones, ones_in}
use Rattle.polynomials.specs.Polynomials.{remainder}
use Rattle.polynomials.specs.Light.{ones_in_lem}
use Rattle.header_code.specs.Code.{parity, front, codeword, flips_to}
use Rattle.header_code.specs.Code.Distance.{front_lt}

-- the four octets of a word, in sending order
abbrev pub octets : ℕ → List ℕ
octets w = w % 256 ∷ w / 256 % 256 ∷ w / 65536 % 256 ∷ w / 16777216 ∷ []

-- a word from its octets
pub of_octets : (w a b c d : ℕ) → octets w ≡ a ∷ b ∷ c ∷ d ∷ [] → w ≡ a + 256 * b + 65536 * c + 16777216 * d
of_octets w a b c d e =
    let x : w % 256 ≡ a = ap (λ (l : List ℕ). get_or l 0 0) e in
    let y : w / 256 % 256 ≡ b = ap (λ (l : List ℕ). get_or l 1 0) e in
    let z : w / 65536 % 256 ≡ c = ap (λ (l : List ℕ). get_or l 2 0) e in
    let t : w / 16777216 ≡ d = ap (λ (l : List ℕ). get_or l 3 0) e in
    omega arith

-- the codeword in a form that is computed quickly
fast : ℕ → ℕ
fast m = ones_in 31 (front m) % 2 * 2 ^ 31 + front m

fast_is : (m : ℕ) → m < 2 ^ 16 → codeword m ≡ fast m
unfolding codeword fast
fast_is m h = ap (λ (x : ℕ). x % 2 * 2 ^ 31 + front m) (sym (ones_in_lem 31 (front m) (front_lt m h)))

-- messages of 01's examples, as numbers: the counter is 8 times itself, SampRate 1 is 1, EXP9 is 32768
pub count_1 : octets (codeword 8) ≡ 0x08 ∷ 0x00 ∷ 0x0E ∷ 0xEE ∷ []
unfolding fast front parity remainder ones_in
count_1 = ap octets (fast_is 8 (lit< tt))

pub count_2 : octets (codeword 16) ≡ 0x10 ∷ 0x00 ∷ 0x1D ∷ 0x0D ∷ []
unfolding fast front parity remainder ones_in
count_2 = ap octets (fast_is 16 (lit< tt))

pub count_3 : octets (codeword 24) ≡ 0x18 ∷ 0x00 ∷ 0x13 ∷ 0xE3 ∷ []
unfolding fast front parity remainder ones_in
count_3 = ap octets (fast_is 24 (lit< tt))

pub rate_1 : octets (codeword 1) ≡ 0x01 ∷ 0x00 ∷ 0x01 ∷ 0xD1 ∷ []
unfolding fast front parity remainder ones_in
rate_1 = ap octets (fast_is 1 (lit< tt))

pub exp_9 : octets (codeword 32768) ≡ 0x00 ∷ 0x80 ∷ 0x80 ∷ 0xE8 ∷ []
unfolding fast front parity remainder ones_in
exp_9 = ap octets (fast_is 32768 (lit< tt))

-- the codeword of nothing is zero, and that of SampRate 1 alone
pub codeword_0 : codeword 0 ≡ 0
unfolding fast front parity remainder ones_in
codeword_0 = fast_is 0 (lit< tt)

pub codeword_1 : codeword 1 ≡ 0xD1010001
unfolding fast front parity remainder ones_in
codeword_1 = fast_is 1 (lit< tt)

-- 01 00 01 01 is three from zero
pub three_from_zero : flips_to 0x01010001 0 ≡ 3
unfolding flips_to ones_in
three_from_zero = ap (λ (x : ℕ). ones (bit_xor 0x01010001 x)) codeword_0 ∙ sym (ones_in_lem 32 0x01010001 (lit< tt))
