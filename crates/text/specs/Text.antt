-- A number as text, and text put into a buffer. Text is a list of octets in ASCII.
-- Assumes nothing.
use Rattle.std.specs.Prelude.{◌≡◌, List, [], ◌∷◌, ◌++◌, ℕ, zero, suc, ◌+◌, ◌/◌, ◌%◌, ◌^◌, ◌≤◌, ◌<◌, ltb, length, drop}
use Rattle.std.proofs.Common.{ap, subst, ◌∙◌, pow-suc, zero-lt-suc, div-lt_iff_lt-mul, arith, length-append, lt-ltb, le-ltb}
use Rattle.std.proofs.Math.Decide.{dec_lt}
use Rattle.lists.specs.Tests.{when}
use Rattle.lists.specs.Parts.{over}

-- ---- a number in decimal
-- the digit d, from "0" on
abbrev pub digit : ℕ → ℕ
digit d = 48 + d

-- the digits of n, the last of them n modulo 10 and those before it the digits of n div 10; k is more than their number
unfoldable pub numeral : ℕ → ℕ → List ℕ
numeral zero n = []
numeral (suc k) n = when (ltb n 10) (digit n ∷ []) (numeral k (n / 10) ++ (digit (n % 10) ∷ []))

unfoldable pub decimal : ℕ → List ℕ
decimal n = numeral (suc n) n

-- how far k goes beyond n does not matter
numeral_same : (k j n : ℕ) → n < k → n < j → numeral k n ≡ numeral j n
unfolding numeral
numeral_same zero j n h i = absurd (omega arith)
numeral_same (suc k) zero n h i = absurd (omega arith)
numeral_same (suc k) (suc j) n h i =
    elim (dec_lt n 10) [
      | yes y ↦ rw (lt-ltb n 10 y)
      | no y ↦
          let b : ltb n 10 ≡ _ = le-ltb n 10 (omega arith) in
          rw b (ap (λ (l : List ℕ). l ++ (digit (n % 10) ∷ [])) (numeral_same k j (n / 10) (omega arith) (omega arith)))
    ]

-- one digit
pub decimal_small : (n : ℕ) → n < 10 → decimal n ≡ digit n ∷ []
unfolding decimal numeral
decimal_small n h = rw (lt-ltb n 10 h)

-- and more: the last is n modulo 10, behind the digits of n div 10
pub decimal_large : (n : ℕ) → 10 ≤ n → decimal n ≡ decimal (n / 10) ++ (digit (n % 10) ∷ [])
unfolding decimal numeral
decimal_large n h =
    rw (le-ltb n 10 h) (ap (λ (l : List ℕ). l ++ (digit (n % 10) ∷ [])) (numeral_same n (suc (n / 10)) (n / 10) (omega arith) (omega arith)))

-- a number below 10^k has at most k digits
pub length_decimal : (k n : ℕ) → n < 10 ^ suc k → length (decimal n) ≤ suc k
length_decimal zero n h = let y : n < 10 = h in rw (decimal_small n y) (omega arith)
length_decimal (suc k) n h =
    elim (dec_lt n 10) [
      | yes y ↦ rw (decimal_small n y) (omega arith)
      | no y ↦
          let f : n / 10 < 10 ^ suc k = (div-lt_iff_lt-mul (zero-lt-suc 9)).1 (subst (λ (x : ℕ). n < x) (pow-suc 10 (suc k)) h) in
          let i = length_decimal k (n / 10) f in
          rw (decimal_large n (omega arith), length-append) (omega arith)
    ]

-- the most digits of a note, which is an octet, and of any number of 64 bits
abbrev pub note_digits : ℕ
note_digits = 3

abbrev pub number_digits : ℕ
number_digits = 20

pub note_digits_lem : (n : ℕ) → n < 2 ^ 8 → length (decimal n) ≤ note_digits
note_digits_lem n h = length_decimal 2 n (omega arith)

pub number_digits_lem : (n : ℕ) → n < 2 ^ 64 → length (decimal n) ≤ number_digits
number_digits_lem n h = length_decimal 19 n (omega arith)

-- words and a number
abbrev pub field : List ℕ → ℕ → List ℕ
field word n = word ++ decimal n

-- ---- text in a buffer
-- what stands in the buffer from place at on, up to end; all before and behind is as it was
pub record Put (what before : List ℕ) (at : ℕ) (after : List ℕ) (end : ℕ) : Type 0 where
  pub laid : after ≡ over before at (length what) what
  pub ends : end ≡ at + length what

-- text put from the front lies inside the buffer
pub put_within : {f l m : List ℕ} {e : ℕ} → Put f l 0 m e → e ≤ length m
put_within {f} {l} {m} {e} p = omega (arith, p.ends, ap length p.laid ∙ length-append f (drop (0 + length f) l))
