-- A number's text is right: read back it is the number, it has no needless zero in front, and two numbers have two texts; where it ends
-- is told by any octet that is no digit.
-- Assumes nothing.
use Rattle.std.specs.Prelude.{◌≡◌, refl, List, [], ◌∷◌, ◌++◌, ℕ, zero, suc, ◌+◌, ◌-◌, ◌*◌, ◌/◌, ◌%◌, ◌≤◌, ◌<◌, length, get_or}
use Rattle.std.proofs.Common.{sym, ap, ◌∙◌, arith, length-append}
use Rattle.std.proofs.Math.Decide.{dec_lt}
use Rattle.std.proofs.Math.ListN.{get_or-append}
use Rattle.text.specs.Text.{digit, decimal, decimal_small, decimal_large}
use Rattle.text.specs.Laws.{Digits, value}

value_append : (a : ℕ) (l m : List ℕ) → value a (l ++ m) ≡ value (value a l) m
unfolding value
value_append a [] m = refl
value_append a (d ∷ l) m = value_append (a * 10 + (d - 48)) l m

-- up to k, for every number below it
value_below : (k n : ℕ) → n < k → value 0 (decimal n) ≡ n
unfolding value
value_below zero n h = absurd (omega arith)
value_below (suc k) n h =
    elim (dec_lt n 10) [
      | yes y ↦ rw (decimal_small n y) (omega arith)
      | no y ↦
          let i = value_below k (n / 10) (omega arith) in
          rw (decimal_large n (omega arith), value_append 0 (decimal (n / 10)) (digit (n % 10) ∷ []), i) (omega arith)
    ]

-- READ BACK
pub value_decimal : (n : ℕ) → value 0 (decimal n) ≡ n
value_decimal n = value_below (suc n) n (omega arith)

-- so two numbers have two texts
pub decimal_once : (m n : ℕ) → decimal m ≡ decimal n → m ≡ n
decimal_once m n e = sym (value_decimal m) ∙ ap (value 0) e ∙ value_decimal n

digits_append : (l : List ℕ) (d : ℕ) → Digits l → d < 10 → Digits (l ++ (digit d ∷ []))
digits_append [] d h i = (omega arith, omega arith, tt)
digits_append (x ∷ l) d h i = (h.0, h.1, digits_append l d h.2 i)

digits_below : (k n : ℕ) → n < k → Digits (decimal n)
digits_below zero n h = absurd (omega arith)
digits_below (suc k) n h =
    elim (dec_lt n 10) [
      | yes y ↦ rw (decimal_small n y) (omega arith, omega arith, tt)
      | no y ↦ rw (decimal_large n (omega arith)) (digits_append (decimal (n / 10)) (n % 10) (digits_below k (n / 10) (omega arith)) (omega arith))
    ]

pub decimal_digits : (n : ℕ) → Digits (decimal n)
decimal_digits n = digits_below (suc n) n (omega arith)

-- and the first is "0" of no number but 0
first_below : (k n : ℕ) → n < k → (0 < n → 48 < get_or (decimal n) 0 0) × (1 ≤ length (decimal n))
first_below zero n h = absurd (omega arith)
first_below (suc k) n h =
    elim (dec_lt n 10) [
      | yes y ↦ rw (decimal_small n y) (λ p. omega arith, omega arith)
      | no y ↦
          let i = first_below k (n / 10) (omega arith) in
          let f = i.0 (omega arith) in
          rw (decimal_large n (omega arith))
          (λ p. rw (get_or-append (decimal (n / 10)) (digit (n % 10) ∷ []) 0 0 i.1) f, rw length-append (omega arith))
    ]

pub no_zero_in_front : (n : ℕ) → 0 < n → 48 < get_or (decimal n) 0 0
no_zero_in_front n h = (first_below (suc n) n (omega arith)).0 h

-- ---- where digits end
-- digits that end at an octet which is no digit are where they end
pub stops : (l m x y : List ℕ) (s : ℕ) → Digits l → Digits m → s < 48 → l ++ (s ∷ x) ≡ m ++ (s ∷ y) → (l ≡ m) × (x ≡ y)
stops [] [] x y s dl dm h e = (refl, cc)
stops [] (b ∷ m) x y s dl dm h e = let z : s ≡ b = cc in absurd (omega (arith, dm.0))
stops (a ∷ l) [] x y s dl dm h e = let z : a ≡ s = cc in absurd (omega (arith, dl.0))
stops (a ∷ l) (b ∷ m) x y s dl dm h e =
    let z : a ≡ b = cc in
    let w : l ++ (s ∷ x) ≡ m ++ (s ∷ y) = cc in
    let r = stops l m x y s dl.2 dm.2 h w in
    let q : l ≡ m = r.0 in
    (cc, r.1)

-- a number that ends so is told, and what stands behind it
pub told : (m n s : ℕ) (x y : List ℕ) → s < 48 → decimal m ++ (s ∷ x) ≡ decimal n ++ (s ∷ y) → (m ≡ n) × (x ≡ y)
told m n s x y h e =
    let r = stops (decimal m) (decimal n) x y s (decimal_digits m) (decimal_digits n) h e in
    (decimal_once m n r.0, r.1)
