-- The register's number: one test over the sixteen registers for a step, and bits fed one behind the other.
-- Assumes nothing.
use mathlib.Core.Path.{◌≡◌, refl, sym, ap, ap₂, ◌∙◌}
use mathlib.Core.Bool.{Bool, true, false, xor, cond}
use mathlib.Core.List.{List, [], ◌∷◌, ◌++◌}
use Prim.Native.Nat.{ℕ, ◌+◌, ◌/◌, ◌%◌, ◌^◌, ◌<◌}
use native.Mathlib.Nat.{div-div-eq-div-mul, mod-eq_of_lt}
use lib.Bits.{bit_and, bit_xor, and_mask}
use lib.Dec.{eqb, T, eqb→eq}
use lib.Pow.{shr-shr}
use borrow.Author.Tests.{eq-eqb}
use lib.ListN.{length, get_or, take}
use lib.Seq.{take-suc}
use native.Mathlib.Numerals.{add-one}
use Rattle.lists.specs.Tests.{all, all_holds, not_same, true_false}
use Rattle.bits.specs.Bits.{value, field, bits, odd}
use Rattle.bits.proofs.Laws.{value_lt, value_field, field_value, field_add, fields_one, bits_append}
use Rattle.crc.specs.Crc.{Rem, rem, none, sent, fed, fed_all, code, coded, right}
use Rattle.crc.proofs.Laws.{fed_append, right_fed, right_true}

stepped : Bool → ℕ → Bool
stepped b n = eqb (cond (xor (eqb (n % 2) 1) b) (bit_xor (n / 2) 12) (n / 2)) (code (fed (coded n) b))

stepped_all : (b : Bool) → T (all (stepped b) 16)
unfolding stepped xor value
stepped_all true = tt
stepped_all false = tt

pub step_law : (n : ℕ) (b : Bool) → n < 16 → cond (xor (eqb (n % 2) 1) b) (bit_xor (n / 2) 12) (n / 2) ≡ code (fed (coded n) b)
unfolding stepped
step_law n b h = eqb→eq _ _ (all_holds (stepped b) 16 (stepped_all b) n h)

pub code_none : 0 ≡ code none
unfolding value
code_none = refl

-- there and back
pub coded_code : (r : Rem) → coded (code r) ≡ r
unfolding field
coded_code (rem a b c d) =
    let n = code (rem a b c d) in
    let e : field 4 n ≡ a ∷ b ∷ c ∷ d ∷ [] = field_value (a ∷ b ∷ c ∷ d ∷ []) in
    let e4 : n / 2 / 2 ≡ n / 4 = div-div-eq-div-mul n 2 2 in
    let e8 : n / 4 / 2 ≡ n / 8 = div-div-eq-div-mul n 4 2 in
    cc

pub sent_coded : (n : ℕ) → sent (coded n) ≡ field 4 n
unfolding field
sent_coded n =
    let e4 : n / 2 / 2 ≡ n / 4 = div-div-eq-div-mul n 2 2 in
    let e8 : n / 4 / 2 ≡ n / 8 = div-div-eq-div-mul n 4 2 in
    cc

pub code_coded : (n : ℕ) → code (coded n) ≡ n % 16
code_coded n = ap value (sent_coded n) ∙ value_field 4 n

pub kept : (n : ℕ) → n < 16 → n ≡ code (coded n)
kept n h = sym (code_coded n ∙ mod-eq_of_lt h)

pub code_lt : (r : Rem) → code r < 16
code_lt (rem a b c d) = value_lt (a ∷ b ∷ c ∷ d ∷ [])

-- the four bits of the register are all that counts
pub masked : (n : ℕ) → bit_and n 15 ≡ code (coded n)
masked n = and_mask n 4 ∙ sym (code_coded n)

pub coded_masked : (n : ℕ) → coded (bit_and n 15) ≡ coded n
coded_masked n = ap coded (masked n) ∙ coded_code (coded n)

-- ---- feeding
fed_one : (r : Rem) (b : Bool) → fed_all r (b ∷ []) ≡ fed r b
unfolding fed_all
fed_one r b = refl

field_one : (n : ℕ) → field 1 n ≡ odd n ∷ []
unfolding field
field_one n = refl

pub fed_none : (c n : ℕ) → code (coded c) ≡ code (fed_all (coded c) (field 0 n))
unfolding fed_all field
fed_none c n = refl

-- one bit more of a number
pub fed_bit : (c x k r y : ℕ) → r ≡ code (fed_all (coded c) (field k x)) → y ≡ x / 2 ^ k
    → code (fed (coded r) (eqb (y % 2) 1)) ≡ code (fed_all (coded c) (field (k + 1) x))
fed_bit c x k r y e f =
    ap code
    (ap₂ fed (ap coded e ∙ coded_code (fed_all (coded c) (field k x))) (ap odd f)
    ∙ sym (fed_one (fed_all (coded c) (field k x)) (odd (x / 2 ^ k)))
    ∙ ap (fed_all (fed_all (coded c) (field k x))) (sym (field_one (x / 2 ^ k)))
    ∙ sym (fed_append (coded c) (field k x) (field 1 (x / 2 ^ k)))
    ∙ ap (fed_all (coded c)) (sym (field_add k 1 x)))

-- one octet more
pub fed_octet : (c k r : ℕ) (s : List ℕ) → k < length s → r ≡ code (fed_all (coded c) (bits (take k s)))
    → code (fed_all (coded r) (field 8 (get_or s k 0))) ≡ code (fed_all (coded c) (bits (take (k + 1) s)))
fed_octet c k r s h e =
    let x = get_or s k 0 in
    let t : take (k + 1) s ≡ take k s ++ (x ∷ []) = rw (add-one k) (take-suc s k 0 h) in
    ap code
    (ap (λ (q : Rem). fed_all q (field 8 x)) (ap coded e ∙ coded_code (fed_all (coded c) (bits (take k s))))
    ∙ sym (fed_append (coded c) (bits (take k s)) (field 8 x))
    ∙ ap (fed_all (coded c)) (ap (λ (l : List Bool). bits (take k s) ++ l) (sym (fields_one 8 x)) ∙ sym (bits_append (take k s) (x ∷ [])) ∙ ap bits (sym t)))

pub shifted : (x k y j : ℕ) → y ≡ x / 2 ^ k → y / 2 ^ j ≡ x / 2 ^ (k + j)
shifted x k y j e = ap (λ (n : ℕ). n / 2 ^ j) e ∙ shr-shr x k j

-- the test of a whole packet: it is right exactly if the register is 0 after all its bits, CRC included
pub right_test : (n : ℕ) (p : List Bool) → length p ≡ n + 4 → eqb (code (fed_all none p)) 0 ≡ right n p
right_test n p h = go (right n p) refl
  where
    go : (b : Bool) → right n p ≡ b → eqb (code (fed_all none p)) 0 ≡ right n p
    go true e = eq-eqb (code (fed_all none p)) 0 (ap code ((right_fed n p h).0 ((right_true n p).0 e)) ∙ sym code_none) ∙ sym e
    go false e =
        not_same (code (fed_all none p)) 0
        (λ z. let o : fed_all none p ≡ none = sym (coded_code (fed_all none p)) ∙ ap coded (z ∙ code_none) ∙ coded_code none in
        true_false (sym ((right_true n p).1 ((right_fed n p h).1 o)) ∙ e))
        ∙ sym e
