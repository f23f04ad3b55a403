-- The syndrome is linear, and 0 exactly for codewords: so flipping a pattern mends a word exactly if pattern and word have one syndrome,
-- and the syndrome of two flips is the sum of two of the 32 columns, which come from the sixteen words.
-- Assumes nothing.
use Rattle.std.specs.Prelude.{◌≡◌, refl, Bool, List, ℕ, ◌+◌, ◌-◌, ◌*◌, ◌/◌, ◌%◌, ◌^◌, ◌<◌, T, eqb, get_or, set, length}
use Rattle.std.proofs.Common.{sym, ap, ap₂, ◌∙◌, subst, mod-lt, div-add-mod', arith, length-set, get_or-set_same, get_or-set_other, pow_pos, shl_exact}
use Rattle.std.proofs.Math.Decide.{ℕ_discrete, dec_lt}
use Rattle.std.specs.Int.Bits.{bit_xor, bit_or, bit_and, xor_self}
use Rattle.std.proofs.lemmas.Nat.{xor_block, xor_shr, xor_mod, xor_lt, and_mask, or_shifted, ones_cat, mod-pow-add}
use Rattle.std.specs.Int.Count.{ones, ones_in}
use Rattle.lists.specs.Tests.{both, all_holds}
use Rattle.polynomials.specs.Polynomials.{remainder}
use Rattle.polynomials.specs.Xor.{digit, low, xor_swap, xor_twice, ones_xor}
use Rattle.polynomials.specs.Light.{ones_in_lem}
use Rattle.header_code.specs.Code.{parity, front, codeword, syndrome}
use Rattle.header_code.specs.Code.Parity.{parity_lt, parity_xor, words}
use Rattle.header_code.specs.Code.Distance.{codeword_even, codeword_low, codeword_lt, front_lt}

-- the evenness of a sum
odd_digits : (x y z : ℕ) → x < 2 → y < 2 → (z % 2 ≡ (x + y) % 2) → z % 2 ≡ bit_xor x y
odd_digits x y z hx hy e =
    e ∙ digit (λ (x : ℕ). (x + y) % 2 ≡ bit_xor x y) (digit (λ (y : ℕ). (0 + y) % 2 ≡ bit_xor 0 y) refl refl y hy)
    (digit (λ (y : ℕ). (1 + y) % 2 ≡ bit_xor 1 y) refl refl y hy) x hx

odd_xor : (a b : ℕ) → ones (bit_xor a b) % 2 ≡ bit_xor (ones a % 2) (ones b % 2)
odd_xor a b = odd_digits (ones a % 2) (ones b % 2) (ones (bit_xor a b)) (low (ones a)) (low (ones b)) (omega (arith, ones_xor a b))

-- P1 to P15, asked for against received
off : ℕ → ℕ
off w = bit_xor (parity (w % 2 ^ 16)) (w / 2 ^ 16 % 2 ^ 15)

off_lt : (w : ℕ) → off w < 2 ^ 15
unfolding off
off_lt w = xor_lt 15 (parity (w % 2 ^ 16)) (w / 2 ^ 16 % 2 ^ 15) (parity_lt (w % 2 ^ 16)) (mod-lt (w / 2 ^ 16) (pow_pos 15))

off_xor : (a b : ℕ) → off (bit_xor a b) ≡ bit_xor (off a) (off b)
unfolding off
off_xor a b =
    ap₂ bit_xor (ap parity (xor_mod a b 16) ∙ parity_xor (a % 2 ^ 16) (b % 2 ^ 16))
    (ap (λ (x : ℕ). x % 2 ^ 15) (xor_shr a b 16) ∙ xor_mod (a / 2 ^ 16) (b / 2 ^ 16) 15)
    ∙ xor_swap (parity (a % 2 ^ 16)) (parity (b % 2 ^ 16)) (a / 2 ^ 16 % 2 ^ 15) (b / 2 ^ 16 % 2 ^ 15)

syndrome_is : (w : ℕ) → syndrome w ≡ ones w % 2 * 2 ^ 15 + off w
unfolding syndrome off
syndrome_is w = refl

-- LINEAR
pub syndrome_xor : (a b : ℕ) → syndrome (bit_xor a b) ≡ bit_xor (syndrome a) (syndrome b)
syndrome_xor a b =
    syndrome_is (bit_xor a b) ∙ ap₂ (λ (x y : ℕ). x * 2 ^ 15 + y) (odd_xor a b) (off_xor a b)
    ∙ sym (xor_block 15 (ones a % 2) (ones b % 2) (off a) (off b) (off_lt a) (off_lt b))
    ∙ ap₂ bit_xor (sym (syndrome_is a)) (sym (syndrome_is b))

-- two words are equal if nothing is left of their sum
pub same : (a b : ℕ) → bit_xor a b ≡ 0 → a ≡ b
same a b e = sym (xor_twice a b) ∙ ap (λ (x : ℕ). bit_xor x b) e

-- a codeword has nothing wrong
pub syndrome_codeword : (m : ℕ) → m < 2 ^ 16 → syndrome (codeword m) ≡ 0
unfolding off codeword front
syndrome_codeword m h =
    let e : codeword m / 2 ^ 16 % 2 ^ 15 ≡ parity m = omega (arith, parity_lt m) in
    syndrome_is (codeword m)
    ∙ ap₂ (λ (x y : ℕ). x * 2 ^ 15 + y) (codeword_even m h) (ap₂ (λ (x y : ℕ). bit_xor (parity x) y) (codeword_low m h) e ∙ xor_self (parity m))

ones_bit : (x : ℕ) → x < 2 → ones x ≡ x
unfolding ones ones_in
ones_bit = digit (λ (x : ℕ). ones x ≡ x) refl refl

-- and a word with nothing wrong is the codeword of its message bits
pub codeword_of : (w : ℕ) → w < 2 ^ 32 → syndrome w ≡ 0 → codeword (w % 2 ^ 16) ≡ w
unfolding codeword front off
codeword_of w h z =
    let m = w % 2 ^ 16 in
    let p = w / 2 ^ 16 % 2 ^ 15 in
    let t = w / 2 ^ 31 in
    let s = syndrome_is w in
    let even : ones w % 2 ≡ 0 = omega arith in
    let none : off w ≡ 0 = omega arith in
    let e : parity m ≡ p = same (parity m) p none in
    let f : front m ≡ p * 2 ^ 16 + m = ap (λ (x : ℕ). x * 2 ^ 16 + m) e in
    let g : t * 2 ^ 31 + front m ≡ w = ap (λ (x : ℕ). t * 2 ^ 31 + x) (f ∙ sym (mod-pow-add w 15 16)) ∙ div-add-mod' w (2 ^ 31) in
    let o : ones t ≡ t = ones_bit t (omega arith) in
    let k : ones w ≡ ones t + ones (front m) = ap ones (sym g) ∙ ones_cat 31 t (front m) (front_lt m (mod-lt w (pow_pos 16))) in
    let small : t < 2 = omega arith in
    let q : ones (front m) % 2 ≡ t = last (ones w) (ones (front m)) t (k ∙ ap (λ (x : ℕ). x + ones (front m)) o) even small in
    ap (λ (x : ℕ). x * 2 ^ 31 + front m) q ∙ g
  where
    last : (a b t : ℕ) → a ≡ t + b → a % 2 ≡ 0 → t < 2 → b % 2 ≡ t
    last a b t e z h = omega arith

-- the sum of two codewords is the codeword of the sum
pub codeword_xor : (a b : ℕ) → a < 2 ^ 16 → b < 2 ^ 16 → codeword (bit_xor a b) ≡ bit_xor (codeword a) (codeword b)
codeword_xor a b ha hb =
    let w = bit_xor (codeword a) (codeword b) in
    let low : w % 2 ^ 16 ≡ bit_xor a b = xor_mod (codeword a) (codeword b) 16 ∙ ap₂ bit_xor (codeword_low a ha) (codeword_low b hb) in
    let fine : syndrome w ≡ 0 = syndrome_xor (codeword a) (codeword b) ∙ ap₂ bit_xor (syndrome_codeword a ha) (syndrome_codeword b hb) in
    ap codeword (sym low) ∙ codeword_of w (xor_lt 32 (codeword a) (codeword b) (codeword_lt a ha) (codeword_lt b hb)) fine

-- ---- the columns: the syndromes of the 32 single flips
-- a message bit flips the parity of its word and the evenness; P1 to P15 flip themselves and the evenness; P16 the evenness alone
pub fast : ℕ → ℕ
fast w = ones_in 32 w % 2 * 2 ^ 15 + off w

pub fast_is : (w : ℕ) → w < 2 ^ 32 → syndrome w ≡ fast w
unfolding fast
fast_is w h = syndrome_is w ∙ ap (λ (x : ℕ). x % 2 * 2 ^ 15 + off w) (sym (ones_in_lem 32 w h))

unfoldable pub right : ℕ → Bool
right i = both (eqb (bit_or (get_or words i 0) 32768) (fast (2 ^ i))) (eqb (bit_or (2 ^ i) 32768) (fast (2 ^ (16 + i))))

-- the columns agree with the definition: one computed test over the sixteen words
pub tested : (i : ℕ) → i < 16 → T (right i)
unfolding right fast off words parity remainder ones_in
tested i h = all_holds right 16 tt i h

-- a table that holds the columns of the first i words and of P1 to P16 as far
abbrev pub Filled : List ℕ → ℕ → Type 0
Filled cs i = (k : ℕ) → k < i → (get_or cs k 0 ≡ syndrome (2 ^ k)) × (get_or cs (16 + k) 0 ≡ syndrome (2 ^ (16 + k)))

pub filled_more : (cs : List ℕ) (i a b : ℕ) → length cs ≡ 32 → i < 16 → a ≡ syndrome (2 ^ i) → b ≡ syndrome (2 ^ (16 + i)) → Filled cs i
    → Filled (set (set cs i a) (16 + i) b) (i + 1)
filled_more cs i a b long h ea eb f k hk =
    let s = set cs i a in
    let ls : length s ≡ 32 = simp length-set long in
    elim (ℕ_discrete k i) [
      | yes e ↦ (
        ap (λ (x : ℕ). get_or (set s (16 + i) b) x 0) e ∙ get_or-set_other s (16 + i) i b 0 (λ q. omega arith)
            ∙ get_or-set_same cs i a 0 (omega arith) ∙ ea ∙ ap (λ (x : ℕ). syndrome (2 ^ x)) (sym e),
        ap (λ (x : ℕ). get_or (set s (16 + i) b) (16 + x) 0) e ∙ get_or-set_same s (16 + i) b 0 (omega arith) ∙ eb
            ∙ ap (λ (x : ℕ). syndrome (2 ^ (16 + x))) (sym e),
      )
      | no d ↦ (
        get_or-set_other s (16 + i) k b 0 (λ q. omega arith) ∙ get_or-set_other cs i k a 0 d ∙ (f k (omega arith)).0,
        get_or-set_other s (16 + i) (16 + k) b 0 (λ q. d (omega arith)) ∙ get_or-set_other cs i (16 + k) a 0 (λ q. omega arith) ∙ (f k (omega arith)).1,
      )
    ]

pub filled_all : (cs : List ℕ) (i : ℕ) → i ≡ 16 → Filled cs i → (k : ℕ) → k < 32 → get_or cs k 0 ≡ syndrome (2 ^ k)
filled_all cs i e f k h =
    elim (dec_lt k 16) [
      | yes l ↦ (f k (omega arith)).0
      | no l ↦
          let z : 16 + (k - 16) ≡ k = omega arith in
          subst (λ (x : ℕ). get_or cs x 0 ≡ syndrome (2 ^ x)) z (f (k - 16) (omega arith)).1
    ]

-- what the code puts together: the masks
pub syndrome_packed : (w p : ℕ) → p ≡ parity (bit_and w 65535)
    → bit_or (bit_and (ones w) 1 * 2 ^ 15 % 2 ^ 32) (bit_xor p (bit_and (w / 2 ^ 16) 32767)) ≡ syndrome w
unfolding off
syndrome_packed w p e =
    let q : bit_xor p (bit_and (w / 2 ^ 16) 32767) ≡ off w = ap₂ bit_xor (e ∙ ap parity (and_mask w 16)) (and_mask (w / 2 ^ 16) 15) in
    let h : ones w % 2 * 2 ^ 15 % 2 ^ 32 ≡ ones w % 2 * 2 ^ 15 = shl_exact 1 15 32 (low (ones w)) (omega arith) in
    ap₂ bit_or (ap (λ (x : ℕ). x * 2 ^ 15 % 2 ^ 32) (and_mask (ones w) 1) ∙ h) q ∙ or_shifted (ones w % 2) 15 (off w) (off_lt w) ∙ sym (syndrome_is w)

pub syndrome_zero : syndrome 0 ≡ 0
unfolding fast off parity remainder ones_in
syndrome_zero = fast_is 0 (pow_pos 32)
