-- What the search over none, one and two flipped places shows: a pattern whose syndrome is the word's mends it, and where no pattern of at
-- most two bits has it the word is lost. Assumes nothing.
use Rattle.std.specs.Prelude.{◌≡◌, refl, ℕ, zero, suc, ◌+◌, ◌*◌, ◌/◌, ◌%◌, ◌^◌, ◌≤◌, ◌<◌, Some, None}
use Rattle.std.proofs.Common.{sym, ap, ap₂, ◌∙◌, subst, one-mul, add-zero, pow-suc, arith, lit<, pow_pos}
use Rattle.std.proofs.Math.Decide.{dec_le}
use Rattle.std.proofs.Math.Arith.{lt-one}
use Rattle.std.specs.Int.Bits.{bit_xor, xor_self, xor_shifted, xor_zero_r}
use Rattle.std.proofs.lemmas.Nat.{xor_lt, xor_comm, ones_cat, ones-le}
use Rattle.std.specs.Int.Count.{ones, ones_in, ones_step}
use Rattle.std.proofs.Math.Pow.{pow-lt}
use Rattle.polynomials.specs.Xor.{digit, low, xor_shl, xor_assoc, xor_twice, ones_xor_le}
use Rattle.header_code.specs.Code.{codeword, flips_to, syndrome}
use Rattle.header_code.specs.Code.Distance.{codeword_lt}
use Rattle.header_code.specs.Code.Syndrome.{syndrome_xor, syndrome_zero, syndrome_codeword, codeword_of}
use Rattle.header.specs.Reading.{decoded_as, reading}
use Rattle.header.proofs.Laws.{reading_only}
use Rattle.header.specs.declared.Decoded.{Decoded}
use Rattle.header.specs.Reading.Search.{Misses, Fit}

-- ---- the words with at most two ones are none, one flip, or two
-- the lowest digit, and the rest
split : (Q : ℕ → Type 0) (n : ℕ) → (n % 2 ≡ 0 → Q (n / 2 * 2)) → (n % 2 ≡ 1 → Q (n / 2 * 2 + 1)) → Q n
split Q n even odd =
    digit (λ (r : ℕ). n % 2 ≡ r → Q n) (λ e. subst Q (omega arith) (even e)) (λ e. subst Q (omega arith) (odd e)) (n % 2) (low n) refl

zeros : (k : ℕ) (Q : ℕ → Type 0) → Q 0 → (n : ℕ) → n < 2 ^ k → ones n ≤ 0 → Q n
zeros zero Q z n h l = subst Q (sym (lt-one h)) z
zeros (suc k) Q z n h l =
    split Q n (λ e. zeros k (λ (x : ℕ). Q (x * 2)) z (n / 2) (omega arith) (omega (arith, ones_step n)))
    (λ e. absurd (omega (arith, ones_step n)))

singles : (k : ℕ) (Q : ℕ → Type 0) → Q 0 → ((i : ℕ) → i < k → Q (2 ^ i)) → (n : ℕ) → n < 2 ^ k → ones n ≤ 1 → Q n
singles zero Q z s n h l = subst Q (sym (lt-one h)) z
singles (suc k) Q z s n h l =
    split Q n
    (λ e.
    singles k (λ (x : ℕ). Q (x * 2)) z (λ i hi. subst Q (pow-suc 2 i) (s (suc i) (omega arith))) (n / 2) (omega arith) (omega (arith, ones_step n)))
    (λ e. zeros k (λ (x : ℕ). Q (x * 2 + 1)) (s 0 (omega arith)) (n / 2) (omega arith) (omega (arith, ones_step n)))

pub pairs : (k : ℕ) (Q : ℕ → Type 0) → Q 0 → ((i : ℕ) → i < k → Q (2 ^ i)) → ((i j : ℕ) → i < j → j < k → Q (bit_xor (2 ^ i) (2 ^ j)))
    → (n : ℕ) → n < 2 ^ k → ones n ≤ 2 → Q n
pairs zero Q z s d n h l = subst Q (sym (lt-one h)) z
pairs (suc k) Q z s d n h l =
    split Q n
    (λ e.
    pairs k (λ (x : ℕ). Q (x * 2)) z (λ i hi. subst Q (pow-suc 2 i) (s (suc i) (omega arith)))
    (λ i j hi hj. subst Q (ap₂ bit_xor (pow-suc 2 i) (pow-suc 2 j) ∙ sym (xor_shl 1 (2 ^ i) (2 ^ j))) (d (suc i) (suc j) (omega arith) (omega arith)))
    (n / 2) (omega arith) (omega (arith, ones_step n)))
    (λ e.
    singles k (λ (x : ℕ). Q (x * 2 + 1)) (s 0 (omega arith))
    (λ i hi.
    subst Q (xor_comm 1 (2 ^ suc i) ∙ ap (λ (x : ℕ). bit_xor x 1) (pow-suc 2 i) ∙ xor_shifted (2 ^ i) 1 1 (lit< tt)) (d 0 (suc i) (omega arith) (omega arith)))
    (n / 2) (omega arith) (omega (arith, ones_step n)))

pub miss_none : (w s : ℕ) → s ≡ syndrome w → (s ≡ 0 → ⊥) → Misses w 0
miss_none w s es h p = h (es ∙ sym p ∙ syndrome_zero)

pub miss_one : (w s i c : ℕ) → s ≡ syndrome w → c ≡ syndrome (2 ^ i) → (c ≡ s → ⊥) → Misses w (2 ^ i)
miss_one w s i c es ec h p = h (ec ∙ p ∙ sym es)

-- the sum of two columns is the word's syndrome exactly if the one is the sum of the other and it
pub miss_two : (w s i j a b : ℕ) → s ≡ syndrome w → a ≡ syndrome (2 ^ i) → b ≡ syndrome (2 ^ j) → (b ≡ bit_xor s a → ⊥) → Misses w (bit_xor (2 ^ i) (2 ^ j))
miss_two w s i j a b es ea eb h p =
    let e : bit_xor b a ≡ s = xor_comm b a ∙ ap₂ bit_xor ea eb ∙ sym (syndrome_xor (2 ^ i) (2 ^ j)) ∙ p ∙ sym es in
    h (sym (xor_twice b a) ∙ ap (λ (x : ℕ). bit_xor x a) e)

back : (w c : ℕ) → bit_xor w (bit_xor w c) ≡ c
back w c = sym (xor_assoc w w c) ∙ ap (λ (x : ℕ). bit_xor x c) (xor_self w)

-- the pattern between a word and a codeword has the word's syndrome
between_syndrome : (w m : ℕ) → m < 2 ^ 16 → syndrome (bit_xor w (codeword m)) ≡ syndrome w
between_syndrome w m h =
    syndrome_xor w (codeword m) ∙ ap (bit_xor (syndrome w)) (syndrome_codeword m h) ∙ xor_zero_r (syndrome w)

pub lost : (w : ℕ) → w < 2 ^ 32 → Misses w 0 → ((i : ℕ) → i < 32 → Misses w (2 ^ i))
    → ((i j : ℕ) → i < j → j < 32 → Misses w (bit_xor (2 ^ i) (2 ^ j))) → None ≡ reading w
unfolding flips_to
lost w h z s d = reading_only w None far
  where
    far : (m : ℕ) → m < 2 ^ 16 → 2 < flips_to w m
    far m hm =
        elim (dec_le 3 (flips_to w m)) [
          | yes l ↦ l
          | no l ↦
              absurd
              (pairs 32 (Misses w) z s d (bit_xor w (codeword m)) (xor_lt 32 w (codeword m) h (codeword_lt m hm)) (omega arith) (between_syndrome w m hm))
        ]

-- what the code puts together from the word and the pattern
pub found : (w e : ℕ) (d : Decoded) → w < 2 ^ 32 → Fit w e → d.message ≡ bit_xor w e % 2 ^ 16 → d.flips ≡ ones (bit_xor w (bit_xor w e)) → Some d ≡ reading w
unfolding flips_to
found w e d h f em ef = reading_only w (Some d) (omega arith, taken, omega (arith, ef, ap ones (back w e), f.few))
  where
    none : syndrome (bit_xor w e) ≡ 0
    none = syndrome_xor w e ∙ ap (bit_xor (syndrome w)) f.fits ∙ xor_self (syndrome w)

    counted : d.flips ≡ flips_to w d.message
    counted = ef ∙ ap (λ (c : ℕ). ones (bit_xor w c)) (sym (ap codeword em ∙ codeword_of (bit_xor w e) (xor_lt 32 w e h f.bits) none))

    taken : d ≡ decoded_as w d.message
    taken = let with : ℕ → Decoded = λ n. record { message = d.message; flips = n } in ap with counted

ones_pow : (i : ℕ) → ones (2 ^ i) ≡ 1
unfolding ones ones_in
ones_pow i = ap ones (sym (add-zero (1 * 2 ^ i) ∙ one-mul (2 ^ i))) ∙ ones_cat i 1 0 (pow_pos i)

pub fit_none : (w e s : ℕ) → e ≡ 0 → s ≡ syndrome w → s ≡ 0 → Fit w e
fit_none w e s p es h =
    record { fits = ap syndrome p ∙ syndrome_zero ∙ sym h ∙ es; few = omega (arith, ap ones p, ones-le 0 0 (lit< tt)); bits = omega (arith, p) }

pub fit_one : (w e x i c s : ℕ) → i < 32 → e ≡ x → x ≡ 2 ^ i → s ≡ syndrome w → c ≡ syndrome (2 ^ i) → c ≡ s → Fit w e
fit_one w e x i c s h p q es ec t =
    let l : 2 ^ i < 2 ^ 32 = pow-lt h in
    record { fits = ap syndrome (p ∙ q) ∙ sym ec ∙ t ∙ es; few = omega (arith, ap ones (p ∙ q), ones_pow i); bits = omega (arith, p, q) }

pub fit_two : (w e x y i j a b s : ℕ) → i < 32 → j < 32 → e ≡ bit_xor x y → x ≡ 2 ^ i → y ≡ 2 ^ j → s ≡ syndrome w
    → a ≡ syndrome (2 ^ i) → b ≡ syndrome (2 ^ j) → b ≡ bit_xor s a → Fit w e
fit_two w e x y i j a b s hi hj p q r es ea eb t =
    let z : e ≡ bit_xor (2 ^ i) (2 ^ j) = p ∙ ap₂ bit_xor q r in
    let l : bit_xor (2 ^ i) (2 ^ j) < 2 ^ 32 = xor_lt 32 (2 ^ i) (2 ^ j) (pow-lt hi) (pow-lt hj) in
    record {
      fits =
          ap syndrome z ∙ syndrome_xor (2 ^ i) (2 ^ j) ∙ ap₂ bit_xor (sym ea) (sym eb) ∙ xor_comm a b ∙ ap (λ (x : ℕ). bit_xor x a) t ∙ xor_twice s a ∙ es;
      few = omega (arith, ap ones z, ones_xor_le (2 ^ i) (2 ^ j), ones_pow i, ones_pow j);
      bits = omega (arith, z);
    }

-- no flip at all: a codeword is read as it stands
pub clean : (w s : ℕ) (d : Decoded) → w < 2 ^ 32 → s ≡ syndrome w → s ≡ 0 → d.message ≡ w % 2 ^ 16 → d.flips ≡ 0 → Some d ≡ reading w
clean w s d h es z em ef =
    let none : ones (bit_xor w (bit_xor w 0)) ≡ 0 = ap ones (back w 0) ∙ omega (arith, ones-le 0 0 (lit< tt)) in
    found w 0 d h (fit_none w 0 s refl es z) (em ∙ ap (λ (x : ℕ). x % 2 ^ 16) (sym (xor_zero_r w))) (ef ∙ sym none)
