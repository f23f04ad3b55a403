-- The library's numbers from and to octets, in bits: the word of eight octets, and the low octets of a word.
-- Assumes nothing.
use Rattle.std.specs.Prelude.{◌≡◌, refl, Bool, List, ◌∷◌, ◌++◌, ℕ, zero, suc, ◌+◌, ◌-◌, ◌*◌, ◌/◌, ◌%◌, ◌^◌, ◌≤◌, ◌<◌, length, take, drop, get_or, slice_index}
use Rattle.std.specs.Int.{w64, sum_through, byte_worth, byte_at, bytes_low_first, from_le_bytes, to_le_bytes}
use Rattle.std.proofs.Common.{sym, ap, ap₂, ◌∙◌, arith, lit<, lit≤, pow-suc, pow-add, add_comm, mod-eq_of_lt, take_at, take-add, drop-drop, div-one, get_or-take, get_or-drop}
use Rattle.std.proofs.Math.Nat.{div-div-eq-div-mul}
use Rattle.lists.specs.Parts.{part, length_part}
use Rattle.bits.specs.Bits.{field, value, bits, octets, numbers}
use Rattle.bits.proofs.Laws.{length_field, length_bits, field_add, take_field, drop_field, value_field, value_append, length_octets, octets_append}
use Rattle.bits.proofs.Inside.{in_octet}

-- ---- the word of octets
-- octet i stands in the bits from bit 8 i on
octet_value : (s : List ℕ) (i : ℕ) → i < length s → get_or s i 0 < 256 → value (part (8 * i) 8 (bits s)) ≡ get_or s i 0
octet_value s i h small =
    let x = get_or s i 0 in
    let at : 8 * i ≡ i * 8 + 0 = omega arith in
    ap (λ (n : ℕ). value (part n 8 (bits s))) at ∙ ap value (in_octet s i 0 8 h (lit≤ tt)) ∙ value_field 8 (x / 2 ^ 0)
    ∙ ap (λ (n : ℕ). n % 256) (div-one x) ∙ mod-eq_of_lt small

-- one octet more of a part
value_more : (l : List Bool) (at j : ℕ) → at + j ≤ length l → value (part at (j + 8) l) ≡ value (part (at + j) 8 l) * 2 ^ j + value (part at j l)
value_more l at j h =
    ap value (take-add j 8 (drop at l) ∙ ap (λ (m : List Bool). part at j l ++ take 8 m) (drop-drop j at l))
    ∙ value_append (part at j l) (part (at + j) 8 l) j (length_part l at j h)

pow_octets : (k : ℕ) → 2 ^ (8 * k) ≡ 256 ^ k
pow_octets zero = refl
pow_octets (suc k) =
    let e : 8 * suc k ≡ 8 * k + 8 = omega arith in
    ap (λ (n : ℕ). 2 ^ n) e ∙ pow-add 2 (8 * k) 8 ∙ ap (λ (n : ℕ). n * 256) (pow_octets k) ∙ sym (pow-suc 256 k)

module _ (s : List ℕ) (i : ℕ) (room : i + 8 ≤ length s) (small : (k : ℕ) → get_or s k 0 < 256) where
  -- octet k of the eight
  octet_at : (k : ℕ) → k < 8 → get_or (part i 8 s) k 0 ≡ value (part (8 * i + 8 * k) 8 (bits s))
  octet_at k h =
      let at : 8 * (i + k) ≡ 8 * i + 8 * k = omega arith in
      get_or-take 8 (drop i s) k 0 h ∙ get_or-drop i s k 0 ∙ sym (octet_value s (i + k) (omega arith) (small (i + k)))
      ∙ ap (λ (n : ℕ). value (part n 8 (bits s))) at

  -- the sum by which the library says what octets are worth, up to octet k
  worth_value : (k : ℕ) → k < 8 → sum_through (λ j. byte_worth j (slice_index (part i 8 s) j)) k ≡ value (part (8 * i) (8 * suc k) (bits s))
  worth_value zero h = let at : 8 * i + 8 * 0 ≡ 8 * i = omega arith in octet_at 0 h ∙ ap (λ (n : ℕ). value (part n 8 (bits s))) at
  worth_value (suc k) h =
      let l = bits s in
      let w = 8 * suc k in
      let on : w + 8 ≡ 8 * suc (suc k) = omega arith in
      let more = value_more l (8 * i) w (omega (arith, length_bits s)) in
      ap₂ (λ (a b : ℕ). a + b * 256 ^ suc k) (worth_value k (omega arith)) (octet_at (suc k) h)
      ∙ ap (λ (n : ℕ). value (part (8 * i) w l) + value (part (8 * i + w) 8 l) * n) (sym (pow_octets (suc k)))
      ∙ add_comm (value (part (8 * i) w l)) (value (part (8 * i + w) 8 l) * 2 ^ w)
      ∙ sym more ∙ ap (λ (n : ℕ). value (part (8 * i) n l)) on

-- eight octets as a number
pub word_value : (s : List ℕ) (i : ℕ) → i + 8 ≤ length s → ((k : ℕ) → get_or s k 0 < 256) → from_le_bytes w64 (part i 8 s) ≡ value (part (8 * i) 64 (bits s))
word_value s i h f = worth_value s i h f 7 (lit< tt)

-- ---- the low octets of a word
low : (i k n : ℕ) → bytes_low_first i k n ≡ octets k (field (8 * k) (n / 256 ^ i))
unfolding numbers
low i zero n = refl
low i (suc k) n =
    let m = n / 256 ^ i in
    let e : 8 * suc k ≡ 8 + 8 * k = omega arith in
    let b : value (take 8 (field (8 + 8 * k) m)) ≡ byte_at i n = rw (take_field, value_field) (byte i n) in
    let d : n / 256 ^ suc i ≡ m / 2 ^ 8 = rw (pow-suc 256 i, div-div-eq-div-mul) refl in
    rw (e, b, drop_field, ← d) (ap (λ (l : List ℕ). byte_at i n ∷ l) (low (suc i) k n))
  where
    byte : (i n : ℕ) → n / 256 ^ i % 256 ≡ byte_at i n
    byte zero n = rw div-one refl
    byte (suc i) n = refl

pub word_octets : (n w : ℕ) → n ≤ 8 → take n (to_le_bytes w64 w) ≡ octets n (field (8 * n) w)
word_octets n w h =
    let e : n + (8 - n) ≡ 8 = omega arith in
    let f : 8 * n + 8 * (8 - n) ≡ 64 = omega arith in
    let l : to_le_bytes w64 w ≡ octets 8 (field 64 w) = low 0 8 w ∙ ap (λ (m : ℕ). octets 8 (field 64 m)) (div-one w) in
    ap (take n) (l ∙ ap₂ (λ (a b : ℕ). octets a (field b w)) (sym e) (sym f) ∙ ap (octets (n + (8 - n))) (field_add (8 * n) (8 * (8 - n)) w)
    ∙ octets_append n (8 - n) (field (8 * n) w) (field (8 * (8 - n)) (w / 2 ^ (8 * n))) (length_field (8 * n) w))
    ∙ take_at (octets n (field (8 * n) w)) (octets (8 - n) (field (8 * (8 - n)) (w / 2 ^ (8 * n)))) n (length_octets n (field (8 * n) w))
