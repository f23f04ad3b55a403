-- Polynomials over bits multiply, and `remainder` is what it is called, for every divisor g of degree d: any polynomial is a multiple of g and its
-- remainder, and in no other way a multiple of g and something below X^d. (Taking away and adding are the same over bits.)
-- Assumes nothing.
use Rattle.std.specs.Prelude.{◌≡◌, refl}
use Rattle.std.proofs.Math.Path.{sym, ap, subst}
use Rattle.std.proofs.Common.{ap₂, ◌∙◌, zero-mul, one-mul, mul-one, mul_assoc, zero-add, add-zero, suc-add, add-suc, add_comm, pow-suc, mod-lt, div-one, div-lt_iff_lt-mul, add-one, lit<, pow_mono, shr-shr}
use Prim.Native.Nat.{ℕ, zero, suc, ◌+◌, ◌*◌, ◌/◌, ◌%◌, ◌^◌, ◌≤◌, ◌<◌}
use Rattle.std.proofs.Math.Nat.{mod-one, zero-div, div-eq_of_lt}
use native.Mathlib.Omega.{arith}
use Rattle.std.proofs.Math.Arith.{lt-one}
use Rattle.std.specs.Int.Bits.{bit_xor, xor_block, xor_lt, xor_self, xor_zero_r}
use Rattle.std.proofs.lemmas.Nat.{xor_shr, xor_mod, xor_comm}
use Rattle.std.proofs.Math.Pow.{pow_pos, field, mod-mod-pow}
use Rattle.polynomials.specs.Polynomials.{remainder}
use Rattle.polynomials.specs.Xor.{digit, low, xor_assoc, xor_swap, xor_twice, xor_shl, between}
use Rattle.polynomials.specs.Division.{times_xor, remainder_lt}
use Rattle.polynomials.specs.Quotient.{product}

-- ---- it is the product
-- g times 0
pub product_none : (g k : ℕ) → product g k 0 ≡ 0
unfolding product
product_none g zero = refl
product_none g (suc k) = ap₂ (λ (x y : ℕ). bit_xor x (y * 2)) (zero-mul g) (product_none g k)

-- g times 1
pub product_one : (g k : ℕ) → product g (suc k) 1 ≡ g
unfolding product
product_one g k = ap₂ (λ (x y : ℕ). bit_xor x (y * 2)) (one-mul g) (product_none g k) ∙ xor_zero_r g

-- g times X^j q
pub product_shift : (g j k q : ℕ) → product g (j + k) (q * 2 ^ j) ≡ product g k q * 2 ^ j
unfolding product
product_shift g zero k q = ap₂ (product g) (zero-add k) (mul-one q) ∙ sym (mul-one (product g k q))
product_shift g (suc j) k q =
    let x = q * 2 ^ j in
    let e : q * 2 ^ suc j ≡ x * 2 = ap (◌*◌ q) (pow-suc 2 j) ∙ sym (mul_assoc q (2 ^ j) 2) in
    let r : x * 2 % 2 ≡ 0 = omega arith in
    let h : x * 2 / 2 ≡ x = omega arith in
    ap₂ (product g) (suc-add j k) e
    ∙ ap₂ (λ (y z : ℕ). bit_xor (y * g) (product g (j + k) z * 2)) r h
    ∙ ap₂ (λ (y z : ℕ). bit_xor y (z * 2)) (zero-mul g) (product_shift g j k q)
    ∙ mul_assoc (product g k q) (2 ^ j) 2 ∙ ap (◌*◌ (product g k q)) (sym (pow-suc 2 j))

-- g times a sum
pub product_xor : (g k a b : ℕ) → product g k (bit_xor a b) ≡ bit_xor (product g k a) (product g k b)
unfolding product
product_xor g zero a b = refl
product_xor g (suc k) a b =
    ap₂ (λ (x y : ℕ). bit_xor (x * g) (product g k y * 2)) (xor_mod a b 1) (xor_shr a b 1)
    ∙ ap₂ (λ (x y : ℕ). bit_xor x (y * 2)) (times_xor g (a % 2) (b % 2) (low a) (low b)) (product_xor g k (a / 2) (b / 2))
    ∙ ap (bit_xor (bit_xor (a % 2 * g) (b % 2 * g))) (xor_shl 1 (product g k (a / 2)) (product g k (b / 2)))
    ∙ xor_swap (a % 2 * g) (b % 2 * g) (product g k (a / 2) * 2) (product g k (b / 2) * 2)

digit_times : (g h x : ℕ) → x < 2 → x * bit_xor g h ≡ bit_xor (x * g) (x * h)
digit_times g h =
    digit (λ (x : ℕ). x * bit_xor g h ≡ bit_xor (x * g) (x * h)) (zero-mul (bit_xor g h) ∙ sym (ap₂ bit_xor (zero-mul g) (zero-mul h)))
    (one-mul (bit_xor g h) ∙ sym (ap₂ bit_xor (one-mul g) (one-mul h)))

-- a sum times q
pub product_xor_left : (g h k q : ℕ) → product (bit_xor g h) k q ≡ bit_xor (product g k q) (product h k q)
unfolding product
product_xor_left g h zero q = refl
product_xor_left g h (suc k) q =
    ap₂ (λ (x y : ℕ). bit_xor x (y * 2)) (digit_times g h (q % 2) (low q)) (product_xor_left g h k (q / 2))
    ∙ ap (bit_xor (bit_xor (q % 2 * g) (q % 2 * h))) (xor_shl 1 (product g k (q / 2)) (product h k (q / 2)))
    ∙ xor_swap (q % 2 * g) (q % 2 * h) (product g k (q / 2) * 2) (product h k (q / 2) * 2)

-- one term more at the top
pub product_top : (g k q : ℕ) → product g (suc k) q ≡ bit_xor (product g k q) (q / 2 ^ k % 2 * g * 2 ^ k)
unfolding product
product_top g zero q = xor_zero_r (q % 2 * g) ∙ ap (λ (x : ℕ). x % 2 * g) (sym (div-one q)) ∙ sym (mul-one (q / 1 % 2 * g))
product_top g (suc k) q =
    let t = q / 2 / 2 ^ k % 2 * g in
    let e : t * 2 ^ k * 2 ≡ q / 2 ^ suc k % 2 * g * 2 ^ suc k =
    mul_assoc t (2 ^ k) 2 ∙ ap₂ (λ (x y : ℕ). x % 2 * g * y) (shr-shr q 1 k ∙ ap (λ (x : ℕ). q / 2 ^ x) (add_comm 1 k ∙ add-one k)) (sym (pow-suc 2 k)) in
    ap (λ (x : ℕ). bit_xor (q % 2 * g) (x * 2)) (product_top g k (q / 2))
    ∙ ap (bit_xor (q % 2 * g)) (xor_shl 1 (product g k (q / 2)) (t * 2 ^ k))
    ∙ sym (xor_assoc (q % 2 * g) (product g k (q / 2) * 2) (t * 2 ^ k * 2)) ∙ ap (bit_xor (product g (suc k) q)) e

-- zeros at the top add nothing
pub product_more : (g j k q : ℕ) → product g (j + k) (q % 2 ^ j) ≡ product g j q
unfolding product
product_more g zero k q = ap₂ (product g) (zero-add k) (mod-one q) ∙ product_none g k
product_more g (suc j) k q =
    let e : q % 2 ^ suc j ≡ q % 2 ^ (j + 1) = ap (λ (x : ℕ). q % 2 ^ x) (sym (add-one j)) in
    ap₂ (product g) (suc-add j k) e
    ∙ ap₂ (λ (x y : ℕ). bit_xor (x * g) (product g (j + k) y * 2)) (mod-mod-pow q j 1) (field q j 1)
    ∙ ap (λ (x : ℕ). bit_xor (q % 2 * g) (x * 2)) (product_more g j k (q / 2))

-- what adds to nothing is equal
xor_none : (a b : ℕ) → bit_xor a b ≡ 0 → a ≡ b
xor_none a b e = sym (xor_twice a b) ∙ ap (λ (x : ℕ). bit_xor x b) e

module _ (d g : ℕ) (top : g / 2 ^ d ≡ 1) where
  g_lt : g < 2 ^ suc d
  g_lt = let h : g < 2 * 2 ^ d = (div-lt_iff_lt-mul (pow_pos d)).0 (omega arith) in omega (arith, pow-suc 2 d)

  -- a digit times g, at X^d
  at_top : (x : ℕ) → x < 2 → x * g / 2 ^ d ≡ x
  at_top = digit (λ (x : ℕ). x * g / 2 ^ d ≡ x) (ap (λ (x : ℕ). x / 2 ^ d) (zero-mul g) ∙ zero-div (2 ^ d)) (ap (λ (x : ℕ). x / 2 ^ d) (one-mul g) ∙ top)

  digit_lt : (x : ℕ) → x < 2 → x * g < 2 ^ suc d
  digit_lt = digit (λ (x : ℕ). x * g < 2 ^ suc d) (omega (arith, zero-mul g, pow_pos (suc d))) (omega (arith, one-mul g, g_lt))

  wide : (k x : ℕ) → x < 2 → x * g < 2 ^ (d + suc k)
  wide k x h = let m : 2 ^ suc d ≤ 2 ^ (d + suc k) = pow_mono (omega arith) in omega (arith, digit_lt x h)

  base : 2 ^ (d + 0) ≡ 2 ^ d
  base = ap (◌^◌ 2) (add-zero d)

  step : (k : ℕ) → 2 ^ (d + suc k) ≡ 2 ^ (d + k) * 2
  step k = ap (◌^◌ 2) (add-suc d k) ∙ pow-suc 2 (d + k)

  -- ---- the degree of the product is the sum of the degrees
  -- at most so: with q of k digits it has d + k
  pub product_lt : (k q : ℕ) → product g k q < 2 ^ (d + k)
  unfolding product
  product_lt zero q = pow_pos (d + zero)
  product_lt (suc k) q = xor_lt (d + suc k) (q % 2 * g) (product g k (q / 2) * 2) (wide k (q % 2) (low q)) (omega (arith, product_lt k (q / 2), step k))

  -- and at least: if it has d + e, then q has e
  pub product_degree : (k e q : ℕ) → q < 2 ^ k → product g k q < 2 ^ (d + e) → q < 2 ^ e
  unfolding product
  product_degree zero e q h l = omega (arith, pow_pos e)
  product_degree (suc k) zero q h l =
      let y = q % 2 * g in
      let p = product g k (q / 2) in
      let small : bit_xor y (p * 2) < 2 ^ d = subst (λ (n : ℕ). bit_xor y (p * 2) < n) base l in
      let z : bit_xor (q % 2) (p * 2 / 2 ^ d) ≡ 0 =
      ap (λ (x : ℕ). bit_xor x (p * 2 / 2 ^ d)) (sym (at_top (q % 2) (low q))) ∙ sym (xor_shr y (p * 2) d) ∙ div-eq_of_lt small in
      let e : q % 2 ≡ p * 2 / 2 ^ d = xor_none (q % 2) (p * 2 / 2 ^ d) z in
      let b : p * 2 < 2 * 2 ^ d = (div-lt_iff_lt-mul (pow_pos d)).0 (omega (arith, low q)) in
      let i : q / 2 < 1 = product_degree k zero (q / 2) (omega arith) (omega (arith, base)) in
      let n : p ≡ 0 = ap (product g k) (lt-one i) ∙ product_none g k in
      let r : q % 2 ≡ 0 = e ∙ ap (λ (x : ℕ). x * 2 / 2 ^ d) n ∙ zero-div (2 ^ d) in
      omega arith
  product_degree (suc k) (suc e) q h l =
      let y = q % 2 * g in
      let p = product g k (q / 2) in
      let f : bit_xor (bit_xor y (p * 2)) y ≡ p * 2 = ap (λ (x : ℕ). bit_xor x y) (xor_comm y (p * 2)) ∙ xor_twice (p * 2) y in
      let b : bit_xor (bit_xor y (p * 2)) y < 2 ^ (d + suc e) = xor_lt (d + suc e) (bit_xor y (p * 2)) y l (wide e (q % 2) (low q)) in
      let i : q / 2 < 2 ^ e = product_degree k e (q / 2) (omega arith) (omega (arith, step e)) in
      omega arith

  -- THERE IS ONE: p is a multiple of g and its remainder
  pub quotient_remainder : (k p : ℕ) → p < 2 ^ k → (q : ℕ) × ((q < 2 ^ k) × (p ≡ bit_xor (product g k q) (remainder d g k p)))
  unfolding product remainder
  quotient_remainder zero p h = (0, (lit< tt, lt-one h))
  quotient_remainder (suc k) p h =
      let i = quotient_remainder k (p / 2) (omega arith) in
      let r = remainder d g k (p / 2) in
      let s = r * 2 + p % 2 in
      let t = s / 2 ^ d in
      let m = product g k i.0 in
      let hs : s < 2 * 2 ^ d = omega (arith, remainder_lt d g top k (p / 2), low p) in
      let ht : t < 2 = (div-lt_iff_lt-mul (pow_pos d)).1 hs in
      let a : (i.0 * 2 + t) % 2 ≡ t = omega arith in
      let b : (i.0 * 2 + t) / 2 ≡ i.0 = omega arith in
      let x : bit_xor (m * 2) s ≡ p / 2 * 2 + p % 2 =
      ap (λ (y : ℕ). bit_xor y s) (sym (add-zero (m * 2))) ∙ xor_block 1 m r 0 (p % 2) (lit< tt) (low p) ∙ ap (λ (y : ℕ). y * 2 + p % 2) (sym i.1.1) in
      let y : p / 2 * 2 + p % 2 ≡ p = omega arith in (
        i.0 * 2 + t,
        (
          omega (arith, i.1.0),
          sym (ap₂ (λ (u v : ℕ). bit_xor (bit_xor (u * g) (product g k v * 2)) (bit_xor (t * g) s)) a b ∙ sym (between (t * g) (m * 2) s) ∙ x ∙ y),
        ),
      )

  -- the quotient has as many digits as p has from X^d upwards
  pub quotient_lt : (k e p q r : ℕ) → q < 2 ^ k → p < 2 ^ (d + e) → r < 2 ^ d → p ≡ bit_xor (product g k q) r → q < 2 ^ e
  quotient_lt k e p q r hq hp hr f =
      let w : 2 ^ d ≤ 2 ^ (d + e) = pow_mono (omega arith) in
      let m : product g k q ≡ bit_xor p r = sym (ap (λ (x : ℕ). bit_xor x r) f ∙ xor_twice (product g k q) r) in
      product_degree k e q hq (omega (arith, m, xor_lt (d + e) p r hp (omega arith)))

  -- ONLY ONE: a multiple of g and something below X^d are one of each
  pub only_one_lem : (k q r s t : ℕ) → q < 2 ^ k → s < 2 ^ k → r < 2 ^ d → t < 2 ^ d → bit_xor (product g k q) r ≡ bit_xor (product g k s) t
      → (q ≡ s) × (r ≡ t)
  only_one_lem k q r s t hq hs hr ht e =
      let a = product g k q in
      let b = product g k s in
      let z : bit_xor a b ≡ bit_xor r t =
      xor_none (bit_xor a b) (bit_xor r t) (xor_swap a b r t ∙ ap (λ (x : ℕ). bit_xor x (bit_xor b t)) e ∙ xor_self (bit_xor b t)) in
      let l : product g k (bit_xor q s) < 2 ^ (d + 0) = omega (arith, product_xor g k q s, z, xor_lt d r t hr ht, base) in
      let n : q ≡ s = xor_none q s (lt-one (product_degree k 0 (bit_xor q s) (xor_lt k q s hq hs) l)) in
      (n, xor_none r t (sym z ∙ ap (λ (x : ℕ). bit_xor (product g k x) b) n ∙ xor_self b))

  -- so whatever below X^d is left of p beside a multiple of g is the remainder
  pub remainder_unique : (k j p q r : ℕ) → p < 2 ^ k → r < 2 ^ d → p ≡ bit_xor (product g j q) r → remainder d g k p ≡ r
  remainder_unique k j p q r h hr e =
      let i = quotient_remainder k p h in
      let w = remainder d g k p in
      let x = i.0 % 2 ^ k in
      let y = q % 2 ^ j in
      let wk : 2 ^ k ≤ 2 ^ (k + j) = pow_mono (omega arith) in
      let wj : 2 ^ j ≤ 2 ^ (k + j) = pow_mono (omega arith) in
      let hx : x < 2 ^ (k + j) = omega (arith, mod-lt i.0 (pow_pos k)) in
      let hy : y < 2 ^ (k + j) = omega (arith, mod-lt q (pow_pos j)) in
      let ex : product g (k + j) x ≡ product g k i.0 = product_more g k j i.0 in
      let ey : product g (k + j) y ≡ product g j q = ap (λ (n : ℕ). product g n y) (add_comm k j) ∙ product_more g j k q in
      (only_one_lem (k + j) x w y r hx hy (remainder_lt d g top k p) hr (ap (λ (m : ℕ). bit_xor m w) ex ∙ sym i.1.1 ∙ e ∙ ap (λ (m : ℕ). bit_xor m r) (sym ey))).1
