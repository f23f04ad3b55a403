-- A test that antt computes at every number of k digits of which at most b are set.
-- Assumes nothing.
use Rattle.std.specs.Prelude.{◌≡◌, refl, Bool, ℕ, zero, suc, ◌+◌, ◌*◌, ◌/◌, ◌%◌, ◌^◌, ◌≤◌, ◌<◌, T}
use Rattle.std.proofs.Common.{sym, ap, ◌∙◌, subst, arith, lit<}
use Rattle.std.proofs.Math.Arith.{lt-one}
use Rattle.std.specs.Int.Count.{ones, ones_in, ones_step}
use Rattle.std.proofs.lemmas.Nat.{ones-le}
use Rattle.lists.specs.Tests.{both, both_left, both_right}
use Rattle.polynomials.specs.Xor.{digit, low}

unfoldable pub light : ℕ → ℕ → (ℕ → Bool) → Bool
light zero b f = f zero
light (suc k) zero f = light k zero (λ n. f (n * 2))
light (suc k) (suc b) f = both (light k (suc b) (λ n. f (n * 2))) (light k b (λ n. f (n * 2 + 1)))

-- the two halves of a step
even_half : (k b : ℕ) (f : ℕ → Bool) → T (light (suc k) b f) → T (light k b (λ n. f (n * 2)))
unfolding light
even_half k zero f t = t
even_half k (suc b) f t = both_left (light k (suc b) (λ n. f (n * 2))) (light k b (λ n. f (n * 2 + 1))) t

pub light_holds : (k b : ℕ) (f : ℕ → Bool) → T (light k b f) → (n : ℕ) → n < 2 ^ k → ones n ≤ b → T (f n)
unfolding light
light_holds zero b f t n h l = subst (λ (x : ℕ). T (f x)) (sym (lt-one h)) t
light_holds (suc k) zero f t n h l =
    let e : n / 2 * 2 ≡ n = omega (arith, ones_step n) in
    subst (λ (x : ℕ). T (f x)) e (light_holds k zero (λ n. f (n * 2)) t (n / 2) (omega arith) (omega (arith, ones_step n)))
light_holds (suc k) (suc b) f t n h l =
    digit (λ (r : ℕ). n % 2 ≡ r → T (f n))
    (λ z.
    subst (λ (x : ℕ). T (f x)) (omega arith)
    (light_holds k (suc b) (λ n. f (n * 2))
    (both_left (light k (suc b) (λ n. f (n * 2))) (light k b (λ n. f (n * 2 + 1))) t) (n / 2) (omega arith) (omega (arith, ones_step n))))
    (λ z.
    subst (λ (x : ℕ). T (f x)) (omega arith)
    (light_holds k b (λ n. f (n * 2 + 1))
    (both_right (light k (suc b) (λ n. f (n * 2))) (light k b (λ n. f (n * 2 + 1))) t) (n / 2) (omega arith) (omega (arith, ones_step n))))
    (n % 2) (low n) refl

-- the count that antt can compute: k digits are enough for a number below 2 ^ k
pub ones_in_lem : (k n : ℕ) → n < 2 ^ k → ones_in k n ≡ ones n
unfolding ones_in
ones_in_lem zero n h = sym (ap ones (lt-one h) ∙ omega (arith, ones-le 0 0 (lit< tt)))
ones_in_lem (suc k) n h = ap (λ (x : ℕ). n % 2 + x) (ones_in_lem k (n / 2) (omega arith)) ∙ sym (ones_step n)
