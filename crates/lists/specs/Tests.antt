-- Trees of tests, and tests that are computed at every number below a bound.
-- Assumes nothing.
use Rattle.std.specs.Prelude.{◌≡◌, refl, Bool, true, false, not, ℕ, zero, suc, ◌<◌, T, eqb}
use Rattle.std.proofs.Common.{sym, subst, arith, eqb-true}
use Rattle.std.proofs.Math.Decide.{ℕ_discrete}

-- the first answer where the test holds, the second where it does not
abbrev pub when : {A : Type 0} → Bool → A → A → A
when true a b = a
when false a b = b

-- what holds of both answers, each under its test, holds of the choice
pub by_test : {A : Type 0} (P : A → Type 0) (b : Bool) {x y : A} → (b ≡ true → P x) → (b ≡ false → P y) → P (when b x y)
by_test P true f g = f refl
by_test P false f g = g refl

-- true is not false
pub true_false : true ≡ false → ⊥
true_false e = let z : ◌≡◌ {A = ℕ} 0 1 = cc in omega arith

-- a test whose negation fails holds
pub not_false : (b : Bool) → not b ≡ false → b ≡ true
not_false true e = refl
not_false false e = absurd (true_false e)

-- and one whose negation holds fails
pub not_true : (b : Bool) → not b ≡ true → b ≡ false
not_true true e = absurd (true_false (sym e))
not_true false e = refl

-- two numbers that differ fail the test
pub not_same : (a b : ℕ) → (a ≡ b → ⊥) → eqb a b ≡ false
not_same a b n = go (eqb a b) refl
  where
    go : (t : Bool) → eqb a b ≡ t → eqb a b ≡ false
    go true e = absurd (n (eqb-true a b e))
    go false e = e

-- both tests hold
abbrev pub both : Bool → Bool → Bool
both true b = b
both false b = false

pub both_left : (a b : Bool) → T (both a b) → T a
both_left true b t = tt
both_left false b t = t

pub both_right : (a b : Bool) → T (both a b) → T b
both_right true b t = t
both_right false b t = absurd t

-- a test at every number below n
abbrev pub all : (ℕ → Bool) → ℕ → Bool
all f zero = true
all f (suc n) = both (f n) (all f n)

-- what the test says of each
pub all_holds : (f : ℕ → Bool) (n : ℕ) → T (all f n) → (k : ℕ) → k < n → T (f k)
all_holds f zero t k h = absurd (omega arith)
all_holds f (suc n) t k h =
    elim (ℕ_discrete k n) [
      | yes e ↦ subst (λ (x : ℕ). T (f x)) (sym e) (both_left (f n) (all f n) t)
      | no d ↦ all_holds f n (both_right (f n) (all f n) t) k (omega arith)
    ]
