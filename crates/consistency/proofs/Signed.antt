-- A difference of two numbers of 32 bits fits 64, its negation too, and what a call is handed is what stood there.
-- Assumes nothing.
use Prim.Native.Nat.{ℕ, zero, suc, ◌+◌, ◌-◌, ◌^◌, ◌≤◌, ◌<◌}
use mathlib.Core.Path.{◌≡◌, refl, sym, ap, ap₂, subst, ◌∙◌}
use mathlib.Core.Bool.{Bool, true, false, cond}
use native.Mathlib.Omega.{arith}
use lib.IntN.{ℤ, pos, negsuc, nat_abs, neg_ℤ, sub_ℕ, ◌+ℤ◌, ◌-ℤ◌}
use lib.Signed.{mag, lt_z}
use lib.Dec.{T, leb, ltb}
use borrow.Author.Tests.{ltb-true}
use borrow.Author.Gap.{read_sfits}
use Rattle.lists.specs.Tests.{true_false}
use mir.Syntax.{Width, w32, w64}
use mir.Val.{hbits, SFits, to_z, of_z}
use mir.Facts.{sfits_widen, to_z-of_z}
use Rattle.consistency.specs.Consistency.{distance, exceeding}

module _ {w : Width} {z : ℤ} (narrower : T (leb (hbits w) (hbits w64))) (fits : SFits w z) where
  pub widens : SFits w64 (to_z w (of_z w z))
  widens = subst (SFits w64) (sym (to_z-of_z fits)) (sfits_widen narrower fits)

  pub widened : to_z w64 (of_z w64 (to_z w (of_z w z))) ≡ z
  widened = to_z-of_z {w = w64} widens ∙ to_z-of_z fits

mag_cond : (a b : ℕ) (t : Bool) → mag (cond t (negsuc (b - suc a)) (pos (a - b))) ≤ a + b
mag_cond a b true = omega arith
mag_cond a b false = omega arith

mag_subℕ : (a b : ℕ) → mag (sub_ℕ a b) ≤ a + b
mag_subℕ a b = mag_cond a b (ltb a b)

pub mag_add : (a b : ℤ) → mag (a +ℤ b) ≤ mag a + mag b + 1
mag_add (pos a) (pos b) = omega arith
mag_add (pos a) (negsuc b) = omega (arith, mag_subℕ a (suc b))
mag_add (negsuc a) (pos b) = omega (arith, mag_subℕ b (suc a))
mag_add (negsuc a) (negsuc b) = omega arith

pub mag_neg : (a : ℤ) → mag (neg_ℤ a) ≤ mag a + 1
mag_neg (pos zero) = omega arith
mag_neg (pos (suc n)) = omega arith
mag_neg (negsuc n) = omega arith

pub differs_fits : {a b : ℤ} → SFits w32 a → SFits w32 b → SFits w64 (a -ℤ b)
differs_fits {a} {b} f g = record { sfits = omega (arith, mag_add a (neg_ℤ b), mag_neg b, f.sfits, g.sfits) }

-- what a call was handed, read back at 64 bits
pub back : {a r : ℤ} → SFits w32 a → r ≡ to_z w32 (of_z w32 a) → to_z w64 (of_z w64 r) ≡ a
back {a} {r} f e = ap (λ (y : ℤ). to_z w64 (of_z w64 y)) e ∙ widened {w = w32} {z = a} tt f

-- ---- the absolute value of a difference d
negated : (d : ℤ) → lt_z d (pos 0) ≡ true → pos 0 -ℤ d ≡ pos (nat_abs d)
negated (pos n) e = absurd (omega (arith, ltb-true n 0 e))
negated (negsuc n) e = ap pos (omega arith)

kept : (d : ℤ) → lt_z d (pos 0) ≡ false → d ≡ pos (nat_abs d)
kept (pos n) e = refl
kept (negsuc n) e = absurd (true_false e)

negation_fits : (d : ℤ) → mag d < 2 ^ 33 → SFits w64 (pos 0 -ℤ d)
negation_fits d h = record { sfits = omega (arith, h, mag_add (pos 0) (neg_ℤ d), mag_neg d) }

module _ {a b : ℤ} (fa : SFits w32 a) (fb : SFits w32 b) where
  small : mag (b -ℤ a) < 2 ^ 33
  small = omega (arith, mag_add b (neg_ℤ a), mag_neg a, fb.sfits, fa.sfits)

  -- y and z are b and a, read back at 64 bits
  module _ {y z : ℤ} (ey : y ≡ b) (ez : z ≡ a) where
    pub sub_fits : SFits w64 (y -ℤ z)
    sub_fits = rw (ey, ez) (differs_fits fb fa)

    exact : to_z w64 (of_z w64 (y -ℤ z)) ≡ b -ℤ a
    exact = to_z-of_z {w = w64} sub_fits ∙ rw (ey, ez)

    pub neg_fits : SFits w64 (pos 0 -ℤ to_z w64 (of_z w64 (y -ℤ z)))
    neg_fits = subst (λ (d : ℤ). SFits w64 (pos 0 -ℤ d)) (sym exact) (negation_fits (b -ℤ a) small)

    pub falls : lt_z (to_z w64 (of_z w64 (y -ℤ z))) (pos 0) ≡ true → to_z w64 (of_z w64 (pos 0 -ℤ to_z w64 (of_z w64 (y -ℤ z)))) ≡ distance a b
    falls e =
        to_z-of_z {w = w64} neg_fits ∙ ap (λ (d : ℤ). pos 0 -ℤ d) exact ∙ negated (b -ℤ a) (ap (λ (d : ℤ). lt_z d (pos 0)) (sym exact) ∙ e)

    pub rises : lt_z (to_z w64 (of_z w64 (y -ℤ z))) (pos 0) ≡ false → to_z w64 (of_z w64 (y -ℤ z)) ≡ distance a b
    rises e = exact ∙ kept (b -ℤ a) (ap (λ (d : ℤ). lt_z d (pos 0)) (sym exact) ∙ e)

  -- so the distance fits 64 bits, since they give it: as the difference, or as its negation
  distance_fits : SFits w64 (distance a b)
  distance_fits = by (lt_z d (pos 0)) refl
    where
      d : ℤ
      d = to_z w64 (of_z w64 (b -ℤ a))

      by : (t : Bool) → lt_z d (pos 0) ≡ t → SFits w64 (distance a b)
      by true e = subst (SFits w64) (falls refl refl e) (read_sfits w64 (of_z w64 (pos 0 -ℤ d)))
      by false e = subst (SFits w64) (rises refl refl e) (read_sfits w64 (of_z w64 (b -ℤ a)))

  -- x is the threshold t, and r what the call for the distance answered
  pub compared : {t x r : ℤ} → x ≡ t → r ≡ distance (to_z w32 (of_z w32 a)) (to_z w32 (of_z w32 b)) → lt_z x (to_z w64 (of_z w64 r)) ≡ exceeding t a b
  compared {t} {x} {r} ex er =
      ap (λ (v : ℤ). lt_z v (to_z w64 (of_z w64 r))) ex
      ∙ ap (λ (v : ℤ). lt_z t (to_z w64 (of_z w64 v))) (er ∙ ap₂ distance (to_z-of_z fa) (to_z-of_z fb))
      ∙ ap (lt_z t) (to_z-of_z {w = w64} distance_fits)

-- x is the threshold as the call that widens it gave it, n the absolute value of the difference as its call did, and r the same at 64 bits
pub compared_wide : {t a b x r : ℤ} {n : ℕ} → SFits w32 t → SFits w32 a → SFits w32 b → x ≡ to_z w32 (of_z w32 t)
    → n ≡ nat_abs (to_z w32 (of_z w32 b) -ℤ to_z w32 (of_z w32 a)) → r ≡ pos n → lt_z (to_z w64 (of_z w64 x)) (to_z w64 (of_z w64 r)) ≡ exceeding t a b
compared_wide ft fa fb ex en er = compared fa fb (back ft ex) (er ∙ ap pos en)

-- a call on signed elements of slices is handed their bits, read again
pub handed : {t a b : ℤ} {r : Bool} (f : ℤ → ℤ → ℤ → Bool) → SFits w32 t → SFits w32 a → SFits w32 b
    → r ≡ f (to_z w32 (of_z w32 t)) (to_z w32 (of_z w32 a)) (to_z w32 (of_z w32 b)) → r ≡ f t a b
handed {t} {a} {b} f ft fa fb e =
    e ∙ ap (λ (x : ℤ). f x (to_z w32 (of_z w32 a)) (to_z w32 (of_z w32 b))) (to_z-of_z ft)
    ∙ ap (λ (x : ℤ). f t x (to_z w32 (of_z w32 b))) (to_z-of_z fa) ∙ ap (λ (x : ℤ). f t a x) (to_z-of_z fb)
