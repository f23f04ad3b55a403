-- What a reader of 01 would ask of 17.
-- Assumes nothing.
use Rattle.std.specs.Prelude.{ℕ, ◌≡◌, ◌⊎◌, Bool, eqb}
use Rattle.std.proofs.Math.Path.{refl}
use Rattle.std.proofs.Common.{subst}
use Rattle.std.proofs.Math.Logic.{inl, inr}
use Rattle.std.proofs.Math.Bool.{true, false}
use borrow.Author.Tests.{eq-eqb, ne_eqb, eqb-true, eqb-false}
use Rattle.lists.specs.Tests.{when, by_test}
use Rattle.message.specs.Message.{rate_of, exp_of}
use Rattle.unfit.specs.Unfit.{unfit}

-- ---- settled bits that can be used, and 17 of all others
pub record Usable (c : ℕ) : Type 0 where
  pub rate : rate_of c ≡ 2 → ⊥
  pub exp : exp_of c ≡ 0

abbrev pub Unusable : ℕ → Type 0
Unusable c = (rate_of c ≡ 2) ⊎ (exp_of c ≡ 0 → ⊥)

module _ (c : ℕ) where
  pub fit_is : Usable c → unfit c ≡ false
  unfolding unfit
  fit_is u = rw (ne_eqb (rate_of c) 2 u.rate, eq-eqb (exp_of c) 0 u.exp)

  pub unfit_is : Unusable c → unfit c ≡ true
  unfolding unfit
  unfit_is (inl h) = rw (eq-eqb (rate_of c) 2 h)
  unfit_is (inr h) = rw (ne_eqb (exp_of c) 0 h) (by (eqb (rate_of c) 2))
    where
      by : (t : Bool) → when t true true ≡ true
      by true = refl
      by false = refl

  -- one of both, and nothing else
  abbrev FitSays : Bool → Type 0
  FitSays true = Unusable c
  FitSays false = Usable c

  fit_by : FitSays (unfit c)
  unfolding unfit
  fit_by =
      by_test FitSays (eqb (rate_of c) 2) (λ h. inl (eqb-true (rate_of c) 2 h)) (λ h.
      by_test FitSays (eqb (exp_of c) 0) (λ k. record { rate = eqb-false (rate_of c) 2 h; exp = eqb-true (exp_of c) 0 k }) (λ k. inr (eqb-false (exp_of c) 0 k)))

  pub fit_says : unfit c ≡ false → Usable c
  fit_says e = subst FitSays e fit_by

  pub unfit_says : unfit c ≡ true → Unusable c
  unfit_says e = subst FitSays e fit_by
