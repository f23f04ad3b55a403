-- The settings of an utterance, one record (01, "Header" and "Writing"): the sample rate code and the front-end type.
-- Assumes nothing.
use Rattle.std.specs.Prelude.{ℕ, ◌<◌, ◌≡◌, refl, Bool, true, false, eqb, ltb}
use Rattle.std.proofs.Common.{sym, ap₂, arith, ltb-false}
use Rattle.std.proofs.lemmas.Bool.{eqb-false}
use Rattle.lists.specs.Tests.{when, true_false}
use Rattle.settings.specs.declared.Settings.{Settings}

-- the settings of this rate and this type
abbrev pub settings : ℕ → ℕ → Settings
settings rate kind = record { rate = rate; kind = kind }

-- settings that may be written (refusal 1): rate 0, 1 or 3, type 0 or 1
abbrev pub settings_right : Settings → Bool
settings_right s = when (ltb 3 s.rate) false (when (eqb s.rate 2) false (when (ltb 1 s.kind) false true))

-- ---- rate and type are all there is to settings
pub settings_same : (s t : Settings) → s.rate ≡ t.rate → s.kind ≡ t.kind → s ≡ t
settings_same s t r k = ap₂ settings r k

-- ---- right settings fit their fields, two bits and one
module _ (s : Settings) (right : settings_right s ≡ true) where
  pub rate_right : s.rate < 4
  rate_right = bound (ltb 3 s.rate) refl right
    where
      bound : (t : Bool) → ltb 3 s.rate ≡ t → when t false (when (eqb s.rate 2) false (when (ltb 1 s.kind) false true)) ≡ true → s.rate < 4
      bound true e z = absurd (true_false (sym z))
      bound false e z = omega (arith, ltb-false 3 s.rate e)

  pub kind_right : s.kind < 2
  kind_right = bound (ltb 3 s.rate) (eqb s.rate 2) (ltb 1 s.kind) refl right
    where
      bound : (a r t : Bool) → ltb 1 s.kind ≡ t → when a false (when r false (when t false true)) ≡ true → s.kind < 2
      bound true r t e z = absurd (true_false (sym z))
      bound false true t e z = absurd (true_false (sym z))
      bound false false true e z = absurd (true_false (sym z))
      bound false false false e z = omega (arith, ltb-false 1 s.kind e)

  -- the rate 2 is not defined
  pub right_not_2 : s.rate ≡ 2 → ⊥
  right_not_2 = bound (ltb 3 s.rate) (eqb s.rate 2) refl right
    where
      bound : (a r : Bool) → eqb s.rate 2 ≡ r → when a false (when r false (when (ltb 1 s.kind) false true)) ≡ true → s.rate ≡ 2 → ⊥
      bound true r e z = absurd (true_false (sym z))
      bound false true e z = absurd (true_false (sym z))
      bound false false e z = eqb-false s.rate 2 e
