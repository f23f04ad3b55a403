-- What fits octets is two octets, so a rate or a type that is none does not fit. Assumes nothing.
use Rattle.std.proofs.Common.{◌≡◌, ℕ, ◌≤◌, Bool, true, false, refl, rules}
use Rattle.entries.specs.Laws.{settings_fit, fit_octets}
use Rattle.answers.proofs.settings_of.Goals as goal

unfit : (rate kind : ℕ) → (rate ≤ 255 → kind ≤ 255 → ⊥) → settings_fit rate kind ≡ false
unfit rate kind n = by (settings_fit rate kind) refl
  where
    by : (b : Bool) → settings_fit rate kind ≡ b → settings_fit rate kind ≡ false
    by false h = h
    by true h = let e = fit_octets rate kind h in absurd (n e.0 e.1)

pub returns-in_err-rate : goal.returns-in_err-rate
returns-in_err-rate c = rw c.from_residual.ensures (unfit c.args.rate c.args.kind (λ h g. search rules))

pub returns-in_err-kind : goal.returns-in_err-kind
returns-in_err-kind c = rw c.from_residual-in_err-kind.ensures (unfit c.args.rate c.args.kind (λ h g. search rules))
