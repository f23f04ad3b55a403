-- `settled` meets its contract: 17, or the settings. Assumes nothing.
use Rattle.std.specs.Prelude.{Ok}
use mathlib.Core.Path.{◌≡◌, ap, sym, ◌∙◌}
use mathlib.Core.Bool.{false}
use Rattle.message.specs.declared.Fields.{Fields}
use Rattle.unfit.specs.Unfit.{unfit}
use Rattle.beginning.proofs.settled.Goals as goal

pub returns-then-is_unfit : goal.returns-then-is_unfit
returns-then-is_unfit c = rw (sym c.is_unfit.ensures ∙ c.if-is_unfit.true)

pub returns : goal.returns
returns c =
    let fit : unfit c.args.common ≡ false = sym c.is_unfit.ensures ∙ c.if-is_unfit.false in
    rw fit (ap (λ (f : Fields). Ok (record { settings = f.settings; multiframes = c.args.multiframes })) c.from.ensures)
