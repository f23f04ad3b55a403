-- `agreed` meets its contract: a lost header settles nothing, a readable one what was seen before it. Assumes nothing.
use Rattle.std.proofs.Common.{◌∙◌}
use Rattle.settling.proofs.Steps.{lost_settles_nothing, seen_settles}
use Rattle.settling.proofs.agreed.Goals as goal

pub returns-in_err-d : goal.returns-in_err-d
returns-in_err-d c =
    let o = c.open_reading in
    c.from_residual.ensures ∙ lost_settles_nothing _ c.args.k.0 c.requires o.result o.ensures _ c.in_err-d.was

pub returns : goal.returns
returns c =
    let o = c.open_reading in
    seen_settles _ c.args.k.0 c.requires o.result o.ensures _ _ _ _ _ c.in_ok-d.was c.common_of-common.ensures c.was_seen.ensures c.then_some.ensures
