-- After k places the number is the fewest of theirs. Assumes nothing.
use Rattle.std.proofs.Common.{◌∙◌}
use Rattle.hunt.proofs.Steps.{fewest_begun, at_next}
use Rattle.hunt.proofs.fewest_mismatches.Goals as goal

pub loop-k-init : goal.loop-k-init
loop-k-init c = fewest_begun _

pub loop-k-preserved : goal.loop-k-preserved
loop-k-preserved c = c.min-fewest.ensures ∙ at_next c.loop-k.k c.args.head _ _ c.loop-k.invariant c.mismatches.ensures
