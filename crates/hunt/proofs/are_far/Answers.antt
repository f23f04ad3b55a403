-- `are_far` meets its contract: eight places are left, and the fewest mismatches decide. Assumes nothing.
use Rattle.std.proofs.Common.{◌∙◌}
use borrow.Author.Tests.{lt-leb}
use Rattle.hunt.proofs.Steps.{too_few_left, enough_left}
use Rattle.hunt.proofs.are_far.Goals as goal

pub returns-then-left-ge-AT_ONCE : goal.returns-then-left-ge-AT_ONCE
returns-then-left-ge-AT_ONCE c = rw (← c.least.view_is) (enough_left _ _ _ c.if-left-ge-AT_ONCE.true _ c.fewest_mismatches.ensures)

pub returns-else-left-ge-AT_ONCE : goal.returns-else-left-ge-AT_ONCE
returns-else-left-ge-AT_ONCE c = lt-leb _ _ c.if-left-ge-AT_ONCE.false ∙ too_few_left _ _ _ c.if-left-ge-AT_ONCE.false
