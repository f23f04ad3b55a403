-- `passes` meets its contract: enough bits match, and then the header decides. Assumes nothing.
use Rattle.std.proofs.Common.{◌/◌, ◌^◌, ◌∙◌}
use borrow.Author.Tests.{lt-leb}
use lib.Bits.{and_mask}
use Rattle.hunt.proofs.Steps.{head_few, head_enough}
use Rattle.hunt.proofs.passes.Goals as goal

pub returns-then-least-mismatches-le-SYNC_BITS : goal.returns-then-least-mismatches-le-SYNC_BITS
returns-then-least-mismatches-le-SYNC_BITS c =
    rw (← c.least.view_is)
    (head_enough _ _ _ _ c.mismatches.ensures c.if-least-mismatches-le-SYNC_BITS.true c.is_readable.result _ c.is_readable.ensures (and_mask (c.args.head / 2 ^ 16) 32))

pub returns-else-least-mismatches-le-SYNC_BITS : goal.returns-else-least-mismatches-le-SYNC_BITS
returns-else-least-mismatches-le-SYNC_BITS c =
    rw (← c.least.view_is) (lt-leb _ _ c.if-least-mismatches-le-SYNC_BITS.false ∙ head_few _ _ _ _ c.mismatches.ensures c.if-least-mismatches-le-SYNC_BITS.false)
