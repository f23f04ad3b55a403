-- `element_exceeds` meets its contract: the call is handed the numbers that stand there. Assumes nothing.
use Rattle.consistency.specs.Consistency.{exceeding}
use Rattle.consistency.proofs.Signed.{handed}
use Rattle.consistency.proofs.element_exceeds.Goals as goal

pub returns : goal.returns
returns c =
    let e = handed {t = c.threshold-threshold.result} {a = c.number-first.result} {b = c.number-second.result} exceeding (record { sfits = c.threshold-threshold.type_inv }) (record { sfits = c.number-first.type_inv }) (record { sfits = c.number-second.type_inv }) c.exceeds.ensures in
    rw (c.threshold-threshold.ensures, c.number-first.ensures, c.number-second.ensures) at e
