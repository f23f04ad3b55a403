-- The hunt's answer by its two cases. Assumes nothing.
use Rattle.std.proofs.Common.{sym}
use Rattle.entries.specs.Bits.{hunt_found, hunt_refused}
use Rattle.answers.proofs.tell_hunted.Goals as goal

pub returns-in-Ok : goal.returns-in-Ok
returns-in-Ok c = hunt_found _ _ _ _ _ (sym c.in-Ok.is)

pub returns-in-Err : goal.returns-in-Err
returns-in-Err c =
    hunt_refused _ _ _ _ _ _ _ (sym c.in-Err.is) c.number.ensures c.tested.ensures c.place.ensures
