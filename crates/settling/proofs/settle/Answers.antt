-- `settle` meets its contract: one header alone is asked if no two agree, and if the caller asks for it. Assumes nothing.
use Rattle.settling.proofs.Steps.{settled_by_two, settled_alone, settled_nothing}
use Rattle.settling.proofs.settle.Goals as goal

pub returns-in-Some : goal.returns-in-Some
returns-in-Some c =
    let f = c.first_agreeing in
    settled_by_two _ _ f.result f.ensures _ c.in-Some.is

pub returns-in-None : goal.returns-in-None
returns-in-None c =
    let f = c.first_agreeing in
    settled_alone _ _ f.result f.ensures _ c.in-None.is c.if-choices.true c.only_one.ensures

pub returns-in-None-2 : goal.returns-in-None-2
returns-in-None-2 c =
    let f = c.first_agreeing in
    settled_nothing _ _ f.result f.ensures c.in-None.is c.if-choices.false
