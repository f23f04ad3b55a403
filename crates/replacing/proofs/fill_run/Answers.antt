-- `fill_run` meets its contract: one spread at the start and at the end of the utterance, two between good pairs (`Turns`).
-- Assumes nothing.
use Rattle.replacing.proofs.Turns.{fill_start, fill_end, fill_between}
use Rattle.replacing.proofs.fill_run.Goals as goal

pub returns-then-a-eq0 : goal.returns-then-a-eq0
returns-then-a-eq0 c = fill_start _ _ _ _ _ _ _ c.first-start.ensures c.first-after.ensures c.if-a-eq0.true c.spread.ensures

pub returns-then-b-pairs : goal.returns-then-b-pairs
returns-then-b-pairs c =
    fill_end _ _ _ _ _ _ _ _ c.second-before.ensures c.first-start.ensures c.first-after.ensures c.if-a-eq0.false c.if-b-pairs.true c.spread-then-b-pairs.ensures

pub returns-else-b-pairs : goal.returns-else-b-pairs
returns-else-b-pairs c =
    fill_between _ _ _ _ _ _ _ _ _ _ c.second-before.ensures c.first-start.ensures c.first-after.ensures c.middle-half.ensures c.requires.0 c.if-a-eq0.false c.if-b-pairs.false
    c.spread-else-b-pairs.ensures c.spread-else-b-pairs-2.ensures
