-- `judge` meets its contract: no CRC failed (`none_failed`), or each turn judges one pair (`judged_on`). Assumes nothing.
use Rattle.carrier.specs.Carrier.{received, pair_count}
use Rattle.tables.specs.Lending.{lent_tables}
use Rattle.notes.proofs.Steps.{Judged}
use Rattle.notes.proofs.judge.Given as goal

abbrev pub invariant-loop-q : goal.invariant-loop-q
invariant-loop-q l = Judged (received l.multiframes.octets l.multiframes.places) (lent_tables l.tables) (pair_count l.multiframes.places) l.notes l.before l.q
