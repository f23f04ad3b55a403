-- `is_inconsistent`: after c turns the flags of the first c index pairs are counted. Assumes nothing.
use Rattle.std.proofs.Common.{◌≡◌, ◌≤◌}
use Rattle.tables.specs.Lending.{lent_tables}
use Rattle.consistency.specs.Consistency.{flags}
use Rattle.consistency.proofs.is_inconsistent.Given as goal

abbrev pub invariant-loop-c : goal.invariant-loop-c
invariant-loop-c l = (l.flags ≤ l.c) × (l.flags ≡ flags (lent_tables l.tables) l.first l.second l.c)
