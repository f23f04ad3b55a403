-- The bits that mislead where the caller asks for the old rule, and nobody by default: with the strictest T and tables of zeros.
-- Assumes nothing.
use Rattle.std.specs.Prelude.{◌≡◌, refl, Err}
use Rattle.std.proofs.Common.{lit≤}
use Rattle.choices.specs.Choices.{by_default, by_one_header}
use Rattle.tables.specs.Tables.{zero_tables}
use Rattle.hunt.specs.Hunt.{sync_bits}
use Rattle.refusals.specs.declared.Reading.TheVariants.{Unsettled}
use Rattle.hunting.specs.Hunting.{outcome, hunting_reading}
use Rattle.refusals.specs.declared.Hunting.TheVariants.{Octets}
use Rattle.demands_met.specs.Met.{index_for, report_for}
use Rattle.demands_met.proofs.MetLaws.{lent_zeros}
use Rattle.hunting_missed.specs.Missed.{garbled, Misses}
use Rattle.hunting_missed.proofs.Missed.{missed, not_missed}

-- so with the strictest T and tables of zeros
pub missed_16 : Misses by_one_header sync_bits zero_tables (index_for 2) (report_for 2)
missed_16 = missed by_one_header sync_bits zero_tables (index_for 2) (report_for 2) (lit≤ tt) (lit≤ tt) (lent_zeros 2) refl

pub not_missed_16 : hunting_reading by_default garbled 0 sync_bits zero_tables (index_for 2) (report_for 2) ≡ outcome (Err (Octets Unsettled)) (index_for 2) (report_for 2)
not_missed_16 = not_missed by_default sync_bits zero_tables (index_for 2) (report_for 2) (lit≤ tt) (lit≤ tt) (lent_zeros 2) refl
