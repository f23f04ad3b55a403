-- `put_report` meets its contract: each turn lays one multiframe's octets behind those before it. Assumes nothing.
use native.Mathlib.Omega.{arith}
use Rattle.report.proofs.Steps.{section_on}
use Rattle.report.proofs.put_report.Goals as goal

pub loop-k-preserved : goal.loop-k-preserved
loop-k-preserved c = search (arith, section_on)
