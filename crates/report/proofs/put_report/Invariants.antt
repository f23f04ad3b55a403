-- `put_report` meets its contract: each turn lays one multiframe's octets behind those before it. Assumes nothing.
use Prim.Native.Nat.{◌*◌}
use mathlib.Core.Path.{◌≡◌}
use Rattle.lists.specs.Parts.{over}
use Rattle.layout.specs.Layout.{report_octets}
use Rattle.report.specs.Sections.{sections}
use Rattle.report.proofs.put_report.Given as goal

abbrev pub invariant-loop-k : goal.invariant-loop-k
invariant-loop-k l = l.report ≡ over l.initial.report 0 (report_octets * l.k) (sections l.headers l.notes l.common l.k)
