-- `read_headers`: each turn stores one reading behind those before it. Assumes nothing.
use Rattle.std.proofs.Common.{◌≡◌}
use Rattle.lists.specs.Parts.{over}
use Rattle.header_readings.specs.Stored.{pack_all}
use Rattle.header_readings.proofs.read_headers.Given as goal

abbrev pub invariant-loop-k : goal.invariant-loop-k
invariant-loop-k l = l.headers ≡ over l.initial.headers 0 l.k (pack_all l.multiframes.octets l.multiframes.places l.k)
