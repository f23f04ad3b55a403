-- `note_crcs` meets its contract: each turn stores the notes of one stream behind those before it. Assumes nothing.
use Rattle.std.proofs.Common.{◌≡◌}
use Rattle.lists.specs.Parts.{over}
use Rattle.layout.specs.Layout.{first_pair}
use Rattle.carrier.specs.Carrier.{received}
use Rattle.notes.specs.Notes.{crc_notes}
use Rattle.notes.proofs.note_crcs.Given as goal

abbrev pub invariant-loop-k : goal.invariant-loop-k
invariant-loop-k l = l.notes ≡ over l.initial.notes 0 (first_pair l.k) (crc_notes (received l.multiframes.octets l.multiframes.places) (first_pair l.k))
