-- `note_stream` meets its contract: each turn stores one note behind those before it. Assumes nothing.
use Prim.Native.Nat.{◌≤◌}
use mathlib.Core.Path.{◌≡◌}
use lib.ListN.{length}
use Rattle.lists.specs.Parts.{over}
use Rattle.layout.specs.Layout.{multiframe_pairs}
use Rattle.bits.specs.Bits.{bits}
use Rattle.carrier.specs.Carrier.{stream_packet}
use Rattle.notes.specs.Notes.{crc_notes}
use Rattle.notes.proofs.note_stream.Given as goal

abbrev pub invariant-loop-p : goal.invariant-loop-p
invariant-loop-p l = (l.p ≤ multiframe_pairs) × (length l.notes ≡ length l.initial.notes) × (l.notes ≡ over l.initial.notes l.from l.p (crc_notes (stream_packet (bits l.stream)) l.p))
