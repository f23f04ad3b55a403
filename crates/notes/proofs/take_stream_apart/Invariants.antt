-- `take_stream_apart` meets its contract: each turn lays one pair's frames behind those before it. Assumes nothing.
use Prim.Native.Nat.{◌*◌, ◌≤◌}
use mathlib.Core.Path.{◌≡◌}
use lib.ListN.{length}
use Rattle.lists.specs.Parts.{over}
use Rattle.lists.specs.Rows.{joined}
use Rattle.layout.specs.Layout.{pair_indices, multiframe_pairs}
use Rattle.bits.specs.Bits.{bits}
use Rattle.carrier.specs.Carrier.{stream_packet}
use Rattle.notes.specs.Notes.{frames_of}
use Rattle.notes.proofs.take_stream_apart.Given as goal

abbrev pub invariant-loop-q : goal.invariant-loop-q
invariant-loop-q l = (l.q ≤ multiframe_pairs) × (length l.idx ≡ length l.initial.idx) × (l.idx ≡ over l.initial.idx l.from (pair_indices * l.q) (joined (frames_of (stream_packet (bits l.stream))) l.q))
