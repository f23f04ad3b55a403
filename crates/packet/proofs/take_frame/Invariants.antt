-- `packet::take_frame` meets its contract: after i turns the first i indices of the frame lie in their octets.
-- Assumes nothing.
use mathlib.Core.Path.{◌≡◌}
use lib.ListN.{replicate}
use Rattle.lists.specs.Parts.{over}
use Rattle.layout.specs.Layout.{frame_bits}
use Rattle.bits.specs.Bits.{field, numbers}
use Rattle.packet.proofs.take_frame.Given as goal

abbrev pub invariant-loop-i : goal.invariant-loop-i
invariant-loop-i l = l.idx ≡ over l.initial.idx l.to l.i (numbers (replicate l.i 6) (field frame_bits l.w))
