-- After k turns the first k multiframes stand at their places. Assumes nothing.
use mathlib.Core.Path.{◌≡◌}
use Prim.Native.Nat.{◌*◌}
use Rattle.lists.specs.Parts.{over}
use Rattle.layout.specs.Layout.{multiframe_octets}
use Rattle.image.specs.Image.{image}
use Rattle.image.proofs.put_image.Given as goal

abbrev pub invariant-loop-k : goal.invariant-loop-k
invariant-loop-k l = l.out ≡ over l.initial.out 0 (multiframe_octets * l.k) (image l.settings l.frames.octets.now l.k)
