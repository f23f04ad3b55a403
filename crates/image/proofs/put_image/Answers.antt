-- After k turns the first k multiframes stand at their places. Assumes nothing.
use native.Mathlib.Omega.{arith}
use Rattle.image.proofs.Steps.{image_none, image_more}
use Rattle.image.proofs.put_image.Goals as goal

pub loop-k-init : goal.loop-k-init
loop-k-init c = search (arith, image_none)

pub loop-k-preserved : goal.loop-k-preserved
loop-k-preserved c = search (arith, image_more)
