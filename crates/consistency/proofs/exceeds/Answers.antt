-- `exceeds` meets its contract: the threshold is widened as it is, and compared with the distance. Assumes nothing.
use Rattle.consistency.proofs.Signed.{compared_wide}
use Rattle.consistency.proofs.exceeds.Goals as goal

pub returns : goal.returns
returns c = search (compared_wide)
