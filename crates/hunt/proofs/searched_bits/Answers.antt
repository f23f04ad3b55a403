-- `searched_bits` meets its contract. Assumes nothing.
use Rattle.std.proofs.Common.{ℕ, ◌*◌, ap, ◌∙◌}
use Rattle.hunt.proofs.Steps.{searched_is}
use Rattle.hunt.proofs.searched_bits.Goals as goal

pub returns : goal.returns
returns c = ap (λ (n : ℕ). 8 * n) c.min.ensures ∙ searched_is c.args.octets.now
