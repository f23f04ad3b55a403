-- `put_number` meets its contract: the measure is n.
-- Assumes nothing.
use Rattle.text.proofs.Text.+put_number.Given as goal

abbrev pub decreases-put_number : goal.decreases-put_number
decreases-put_number l = l.n
