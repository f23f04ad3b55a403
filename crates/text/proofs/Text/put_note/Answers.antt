-- `put_note` meets its contract: an octet has at most three digits. Assumes nothing.
use Rattle.std.proofs.Common.{arith}
use Rattle.text.specs.Text.{note_digits_lem}
use Rattle.text.proofs.Text.put_note.Goals as goal

pub put_number-requires : goal.put_number-requires
put_number-requires c = omega (arith, note_digits_lem c.from.result (omega arith))

pub returns-clause-upper_bound : goal.returns-clause-upper_bound
returns-clause-upper_bound c = omega (arith, c.put_number.ensures.put.ends, note_digits_lem c.from.result (omega arith))
