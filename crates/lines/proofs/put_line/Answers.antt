-- `put_line` meets its contract: header note, space, pair notes and line feed, each behind the one before. Assumes nothing.
use Rattle.std.proofs.Common.{arith}
use Rattle.text.proofs.Steps.{adds_on}
use Rattle.lines.specs.Lines.{line}
use Rattle.lines.proofs.put_line.Goals as goal

pub returns : goal.returns
unfolding line
returns c = record {
  put = adds_on c.put_note.ensures.put (adds_on c.put_words.ensures (adds_on c.put_pairs.ensures.put c.put_words-2.ensures));
  upper_bound = omega (arith, c.put_words.ensures.put.ends, c.put_words-2.ensures.put.ends);
}
