-- `put_field` meets its contract: a number of 64 bits has at most twenty digits. Assumes nothing.
use Rattle.std.proofs.Common.{arith}
use Rattle.text.proofs.Steps.{adds_on}
use Rattle.text.specs.Text.{number_digits_lem}
use Rattle.text.proofs.Text.put_field.Goals as goal

pub put_number-requires : goal.put_number-requires
put_number-requires c = omega (arith, c.put_words.ensures.put.ends, number_digits_lem c.args.n (omega arith))

pub returns : goal.returns
returns c =
    record {
      put = adds_on c.put_words.ensures c.put_number.ensures;
      upper_bound = omega (arith, c.put_words.ensures.put.ends, c.put_number.ensures.put.ends, number_digits_lem c.args.n (omega arith));
    }
