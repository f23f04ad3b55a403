-- `put_number` meets its contract: one digit alone, or the digits of n div 10 first and then the last digit behind them.
-- Assumes nothing.
use Rattle.std.proofs.Common.{◌≡◌, ◌%◌, sym, ap, ◌∙◌, arith}
use Rattle.text.specs.Text.{digit}
use Rattle.text.proofs.Steps.{length_small, length_large, number_small, number_large}
use Rattle.text.proofs.Text.+put_number.Goals as goal

pub put_octet-requires : goal.put_octet-requires
put_octet-requires t c = omega (arith, length_small c.args.n (omega arith))

pub returns-then-n-lt10 : goal.returns-then-n-lt10
returns-then-n-lt10 t c =
    let z : c.args.n % 10 ≡ c.args.n = omega arith in
    number_small c.args.n c.digit.result (omega arith) (c.digit.ensures ∙ ap digit (sym z)) c.put_octet.ensures

pub put_number-requires : goal.put_number-requires
put_number-requires t c = (omega arith, omega (arith, length_large c.args.n (omega arith)))

pub put_octet-requires-2 : goal.put_octet-requires-2
put_octet-requires-2 t c = omega (arith, c.put_number.ensures.put.ends, length_large c.args.n (omega arith))

pub returns : goal.returns
returns t c = number_large c.args.n c.digit-2.result (omega arith) c.digit-2.ensures c.put_number.ensures c.put_octet-2.ensures
