-- After i turns the columns of the first i message bits and of the first i parity bits stand at their places. Assumes nothing.
use mathlib.Core.Path.{ap, ◌∙◌}
use Prim.Native.Nat.{ℕ}
use lib.Bits.{bit_or}
use lib.ListN.{length-set}
use native.Mathlib.Omega.{arith}
use Rattle.header_code.specs.Code.Syndrome.{filled_more, filled_all}
use Rattle.header_code.proofs.Syndrome.{column_low, column_high}
use Rattle.header_code.specs.Code.Parity.{words}
use Rattle.header.proofs.columns.Goals as goal

pub loop-i-preserved : goal.loop-i-preserved
unfolding words
loop-i-preserved c =
    let i = c.loop-i.i in
    let h = c.loop-i-test.true in
    let before = c.loop-i.invariant in (
      simp length-set before.0,
      filled_more c.loop-i.columns i _ _ before.0 h (column_low i h) (ap (λ (x : ℕ). bit_or x 32768) c.bit.ensures ∙ column_high i h) before.1,
    )

pub returns : goal.returns
returns c = filled_all c.loop-i.columns c.loop-i.i (omega arith) c.loop-i.invariant.1
