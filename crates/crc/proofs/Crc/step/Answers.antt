-- `crc::Crc::step` meets its contract: a test over the sixteen registers, for each bit.
-- Assumes nothing.
use Rattle.std.proofs.Common.{Bool, cond, sym, ap, ◌∙◌, ◌/◌}
use mathlib.Core.Bool.{xor}
use lib.Bits.{bit_xor}
use Rattle.crc.proofs.Register.{step_law}
use Rattle.crc.proofs.Crc.step.Goals as goal

pub returns-then-self-bit : goal.returns-then-self-bit
unfolding xor
returns-then-self-bit c =
    ap (λ (t : Bool). cond t (bit_xor (c.args.self.0 / 2) 12) (c.args.self.0 / 2)) (sym c.if-self-bit.true) ∙ step_law c.args.self.0 c.args.bit c.requires

pub returns-else-self-bit : goal.returns-else-self-bit
unfolding xor
returns-else-self-bit c =
    ap (λ (t : Bool). cond t (bit_xor (c.args.self.0 / 2) 12) (c.args.self.0 / 2)) (sym c.if-self-bit.false) ∙ step_law c.args.self.0 c.args.bit c.requires
