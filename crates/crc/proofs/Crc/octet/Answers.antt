-- `crc::Crc::octet` meets its contract: after so many turns the register was fed so many low bits of the octet.
-- Assumes nothing.
use Rattle.std.proofs.Common.{ℕ, ◌≡◌, ◌<◌, sym, ap, ◌∙◌, subst, div-one, arith}
use Rattle.bits.specs.Bits.{field}
use Rattle.crc.specs.Crc.{code, coded, fed_all}
use Rattle.crc.proofs.Register.{code_lt, kept, fed_none, fed_bit, shifted}
use Rattle.crc.proofs.Crc.octet.Goals as goal

pub loop-init : goal.loop-init
loop-init c = (sym (div-one c.args.x), kept c.args.self.0 c.requires ∙ fed_none c.args.self.0 c.args.x)

pub step-r-requires : goal.step-r-requires
step-r-requires c =
    subst (λ (n : ℕ). n < 16) (sym c.loop.invariant.1) (code_lt (fed_all (coded c.args.self.0) (field c.loop.counter c.args.x)))

pub loop-preserved : goal.loop-preserved
loop-preserved c = (
  shifted c.args.x c.loop.counter c.loop.left 1 c.loop.invariant.0,
  c.step-r.ensures ∙ fed_bit c.args.self.0 c.args.x c.loop.counter c.loop.r.0 c.loop.left c.loop.invariant.1 c.loop.invariant.0,
)

pub returns : goal.returns
returns c =
    let e : c.loop.counter ≡ 8 = omega arith in
    c.loop.invariant.1 ∙ ap (λ (k : ℕ). code (fed_all (coded c.args.self.0) (field k c.args.x))) e
