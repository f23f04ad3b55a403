-- Settled common bits that cannot be used (01, refusal 17).
-- Assumes nothing.
use Rattle.std.specs.Prelude.{ℕ, Bool, true, false, eqb}
use Rattle.lists.specs.Tests.{when}
use Rattle.message.specs.Message.{rate_of, exp_of}

-- 17: "settled rate is 2 or any EXP is 1". c are the settled common bits
unfoldable pub unfit : ℕ → Bool
unfit c = when (eqb (rate_of c) 2) true (when (eqb (exp_of c) 0) false true)
