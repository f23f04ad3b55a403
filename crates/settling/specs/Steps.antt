-- The words of the code's contracts for one header at a time. Nothing that 01 says stands here.
-- Assumes nothing.
use Rattle.std.specs.Prelude.{ℕ, zero, suc, List, [], ◌∷◌, Bool, false, eqb, get_or, Some, None}
use Rattle.lists.specs.Tests.{when}
use Rattle.message.specs.Message.{common_bits}
use Rattle.header.specs.Types.{Header}
use Rattle.settling.specs.Settling.{among}
use Rattle.settling.specs.Types.{Settlement}

-- the common bits seen so far, with one header more
abbrev pub with_seen : Header → List ℕ → List ℕ
with_seen None seen = seen
with_seen (Some d) seen = common_bits d.message ∷ seen

-- the common bits of the readable ones among the first k headers, the last one first
unfoldable pub seen_before : List Header → ℕ → List ℕ
seen_before hs zero = []
seen_before hs (suc k) = with_seen (get_or hs k None) (seen_before hs k)

-- what one header settles
abbrev pub settled_by : Header → List ℕ → Settlement
settled_by None seen = None
settled_by (Some d) seen = when (among (common_bits d.message) seen) (Some (common_bits d.message)) None

-- whether a header has these common bits
abbrev pub has_common : Header → ℕ → Bool
has_common None c = false
has_common (Some d) c = eqb c (common_bits d.message)
