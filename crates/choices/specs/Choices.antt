-- What a caller may choose of a reading, one record (02, C-20), and the numbers by which it is asked for.
-- Assumes nothing.
use Rattle.std.specs.Prelude.{ℕ, Bool, true, false, eqb, Some, None}
use Rattle.lists.specs.Tests.{when}
use Rattle.choices.specs.declared.Choices.{Choices}
use Rattle.choices.specs.Types.{Asked}

-- whether a caller asks for the old rule: an only multiframe whose header is itself a codeword settles (01, "Settings")
abbrev pub one_settles : Choices → Bool
one_settles ch = ch.one_header_settles

-- "By default an only multiframe is now refused as unsettled"
abbrev pub by_default : Choices
by_default = record { one_header_settles = false }

-- "a caller may ask for the old rule"
abbrev pub by_one_header : Choices
by_one_header = record { one_header_settles = true }

-- ---- the numbers (house): 0 asks for nothing, 1 for the old rule; no other names a choice
unfoldable pub asked : ℕ → Asked
asked n = when (eqb n 0) (Some by_default) (when (eqb n 1) (Some by_one_header) None)

abbrev pub choice_number : Choices → ℕ
choice_number ch = when (one_settles ch) 1 0
