-- What the entry that gives the settings before the end of the octets answers, in numbers, and what it leaves in lent memory (02, C-11).
-- Assumes nothing.
use Rattle.std.specs.Prelude.{ℕ, List, [], ◌∷◌}
use Rattle.choices.specs.Types.{Asked}
use Rattle.refusals.specs.Refusals.{reading_number, reading_place}
use Rattle.until_settled.specs.UntilSettled.{until_settled}
use Rattle.until_settled.specs.declared.Beginning.{Beginning}
use Rattle.until_settled.specs.Types.{Answer}
use Rattle.entries.specs.Entries.{Told, told, Given, given, Returned, choosing}

-- three numbers
abbrev pub settle_numbers : ℕ
settle_numbers = 3

-- rate, type, multiframes read
abbrev pub beginning_numbers : Beginning → List ℕ
beginning_numbers b = b.settings.rate ∷ b.settings.kind ∷ b.multiframes ∷ []

-- the answer in numbers; a refusal has 01's number and place, as a reading's
abbrev pub settle_told : Answer → Told
settle_told = told beginning_numbers reading_number reading_place

-- no buffer is lent: both are empty, and stay
abbrev pub settle_given : Answer → Given
settle_given a = given (settle_told a) [] []

-- dsr_settle: its number, the lent numbers and the place, by what was asked for. Its contract is an equation with this
abbrev pub dsr_settle : List ℕ → Asked → List ℕ → ℕ → Returned
dsr_settle octets q answer place = choosing settle_numbers answer place [] [] (λ ch. settle_given (until_settled ch octets)) q
