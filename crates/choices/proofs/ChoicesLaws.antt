-- The choices are all that there are, and each is asked for by its number.
-- Assumes nothing.
use Rattle.std.specs.Prelude.{◌≡◌, refl, Bool, true, false, Some}
use Rattle.choices.specs.declared.Choices.{Choices}
use Rattle.choices.specs.Choices.{one_settles, by_default, by_one_header, asked, choice_number}

-- these are all the choices that there are
pub default_or_asked : (P : Choices → Type 0) → P by_default → P by_one_header → (ch : Choices) → P ch
default_or_asked P d o ch = by (one_settles ch)
  where
    by : (b : Bool) → P (record { one_header_settles = b })
    by true = o
    by false = d

-- the number of each choice asks for it
pub asked_for : (ch : Choices) → asked (choice_number ch) ≡ Some ch
unfolding asked
asked_for = default_or_asked (λ (ch : Choices). asked (choice_number ch) ≡ Some ch) refl refl
