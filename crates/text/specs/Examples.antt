-- Literal examples of numbers.
-- Assumes nothing.
use Rattle.std.specs.Prelude.{◌≡◌, refl, [], ◌∷◌}
use Rattle.text.specs.Text.{numeral, decimal}

-- "0", "10" and "65536"
pub nought : decimal 0 ≡ 48 ∷ []
unfolding decimal numeral
nought = refl

pub ten : decimal 10 ≡ 49 ∷ 48 ∷ []
unfolding decimal numeral
ten = refl

pub most : decimal 65536 ≡ 54 ∷ 53 ∷ 53 ∷ 51 ∷ 54 ∷ []
unfolding decimal numeral
most = refl
