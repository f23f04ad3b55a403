-- What a number's text is read back as, and what its digits are, for the laws of proofs/Laws.antt.
-- Assumes nothing.
use Rattle.std.specs.Prelude.{List, [], ◌∷◌, ℕ, ◌+◌, ◌-◌, ◌*◌, ◌≤◌}

-- ---- read back
-- the number that digits say, behind those that said a
unfoldable pub value : ℕ → List ℕ → ℕ
value a [] = a
value a (d ∷ l) = value (a * 10 + (d - 48)) l

-- ---- what the digits are
-- every octet is one of "0" to "9"
abbrev pub Digits : List ℕ → Type 0
Digits [] = Unit
Digits (d ∷ l) = (48 ≤ d) × (d ≤ 57) × Digits l
