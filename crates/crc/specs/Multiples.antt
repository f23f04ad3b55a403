-- What the laws on damage that the CRC cannot see are said with: multiples of 1 + X + X^4, and patterns inside four and five neighbouring places.
-- Assumes nothing.
use Rattle.std.specs.Prelude.{◌≡◌, Bool, true, false, List, ◌∷◌, ◌++◌, ℕ, ◌+◌, length, replicate}
use Rattle.crc.specs.Crc.{Rem, none, sent, mixed, times}

-- l is a multiple of 1 + X + X^4
pub record Multiple (l : List Bool) : Type 0 where
  pub quotient : List Bool
  pub product : l ≡ times quotient

-- ---- four neighbouring places
-- the four bits of r, behind a zeros and before c
abbrev pub placed : ℕ → Rem → ℕ → List Bool
placed a r c = replicate a false ++ (sent r ++ replicate c false)

-- q is p with a nonzero pattern added in four neighbouring places
pub record Shape (p q : List Bool) : Type 0 where
  pub before : ℕ
  pub behind : ℕ
  pub bits : Rem
  pub fits : before + (4 + behind) ≡ length p
  pub some : bits ≡ none → ⊥
  pub added : q ≡ mixed p (placed before bits behind)

-- 1 + X + X^4 behind a zeros and before c
abbrev pub five_bits : ℕ → ℕ → List Bool
five_bits a c = replicate a false ++ (true ∷ false ∷ false ∷ true ∷ true ∷ replicate c false)
