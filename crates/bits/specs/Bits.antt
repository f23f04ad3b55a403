-- Bits in sending order (01, "Bits and octets"): bit t of a field of octets is in octet t div 8, with value 2^(t mod 8), and a field's
-- first bit is its least significant. So bits are a list of Bools, and numbers are written into it one behind the other.
-- Assumes nothing.
use Rattle.std.specs.Prelude.{◌≡◌, refl, Bool, true, false, List, [], ◌∷◌, ◌++◌, ℕ, zero, suc, ◌+◌, ◌*◌, ◌/◌, ◌%◌, ◌^◌, ◌<◌, eqb, take, drop, replicate}

-- the least significant bit of n
abbrev pub odd : ℕ → Bool
odd n = eqb (n % 2) 1

-- a bit as a number
abbrev pub one : Bool → ℕ
one true = 1
one false = 0

-- the w low bits of n, least significant first
unfoldable pub field : ℕ → ℕ → List Bool
field zero n = []
field (suc w) n = odd n ∷ field w (n / 2)

-- so the index 1 is sent as a one and five zeros
pub least_first : field 6 1 ≡ true ∷ false ∷ false ∷ false ∷ false ∷ false ∷ []
unfolding field
least_first = refl

-- the number of a field
unfoldable pub value : List Bool → ℕ
value [] = 0
value (b ∷ l) = value l * 2 + one b

-- numbers as fields of w bits, one after the other
unfoldable pub fields : ℕ → List ℕ → List Bool
fields w [] = []
fields w (x ∷ s) = field w x ++ fields w s

-- the bits of octets: bit t is in octet t / 8, with value 2 ^ (t % 8)
abbrev pub bits : List ℕ → List Bool
bits s = fields 8 s

-- numbers as fields of the widths ws, one after the other; a number that is missing counts as 0
unfoldable pub laid : List ℕ → List ℕ → List Bool
laid [] f = []
laid (w ∷ ws) [] = field w 0 ++ laid ws []
laid (w ∷ ws) (x ∷ f) = field w x ++ laid ws f

-- numbers of the widths ws, taken off the front of bits
unfoldable pub numbers : List ℕ → List Bool → List ℕ
numbers [] l = []
numbers (w ∷ ws) l = value (take w l) ∷ numbers ws (drop w l)

-- the n octets that bits hold
abbrev pub octets : ℕ → List Bool → List ℕ
octets n l = numbers (replicate n 8) l

-- the bits that the widths ws take
unfoldable pub total : List ℕ → ℕ
total [] = 0
total (w ∷ ws) = w + total ws

-- as many numbers as widths, and each below 2 to its width
unfoldable pub Fits : List ℕ → List ℕ → Type 0
Fits [] [] = Unit
Fits [] (x ∷ f) = ⊥
Fits (w ∷ ws) [] = ⊥
Fits (w ∷ ws) (x ∷ f) = (x < 2 ^ w) × Fits ws f
