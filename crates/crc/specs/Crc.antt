-- The CRC of a pair packet (01, "CRC"; bit order and start value are house): bits are a polynomial, the first sent its highest power; the
-- CRC is that polynomial times X^4, modulo 1 + X + X^4, start zero, no inversion; it is sent highest power first.
-- Assumes nothing.
use Rattle.std.specs.Prelude.{◌≡◌, refl, Bool, true, false, not, List, [], ◌∷◌, ◌++◌, ◌⊎◌, ℕ, ◌+◌, ◌-◌, ◌/◌, ◌%◌, ◌<◌, ◌≤◌, length, take, drop, get_or, set, replicate}
use Rattle.std.proofs.Math.Bool.{xor}
use Rattle.lists.specs.Tests.{both}
use Rattle.bits.specs.Bits.{value, odd}

-- a remainder: the coefficients of X^3, X^2, X and 1
pub data Rem : Type 0 where
  rem : Bool → Bool → Bool → Bool → Rem

abbrev pub none : Rem
none = rem false false false false

-- times X, plus a constant term e, where X^4 is X + 1
abbrev pub next : Rem → Bool → Rem
next (rem a b c d) e = rem b c (xor d a) (xor e a)

pub fourth_power : next (rem true false false false) false ≡ rem false false true true
unfolding xor
fourth_power = refl

-- the remainder of r times X^(length l) plus the polynomial l, whose first bit is its highest power
unfoldable pub after : Rem → List Bool → Rem
after r [] = r
after r (b ∷ l) = after (next r b) l

-- the four bits, highest power first
abbrev pub sent : Rem → List Bool
sent (rem a b c d) = a ∷ b ∷ c ∷ d ∷ []

pub highest_first : sent (rem true false false false) ≡ true ∷ false ∷ false ∷ false ∷ []
highest_first = refl

-- the bits times X^4, modulo 1 + X + X^4, start zero
unfoldable pub crc : List Bool → Rem
crc l = after none (l ++ replicate 4 false)

-- n data bits and then their CRC
unfoldable pub Right : ℕ → List Bool → Type 0
Right n p = drop n p ≡ sent (crc (take n p))

-- the same bits
unfoldable pub alike : List Bool → List Bool → Bool
alike [] [] = true
alike [] (b ∷ m) = false
alike (a ∷ l) [] = false
alike (a ∷ l) (b ∷ m) = both (not (xor a b)) (alike l m)

-- whether the CRC behind n data bits is right
unfoldable pub right : ℕ → List Bool → Bool
right n p = alike (drop n p) (sent (crc (take n p)))

-- ---- the register that the code keeps, which is fed one bit at a time
-- as it is sent: X^3 is 1 up to X^0, which is 8
abbrev pub code : Rem → ℕ
code r = value (sent r)

-- the register that a number holds
abbrev pub coded : ℕ → Rem
coded n = rem (odd n) (odd (n / 2)) (odd (n / 4)) (odd (n / 8))

-- a bit is fed: it is added to the highest power, and all is times X
abbrev pub fed : Rem → Bool → Rem
fed (rem a b c d) e = next (rem (xor a e) b c d) false

-- bits are fed, one after the other
unfoldable pub fed_all : Rem → List Bool → Rem
fed_all r [] = r
fed_all r (b ∷ l) = fed_all (fed r b) l

-- ---- polynomials and damage
-- l and m added, bit by bit
unfoldable pub mixed : List Bool → List Bool → List Bool
mixed [] m = []
mixed (a ∷ l) [] = a ∷ l
mixed (a ∷ l) (b ∷ m) = xor a b ∷ mixed l m

-- q times 1 + X + X^4, highest power first: each term of q adds itself at X^4, X and 1
unfoldable pub times : List Bool → List Bool
times [] = replicate 4 false
times (a ∷ q) = mixed (a ∷ false ∷ false ∷ a ∷ a ∷ replicate (length q) false) (false ∷ times q)

pub times_one : times (true ∷ []) ≡ true ∷ false ∷ false ∷ true ∷ true ∷ []
unfolding times mixed xor
times_one = refl

-- bit i of l is flipped
abbrev pub flip : List Bool → ℕ → List Bool
flip l i = set l i (not (get_or l i false))

-- p and q have one length and differ somewhere, and only inside four neighbouring places
pub record Burst (p q : List Bool) : Type 0 where
  pub size : length q ≡ length p
  pub start : ℕ
  pub place : ℕ
  pub differs : get_or p place false ≡ get_or q place false → ⊥
  pub before : (i : ℕ) → i < start → get_or p i false ≡ get_or q i false
  pub behind : (i : ℕ) → start + 4 ≤ i → get_or p i false ≡ get_or q i false

-- p and q have one length and differ at exactly two places, whose distance is no multiple of 15
pub record Double (p q : List Bool) : Type 0 where
  pub size : length q ≡ length p
  pub one : ℕ
  pub two : ℕ
  pub order : one < two
  pub distance : (two - one) % 15 ≡ 0 → ⊥
  pub at_one : get_or p one false ≡ get_or q one false → ⊥
  pub at_two : get_or p two false ≡ get_or q two false → ⊥
  pub else : (i : ℕ) → (i ≡ one → ⊥) → (i ≡ two → ⊥) → get_or p i false ≡ get_or q i false

-- the damage to a packet that demand 3 speaks of
abbrev pub Damaged : List Bool → List Bool → Type 0
Damaged p q = Burst p q ⊎ Double p q
