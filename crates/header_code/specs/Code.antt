-- The header code of ES 201 108, clause 6 (01, "Header" and "Parity"): 16 message bits, then P1 to P16. A word of 32 bits is the number
-- whose digit t is bit t in sending order. The definitions are shut: whoever stands above uses the laws of the modules below this one.
-- Assumes nothing.
use Rattle.std.specs.Prelude.{ℕ, ◌+◌, ◌*◌, ◌/◌, ◌%◌, ◌^◌, Bool, eqb}
use Rattle.std.specs.Int.Bits.{bit_xor}
use Rattle.std.specs.Int.Count.{ones}
use Rattle.polynomials.specs.Polynomials.{remainder}
pub mod Parity
pub mod Shifts
pub mod Division
pub mod Distance
pub mod Syndrome
pub mod Examples

-- g = 1 + X^8 + X^12 + X^14 + X^15
abbrev pub generator : ℕ
generator = 2 ^ 0 + 2 ^ 8 + 2 ^ 12 + 2 ^ 14 + 2 ^ 15

-- P1 to P15, P1 for X^0: message bit i stands for X^(15 + i), and the message is divided by g
pub parity : ℕ → ℕ
parity m = remainder 15 generator 31 (m * 2 ^ 15)

-- the 31 bits before P16
pub front : ℕ → ℕ
front m = parity m * 2 ^ 16 + m

-- P16 makes the number of ones in all 32 even
pub codeword : ℕ → ℕ
codeword m = ones (front m) % 2 * 2 ^ 31 + front m

-- a word is a codeword if it is the one of its message bits
abbrev pub is_codeword : ℕ → Bool
is_codeword w = eqb (codeword (w % 2 ^ 16)) w

-- in how many bits a word differs from the codeword of a message
unfoldable pub flips_to : ℕ → ℕ → ℕ
flips_to w m = ones (bit_xor w (codeword m))

-- what is wrong with a word: the parity that its message bits ask for against the one received, and whether all its ones are odd in number
pub syndrome : ℕ → ℕ
syndrome w = ones w % 2 * 2 ^ 15 + bit_xor (parity (w % 2 ^ 16)) (w / 2 ^ 16 % 2 ^ 15)
