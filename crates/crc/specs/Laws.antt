-- What the laws of the CRC are said with: remainders added bit by bit, and X to the k.
-- Assumes nothing.
use Rattle.std.specs.Prelude.{true, false, ℕ, zero, suc}
use Rattle.std.proofs.Math.Bool.{xor}
use Rattle.crc.specs.Crc.{Rem, rem, next}

-- ---- remainders add bit by bit
infixl 60 ◌⊕◌
abbrev pub ◌⊕◌ : Rem → Rem → Rem
rem a b c d ⊕ rem e f g h = rem (xor a e) (xor b f) (xor c g) (xor d h)

-- ---- X to the k
unfoldable pub power : ℕ → Rem
power zero = rem false false false true
power (suc k) = next (power k) false
