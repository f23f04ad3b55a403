-- Literal examples of finding multiframes: numbers that no law would notice if definition and code were changed alike.
-- Assumes nothing.
use Rattle.std.specs.Prelude.{◌≡◌, List, ℕ, length}
use Rattle.std.proofs.Common.{arith}
use Rattle.bits.specs.Bits.{bits}
use Rattle.bits.proofs.Laws.{length_bits}
use Rattle.hunt.proofs.Laws.{searched_all}
use Rattle.gathering.specs.Gathering.{outside_of}

-- of 145 octets searched from bit 3 on, with one multiframe found, five bits are outside
pub five_outside : (s : List ℕ) → length s ≡ 145 → outside_of (bits s) 3 1 ≡ 5
five_outside s e =
    let n : length (bits s) ≡ 1160 = omega (arith, length_bits s) in
    omega (arith, searched_all (bits s) (omega arith))
