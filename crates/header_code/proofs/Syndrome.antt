-- The columns of the header code, the syndromes of the 32 single flips, come from the sixteen words. Assumes nothing.
use Rattle.std.specs.Prelude.{◌≡◌, ℕ, ◌+◌, ◌^◌, ◌<◌, eqb, get_or}
use Rattle.std.proofs.Common.{sym, ◌∙◌, arith, eqb→eq}
use Rattle.std.specs.Int.Bits.{bit_or}
use Rattle.std.proofs.Math.Pow.{pow-lt}
use Rattle.lists.specs.Tests.{both_left, both_right}
use Rattle.header_code.specs.Code.{syndrome}
use Rattle.header_code.specs.Code.Parity.{words}
use Rattle.header_code.specs.Code.Syndrome.{fast, fast_is, right, tested}

pub column_low : (i : ℕ) → i < 16 → bit_or (get_or words i 0) 32768 ≡ syndrome (2 ^ i)
unfolding right
column_low i h =
    let t = both_left (eqb (bit_or (get_or words i 0) 32768) (fast (2 ^ i))) (eqb (bit_or (2 ^ i) 32768) (fast (2 ^ (16 + i)))) (tested i h) in
    eqb→eq (bit_or (get_or words i 0) 32768) (fast (2 ^ i)) t ∙ sym (fast_is (2 ^ i) (pow-lt {j = 32} (omega arith)))

pub column_high : (i : ℕ) → i < 16 → bit_or (2 ^ i) 32768 ≡ syndrome (2 ^ (16 + i))
unfolding right
column_high i h =
    let t = both_right (eqb (bit_or (get_or words i 0) 32768) (fast (2 ^ i))) (eqb (bit_or (2 ^ i) 32768) (fast (2 ^ (16 + i)))) (tested i h) in
    eqb→eq (bit_or (2 ^ i) 32768) (fast (2 ^ (16 + i))) t ∙ sym (fast_is (2 ^ (16 + i)) (pow-lt {j = 32} (omega arith)))
