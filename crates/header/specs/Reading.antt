-- What a received header is read as (01, "Headers"; where this departs from ES 201 108, which claims that three flips can be mended: the
-- printed code has words six bits apart, so two can be mended and three cannot).
-- Assumes nothing.
use Rattle.std.specs.Prelude.{◌≡◌, ℕ, zero, suc, ◌^◌, ◌≤◌, ◌<◌, leb, Some, None}
use Rattle.lists.specs.Tests.{when}
use Rattle.header_code.specs.Code.{flips_to}
use Rattle.header.specs.declared.Decoded.{Decoded}
use Rattle.header.specs.Types.{Header}
pub mod Laws
pub mod Search
pub mod Examples

-- as many flips as are mended: two, since three could come from either of two codewords
abbrev pub mendable : ℕ
mendable = 2

-- a word taken as the codeword of a message: the one place that says what is known of a header that is read
abbrev pub decoded_as : ℕ → ℕ → Decoded
decoded_as w m = record { message = m; flips = flips_to w m }

-- as the codeword that differs from the word in at most `most` bits, and lost exactly if no codeword does
abbrev pub ReadUpTo : ℕ → ℕ → Header → Type 0
ReadUpTo most w (Some d) = (d.message < 2 ^ 16) × (d ≡ decoded_as w d.message) × (d.flips ≤ most)
ReadUpTo most w None = (m : ℕ) → m < 2 ^ 16 → most < flips_to w m

-- "as the codeword that differs from it in at most two bits, and lost exactly if no codeword does"
abbrev pub ReadAs : ℕ → Header → Type 0
ReadAs = ReadUpTo mendable

-- a message below n whose codeword is that near to the word
pub within : ℕ → ℕ → ℕ → Header
within most w zero = None
within most w (suc m) = when (leb (flips_to w m) most) (Some (decoded_as w m)) (within most w m)

-- the reading of a word that mends at most `most` flips: among all messages
pub reading_up_to : ℕ → ℕ → Header
reading_up_to most w = within most w (2 ^ 16)

-- and the reading of 01
pub reading : ℕ → Header
reading w = reading_up_to mendable w
