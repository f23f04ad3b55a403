-- The report's header notes (01), from the reading of a header, its multiframe and the settled common bits.
-- Assumes nothing.
use Rattle.std.specs.Prelude.{ℕ, ◌+◌, ◌%◌, eqb, Some, None}
use Rattle.lists.specs.Tests.{when}
use Rattle.message.specs.Message.{count_of, common_bits}
use Rattle.header.specs.Types.{Header}

-- 0 clean, 1 or 2 flips mended, 3 lost; a readable one adds 4 if its counter is not (position from 1) mod 16, and 8 if
-- its common bits differ from the settled, c. k counts from 0
unfoldable pub header_note : ℕ → ℕ → Header → ℕ
header_note c k None = 3
header_note c k (Some d) = d.flips + when (eqb (count_of d.message) ((k + 1) % 16)) 0 4 + when (eqb (common_bits d.message) c) 0 8
