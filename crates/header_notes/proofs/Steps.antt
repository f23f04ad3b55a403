-- The steps by which the code notes a header.
-- Assumes nothing.
use Rattle.std.specs.Prelude.{Some}
use Prim.Native.Nat.{ℕ, ◌+◌, ◌%◌}
use mathlib.Core.Path.{◌≡◌}
use lib.Dec.{eqb}
use Rattle.lists.specs.Tests.{when}
use Rattle.message.specs.Message.{count_of, common_bits}
use Rattle.header.specs.declared.Decoded.{Decoded}
use Rattle.header.specs.Types.{Header}
use Rattle.header_notes.specs.HeaderNotes.{header_note}

pub note_sum : (c k s t : ℕ) (d : Decoded) (h : Header) → h ≡ Some d → s ≡ when (eqb (count_of d.message) ((k + 1) % 16)) 0 4 → t ≡ when (eqb (common_bits d.message) c) 0 8
    → d.flips + s + t ≡ header_note c k h
unfolding header_note
note_sum c k s t d h e es et = rw (e, es, et)
