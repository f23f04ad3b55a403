-- What a received header is read as: a codeword's message and flips, or nothing, which is lost.
-- Assumes nothing.
use Rattle.std.specs.Prelude.{Option}
use Rattle.header.specs.declared.Decoded.{Decoded}

abbrev pub Header : Type 0
Header = Option Decoded
