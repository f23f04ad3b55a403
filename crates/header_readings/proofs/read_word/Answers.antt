-- `read_word` meets its contract: the word is read, and its reading packed. Assumes nothing.
use Rattle.std.proofs.Common.{sym, ap, ◌∙◌, subst}
use Rattle.header_readings.specs.Stored.{packed, Mended, mended}
use Rattle.header_readings.proofs.read_word.Goals as goal

pub pack_reading-requires : goal.pack_reading-requires
pack_reading-requires c = subst Mended (sym c.read.ensures) (mended c.args.word)

pub returns : goal.returns
returns c = c.pack_reading.ensures ∙ ap packed c.read.ensures
