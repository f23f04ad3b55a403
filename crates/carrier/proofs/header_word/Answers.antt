-- `header_word` meets its contract: the low half of the eight octets behind the sync. Assumes nothing.
use Rattle.carrier.specs.Laws.{low_half, word_is}
use Rattle.carrier.proofs.header_word.Goals as goal

pub overflow_cast-result : goal.overflow_cast-result
overflow_cast-result c =
    record { fits = low_half c.word.result }

pub returns : goal.returns
returns c =
    word_is _ c.args.place c.word.result c.requires c.word.ensures
