-- `packing::crc_of` meets its contract: five octets of the first frame, then its last four bits and the second frame.
-- Assumes nothing.
use Rattle.std.proofs.Common.{◌∙◌}
use Rattle.packing.proofs.Steps.{crc_law}
use Rattle.packing.proofs.crc_of.Goals as goal

pub returns : goal.returns
returns c =
    let a = c.args in
    c.from.ensures
    ∙ crc_law a.a a.b c.new.result.0 c.octets-first.result.0 c.octets-both.result.0 c.requires c.new.ensures c.octets-first.ensures c.octets-both.ensures
