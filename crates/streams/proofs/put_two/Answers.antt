-- `streams::put_two` meets its contract: four stores hold the 184 bits of two packets, the third from the half octet on that the second ends with.
-- Assumes nothing.
use Rattle.bits.specs.Bits.{field}
use Rattle.streams.proofs.Steps.{put_two_law}
use Rattle.streams.proofs.put_two.Goals as goal

pub returns : goal.returns
unfolding field
returns c =
    put_two_law c.args.out.now c.args.at c.args.frames.octets.now c.args.q.0 c.pack-a.result.low c.pack-a.result.high c.pack-b.result.low c.pack-b.result.high c.requires.two_packets_in_bounds c.pack-a.ensures.bits c.pack-b.ensures.bits
    c.store.ensures c.store-2.ensures c.store-3.ensures c.store-4.ensures
