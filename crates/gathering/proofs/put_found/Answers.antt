-- `put_found` meets its contract. Assumes nothing.
use Prim.Native.Nat.{◌*◌}
use native.Mathlib.Omega.{arith}
use lib.ListN.{length-set}
use Rattle.layout.specs.Layout.{multiframe_octets}
use Rattle.bits.specs.Bits.{bits}
use Rattle.bits.proofs.Laws.{length_bits}
use Rattle.hunt.proofs.Laws.{searched_le, searched_lt}
use Rattle.gathering.proofs.Steps.{put_is}
use Rattle.gathering.proofs.put_found.Goals as goal

pub bounds-image-at-2 : goal.bounds-image-at-2
bounds-image-at-2 c = rw length-set (omega arith)

pub overflow_add-place : goal.overflow_add-place
overflow_add-place c = record { fits = omega (arith, searched_lt (bits c.args.octets.now)) }

pub copy-requires : goal.copy-requires
copy-requires c =
    let l = bits c.args.octets.now in
    (omega (arith, searched_le l, length_bits c.args.octets.now), omega (arith, searched_lt l), omega arith, rw (length-set, length-set) (omega arith))

pub returns : goal.returns
returns c =
    put_is c.args.octets.now c.args.image.now _ c.args.place (multiframe_octets * c.args.k.0) (omega arith) c.copy.ensures
