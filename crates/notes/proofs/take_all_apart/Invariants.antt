-- `take_all_apart` meets its contract: each turn lays the frames of one stream behind those before it. Assumes nothing.
use Rattle.std.proofs.Common.{◌≡◌, ◌*◌}
use Rattle.lists.specs.Parts.{over}
use Rattle.layout.specs.Layout.{pair_indices, first_pair}
use Rattle.carrier.specs.Carrier.{received}
use Rattle.notes.specs.Notes.{all_frames}
use Rattle.notes.proofs.take_all_apart.Given as goal

abbrev pub invariant-loop-k : goal.invariant-loop-k
invariant-loop-k l =
    l.idx ≡ over l.initial.idx 0 (pair_indices * first_pair l.k) (all_frames (received l.multiframes.octets l.multiframes.places) (first_pair l.k))
