-- `take_stream_apart` meets its contract: each turn lays one pair's frames behind those before it. Assumes nothing.
use Prim.Native.Nat.{ℕ, ◌+◌, ◌*◌}
use mathlib.Core.Path.{◌≡◌, refl, ap, ◌∙◌}
use native.Mathlib.Omega.{arith}
use lib.ListN.{length}
use Rattle.lists.specs.Parts.{over, over_none}
use Rattle.lists.specs.Rows.{joined, joined_on}
use Rattle.layout.specs.Layout.{pair_indices, multiframe_pairs}
use Rattle.bits.specs.Bits.{bits}
use Rattle.carrier.specs.Carrier.{stream_packet}
use Rattle.carrier.specs.Laws.{packet_inside}
use Rattle.notes.specs.Notes.{frames_of, all_frames}
use Rattle.notes.specs.Laws.{length_frames}
use Rattle.notes.proofs.Steps.{put_is}
use Rattle.notes.proofs.take_stream_apart.Goals as goal

pub loop-q-init : goal.loop-q-init
loop-q-init c = (omega arith, refl, over_none _ (pair_indices * c.args.first.0))

pub take_apart-requires : goal.take_apart-requires
take_apart-requires c =
    (packet_inside c.loop-q.q (length c.args.stream.now) c.requires.0, omega (arith, c.requires.1, c.loop-q.invariant.1))

pub loop-q-preserved : goal.loop-q-preserved
loop-q-preserved c =
    let packets = stream_packet (bits c.args.stream.now) in
    (omega arith, c.take_apart.auto.idx ∙ c.loop-q.invariant.1, joined_on c.args.idx.now c.loop-q.idx (pair_indices * c.args.first.0) c.loop-q.q (frames_of packets) pair_indices c.take_apart.new.idx (λ k h. length_frames packets k) (omega (arith, c.requires.1)) c.loop-q.invariant.2 (put_is packets c.loop-q.q c.loop-q.idx c.take_apart.new.idx (pair_indices * c.args.first.0 + pair_indices * c.loop-q.q) c.take_apart.ensures))

pub returns : goal.returns
unfolding all_frames
returns c =
    let e : c.loop-q.q ≡ multiframe_pairs = omega (arith, c.loop-q.invariant.0) in
    c.loop-q.invariant.2 ∙ ap (λ (p : ℕ). over c.args.idx.now (pair_indices * c.args.first.0) (pair_indices * p) (joined (frames_of (stream_packet (bits c.args.stream.now))) p)) e
