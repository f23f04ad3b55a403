-- `take_all_apart` meets its contract: each turn lays the frames of one stream behind those before it. Assumes nothing.
use Rattle.std.proofs.Common.{ℕ, ◌≡◌, ◌*◌, ap, ◌∙◌, arith, length}
use Rattle.lists.specs.Parts.{over, over_none}
use Rattle.layout.specs.Layout.{pair_indices, first_pair}
use Rattle.carrier.specs.Carrier.{received}
use Rattle.notes.specs.Notes.{all_frames}
use Rattle.notes.proofs.Steps.{laid_more}
use Rattle.notes.proofs.take_all_apart.Goals as goal

pub loop-k-init : goal.loop-k-init
unfolding all_frames
loop-k-init c = over_none _ 0

pub take_stream_apart-requires : goal.take_stream_apart-requires
take_stream_apart-requires c = (omega (arith, c.stream.ensures.whole), omega arith)

pub loop-k-preserved : goal.loop-k-preserved
loop-k-preserved c =
    let m = c.args.multiframes.now in
    laid_more m.octets m.places c.loop-k.k c.first_pair-first.result.0 c.first_pair-first.ensures c.stream.result.now c.stream.ensures.value c.args.idx.now c.loop-k.idx c.take_stream_apart.new.idx (omega arith)
    c.loop-k.invariant c.take_stream_apart.ensures

pub returns : goal.returns
returns c =
    let m = c.args.multiframes.now in
    let e : c.loop-k.k ≡ length m.places = omega arith in
    c.loop-k.invariant ∙ ap (λ (k : ℕ). over c.args.idx.now 0 (pair_indices * first_pair k) (all_frames (received m.octets m.places) (first_pair k))) e
