-- `is_inconsistent` meets its contract: both frames, in fourteen octets of its own. Assumes nothing.
use Rattle.std.proofs.Common.{ℕ, List, ◌≡◌, refl, ap, ◌∙◌, arith, replicate}
use Rattle.lists.specs.Parts.{over}
use Rattle.layout.specs.Layout.{widths, pair_indices, multiframe_of}
use Rattle.bits.specs.Bits.{bits}
use Rattle.carrier.specs.Carrier.{stream_at, in_places, stream_packet, received}
use Rattle.carrier.specs.Laws.{packet_inside}
use Rattle.packet.specs.Packet.{apart}
use Rattle.tables.specs.Lending.{lent_tables}
use Rattle.notes.specs.Notes.{frames_of}
use Rattle.notes.specs.Laws.{over_all}
use Rattle.notes.proofs.Steps.{ranges, inconsistent_is, put_is}
use Rattle.notes.proofs.is_inconsistent.Goals as goal

-- the fourteen octets hold the pair's frames
found : (octets places : List ℕ) (q k : ℕ) (s frames : List ℕ) → k ≡ multiframe_of q → s ≡ stream_at octets (in_places places) k
    → frames ≡ over (replicate pair_indices 0) 0 pair_indices (apart widths (stream_packet (bits s) q)) → frames ≡ frames_of (received octets places) q
found octets places q k s frames ek es ef =
    let packets = received octets places in
    let e = ap (λ (x : List ℕ). over (replicate pair_indices 0) 0 pair_indices (apart widths (stream_packet (bits x) q))) (es ∙ ap (stream_at octets (in_places places)) ek) in
    put_is packets q (replicate pair_indices 0) frames 0 (ef ∙ e) ∙ over_all (replicate pair_indices 0) (frames_of packets q) pair_indices refl

pub take_apart-requires : goal.take_apart-requires
take_apart-requires c = (packet_inside c.args.q.0 _ (omega (arith, c.stream-stream.ensures.whole)), omega arith)

pub is_inconsistent-requires-clause-in_range : goal.is_inconsistent-requires-clause-in_range
is_inconsistent-requires-clause-in_range c =
    let m = c.args.multiframes.now in
    let e = found m.octets m.places c.args.q.0 c.multiframe.result.0 c.stream-stream.result.now c.take_apart.new.idx c.multiframe.ensures c.stream-stream.ensures.value c.take_apart.ensures in
    ranges (received m.octets m.places) c.args.q.0 c.take_apart.new.idx e (lent_tables c.args.tables.now)

pub returns : goal.returns
returns c =
    let m = c.args.multiframes.now in
    let e = found m.octets m.places c.args.q.0 c.multiframe.result.0 c.stream-stream.result.now c.take_apart.new.idx c.multiframe.ensures c.stream-stream.ensures.value c.take_apart.ensures in
    c.is_inconsistent.ensures ∙ inconsistent_is (received m.octets m.places) c.args.q.0 c.take_apart.new.idx e (lent_tables c.args.tables.now)
