-- `note_crcs` meets its contract: each turn stores the notes of one stream behind those before it. Assumes nothing.
use Rattle.std.proofs.Common.{ℕ, ◌≡◌, ap, ◌∙◌, arith, length}
use Rattle.lists.specs.Parts.{over, over_none}
use Rattle.layout.specs.Layout.{first_pair}
use Rattle.carrier.specs.Carrier.{received, pair_count}
use Rattle.notes.specs.Notes.{crc_notes}
use Rattle.notes.specs.Laws.{over_all}
use Rattle.notes.proofs.Steps.{noted_more}
use Rattle.notes.proofs.note_crcs.Goals as goal

pub loop-k-init : goal.loop-k-init
loop-k-init c = over_none _ 0

pub note_stream-requires : goal.note_stream-requires
note_stream-requires c = (omega (arith, c.stream.ensures.whole), omega arith)

pub loop-k-preserved : goal.loop-k-preserved
loop-k-preserved c =
    let m = c.args.multiframes.now in
    noted_more m.octets m.places c.loop-k.k c.first_pair-first.result.0 c.first_pair-first.ensures c.stream.result.now c.stream.ensures.value c.args.notes.now c.loop-k.notes c.note_stream.new.notes (omega arith)
    c.loop-k.invariant c.note_stream.ensures

pub returns : goal.returns
returns c =
    let m = c.args.multiframes.now in
    let cs = crc_notes (received m.octets m.places) in
    let e : c.loop-k.k ≡ length m.places = omega arith in
    c.loop-k.invariant ∙ ap (λ (k : ℕ). over c.args.notes.now 0 (first_pair k) (cs (first_pair k))) e ∙ over_all c.args.notes.now (cs (pair_count m.places)) (pair_count m.places) c.requires
