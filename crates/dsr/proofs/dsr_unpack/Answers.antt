-- Each answer is the definition's, by the tests that led to it. Assumes nothing.
use Rattle.std.proofs.Common.{inl, inr, arith}
use Rattle.entries.specs.Laws.{unpacks_no_stream, unpacks_no_indices, unpacks_no_notes, unpacks}
use Rattle.dsr.proofs.dsr_unpack.Goals as goal

pub returns-then-stream-ne-STREAM : goal.returns-then-stream-ne-STREAM
returns-then-stream-ne-STREAM c =
    elim c.then-stream-ne-STREAM.either [
      | inl h ↦ unpacks_no_stream c.args.stream.now c.args.indices.now c.args.notes.now h
      | inr (inl w) ↦ unpacks_no_indices c.args.stream.now c.args.indices.now c.args.notes.now w.0 w.1
      | inr (inr (e, g, h)) ↦ unpacks_no_notes c.args.stream.now c.args.indices.now c.args.notes.now e g h
    ]

pub returns : goal.returns
returns c =
    unpacks c.args.stream.now c.args.indices.now c.args.notes.now (omega arith) (omega arith) (omega arith) _ _ c.take_stream_apart.ensures c.note_stream.ensures
