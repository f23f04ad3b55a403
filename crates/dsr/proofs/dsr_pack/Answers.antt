-- Each answer is the definition's, by the tests that led to it. Assumes nothing.
use Rattle.std.proofs.Common.{sym, inl, inr, arith}
use Rattle.entries.specs.Laws.{packs_no_length, packs_no_room, packs_no_wide, packs}
use Rattle.dsr.proofs.dsr_pack.Goals as goal

pub returns-then-indices-ne-INDEX : goal.returns-then-indices-ne-INDEX
returns-then-indices-ne-INDEX c =
    elim c.then-indices-ne-INDEX.either [
      | inl h ↦ packs_no_length c.args.indices.now c.args.stream.now h
      | inr w ↦ packs_no_room c.args.indices.now c.args.stream.now (omega (arith, w.0)) w.1
    ]

pub returns-in-Some : goal.returns-in-Some
returns-in-Some c =
    packs_no_wide c.args.indices.now c.args.stream.now (omega (arith, c.if-indices-ne-INDEX.false)) (omega (arith, c.if-stream-ne-STREAM.false)) _ (sym c.in-Some.ensures) _ c.number.ensures

pub returns-in-None : goal.returns-in-None
returns-in-None c =
    packs c.args.indices.now c.args.stream.now (omega (arith, c.if-indices-ne-INDEX.false)) (omega (arith, c.if-stream-ne-STREAM.false)) (sym c.in-None.ensures) _ c.put_stream.ensures
