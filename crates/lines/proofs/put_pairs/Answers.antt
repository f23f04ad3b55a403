-- `put_pairs` meets its contract: each turn puts one note behind those before it. Assumes nothing.
use Rattle.std.specs.Prelude.{ℕ, ◌≡◌, ◌+◌, ◌<◌, get_or}
use Rattle.std.proofs.Common.{arith, subst}
use Rattle.lists.specs.Rows.{joined}
use Rattle.layout.specs.Layout.{multiframe_pairs}
use Rattle.text.specs.Text.{decimal}
use Rattle.text.specs.Adds.{Adds}
use Rattle.text.proofs.Steps.{adds_none, adds_next}
use Rattle.lines.specs.Lines.{pair_text}
use Rattle.lines.proofs.Steps.{length_behind, behind_at}
use Rattle.lines.proofs.put_pairs.Goals as goal

pub loop-note-init : goal.loop-note-init
loop-note-init c = record { bound = omega arith; put = adds_none c.args.text.now (omega arith) }

pub put_note-requires : goal.put_note-requires
put_note-requires c = omega (arith, length_behind c.args.notes.now c.requires.0, c.loop-note.invariant.put.same_length)

pub loop-note-preserved : goal.loop-note-preserved
loop-note-preserved c =
    let p = c.loop-note.note-index in
    let h : p < multiframe_pairs = omega (arith, length_behind c.args.notes.now c.requires.0) in
    let i = c.loop-note.invariant in
    record {
      bound = omega arith;
      put =
          adds_next (λ k. decimal (get_or c.args.notes.now (k + 1) 0)) p i.put
          (rw (behind_at c.args.notes.now c.requires.0 p h) at c.put_note.ensures.put);
    }

pub returns : goal.returns
unfolding pair_text
returns c =
    let e : c.loop-note.note-index ≡ multiframe_pairs = omega (arith, length_behind c.args.notes.now c.requires.0) in
    record {
      put = subst (λ (k : ℕ). Adds (joined (λ j. decimal (get_or c.args.notes.now (j + 1) 0)) k) c.args.text.now c.loop-note.text) e c.loop-note.invariant.put;
      upper_bound = omega arith;
    }
