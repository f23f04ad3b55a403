-- `note_stream` meets its contract: each turn stores one note behind those before it. Assumes nothing.
use Prim.Native.Nat.{ℕ}
use mathlib.Core.Path.{◌≡◌, refl, ap, ◌∙◌}
use native.Mathlib.Omega.{arith}
use lib.ListN.{length-set}
use Rattle.lists.specs.Parts.{over, over_none}
use Rattle.lists.specs.Rows.{each_on}
use Rattle.layout.specs.Layout.{multiframe_pairs}
use Rattle.bits.specs.Bits.{bits}
use Rattle.carrier.specs.Carrier.{stream_packet}
use Rattle.notes.specs.Notes.{pair_fails, crc_note, crc_notes}
use Rattle.notes.proofs.Steps.{fails_is}
use Rattle.notes.proofs.note_stream.Goals as goal

pub loop-p-init : goal.loop-p-init
loop-p-init c = (omega arith, refl, over_none _ c.args.first.0)

pub is_right-right-requires : goal.is_right-right-requires
is_right-right-requires c =
    omega (arith, c.requires.0)

pub loop-p-preserved : goal.loop-p-preserved
loop-p-preserved c =
    let packets = stream_packet (bits c.args.stream.now) in (
      omega arith,
      rw length-set c.loop-p.invariant.1,
      each_on c.args.notes.now c.loop-p.notes c.args.first.0 c.loop-p.p (λ p. crc_note (pair_fails packets p)) c.note.result (omega (arith, c.requires.1))
          (c.note.ensures ∙ ap crc_note (fails_is packets c.loop-p.p c.is_right-right.result c.is_right-right.ensures)) c.loop-p.invariant.1 c.loop-p.invariant.2,
    )

pub returns : goal.returns
returns c =
    let e : c.loop-p.p ≡ multiframe_pairs = omega (arith, c.loop-p.invariant.0) in
    c.loop-p.invariant.2 ∙ ap (λ (p : ℕ). over c.args.notes.now c.args.first.0 p (crc_notes (stream_packet (bits c.args.stream.now)) p)) e
