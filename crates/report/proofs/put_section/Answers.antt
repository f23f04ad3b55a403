-- `put_section` meets its contract: a header note, and twelve notes behind it. Assumes nothing.
use Prim.Native.Nat.{◌+◌, ◌*◌}
use mathlib.Core.Path.{ap, ◌∙◌}
use native.Mathlib.Omega.{arith}
use Rattle.lists.specs.Parts.{over, lent, came_back}
use Rattle.layout.specs.Layout.{multiframe_pairs, report_octets}
use Rattle.report.proofs.Steps.{section_is}
use Rattle.report.proofs.put_section.Goals as goal

pub returns : goal.returns
returns c =
    let at = report_octets * c.args.k.0 + 1 in
    section_is c.args.headers.now c.args.notes.now c.args.report.now _ c.args.common c.args.k.0 c.note_at.result c.first_pair-first.result.0
    (omega (arith, c.requires.k_in_bounds.0, c.requires.k_in_bounds.1.2)) c.note_at.ensures c.first_pair-first.ensures
    (came_back at multiframe_pairs _ _ ∙ ap (over _ at multiframe_pairs) (c.copy_from_slice.ensures.after ∙ lent c.args.notes.now c.first_pair-first.result.0 multiframe_pairs))
