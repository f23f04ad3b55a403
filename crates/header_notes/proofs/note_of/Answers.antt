-- `note_of` meets its contract: a readable header's note is the sum of its flips, 4 and 8. Assumes nothing.
use Prim.Native.Nat.{ℕ, ◌+◌, ◌%◌}
use mathlib.Core.Path.{ap, ◌∙◌}
use lib.Dec.{eqb}
use Rattle.lists.specs.Tests.{when}
use Rattle.message.specs.declared.Fields.{Fields}
use Rattle.header_notes.specs.HeaderNotes.{header_note}
use Rattle.header_notes.proofs.Steps.{note_sum}
use Rattle.header_notes.proofs.note_of.Goals as goal

pub returns-in_default : goal.returns-in_default
unfolding header_note
returns-in_default c = rw c.in_default.is

pub returns : goal.returns
returns c =
    note_sum c.args.common c.args.k.0 _ _ _ _ c.in-Some.is
    (c.unless.ensures.value ∙ ap (λ (n : ℕ). when (eqb n ((c.args.k.0 + 1) % 16)) 0 4) (c.from-2.ensures ∙ ap (λ (f : Fields). f.count) c.from.ensures))
    (c.unless-2.ensures.value ∙ ap (λ (n : ℕ). when (eqb n c.args.common) 0 8) c.common_of.ensures)
