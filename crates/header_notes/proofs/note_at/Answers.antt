-- `note_at` meets its contract: the reading found there has its note. Assumes nothing.
use mathlib.Core.Path.{sym, ap, ◌∙◌, subst}
use Rattle.header.specs.Types.{Header}
use Rattle.header_notes.specs.HeaderNotes.{header_note}
use Rattle.header_readings.specs.Stored.{Mended}
use Rattle.header_notes.proofs.note_at.Goals as goal

pub note_of-requires : goal.note_of-requires
note_of-requires c =
    (subst Mended (sym c.open_reading.ensures) c.requires.mended, c.requires.k_in_bounds.1)

pub returns : goal.returns
returns c =
    c.note_of.ensures ∙ ap (λ (h : Header). header_note c.args.common c.args.k.0 h) c.open_reading.ensures
