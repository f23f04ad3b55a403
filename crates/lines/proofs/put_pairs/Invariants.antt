-- `put_pairs` meets its contract: each turn puts one note behind those before it. Assumes nothing.
use Rattle.std.specs.Prelude.{◌+◌, ◌*◌, ◌≤◌, get_or}
use Rattle.lists.specs.Rows.{joined}
use Rattle.text.specs.Text.{note_digits, decimal}
use Rattle.text.specs.Adds.{Adds}
use Rattle.lines.proofs.put_pairs.Given as goal

abbrev pub invariant-loop-note : goal.invariant-loop-note
invariant-loop-note l = record {
  bound : l.text.end ≤ l.initial.text.end + note_digits * l.note-index;
  put : Adds (joined (λ p. decimal (get_or l.notes (p + 1) 0)) l.note-index) l.initial.text l.text;
}
