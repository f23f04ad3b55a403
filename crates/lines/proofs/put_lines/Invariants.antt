-- `put_lines` meets its contract: each turn puts one line behind those before it. Assumes nothing.
use Rattle.std.specs.Prelude.{◌≡◌, ◌+◌, ◌*◌, ◌≤◌, length, drop}
use Rattle.lists.specs.Rows.{joined}
use Rattle.layout.specs.Layout.{report_octets}
use Rattle.text.specs.Adds.{Adds}
use Rattle.lines.specs.Lines.{most_line, line_of}
use Rattle.lines.proofs.put_lines.Given as goal

abbrev pub invariant-loop-notes : goal.invariant-loop-notes
invariant-loop-notes l = record {
  left : length l.yielded + l.notes-iterator.n ≡ l.multiframes;
  size : l.notes-iterator.iter.size ≡ report_octets;
  rest : l.notes-iterator.iter.rest.now ≡ drop (report_octets * length l.yielded) l.report;
  bound : l.text.end ≤ l.initial.text.end + most_line * length l.yielded;
  put : Adds (joined (line_of l.report) (length l.yielded)) l.initial.text l.text;
}
