-- `write` meets its contract: all pairs taken apart, the bad ones replaced, the report laid, and the rest read off. Assumes nothing.
use Prim.Native.Nat.{ℕ, ◌*◌}
use mathlib.Core.Path.{ap, ap₂, ◌∙◌}
use mathlib.Core.List.{List}
use native.Mathlib.Omega.{arith}
use Rattle.lists.specs.Parts.{over}
use Rattle.layout.specs.Layout.{report_octets}
use Rattle.message.specs.declared.Fields.{Fields}
use Rattle.report.specs.Sections.{stored_size, stored_mended, sections_are}
use Rattle.reader.proofs.Steps.{index_is, summary_is}
use Rattle.reader.proofs.write.Goals as goal

pub put_report-requires-clause-reportable : goal.put_report-requires-clause-reportable
put_report-requires-clause-reportable c =
    let h = stored_size c.args.multiframes.now.octets c.args.multiframes.now.places c.args.headers.now c.requires.headers_value.0 in
    (omega (arith, h, c.requires.count.1), omega (arith, h, c.requires.headers_value.1), omega (arith, h, c.requires.places_in_bounds.1))

pub put_report-requires-clause-mended : goal.put_report-requires-clause-mended
put_report-requires-clause-mended c =
    stored_mended c.args.multiframes.now.octets c.args.multiframes.now.places c.args.headers.now c.requires.headers_value.0

pub returns : goal.returns
returns c =
    let a = c.args in
    let stored = c.requires.headers_value.0 in
    let size = c.requires.headers_value.1 in
    let e = index_is a.multiframes.now.octets a.multiframes.now.places a.notes.now a.index.now c.take_all_apart.new.idx c.replace.new.index size c.requires.places_in_bounds.0 c.take_all_apart.ensures c.requires.headers_value.2 c.replace.ensures in
    record {
      answer = rw c.count-m.ensures (summary_is a.multiframes.now.octets a.multiframes.now.places a.notes.now a.common _ _ _ _ a.index.now c.replace.new.index c.requires.count.0 size e (ap (λ (f : Fields). f.settings) c.from-settled.ensures) (rw c.count-m.ensures at c.speech_of.ensures) c.count_bad.ensures (rw c.count-m.ensures at c.end_of.ensures));
      index = e;
      report = c.put_report.ensures ∙ ap₂ (λ (k : ℕ) (l : List ℕ). over a.report.now 0 (report_octets * k) l) (stored_size a.multiframes.now.octets a.multiframes.now.places a.headers.now stored) (sections_are a.multiframes.now.octets a.multiframes.now.places a.headers.now stored a.notes.now a.common);
    }
