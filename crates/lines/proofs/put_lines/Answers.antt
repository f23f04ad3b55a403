-- `put_lines` meets its contract: each turn puts one line behind those before it. Assumes nothing.
use Rattle.std.specs.Prelude.{◌≡◌, ◌+◌, ◌*◌, ℕ, List, ◌∷◌, [], ◌++◌, drop, length}
use Rattle.std.proofs.Common.{arith, sym, ap, ◌∙◌, subst, length-append, length-drop}
use Rattle.std.proofs.Math.Decide.{dec_lt}
use Rattle.layout.specs.Layout.{report_octets}
use Rattle.text.specs.Adds.{Adds}
use Rattle.text.proofs.Steps.{adds_next}
use Rattle.lines.specs.Lines.{line, line_of}
use Rattle.lines.proofs.Steps.{next_part, next_rest}
use Rattle.lines.proofs.put_lines.Goals as goal

pub put_line-requires : goal.put_line-requires
put_line-requires c =
    let i = c.loop-notes.invariant in
    let s = c.in-Some.ensures.steps in
    (s.0.1.1 ∙ i.size, omega (arith, i.left, i.bound, i.put.same_length, s.1, c.requires.1))

pub loop-notes-preserved : goal.loop-notes-preserved
loop-notes-preserved c =
    let i = c.loop-notes.invariant in
    let s = c.in-Some.ensures.steps in
    let k = length c.loop-notes.yielded in
    let n : length (c.loop-notes.yielded ++ c.in-Some.notes ∷ []) ≡ k + 1 = length-append c.loop-notes.yielded (c.in-Some.notes ∷ []) in
    let e : drop (report_octets * k) c.args.report.now ≡ c.in-Some.notes.now ++ c.next.new.self.iter.rest.now = sym i.rest ∙ s.0.1.0 in
    let w : length c.in-Some.notes.now ≡ report_octets = s.0.1.1 ∙ i.size in
    let p = next_part c.args.report.now c.in-Some.notes.now c.next.new.self.iter.rest.now k e w in
    record {
      left = omega (arith, n, i.left, s.1);
      size = s.0.0 ∙ i.size;
      rest = rw n (next_rest c.args.report.now c.in-Some.notes.now c.next.new.self.iter.rest.now k e w);
      bound = omega (arith, n, i.bound, c.put_line.ensures.upper_bound);
      put =
          rw n
          (adds_next (line_of c.args.report.now) k i.put
          (subst (λ (x : List ℕ). Adds (line x) c.loop-notes.text c.put_line.new.text) p c.put_line.ensures.put));
    }

pub returns : goal.returns
returns c =
    let i = c.loop-notes.invariant in
    let k = length c.loop-notes.yielded in
    let e : k ≡ c.args.multiframes =
    elim (dec_lt 0 c.loop-notes.notes-iterator.n) [
      | yes y ↦
          let s = c.in-None.ensures.steps y in
          let l = ap length i.rest ∙ length-drop (report_octets * k) c.args.report.now in
          absurd (omega (arith, s.1.0, l, i.size, i.left, c.requires.0))
      | no y ↦ omega (arith, i.left)
    ] in
    record { put = rw e at i.put; upper_bound = omega (arith, i.bound, e) }
