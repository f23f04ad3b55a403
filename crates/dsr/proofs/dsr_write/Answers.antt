-- Settings that are no octets are the writer's refusal 1; of all others the writer's answer in numbers. Assumes nothing.
use Rattle.std.proofs.Common.{ap, ◌∙◌}
use Rattle.settings.specs.declared.Settings.{Settings}
use Rattle.writer.specs.Writing.{Outcome, writing, number_of, place_of}
use Rattle.entries.specs.Laws.{unfit_refused, written_as}
use Rattle.dsr.proofs.dsr_write.Goals as goal
use Rattle.dsr.proofs.dsr_write.Goals.{in-Some, in-None}

pub returns : goal.returns
returns c =
    elim c.match-settings_of.branch [
      | in-Some w ↦
          let e = w.in-Some.ensures.1 in
          written_as (c.tell_written.ensures.0 ∙ (ap number_of w.written-is ∙ (w.write-written.ensures.number ∙ ap (λ (s : Settings). number_of (writing s c.args.indices.now c.args.out.now).answer) e)))
          (w.out-is ∙ (ap (λ (o : Outcome). o.output) w.write-written.ensures.all ∙ ap (λ (s : Settings). (writing s c.args.indices.now c.args.out.now).output) e))
          (c.tell_written.ensures.1 ∙ (ap place_of w.written-is ∙ (w.write-written.ensures.place ∙ ap (λ (s : Settings). place_of (writing s c.args.indices.now c.args.out.now).answer) e)))
      | in-None w ↦
          rw w.out-is
          (unfit_refused c.args.rate c.args.kind w.in-None.ensures c.args.indices.now c.args.out.now _ _ (c.tell_written.ensures.0 ∙ ap number_of w.written-is) (c.tell_written.ensures.1 ∙ ap place_of w.written-is))
    ]
