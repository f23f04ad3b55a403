-- `judge` meets its contract: no CRC failed (`none_failed`), or each turn judges one pair (`judged_on`). Assumes nothing.
use Rattle.std.proofs.Common.{sym, ap, ◌∙◌, Bool, false, arith}
use Rattle.lists.specs.Tests.{when}
use Rattle.carrier.specs.Carrier.{received, pair_count}
use Rattle.bad_pairs.specs.BadPairs.{bad_pairs}
use Rattle.tables.specs.Lending.{lent_tables}
use Rattle.notes.specs.Notes.{pair_inconsistent, pair_notes}
use Rattle.notes.proofs.Steps.{none_failed, judging_begun, judged_on, judging_done}
use Rattle.notes.proofs.judge.Goals as goal

pub returns-then-count_bad-eq0 : goal.returns-then-count_bad-eq0
returns-then-count_bad-eq0 c =
    let m = c.args.multiframes.now in
    c.requires ∙ none_failed (received m.octets m.places) (pair_count m.places) (lent_tables c.args.tables.now) (sym (ap bad_pairs c.requires) ∙ sym c.count_bad.ensures ∙ c.if-count_bad-eq0.true)

pub loop-q-init : goal.loop-q-init
loop-q-init c = judging_begun _ _ _ _ c.requires

pub is_inconsistent_if-inconsistent-requires : goal.is_inconsistent_if-inconsistent-requires
is_inconsistent_if-inconsistent-requires c = omega (arith, c.loop-q.invariant.size)

pub loop-q-preserved : goal.loop-q-preserved
loop-q-preserved c =
    let m = c.args.multiframes.now in
    let g = judged_on (received m.octets m.places) (lent_tables c.args.tables.now) (pair_count m.places) c.loop-q.notes c.loop-q.before c.loop-q.q c.loop-q.invariant
    (omega (arith, c.loop-q.invariant.size)) c.is_bad-failed.result c.is_inconsistent_if-inconsistent.result c.next_failed-after.result c.note-note.result c.is_bad-failed.ensures c.next_failed-after.ensures
    (c.is_inconsistent_if-inconsistent.ensures ∙ ap (λ (t : Bool). when t (pair_inconsistent (received m.octets m.places) (lent_tables c.args.tables.now) c.loop-q.q) false) c.undecided-asked.ensures) c.note-note.ensures in
    rw c.is_bad-before.ensures g

pub returns : goal.returns
unfolding pair_notes
returns c = judging_done _ _ _ _ _ _ c.loop-q.invariant (omega (arith, c.loop-q.invariant.size, c.loop-q.invariant.within))
