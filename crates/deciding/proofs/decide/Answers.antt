-- `decide` meets its contract: no multiframe, then what the headers settle, then 17 to 19, and then whether every pair is bad.
-- Assumes nothing.
use mathlib.Core.Path.{ap, sym, ◌∙◌}
use mathlib.Core.List.{List}
use lib.ListN.{length}
use Rattle.std.specs.Prelude.{ℕ, Err}
use Rattle.std.proofs.lemmas.Result.{err_from_is_err_and}
use Rattle.refusals.specs.declared.Reading.TheVariants.{Empty}
use Rattle.carrier.specs.Carrier.{received, pair_count}
use Rattle.bad_pairs.specs.BadPairs.{bad_pairs}
use Rattle.notes.specs.Laws.{length_notes}
use Rattle.tables.specs.Lending.{lent_tables}
use Rattle.deciding.proofs.Steps.{decided_empty, decided_unsettled, decided_settled, refused_early, all_bad_lem, not_all_bad, all_stored}
use Rattle.deciding.proofs.decide.Goals as goal

pub returns-then-count-eq0-clause-answer : goal.returns-then-count-eq0-clause-answer
returns-then-count-eq0-clause-answer c =
    ap (λ (o : List ℕ). Err (Empty (length o))) c.octets.ensures ∙ decided_empty c.args.choices c.args.multiframes.now.octets (lent_tables c.args.tables.now) c.args.index c.args.report c.args.multiframes.now.places (sym c.count-count.ensures ∙ c.if-count-eq0.true)

pub returns-in_default-clause-answer : goal.returns-in_default-clause-answer
returns-in_default-clause-answer c =
    decided_unsettled c.args.choices c.args.multiframes.now.octets (lent_tables c.args.tables.now) c.args.index c.args.report c.args.multiframes.now.places (λ z. c.if-count-eq0.false (c.count-count.ensures ∙ z)) c.read_headers.new.headers
    (all_stored c.args.multiframes.now.octets c.args.multiframes.now.places c.args.headers.now c.read_headers.new.headers c.requires.room.0 c.read_headers.ensures) c.settle.result c.settle.ensures c.in_default.not-Some

pub returns-in_err-early-clause-answer : goal.returns-in_err-early-clause-answer
returns-in_err-early-clause-answer c =
    let p = err_from_is_err_and c.from_residual.result c.from_residual.ensures.1 in rw (p.1, p.2) (decided_settled c.args.choices c.args.multiframes.now.octets (lent_tables c.args.tables.now) c.args.index c.args.report c.args.multiframes.now.places (λ z. c.if-count-eq0.false (c.count-count.ensures ∙ z)) c.read_headers.new.headers
    (all_stored c.args.multiframes.now.octets c.args.multiframes.now.places c.args.headers.now c.read_headers.new.headers c.requires.room.0 c.read_headers.ensures) c.settle.result c.settle.ensures _ _ c.in-Some.is
    (refused_early (length c.args.multiframes.now.places) _ (pair_count c.args.multiframes.now.places) c.args.index c.args.report _ c.early.result (rw c.count-count.ensures at c.early.ensures) _ c.in_err-early.was))

pub returns-then-count_bad-notes-clause-answer : goal.returns-then-count_bad-notes-clause-answer
returns-then-count_bad-notes-clause-answer c =
    decided_settled c.args.choices c.args.multiframes.now.octets (lent_tables c.args.tables.now) c.args.index c.args.report c.args.multiframes.now.places (λ z. c.if-count-eq0.false (c.count-count.ensures ∙ z)) c.read_headers.new.headers
    (all_stored c.args.multiframes.now.octets c.args.multiframes.now.places c.args.headers.now c.read_headers.new.headers c.requires.room.0 c.read_headers.ensures) c.settle.result c.settle.ensures _ _ c.in-Some.is
    (all_bad_lem (length c.args.multiframes.now.places) _ (pair_count c.args.multiframes.now.places) c.args.index c.args.report _ c.early.result (rw c.count-count.ensures at c.early.ensures) c.count_bad.result _ _ c.in_ok-early.was
    (c.count_bad.ensures ∙ ap bad_pairs c.judge.ensures)
    (ap length c.judge.ensures ∙ length_notes (received c.args.multiframes.now.octets c.args.multiframes.now.places) (pair_count c.args.multiframes.now.places) (lent_tables c.args.tables.now)) c.if-count_bad-notes.true)

pub returns-clause-answer : goal.returns-clause-answer
returns-clause-answer c =
    let stored = all_stored c.args.multiframes.now.octets c.args.multiframes.now.places c.args.headers.now c.read_headers.new.headers c.requires.room.0 c.read_headers.ensures in
    decided_settled c.args.choices c.args.multiframes.now.octets (lent_tables c.args.tables.now) c.args.index c.args.report c.args.multiframes.now.places (λ z. c.if-count-eq0.false (c.count-count.ensures ∙ z)) c.read_headers.new.headers
    stored c.settle.result c.settle.ensures _ _ c.in-Some.is
    (not_all_bad (length c.args.multiframes.now.places) _ (pair_count c.args.multiframes.now.places) c.args.index c.args.report _ c.early.result (rw c.count-count.ensures at c.early.ensures) c.count_bad.result _ _ c.in_ok-early.was
    (c.count_bad.ensures ∙ ap bad_pairs c.judge.ensures)
    (ap length c.judge.ensures ∙ length_notes (received c.args.multiframes.now.octets c.args.multiframes.now.places) (pair_count c.args.multiframes.now.places) (lent_tables c.args.tables.now)) c.if-count_bad-notes.false)
