-- `read_found` meets its contract: an array of 255 headers and one of 3,060 notes have room for every utterance, what is accepted is ready
-- to be written, and a refusal has written nothing. Assumes nothing.
use Prim.Native.Nat.{◌*◌, ◌≤◌}
use mathlib.Core.Path.{◌≡◌, sym, ap, ◌∙◌, subst}
use native.Mathlib.Omega.{arith}
use lib.ListN.{length, drop, replicate}
use lib.Seq.{take_at, length-take-le}
use Rattle.std.proofs.lemmas.Result.{err_from_is_err_and}
use Rattle.bad_pairs.specs.Laws.{Good}
use Rattle.carrier.specs.Carrier.{received, pair_count}
use Rattle.notes.specs.Laws.{length_notes}
use Rattle.tables.specs.Lending.{lent_tables}
use Rattle.reader.proofs.Steps.{ready, finished_refused, finished_read}
use Rattle.reader.proofs.read_found.Goals as goal

pub write-requires : goal.write-requires
write-requires c =
    let a = c.args in
    let m = a.multiframes.now in
    let n = c.count-m.result in
    let few : n ≤ 255 = omega arith in
    let h : 12 * n ≤ 3060 = omega arith in
    let headers_size : length c.decide.new.headers ≡ n = c.decide.auto.headers ∙ length-take-le n (replicate 255 0) few in
    let notes_size : length c.decide.new.notes ≡ 12 * n = c.decide.auto.notes ∙ length-take-le (12 * n) (replicate 3060 0) h in
    let r = ready a.choices m.octets (lent_tables a.tables.now) (length a.index.now) (length a.report.now) m.places _ (sym c.in_ok-common.ensures.answer) in
    let eh = take_at c.decide.new.headers (drop n (replicate 255 0)) _ headers_size ∙ c.in_ok-common.ensures.headers in
    let en = take_at c.decide.new.notes (drop (12 * n) (replicate 3060 0)) _ notes_size ∙ c.in_ok-common.ensures.notes in
    record {
      count = (r.some, c.requires);
      headers_value = (eh, ap length en ∙ length_notes (received m.octets m.places) (pair_count m.places) (lent_tables a.tables.now), subst Good (sym en) r.good);
      places_in_bounds = (r.index_room, r.report_room);
    }

pub returns-in_err-common : goal.returns-in_err-common
returns-in_err-common c =
    let a = c.args in
    let m = a.multiframes.now in
    let p = err_from_is_err_and c.from_residual.result c.from_residual.ensures.1 in
    rw (p.1, p.2) (finished_refused m.octets (lent_tables a.tables.now) a.index.now a.report.now m.places _ _ (sym c.in_err-common.ensures.answer))

pub returns : goal.returns
returns c =
    let a = c.args in
    let m = a.multiframes.now in
    let n = c.count-m.result in
    let h : 12 * n ≤ 3060 = omega arith in
    let notes_size : length c.decide.new.notes ≡ 12 * n = c.decide.auto.notes ∙ length-take-le (12 * n) (replicate 3060 0) h in
    let en = take_at c.decide.new.notes (drop (12 * n) (replicate 3060 0)) _ notes_size ∙ c.in_ok-common.ensures.notes in
    finished_read m.octets (lent_tables a.tables.now) a.index.now a.report.now m.places _ _ c.write.result c.write.new.index c.write.new.report _
    (sym c.in_ok-common.ensures.answer) en c.write.ensures.answer c.write.ensures.index c.write.ensures.report
