-- `read_admitted` meets its contract: cutting, and then the reading of the multiframes that were cut. Assumes nothing.
use Rattle.std.proofs.Common.{ℕ, ◌≤◌, sym, subst, List, length, replicate}
use Rattle.std.proofs.lemmas.Result.{err_from_is_err_and}
use Rattle.cutting.specs.Cutting.{cutting}
use Rattle.cutting.specs.Laws.{Placed}
use Rattle.cutting.proofs.Laws.{places_placed, at_most_255}
use Rattle.tables.specs.Lending.{lent_tables}
use Rattle.reader.proofs.FirstTests.{not_cut, whole_reading}
use Rattle.reader.proofs.Steps.{cut_whole, cut_refused, front_places}
use Rattle.tables.proofs.AdmittedLaws.{right_passes}
use Rattle.reader.proofs.read_admitted.Goals as goal

pub returns-in_err-count : goal.returns-in_err-count
returns-in_err-count c =
    let a = c.args in
    let p = err_from_is_err_and c.from_residual.result c.from_residual.ensures.1 in
    rw (p.1, p.2) (not_cut a.choices a.octets.now (lent_tables a.tables.now) a.index.now a.report.now (right_passes (lent_tables a.tables.now) c.requires) _
    (cut_refused (cutting a.octets.now) _ (sym c.in_err-count.ensures.answer)))

pub new-multiframes-requires : goal.new-multiframes-requires
new-multiframes-requires c =
    let cut = cutting c.args.octets.now in
    -- cutting met nothing that it refuses, and counted the places, which stand at the front of the array
    let counted = cut_whole cut c.in_ok-count.count (sym c.in_ok-count.ensures.answer) in
    let lent = front_places cut.places (replicate 255 0) c.cut_into.new.places c.in_ok-count.count c.in_ok-count.ensures.places counted.1 in
    subst (Placed c.args.octets.now) (sym lent) (places_placed c.args.octets.now)

pub read_found-requires : goal.read_found-requires
read_found-requires c =
    let cut = cutting c.args.octets.now in
    let counted = cut_whole cut c.in_ok-count.count (sym c.in_ok-count.ensures.answer) in
    let lent = front_places cut.places (replicate 255 0) c.cut_into.new.places c.in_ok-count.count c.in_ok-count.ensures.places counted.1 in
    rw c.new-multiframes.ensures (subst (λ (l : List ℕ). length l ≤ 255) (sym lent) (at_most_255 c.args.octets.now))

pub returns : goal.returns
returns c =
    let a = c.args in
    let cut = cutting a.octets.now in
    let counted = cut_whole cut c.in_ok-count.count (sym c.in_ok-count.ensures.answer) in
    let lent = front_places cut.places (replicate 255 0) c.cut_into.new.places c.in_ok-count.count c.in_ok-count.ensures.places counted.1 in
    let read = rw c.new-multiframes.ensures at c.read_found.ensures in
    whole_reading a.choices a.octets.now (lent_tables a.tables.now) a.index.now a.report.now (right_passes (lent_tables a.tables.now) c.requires) _ _ counted.0 lent read
