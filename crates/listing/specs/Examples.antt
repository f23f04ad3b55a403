-- A literal listing: of 01's empty input.
-- Assumes nothing.
use Rattle.std.specs.Prelude.{◌≡◌, refl, List, [], ◌∷◌, ℕ, ◌*◌, replicate, Err}
use Rattle.std.proofs.Common.{sym, ap, ◌∙◌}
use Rattle.layout.specs.Layout.{most_multiframes, index_octets, report_octets}
use Rattle.cutting.specs.Cutting.{walk}
use Rattle.refusals.specs.declared.Reading.TheVariants.{Empty}
use Rattle.deciding.specs.Deciding.{whole_verdict}
use Rattle.reader.specs.Reading.{Outcome, outcome}
use Rattle.reader.proofs.FirstTests.{whole_reading}
use Rattle.last_line.specs.Examples.{empty_refused}
use Rattle.listing.specs.Listing.{listed, listing}
use Rattle.choices.specs.Choices.{by_one_header}
use Rattle.tables.specs.Tables.{zero_tables}
use Rattle.tables.proofs.AdmittedLaws.{zero_right, right_passes}

-- "refused 14 0"
pub empty_listed : listing [] ≡ 114 ∷ 101 ∷ 102 ∷ 117 ∷ 115 ∷ 101 ∷ 100 ∷ 32 ∷ 49 ∷ 52 ∷ 32 ∷ 48 ∷ 10 ∷ []
unfolding listing whole_verdict walk
empty_listed =
    let index : List ℕ = replicate (index_octets * most_multiframes) 0 in
    let report : List ℕ = replicate (report_octets * most_multiframes) 0 in
    ap (λ (o : Outcome). listed o.report o.answer)
    (sym (whole_reading by_one_header [] zero_tables index report (right_passes zero_tables zero_right)
    (outcome (Err (Empty 0)) index report) [] refl refl refl))
    ∙ empty_refused
