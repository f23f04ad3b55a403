-- How the code goes about deciding: what its contracts cite. Nothing that 01 says stands here.
-- Assumes nothing.
use Rattle.std.specs.Prelude.{ℕ, ◌*◌, ◌≡◌, List, ltb, Ok, Err}
use Rattle.lists.specs.Tests.{when}
use Rattle.layout.specs.Layout.{index_octets, report_octets}
use Rattle.refusals.specs.declared.Reading.TheVariants.{Unfit, IndexShort, ReportShort}
use Rattle.unfit.specs.Unfit.{unfit}
use Rattle.deciding.specs.Types.{Verdict}

-- ---- 17, 18 and 19, for which no pair need be judged
unfoldable pub early_verdict : (m index report c : ℕ) → Verdict
early_verdict m index report c =
    when (unfit c) (Err Unfit)
    (when (ltb index (index_octets * m)) (Err (IndexShort (index_octets * m)))
    (when (ltb report (report_octets * m)) (Err (ReportShort (report_octets * m))) (Ok c)))

-- ---- what stands in an array of the code's own where a reading is accepted
abbrev pub Kept : List ℕ → List ℕ → Verdict → Type 0
Kept l m (Err r) = Unit
Kept l m (Ok c) = m ≡ l
