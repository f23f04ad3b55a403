-- `writing_of` and its like give back the case from number and place alone; proofs/Laws.antt shows that they do.
-- Assumes nothing.
use Rattle.std.specs.Prelude.{ℕ, ◌-◌, ◌<◌, eqb}
use Rattle.lists.specs.Tests.{when}
use Rattle.refusals.specs.Refusals.{success, no_such_choice}
use Rattle.refusals.specs.declared.Writing.{Writing}
use Rattle.refusals.specs.declared.Writing.TheVariants as W
use Rattle.refusals.specs.declared.Reading.{Reading}
use Rattle.refusals.specs.declared.Reading.TheVariants as R
use Rattle.refusals.specs.declared.Hunt.{Hunt}
use Rattle.refusals.specs.declared.Hunt.TheVariants as H
use Rattle.refusals.specs.declared.Hunting.{Hunting}
use Rattle.refusals.specs.declared.Hunting.TheVariants as G

-- the number of neither success nor the house, whose smallest is `no_such_choice`
abbrev pub Between : ℕ → Type 0
Between n = (success < n) × (n < no_such_choice)

-- the case that the number n stands for, with the place p
unfoldable pub writing_of : ℕ → ℕ → Writing
writing_of n p =
    when (eqb n 1) W.WrongSettings
    (when (eqb n 2) (W.PartFrame p)
    (when (eqb n 3) (W.TooMany p)
    (when (eqb n 4) (W.WideIndex (record { 0 = p - 1 }))
    (when (eqb n 5) (W.ZeroFrame (record { 0 = p - 1 })) (W.OutputShort p)))))

unfoldable pub reading_of : ℕ → ℕ → Reading
reading_of n p =
    when (eqb n 11) R.WrongTables
    (when (eqb n 10) (R.NegativeThreshold p)
    (when (eqb n 12) (R.Unknown p)
    (when (eqb n 13) (R.CutShort p)
    (when (eqb n 14) (R.Empty p)
    (when (eqb n 15) (R.TooMany p)
    (when (eqb n 16) R.Unsettled
    (when (eqb n 17) R.Unfit (when (eqb n 18) (R.IndexShort p) (when (eqb n 19) (R.ReportShort p) R.AllBad)))))))))

unfoldable pub hunt_of : ℕ → ℕ → ℕ → Hunt
hunt_of n p tested = when (eqb n 21) (H.MatchRange p) (H.Nowhere p tested)

abbrev pub hunting_tested : Hunting → ℕ
hunting_tested (G.Octets r) = 0
hunting_tested (G.MatchRange least) = 0
hunting_tested (G.Nowhere from n) = n
hunting_tested (G.TooMany p) = 0

unfoldable pub hunting_of : ℕ → ℕ → ℕ → Hunting
hunting_of n p tested =
    when (eqb n 15) (G.TooMany p) (when (eqb n 21) (G.MatchRange p) (when (eqb n 22) (G.Nowhere p tested) (G.Octets (reading_of n p))))
