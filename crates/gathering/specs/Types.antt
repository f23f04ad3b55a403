-- How finding the multiframes ends: with so many of them and so many places tested, or with a match too many, at this bit.
-- Assumes nothing.
use Rattle.std.specs.Prelude.{Result, Ok, Err, ℕ}
use Rattle.gathering.specs.declared.Whole.{Whole}
use Rattle.gathering.specs.declared.TooMany.{TooMany}

abbrev pub Gathered : Type 0
Gathered = Result Whole TooMany

abbrev pub whole_of : ℕ → ℕ → Gathered
whole_of count tested = Ok (record { count = count; tested = tested })

abbrev pub too_many_at : ℕ → Gathered
too_many_at place = Err (record { place = place })
