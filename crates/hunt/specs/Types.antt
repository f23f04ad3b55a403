-- What a hunt answers: the place found, with how many places were tested, or why nothing is found.
-- Assumes nothing.
use Rattle.std.specs.Prelude.{Result, Ok, ℕ}
use Rattle.refusals.specs.declared.Hunt.{Hunt}
use Rattle.hunt.specs.declared.Found.{Found}

abbrev pub Hunted : Type 0
Hunted = Result Found Hunt

-- found at this bit, after so many places were tested, it among them
abbrev pub found_at : ℕ → ℕ → Hunted
found_at place tested = Ok (record { place = place; tested = tested })
