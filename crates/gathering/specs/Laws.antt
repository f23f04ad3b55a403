-- What a reader of 02 would ask of finding the multiframes: the words of its laws.
-- Assumes nothing.
use Prim.Native.Nat.{ℕ, ◌+◌, ◌≤◌, ◌<◌}
use Rattle.std.specs.Prelude.{◌≡◌, ◌⊎◌, Bool, true}
use mathlib.Core.List.{List, [], ◌∷◌}
use Rattle.hunt.specs.Hunt.{multiframe_bits, searched, passes}
use Rattle.gathering.specs.Gathering.{Ending, whole, too_many}

-- some place of the list is t
abbrev pub Among : ℕ → List ℕ → Type 0
Among t [] = ⊥
Among t (p ∷ ps) = (p ≡ t) ⊎ Among t ps

-- a multiframe taken at an earlier place reaches beyond t
abbrev pub Overlapped : ℕ → List ℕ → Type 0
Overlapped t [] = ⊥
Overlapped t (p ∷ ps) = ((p < t) × (t < p + multiframe_bits)) ⊎ Overlapped t ps

-- it ended because no place is left
abbrev pub Ends : Ending → Type 0
Ends whole = Unit
Ends (too_many p) = ⊥

-- ---- the multiframes taken stand apart, inside the bits searched, and pass the test
abbrev pub Apart : List Bool → ℕ → ℕ → List ℕ → Type 0
Apart l least at [] = Unit
Apart l least at (p ∷ ps) = (at ≤ p) × (p + multiframe_bits ≤ searched l) × (passes least l p ≡ true) × Apart l least (p + multiframe_bits) ps
