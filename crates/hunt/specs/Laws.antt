-- What a reader of 02 would ask of the hunt: the place found is the smallest that passes, it is refused exactly if there is none, and so
-- many places are tested. proofs/Laws.antt shows that it is so.
-- Assumes nothing.
use Rattle.std.specs.Prelude.{ℕ, suc, ◌+◌, ◌-◌, ◌≤◌, ◌<◌, ◌≡◌, Bool, true, false, List, Err, Ok}
use Rattle.hunt.specs.Hunt.{multiframe_bits, passes, places_left, searched}
use Rattle.hunt.specs.Types.{Hunted}
use Rattle.refusals.specs.declared.Hunt.TheVariants.{MatchRange, Nowhere}

-- the smallest place from `from` on that has a whole multiframe's bits left and passes the test, tested with all before it; or none is one,
-- and all were tested
abbrev pub Says : ℕ → List Bool → ℕ → Hunted → Type 0
Says least l from (Ok w) =
    (from ≤ w.place) × (w.place + multiframe_bits ≤ searched l) × (passes least l w.place ≡ true) × ((t : ℕ) → from ≤ t → t < w.place → passes least l t ≡ false) × (w.tested ≡ suc w.place - from)
Says least l from (Err (Nowhere f n)) =
    (f ≡ from) × ((t : ℕ) → from ≤ t → t + multiframe_bits ≤ searched l → passes least l t ≡ false) × (n ≡ places_left l from)
Says least l from (Err (MatchRange t)) = ⊥
