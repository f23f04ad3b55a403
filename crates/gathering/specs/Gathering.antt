-- The multiframes found (02, C-13): one after another, the bits outside them, and what they are, put together on octets.
-- Assumes nothing.
use Rattle.std.specs.Prelude.{ℕ, zero, suc, ◌+◌, ◌-◌, ◌*◌, ◌≡◌, List, [], ◌∷◌, ◌++◌, Bool, length, take, Err, Ok}
use Rattle.lists.specs.Parts.{part}
use Rattle.layout.specs.Layout.{sync_octets, multiframe_octets, sync_first, sync_second}
use Rattle.bits.specs.Bits.{bits, octets}
use Rattle.hunt.specs.Hunt.{sync_bits, multiframe_bits, searched, hunted_from}
use Rattle.hunt.specs.Types.{Hunted}
use Rattle.refusals.specs.Refusals.{hunt_tested}
use Rattle.gathering.specs.Types.{Gathered, whole_of, too_many_at}

-- ---- the multiframes found

-- no place is left, or there is a match after as many multiframes as an utterance may have, at this bit
pub data Ending : Type 0 where
  whole : Ending
  too_many : ℕ → Ending

-- the places of the multiframes taken, how it ended, and how many places were tested
pub record Gathering : Type 0 where
  pub places : List ℕ
  pub ending : Ending
  pub tested : ℕ

abbrev pub ended : Ending → ℕ → Gathering
ended e n = record { places = []; ending = e; tested = n }

abbrev pub prepend : ℕ → ℕ → Gathering → Gathering
prepend p n w = record { places = p ∷ w.places; ending = w.ending; tested = n + w.tested }

-- how it goes on after a hunt: at the multiframe found, if one more may be taken
abbrev pub step : Hunted → (ℕ → Gathering) → Gathering
step (Ok w) on = prepend w.place w.tested (on w.place)
step (Err r) on = ended whole (hunt_tested r)

abbrev pub last : Hunted → Gathering
last (Ok w) = ended (too_many w.place) w.tested
last (Err r) = ended whole (hunt_tested r)

-- from bit `at` on, where k multiframes more may be taken: behind a multiframe the next place is tested, and from there the hunt goes on
unfoldable pub gathering : List Bool → ℕ → ℕ → ℕ → Gathering
gathering l least zero at = last (hunted_from l at least)
gathering l least (suc k) at = step (hunted_from l at least) (λ p. gathering l least k (p + multiframe_bits))

-- the bits from `from` on that are in none of m multiframes
abbrev pub outside_of : List Bool → ℕ → ℕ → ℕ
outside_of l from m = searched l - from - multiframe_bits * m

-- ---- put together on octets

-- the multiframe at a place, with a whole sync
unfoldable pub aligned : List ℕ → ℕ → List ℕ
aligned s p = sync_first ∷ sync_second ∷ octets (multiframe_octets - sync_octets) (part (p + sync_bits) (8 * (multiframe_octets - sync_octets)) (bits s))

unfoldable pub image_of : List ℕ → List ℕ → List ℕ
image_of s [] = []
image_of s (p ∷ ps) = aligned s p ++ image_of s ps

-- ---- the code's steps
abbrev pub answered_by : ℕ → ℕ → Ending → Gathered
answered_by m n whole = whole_of m n
answered_by m n (too_many p) = too_many_at p

abbrev pub answered : Gathering → Gathered
answered w = answered_by (length w.places) w.tested w.ending

abbrev pub LaidBy : List ℕ → List ℕ → Ending → List ℕ → Type 0
LaidBy s ps whole image = take (multiframe_octets * length ps) image ≡ image_of s ps
LaidBy s ps (too_many p) image = Unit

abbrev pub Laid : List ℕ → Gathering → List ℕ → Type 0
Laid s w image = LaidBy s w.places w.ending image
