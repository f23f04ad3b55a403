-- The words of what finding the multiframes says: how many places were tested, when nothing is found, and which match is one too many.
-- Assumes nothing.
use Prim.Native.Nat.{ℕ, ◌+◌, ◌-◌, ◌*◌, ◌≤◌, ◌<◌}
use Rattle.std.specs.Prelude.{◌≡◌, List, [], ◌∷◌, Bool, true, false, length}
use Rattle.hunt.specs.Hunt.{multiframe_bits, searched, passes, places_left}

-- the last of the places p and then ps
abbrev pub last_of : ℕ → List ℕ → ℕ
last_of p [] = p
last_of p (q ∷ ps) = last_of q ps

module _ (l : List Bool) (least : ℕ) where
  abbrev pub NonePasses : ℕ → Type 0
  NonePasses at = (t : ℕ) → at ≤ t → t + multiframe_bits ≤ searched l → passes least l t ≡ false

  -- PLACES TESTED from bit `at` on: with nothing found, all; else all up to the last multiframe's, but for those inside the multiframes before
  -- it, and all behind it
  abbrev pub Tested : ℕ → ℕ → List ℕ → Type 0
  Tested at n [] = n ≡ places_left l at
  Tested at n (p ∷ ps) = n + (multiframe_bits - 1) * length ps ≡ (last_of p ps + 1 - at) + places_left l (last_of p ps + multiframe_bits)

  -- the end of the last of the places, or `at` if there is none
  abbrev pub end_of : ℕ → List ℕ → ℕ
  end_of at [] = at
  end_of at (p ∷ ps) = end_of (p + multiframe_bits) ps

  -- 15 is for the first whole match behind as many multiframes as may be taken
  pub record Beyond (k at p : ℕ) (places : List ℕ) : Type 0 where
    pub count : length places ≡ k
    pub behind : end_of at places ≤ p
    pub first : (t : ℕ) → end_of at places ≤ t → t < p → passes least l t ≡ false
    pub room : p + multiframe_bits ≤ searched l
    pub matches : passes least l p ≡ true
