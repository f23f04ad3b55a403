-- 01's examples of replacing, for the table of examples. Frames count from 1 in 01 and from 0 here.
-- Assumes nothing.
use Prim.Native.Nat.{ℕ}
use Rattle.std.specs.Prelude.{◌≡◌, refl, List, [], ◌∷◌, map}
use Rattle.replacing.specs.Replacing.{source, source_by, run_start, leading}

-- the frames that stand in for some frames, counted from 1
abbrev pub stand_ins : List ℕ → List ℕ → List ℕ
stand_ins notes frames = map (λ i. Prim.Native.Nat.suc (source notes (Prim.Native.Nat.◌-◌ i 1))) frames

-- one bad pair, frames 3 and 4: 3 becomes 2, 4 becomes 5
pub one_bad : stand_ins (0 ∷ 1 ∷ 0 ∷ []) (3 ∷ 4 ∷ []) ≡ 2 ∷ 5 ∷ []
unfolding source source_by run_start leading
one_bad = refl

-- two, frames 3 to 6: 3 and 4 become 2, 5 and 6 become 7
pub two_bad_lem : stand_ins (0 ∷ 1 ∷ 2 ∷ 0 ∷ []) (3 ∷ 4 ∷ 5 ∷ 6 ∷ []) ≡ 2 ∷ 2 ∷ 7 ∷ 7 ∷ []
unfolding source source_by run_start leading
two_bad_lem = refl
