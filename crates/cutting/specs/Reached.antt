-- Where cutting gets to (01, "Cutting up"), said without the recursion that cuts: a sentence each for the start, a multiframe and an inverse sync.
-- Cutting ends at the octets' end, or with 12, 13 or 15, exactly where what it gets to is what 01 says of that case.
-- Assumes nothing.
use Rattle.std.specs.Prelude.{ℕ, ◌+◌, ◌-◌, ◌*◌, ◌≤◌, ◌<◌, ◌≡◌, List, [], ◌∷◌, length, get_or, ltb}
use Rattle.lists.specs.Tests.{when}
use Rattle.layout.specs.Layout.{multiframe_octets, sync_octets, most_multiframes, sync_first, sync_second, inverse_first, inverse_second}
use Rattle.refusals.specs.declared.Reading.{Reading}
use Rattle.refusals.specs.declared.Reading.TheVariants as R
use Rattle.cutting.specs.declared.Piece.{Piece}
use Rattle.cutting.specs.declared.Piece.TheVariants.{End, Multiframe, Inverse, Unknown, CutShort, TooMany}
use Rattle.cutting.specs.Cutting.{Ending, whole, refused}
use Rattle.cutting.specs.Laws.{Says}

-- ---- 01's sentences

-- "87 B2 with 144 octets there"
abbrev pub MultiframeAt : List ℕ → ℕ → Type 0
MultiframeAt s p = (p + multiframe_octets ≤ length s) × (get_or s p 0 ≡ sync_first) × (get_or s (p + 1) 0 ≡ sync_second)

-- "78 4D"
abbrev pub InverseAt : List ℕ → ℕ → Type 0
InverseAt s p = (p + sync_octets ≤ length s) × (get_or s p 0 ≡ inverse_first) × (get_or s (p + 1) 0 ≡ inverse_second)

-- `Reached s p m`: cutting gets to octet p of s, behind m multiframes. It begins at octet 0; a multiframe is met, if fewer than 255 came before;
-- an inverse sync "is stepped over"
pub data Reached (s : List ℕ) : ℕ → ℕ → Type 0 where
  start : Reached s 0 0
  met : {p m : ℕ} → Reached s p m → m < most_multiframes → MultiframeAt s p → Reached s (p + multiframe_octets) (m + 1)
  stepped : {p m : ℕ} → Reached s p m → InverseAt s p → Reached s (p + sync_octets) m

-- what a piece says (`Says`) of the octets from p on, behind m multiframes
abbrev pub Here : List ℕ → ℕ → ℕ → Piece → Type 0
Here s p m q = Says (length s - p) (get_or s p 0) (get_or s (p + 1) 0) m q

-- cutting gets to octet p, and there, behind as many multiframes as it met, stands q
abbrev pub Meets : List ℕ → ℕ → Piece → Type 0
Meets s p q = (m : ℕ) × (Reached s p m × Here s p m q)

-- why cutting refuses: 12, 13 or 15, and nothing else
abbrev pub Reason : List ℕ → Reading → Type 0
Reason s R.WrongTables = ⊥
Reason s (R.NegativeThreshold k) = ⊥
Reason s (R.Unknown p) = Meets s p Unknown
Reason s (R.CutShort p) = Meets s p CutShort
Reason s (R.Empty n) = ⊥
Reason s (R.TooMany p) = Meets s p TooMany
Reason s R.Unsettled = ⊥
Reason s R.Unfit = ⊥
Reason s (R.IndexShort n) = ⊥
Reason s (R.ReportShort n) = ⊥
Reason s R.AllBad = ⊥

-- "The end of the octets ends the utterance", or a refusal
abbrev pub Told : List ℕ → Ending → Type 0
Told s whole = (m : ℕ) × Reached s (length s) m
Told s (refused r) = Reason s r

-- how many of some places come before octet q
abbrev pub before : ℕ → List ℕ → ℕ
before q [] = 0
before q (x ∷ l) = when (ltb x q) (1 + before q l) (before q l)

-- a piece at which cutting ends
abbrev pub Ends : Piece → Type 0
Ends End = Unit
Ends Multiframe = ⊥
Ends Inverse = ⊥
Ends Unknown = Unit
Ends CutShort = Unit
Ends TooMany = Unit

-- ---- and behind 255 multiframes: a sync every 144 octets is met 255 times, and then is 15 at octet 36,720, though only two octets be left
abbrev pub Synced : List ℕ → ℕ → Type 0
Synced s k = (i : ℕ) → i < k → (get_or s (multiframe_octets * i) 0 ≡ sync_first) × (get_or s (multiframe_octets * i + 1) 0 ≡ sync_second)
