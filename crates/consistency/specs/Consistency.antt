-- Inconsistent pairs (01, "Reading" and "Bad pairs"; ES 201 108, (7.2) and (7.3), whose signed difference 02, C-12, makes an absolute one).
-- Codebook and thresholds are lists of signed numbers, a frame a list of seven indices.
-- Assumes nothing.
use Rattle.std.specs.Prelude.{ℕ, zero, suc, ◌+◌, ◌*◌, ◌<◌, List, Bool, true, ℤ, pos, negsuc, nat_abs, ◌-ℤ◌, get_or, leb}
use Rattle.std.specs.Int.Signed.{lt_z}
use Rattle.lists.specs.Tests.{when}
use Rattle.layout.specs.Layout.{frame_indices}
use Rattle.tables.specs.Tables.{Tables, at}

-- how far two values are apart: the absolute value of their exact difference, which may need 33 bits
abbrev pub distance : ℤ → ℤ → ℤ
distance first second = pos (nat_abs (second -ℤ first))

-- the absolute difference exceeds the threshold: a fall counts as much as a rise (02, C-12).
-- The one place that says how two values are compared
abbrev pub exceeding : ℤ → ℤ → ℤ → Bool
exceeding threshold first second = lt_z threshold (distance first second)

-- codebook c begins at 128c (the seventh, c = 6, at 768); entry j is two numbers, its elements 0 and 1
abbrev pub entry_place : ℕ → ℕ → ℕ → ℕ
entry_place c j element = 128 * c + 2 * j + element

-- thresholds 2c and 2c + 1 are for the two elements of codebook c
abbrev pub threshold_place : ℕ → ℕ → ℕ
threshold_place c element = 2 * c + element

-- one element of index pair c, entry i in the first frame and j in the second
abbrev pub element_exceeds : Tables → ℕ → ℕ → ℕ → ℕ → Bool
element_exceeds tables c i j element =
    exceeding (at tables.thresholds (threshold_place c element)) (at tables.codebook (entry_place c i element)) (at tables.codebook (entry_place c j element))

-- an index pair is flagged if either of its two elements exceeds, and counts once if both do
unfoldable pub flagged : Tables → ℕ → ℕ → ℕ → Bool
flagged tables c i j = when (element_exceeds tables c i j 0) true (element_exceeds tables c i j 1)

-- how many of the first n index pairs of frames f and g are flagged
unfoldable pub flags : Tables → List ℕ → List ℕ → ℕ → ℕ
flags tables f g zero = 0
flags tables f g (suc c) =
    when (flagged tables c (get_or f c 0) (get_or g c 0)) (suc (flags tables f g c)) (flags tables f g c)

-- a pair is inconsistent if at least two of its seven index pairs are flagged
unfoldable pub inconsistent : Tables → List ℕ → List ℕ → Bool
inconsistent tables f g = leb 2 (flags tables f g frame_indices)

-- the first six indices of a frame are below 64
abbrev pub InRange : List ℕ → Type 0
InRange f = (k : ℕ) → k < 6 → get_or f k 0 < 64

-- how far element e of index pair c moves from entry i to entry j, up or down
abbrev pub moved : Tables → ℕ → ℕ → ℕ → ℕ → ℕ
moved tables c i j e = nat_abs (at tables.codebook (entry_place c j e) -ℤ at tables.codebook (entry_place c i e))

-- ---- the ends of 32 bits
abbrev pub largest : ℕ
largest = 2147483647

abbrev pub least : ℤ
least = negsuc 2147483647
