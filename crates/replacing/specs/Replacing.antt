-- Replacing (01, "Replacing"): the frame that stands in for each frame of an utterance, and the index octets after replacing.
-- Notes are those of all pairs, 0 for a good one. Frames and pairs count from 0.
-- Assumes nothing.
use Rattle.std.specs.Prelude.{ℕ, zero, suc, ◌+◌, ◌-◌, ◌*◌, ◌/◌, ◌%◌, List, [], ◌∷◌, length, get_or, drop, ltb, eqb}
use Rattle.lists.specs.Tests.{when}
use Rattle.lists.specs.Rows.{each}
use Rattle.layout.specs.Layout.{frame_indices, pair_frames, pair_of, first_frame}

-- the first pair of the run of bad pairs that reaches up to pair q
unfoldable pub run_start : List ℕ → ℕ → ℕ
run_start notes zero = 0
run_start notes (suc q) = when (eqb (get_or notes q 0) 0) (suc q) (run_start notes q)

-- how many of the notes at the front are bad
unfoldable pub leading : List ℕ → ℕ
leading [] = 0
leading (n ∷ ns) = when (eqb n 0) 0 (suc (leading ns))

-- the first good pair from q on, or the number of pairs
abbrev pub run_end : List ℕ → ℕ → ℕ
run_end notes q = q + leading (drop q notes)

-- in the run of the bad pairs a to b - 1, of so many pairs: the last frame before it, and the first after it
abbrev pub frame_before : ℕ → ℕ
frame_before a = first_frame a - 1

abbrev pub frame_after : ℕ → ℕ
frame_after b = first_frame b

-- the frame behind its first half: B pairs have 2B frames
abbrev pub middle_frame : ℕ → ℕ → ℕ
middle_frame a b = first_frame a + (b - a)

-- In a run of B bad pairs the first B frames become the good frame before the run, the last B the good frame after it.
-- At the start of an utterance all take the frame after; at the end, the one before (house)
unfoldable pub source_by : ℕ → ℕ → ℕ → ℕ → ℕ
source_by a b pairs i =
    when (eqb a 0) (frame_after b)
    (when (eqb b pairs) (frame_before a)
    (when (ltb (i - first_frame a) (b - a)) (frame_before a) (frame_after b)))

-- the frame that stands in for frame i: itself in a good pair
unfoldable pub source : List ℕ → ℕ → ℕ
source notes i = when (eqb (get_or notes (pair_of i) 0) 0) i (source_by (run_start notes (pair_of i)) (run_end notes (pair_of i)) (length notes) i)

-- octet t of the index octets, seven a frame, is taken from this octet
abbrev pub taken : List ℕ → ℕ → ℕ
taken notes t = frame_indices * source notes (t / frame_indices) + t % frame_indices

-- how many index octets so many pairs have
abbrev pub pairs_octets : ℕ → ℕ
pairs_octets pairs = frame_indices * (pair_frames * pairs)

-- the index octets of all frames in order, after replacing
unfoldable pub replaced : List ℕ → List ℕ → List ℕ
replaced notes index = each (λ t. get_or index (taken notes t) 0) (pairs_octets (length notes))
