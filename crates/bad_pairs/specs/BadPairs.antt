-- Bad pairs (01, "Bad pairs", and the report's pair notes): 0 good, 1 CRC failed, 2 bad otherwise.
-- Pairs run on through all multiframes: one list of notes for a whole utterance.
-- Assumes nothing.
use Rattle.std.specs.Prelude.{ℕ, suc, List, [], ◌∷◌, Bool, true, false, not, get_or, drop, eqb}
use Rattle.lists.specs.Tests.{when}

-- a pair is bad if its note is not 0
abbrev pub bad : ℕ → Bool
bad note = not (eqb note 0)

-- A pair is bad if its CRC fails. An inconsistent pair is bad too if either the next pair's CRC fails or the pair before it is bad
unfoldable pub note_by : Bool → Bool → Bool → Bool → ℕ
note_by before fails inconsistent after = when fails 1 (when inconsistent (when after 2 (when before 2 0)) 0)

-- whether the pair's consistency matters at all
unfoldable pub undecided_by : Bool → Bool → Bool → Bool
undecided_by before fails after = when fails false (when after true before)

-- each pair by the pair before it, its own CRC and consistency, and the next pair's CRC; the last pair has none after it
abbrev pub notes_from : Bool → List Bool → List Bool → List ℕ
notes_from before [] inconsistent = []
notes_from before (f ∷ fs) inconsistent =
    note_by before f (get_or inconsistent 0 false) (get_or fs 0 false) ∷ notes_from (bad (note_by before f (get_or inconsistent 0 false) (get_or fs 0 false))) fs (drop 1 inconsistent)

-- the notes of all pairs, from which CRCs fail and which pairs are inconsistent; the first pair has none before it
abbrev pub notes : List Bool → List Bool → List ℕ
notes fails inconsistent = notes_from false fails inconsistent

-- the number of bad pairs
abbrev pub bad_pairs : List ℕ → ℕ
bad_pairs [] = 0
bad_pairs (n ∷ ns) = when (eqb n 0) (bad_pairs ns) (suc (bad_pairs ns))
