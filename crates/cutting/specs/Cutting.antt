-- Cutting up (01, "Cutting up", and 12, 13 and 15 of the reader's table): the octet places of the multiframes met, in order, and how
-- cutting ended. Places count from 0.
-- Assumes nothing.
use Rattle.std.specs.Prelude.{ℕ, zero, suc, ◌+◌, ◌-◌, List, [], ◌∷◌, length, get_or, ltb, eqb, Ok, Err}
use Rattle.lists.specs.Tests.{when}
use Rattle.lists.specs.Parts.{over}
use Rattle.layout.specs.Layout.{multiframe_octets, sync_octets, most_multiframes, sync_first, sync_second, inverse_first, inverse_second}
use Rattle.refusals.specs.declared.Reading.{Reading}
use Rattle.refusals.specs.declared.Reading.TheVariants as R
use Rattle.cutting.specs.declared.Piece.{Piece}
use Rattle.cutting.specs.declared.Piece.TheVariants.{End, Multiframe, Inverse, Unknown, CutShort, TooMany}
use Rattle.cutting.specs.Types.{Cut}

-- a sync with n octets from it on, after m multiframes: one too many, even a cut one (15); too few octets (13); else a multiframe
unfoldable pub sync_met : ℕ → ℕ → Piece
sync_met n m = when (eqb m most_multiframes) TooMany (when (ltb n multiframe_octets) CutShort Multiframe)

-- a last octet a: a lone 87 or 78 is cut off (13), any other begins nothing known (12)
unfoldable pub last_met : ℕ → Piece
last_met a = when (eqb a sync_first) CutShort (when (eqb a inverse_first) CutShort Unknown)

-- what n octets that begin with a and b begin, after m multiframes
unfoldable pub piece_by : ℕ → ℕ → ℕ → ℕ → Piece
piece_by n a b m =
    when (eqb n 0) End
    (when (eqb n 1) (last_met a)
    (when (eqb a sync_first) (when (eqb b sync_second) (sync_met n m) Unknown)
    (when (eqb a inverse_first) (when (eqb b inverse_second) Inverse Unknown) Unknown)))

abbrev pub piece_of : List ℕ → ℕ → Piece
piece_of l m = piece_by (length l) (get_or l 0 0) (get_or l 1 0) m

-- the end of the octets, or a refusal
pub data Ending : Type 0 where
  whole : Ending
  refused : Reading → Ending

-- the places of the multiframes met, and how cutting ended
pub record Cutting : Type 0 where
  pub places : List ℕ
  pub ending : Ending

abbrev pub ended : Ending → Cutting
ended e = record { places = []; ending = e }

abbrev pub prepend : ℕ → Cutting → Cutting
prepend p w = record { places = p ∷ w.places; ending = w.ending }

-- how cutting goes on at octet p, by the piece that stands there: with `behind` a multiframe, or with `past` an inverse sync
abbrev pub step : Piece → ℕ → Cutting → Cutting → Cutting
step End p behind past = ended whole
step Multiframe p behind past = prepend p behind
step Inverse p behind past = past
step Unknown p behind past = ended (refused (R.Unknown p))
step CutShort p behind past = ended (refused (R.CutShort p))
step TooMany p behind past = ended (refused (R.TooMany p))

-- `walk k l p m`: l is what is left at octet p, of which k octets belong to the piece just met; m multiframes came before.
-- `walk_step` in Laws gives it as 01 says it: on by 144 octets at a multiframe, by 2 at an inverse sync
unfoldable pub walk : ℕ → List ℕ → ℕ → ℕ → Cutting
walk k [] p m = ended whole
walk (suc k) (x ∷ l) p m = walk k l (p + 1) m
walk zero (x ∷ l) p m = step (piece_of (x ∷ l) m) p (walk (multiframe_octets - 1) l (p + 1) (m + 1)) (walk (sync_octets - 1) l (p + 1) m)

abbrev pub cutting : List ℕ → Cutting
cutting l = walk 0 l 0 0

-- the code's answer: how many multiframes, or the refusal
abbrev pub answered_by : ℕ → Ending → Cut
answered_by m whole = Ok m
answered_by m (refused r) = Err r

abbrev pub answered : Cutting → Cut
answered w = answered_by (length w.places) w.ending

-- l with ps from place at on
abbrev pub laid : ℕ → List ℕ → List ℕ → List ℕ
laid at ps l = over l at (length ps) ps
