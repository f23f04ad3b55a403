-- What the laws of `cutting` are said with: what a piece says of the octets, how places stand, and images of whole multiframes.
-- Assumes nothing.
use Rattle.std.specs.Prelude.{ℕ, zero, suc, ◌+◌, ◌≤◌, ◌<◌, ◌≡◌, ◌⊎◌, List, [], ◌∷◌, ◌++◌, length, get_or}
use Rattle.layout.specs.Layout.{multiframe_octets, sync_octets, most_multiframes, sync_first, sync_second, inverse_first, inverse_second}
use Rattle.cutting.specs.declared.Piece.{Piece}
use Rattle.cutting.specs.declared.Piece.TheVariants.{End, Multiframe, Inverse, Unknown, CutShort, TooMany}
use Rattle.cutting.specs.Cutting.{Cutting}

-- what a piece says of the n octets left, which begin with a and b, and of the m multiframes before
abbrev pub Says : ℕ → ℕ → ℕ → ℕ → Piece → Type 0
Says n a b m End = n ≡ 0
Says n a b m Multiframe = (multiframe_octets ≤ n) × (m ≡ most_multiframes → ⊥) × (a ≡ sync_first) × (b ≡ sync_second)
Says n a b m Inverse = (sync_octets ≤ n) × (a ≡ inverse_first) × (b ≡ inverse_second)
-- 12, "octets at p begin nothing known": neither a sync nor its inverse, and no lone first octet of one
Says n a b m Unknown = (0 < n) × (a ≡ sync_first → (2 ≤ n) × (b ≡ sync_second → ⊥)) × (a ≡ inverse_first → (2 ≤ n) × (b ≡ inverse_second → ⊥))
-- 13, "sync with too few octets, or a lone last 87 or 78"
Says n a b m CutShort =
    (0 < n) × (((n ≡ 1) × ((a ≡ sync_first) ⊎ (a ≡ inverse_first)))
    ⊎ ((2 ≤ n) × (n < multiframe_octets) × (m ≡ most_multiframes → ⊥) × (a ≡ sync_first) × (b ≡ sync_second)))
-- 15, "a sync after 255 multiframes, even a cut one"
Says n a b m TooMany = (0 < n) × (2 ≤ n) × (m ≡ most_multiframes) × (a ≡ sync_first) × (b ≡ sync_second)

-- of the octets s from place q on
abbrev pub Stand : List ℕ → ℕ → List ℕ → Type 0
Stand s q [] = Unit
Stand s q (p ∷ ps) =
    (q ≤ p) × (p + multiframe_octets ≤ length s) × (get_or s p 0 ≡ sync_first) × (get_or s (p + 1) 0 ≡ sync_second) × Stand s (p + multiframe_octets) ps

pub record Sound (s : List ℕ) (q : ℕ) (w : Cutting) : Type 0 where
  pub stand : Stand s q w.places

-- a whole multiframe stands at each of some places
abbrev pub Placed : List ℕ → List ℕ → Type 0
Placed s ps = (k : ℕ) → k < length ps → get_or ps k 0 + multiframe_octets ≤ length s

-- n places from q on, 144 apart
abbrev pub every : ℕ → ℕ → List ℕ
every q zero = []
every q (suc n) = q ∷ every (q + multiframe_octets) n

-- ---- an image with any number of inverse syncs before, between and after its multiframes
pub data Chunk : Type 0 where
  multiframe : List ℕ → Chunk
  inverse : Chunk

-- the octets, the places of the multiframes from place p on, and how many there are
abbrev pub octets_of : List Chunk → List ℕ
octets_of [] = []
octets_of (multiframe f ∷ cs) = f ++ octets_of cs
octets_of (inverse ∷ cs) = inverse_first ∷ inverse_second ∷ octets_of cs

abbrev pub places_of : ℕ → List Chunk → List ℕ
places_of p [] = []
places_of p (multiframe f ∷ cs) = p ∷ places_of (p + multiframe_octets) cs
places_of p (inverse ∷ cs) = places_of (p + sync_octets) cs

abbrev pub Proper : List Chunk → Type 0
Proper [] = Unit
Proper (multiframe f ∷ cs) = (length f ≡ multiframe_octets) × (get_or f 0 0 ≡ sync_first) × (get_or f 1 0 ≡ sync_second) × Proper cs
Proper (inverse ∷ cs) = Proper cs
