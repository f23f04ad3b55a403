-- How the code goes about replacing, octet by octet: what its private functions do to the index octets. Nothing outside cites this.
-- Assumes nothing.
use Rattle.std.specs.Prelude.{ℕ, ◌+◌, ◌*◌, ◌/◌, ◌%◌, ◌≤◌, ◌<◌, ◌≡◌, List, length, get_or}
use Rattle.layout.specs.Layout.{frame_indices}
use Rattle.replacing.specs.Replacing.{source_by, pairs_octets}

-- m is l with octets x to y - 1 taken from elsewhere in l, octet t from place `from t`
pub record Changed (l m : List ℕ) (x y : ℕ) (from : ℕ → ℕ) : Type 0 where
  pub same : length m ≡ length l
  pub before : (t : ℕ) → t < x → get_or m t 0 ≡ get_or l t 0
  pub inside : (t : ℕ) → x ≤ t → t < y → get_or m t 0 ≡ get_or l (from t) 0
  pub behind : (t : ℕ) → y ≤ t → get_or m t 0 ≡ get_or l t 0

-- frames first to past - 1 taken from one frame
abbrev pub Spread : List ℕ → List ℕ → ℕ → ℕ → ℕ → Type 0
Spread l m frame first past = Changed l m (frame_indices * first) (frame_indices * past) (λ t. frame_indices * frame + t % frame_indices)

-- the run of bad pairs a to b - 1 taken from the frames around it
abbrev pub Filled : List ℕ → List ℕ → ℕ → ℕ → ℕ → Type 0
Filled l m a b pairs = Changed l m (pairs_octets a) (pairs_octets b) (λ t. frame_indices * source_by a b pairs (t / frame_indices) + t % frame_indices)
