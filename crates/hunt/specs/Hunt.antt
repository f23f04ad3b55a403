-- The hunt for a multiframe at any bit (02, C-13). Bits are numbered from 0 as 01 numbers those of a field of octets.
-- Assumes nothing.
use Rattle.std.specs.Prelude.{ℕ, zero, suc, ◌+◌, ◌-◌, ◌*◌, ◌/◌, ◌%◌, ◌^◌, min, List, [], ◌∷◌, Bool, true, false, length, ltb, leb, Some, None, Err}
use Rattle.lists.specs.Tests.{when, both}
use Rattle.lists.specs.Parts.{part}
use Rattle.layout.specs.Layout.{sync_octets, header_octets, multiframe_octets, sync_first, sync_second}
use Rattle.bits.specs.Bits.{field, value, bits}
use Rattle.header.specs.Reading.{reading}
use Rattle.header.specs.Types.{Header}
use Rattle.refusals.specs.declared.Hunt.TheVariants.{MatchRange, Nowhere}
use Rattle.hunt.specs.Types.{Hunted, found_at}

-- ---- sizes in bits: sync 16, header 32, multiframe 1,152
abbrev pub sync_bits : ℕ
sync_bits = 8 * sync_octets

abbrev pub header_bits : ℕ
header_bits = 8 * header_octets

abbrev pub multiframe_bits : ℕ
multiframe_bits = 8 * multiframe_octets

-- ---- the test of a place

-- the sync in sending order
abbrev pub sync : List Bool
sync = bits (sync_first ∷ sync_second ∷ [])

-- "T is the caller's, 12 to 16"; T is called `least` here
abbrev pub fewest_matches : ℕ
fewest_matches = 12

unfoldable pub in_range : ℕ → Bool
in_range least = both (leb fewest_matches least) (leb least sync_bits)

-- 1 if two bits are alike
abbrev pub alike : Bool → Bool → ℕ
alike true true = 1
alike true false = 0
alike false true = 0
alike false false = 1

-- how many of two rows of bits match, place by place
unfoldable pub matches : List Bool → List Bool → ℕ
matches [] m = 0
matches (a ∷ l) [] = 0
matches (a ∷ l) (b ∷ m) = alike a b + matches l m

-- a header is readable if it is not lost
abbrev pub readable : Header → Bool
readable (Some d) = true
readable None = false

-- "at least T of the 16 bits match the sync and the header that follows is readable", of bits l at place t
unfoldable pub passes : ℕ → List Bool → ℕ → Bool
passes least l t =
    both (leb least (matches (part t sync_bits l) sync)) (readable (reading (value (part (t + sync_bits) header_bits l))))

-- ---- the hunt

-- of how many bits: their number has to fit 64 bits, so that octets from the 2^61st on are not searched
abbrev pub searched : List Bool → ℕ
searched l = when (ltb (2 ^ 64 - 8) (length l)) (2 ^ 64 - 8) (length l)

-- the places from t on with a whole multiframe's bits left
abbrev pub places_left : List Bool → ℕ → ℕ
places_left l t = searched l + 1 - (multiframe_bits + t)

-- how many of n places from t on fail the test before the first that passes it: all n if none does
unfoldable pub misses : (ℕ → Bool) → ℕ → ℕ → ℕ
misses test zero t = 0
misses test (suc n) t = when (test t) 0 (suc (misses test n (t + 1)))

-- the place found after so many misses of n places, and how many were tested
unfoldable pub found : ℕ → ℕ → ℕ → Hunted
found from n k = when (ltb k n) (found_at (from + k) (k + 1)) (Err (Nowhere from n))

abbrev pub hunted_from : List Bool → ℕ → ℕ → Hunted
hunted_from l from least = found from (places_left l from) (misses (passes least l) (places_left l from) from)

-- the hunt of octets. 21: T outside 12 to 16. 22: no such place
unfoldable pub hunted : List ℕ → ℕ → ℕ → Hunted
hunted octets from least = when (in_range least) (hunted_from (bits octets) from least) (Err (MatchRange least))

-- ---- how the code tests a place: by the numbers of the sixteen bits and of the 32 behind them
unfoldable pub head_passes : ℕ → ℕ → ℕ → Bool
head_passes least a b = both (leb least (matches (field sync_bits a) sync)) (readable (reading b))

-- ---- how the code passes over places that are far from a sync, eight at once (the answer is the same: `seek`'s contract does not speak of it)
abbrev pub at_once : ℕ
at_once = 8

-- the fewest bits that do not match the sync at the first n places of a word, each one bit further; all sixteen where there is no place
unfoldable pub fewest_off : ℕ → ℕ → ℕ
fewest_off zero head = sync_bits
fewest_off (suc n) head = min (fewest_off n head) (sync_bits - matches (field sync_bits (head / 2 ^ n % 2 ^ sync_bits)) sync)

-- eight places or more are left, and none of the first eight has enough
unfoldable pub all_far : ℕ → ℕ → ℕ → Bool
all_far least left head = both (leb at_once left) (ltb sync_bits (least + fewest_off at_once head))
