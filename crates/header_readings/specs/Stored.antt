-- How the code keeps the readings of headers in an array of numbers. Nothing that 01 says stands here.
-- Assumes nothing.
use Rattle.std.specs.Prelude.{ℕ, ◌+◌, ◌*◌, ◌/◌, ◌%◌, ◌^◌, ◌≤◌, ◌<◌, ◌≡◌, refl, List, eqb, length, get_or, Some, None}
use Rattle.std.proofs.Common.{ap, ◌∙◌, arith, ne_eqb}
use Rattle.lists.specs.Tests.{when}
use Rattle.carrier.specs.Carrier.{word_at, in_places}
use Rattle.lists.specs.Rows.{each, length_each, each_at, same_each}
use Rattle.header.specs.Reading.{mendable, ReadAs, reading}
use Rattle.header.proofs.Laws.{reads}
use Rattle.header.specs.Types.{Header}
use Rattle.header_readings.specs.Readings.{readings}

-- ---- a reading as one number: the message, and above it the flips, of which a lost header has three
abbrev pub packed : Header → ℕ
packed None = 3 * 2 ^ 16
packed (Some d) = d.flips * 2 ^ 16 + d.message

unfoldable pub opened : ℕ → Header
opened x = when (eqb (x / 2 ^ 16) 3) None (Some (record { message = x % 2 ^ 16; flips = x / 2 ^ 16 }))

-- what every reading keeps to
abbrev pub Mended : Header → Type 0
Mended None = Unit
Mended (Some d) = (d.message < 2 ^ 16) × (d.flips ≤ mendable)

pub mended : (w : ℕ) → Mended (reading w)
mended w = from (reading w) (reads w)
  where
    from : (h : Header) → ReadAs w h → Mended h
    from None r = tt
    from (Some d) r = (r.0, r.2)

pub opened_packed : (h : Header) → Mended h → opened (packed h) ≡ h
unfolding opened
opened_packed None h = refl
opened_packed (Some d) h =
    let l = h.0 in
    let n = h.1 in
    let f : (d.flips * 2 ^ 16 + d.message) / 2 ^ 16 ≡ d.flips = omega arith in
    let m : (d.flips * 2 ^ 16 + d.message) % 2 ^ 16 ≡ d.message = omega arith in
    rw (f, m, ne_eqb d.flips 3 (λ e. omega arith))

-- ---- an array of them
unfoldable pub open_all : List ℕ → List Header
open_all l = each (λ k. opened (get_or l k 0)) (length l)

pub length_open : (l : List ℕ) → length (open_all l) ≡ length l
unfolding open_all
length_open l = length_each (λ k. opened (get_or l k 0)) (length l)

abbrev pub pack_all : List ℕ → List ℕ → ℕ → List ℕ
pack_all octets places n = each (λ k. packed (reading (word_at octets (in_places places) k))) n

-- the readings of all headers, stored and found again
pub stored_back : (octets places : List ℕ) → open_all (pack_all octets places (length places)) ≡ readings octets places
unfolding open_all readings
stored_back octets places =
    let f : ℕ → ℕ = λ k. packed (reading (word_at octets (in_places places) k)) in
    let m = length places in
    ap (each (λ k. opened (get_or (each f m) k 0))) (length_each f m)
    ∙ same_each (λ k. opened (get_or (each f m) k 0)) (λ k. reading (word_at octets (in_places places) k)) m (λ k h.
    ap opened (each_at f m k 0 h) ∙ opened_packed (reading (word_at octets (in_places places) k)) (mended (word_at octets (in_places places) k)))
