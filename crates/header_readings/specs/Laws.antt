-- What a reader of 01 would ask of the readings of headers.
-- Assumes nothing.
use Rattle.std.specs.Prelude.{ℕ, ◌≡◌, List, length}
use Rattle.lists.specs.Rows.{length_each}
use Rattle.carrier.specs.Carrier.{word_at, in_places}
use Rattle.header.specs.Reading as H
use Rattle.header_readings.specs.Readings.{readings}

-- every header has a reading
pub length_readings : (octets places : List ℕ) → length (readings octets places) ≡ length places
unfolding readings
length_readings octets places = length_each (λ k. H.reading (word_at octets (in_places places) k)) (length places)
