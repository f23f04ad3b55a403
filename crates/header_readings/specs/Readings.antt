-- The headers of the multiframes at places of the octets, read (01, "Headers").
-- Assumes nothing.
use Rattle.std.specs.Prelude.{ℕ, List, length}
use Rattle.lists.specs.Rows.{each}
use Rattle.carrier.specs.Carrier.{word_at, in_places}
use Rattle.header.specs.Reading.{reading}
use Rattle.header.specs.Types.{Header}

-- every header's reading, in order
unfoldable pub readings : List ℕ → List ℕ → List Header
readings octets places = each (λ k. reading (word_at octets (in_places places) k)) (length places)
