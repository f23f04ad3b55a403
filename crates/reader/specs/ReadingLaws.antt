-- What an accepted input has, as a record.
-- Assumes nothing.
use Rattle.std.specs.Prelude.{ℕ, List}
use Rattle.std.proofs.Math.Path.{◌≡◌}
use Rattle.std.proofs.Math.ListN.{length}
use Rattle.choices.specs.declared.Choices.{Choices}
use Rattle.tables.specs.Tables.{Tables, RightTables}
use Rattle.cutting.specs.Cutting.{whole, cutting}
use Rattle.header_readings.specs.Readings.{readings}
use Rattle.settling.specs.Settling.{settling}
use Rattle.carrier.specs.Carrier.{pair_count}
use Rattle.bad_pairs.specs.BadPairs.{bad_pairs}
use Rattle.deciding.specs.Laws.{Fitting}
use Rattle.deciding.specs.Deciding.{received_notes}

module _ (ch : Choices) (octets : List ℕ) (tables : Tables) (index report : ℕ) where
  abbrev places : List ℕ
  places = (cutting octets).places

  -- an accepted input, with the settled common bits
  pub record Accepted (c : ℕ) : Type 0 where
    pub right_tables : RightTables tables
    pub uncut : (cutting octets).ending ≡ whole
    pub some : length places ≡ 0 → ⊥
    pub fitting : Fitting (length places) (bad_pairs (received_notes octets places tables)) (pair_count places) index report (settling ch (readings octets places)) c
