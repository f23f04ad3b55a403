-- SETTINGS BEFORE THE END, as a caller in C has them (02, C-11): where dsr_read answers 0, what dsr_settle answers by the same
-- choice, said in the numbers of dsr.h.
-- Assumes nothing.
use Rattle.std.specs.Prelude.{ℕ, ◌≤◌, ◌≡◌, get_or, Some}
use mathlib.Core.List.{List}
use Rattle.choices.specs.declared.Choices.{Choices}
use Rattle.tables.specs.Tables.{Tables}
use Rattle.entries.specs.Entries.{dsr_read}
use Rattle.entries.specs.Settle.{dsr_settle}

module _ (octets answer : List ℕ) (place : ℕ) where
  -- AS dsr_read: 0 too, with its rate and type
  module _ (ch : Choices) (tables : Tables) (index report six : List ℕ) (at : ℕ) where
    pub record AsRead : Type 0 where
      pub number : (dsr_settle octets (Some ch) answer place).number ≡ 0
      pub rate : get_or (dsr_settle octets (Some ch) answer place).answer 0 0 ≡ get_or (dsr_read octets (Some ch) tables index report six at).answer 0 0
      pub type : get_or (dsr_settle octets (Some ch) answer place).answer 1 0 ≡ get_or (dsr_read octets (Some ch) tables index report six at).answer 1 0
      -- of as many multiframes or fewer
      pub multiframes : get_or (dsr_settle octets (Some ch) answer place).answer 2 0 ≤ get_or (dsr_read octets (Some ch) tables index report six at).answer 2 0
