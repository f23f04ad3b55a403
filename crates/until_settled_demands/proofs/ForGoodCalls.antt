-- What is refused for good, in the numbers that a caller of dsr_read has: 12 or 15 with that place, and all that was lent as it came.
-- Assumes nothing.
use Rattle.std.specs.Prelude.{ℕ, ◌≤◌, ◌≡◌, List, ◌++◌, length, Some, Err}
use Rattle.choices.specs.declared.Choices.{Choices}
use Rattle.tables.specs.Tables.{Tables, RightTables}
use Rattle.refusals.specs.declared.Reading.TheVariants.{Unknown, TooMany}
use Rattle.until_settled.specs.UntilSettled.{until_settled}
use Rattle.entries.specs.Entries.{answer_numbers, returned, dsr_read}
use Rattle.dsr_demands.specs.Calls.{read_refused}
use Rattle.until_settled_demands.proofs.ForGood.{unknown_for_good, too_many_for_good}

module _ (ch : Choices) (s more : List ℕ) (tables : Tables) (right : RightTables tables) (index report : List ℕ) (p : ℕ) where
  -- and in the numbers that a caller of dsr_read has: 12 or 15 with that place, and all that was lent as it came
  module _ (answer : List ℕ) (place : ℕ) (room : answer_numbers ≤ length answer) where
    pub c_unknown_for_good : until_settled ch s ≡ Err (Unknown p) → dsr_read (s ++ more) (Some ch) tables index report answer place ≡ returned 12 index report answer p
    c_unknown_for_good e = read_refused ch (s ++ more) tables index report answer place (Unknown p) room (unknown_for_good ch s more tables right index report p e)

    pub c_too_many_for_good : until_settled ch s ≡ Err (TooMany p) → dsr_read (s ++ more) (Some ch) tables index report answer place ≡ returned 15 index report answer p
    c_too_many_for_good e = read_refused ch (s ++ more) tables index report answer place (TooMany p) room (too_many_for_good ch s more tables right index report p e)
