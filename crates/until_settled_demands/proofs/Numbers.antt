-- Each answer before the end in the numbers of dsr.h, with room for them.
-- Assumes nothing.
use Rattle.std.specs.Prelude.{ℕ, ◌≤◌, ◌≡◌, length, Some, Ok, Err}
use Rattle.std.proofs.Math.Path.{refl}
use Rattle.std.proofs.Common.{ap}
use mathlib.Core.List.{List, []}
use Rattle.lists.specs.Parts.{over}
use Rattle.choices.specs.declared.Choices.{Choices}
use Rattle.refusals.proofs.Laws.{reading_no_success}
use Rattle.refusals.specs.Refusals.{reading_number, reading_place}
use Rattle.refusals.specs.declared.Reading.{Reading as Refusal}
use Rattle.entries.specs.Entries.{returned, answered}
use Rattle.entries.specs.Settle.{settle_numbers, beginning_numbers, settle_told, settle_given, dsr_settle}
use Rattle.until_settled.specs.declared.Beginning.{Beginning}
use Rattle.until_settled.specs.Types.{Answer}
use Rattle.until_settled.specs.UntilSettled.{until_settled}
use Rattle.dsr_demands.specs.Calls.{told_success, told_refused, told_zero}

module _ (octets answer : List ℕ) (place : ℕ) where
  -- ---- each answer in numbers, with room for three
  module _ (ch : Choices) (room : settle_numbers ≤ length answer) where
    pub c_settled : (b : Beginning) → until_settled ch octets ≡ Ok b → dsr_settle octets (Some ch) answer place ≡ returned 0 [] [] (over answer 0 settle_numbers (beginning_numbers b)) place
    c_settled b e = told_success settle_numbers answer place [] [] (settle_given (until_settled ch octets)) room (beginning_numbers b) (ap settle_told e)

    pub c_settle_refused : (r : Refusal) → until_settled ch octets ≡ Err r → dsr_settle octets (Some ch) answer place ≡ returned (reading_number r) [] [] answer (reading_place r)
    c_settle_refused r e = told_refused settle_numbers answer place [] [] (settle_given (until_settled ch octets)) room (reading_number r) (reading_place r) (ap settle_given e)

  -- 0 is of settings, with room for them
  pub settle_zero : (ch : Choices) → (dsr_settle octets (Some ch) answer place).number ≡ 0 → (settle_numbers ≤ length answer) × ((b : Beginning) × (until_settled ch octets ≡ Ok b))
  settle_zero ch e = let z = told_zero settle_numbers answer place [] [] (settle_given (until_settled ch octets)) e in (z.0, by (until_settled ch octets) refl z.1)
    where
      by : (x : Answer) → until_settled ch octets ≡ x → (answered settle_numbers answer place [] [] (settle_told x)).number ≡ 0 → (b : Beginning) × (until_settled ch octets ≡ Ok b)
      by (Ok b) q z = (b, q)
      by (Err r) q z = absurd (reading_no_success r z)
