-- The quantiser's tables, one record (01, "Reading"): codebook and thresholds, signed numbers that the caller lends; and what turns them away
-- before anything else is looked at, 11 and then 10 (02, C-12).
-- Assumes nothing.
use Rattle.std.specs.Prelude.{ℕ, ◌<◌, ◌≡◌, List, Bool, true, false, Result, Ok, Err, ℤ, pos, length, replicate, get_or, eqb}
use Rattle.std.specs.Int.Signed.{lt_z}
use Rattle.lists.specs.Tests.{when, both}
use Rattle.lists.specs.Search as S
use Rattle.layout.specs.Layout.{codebook_numbers, threshold_numbers}
use Rattle.refusals.specs.declared.Reading.{Reading}
use Rattle.refusals.specs.declared.Reading.TheVariants.{WrongTables, NegativeThreshold}

pub record Tables : Type 0 where
  pub codebook : List ℤ
  pub thresholds : List ℤ

-- the tables of this codebook and these thresholds
abbrev pub tables_of : List ℤ → List ℤ → Tables
tables_of codebook thresholds = record { codebook = codebook; thresholds = thresholds }

abbrev pub at : List ℤ → ℕ → ℤ
at l i = get_or l i (pos 0)

-- below zero
abbrev pub negative : ℤ → Bool
negative t = lt_z t (pos 0)

-- ---- when the tables are right
-- 01's sizes: 1,280 numbers and 14 thresholds, else refusal 11
abbrev pub RightSizes : Tables → Type 0
RightSizes tables = (length tables.codebook ≡ codebook_numbers) × (length tables.thresholds ≡ threshold_numbers)

-- no threshold is negative, else refusal 10
abbrev pub NoneNegative : Tables → Type 0
NoneNegative tables = (k : ℕ) → k < threshold_numbers → negative (at tables.thresholds k) ≡ false

-- tables that no refusal turns away
abbrev pub RightTables : Tables → Type 0
RightTables tables = RightSizes tables × NoneNegative tables

-- threshold k is negative, and none before it is
abbrev pub FirstNegative : Tables → ℕ → Type 0
FirstNegative tables k =
    (k < threshold_numbers) × (negative (at tables.thresholds k) ≡ true) × ((i : ℕ) → i < k → negative (at tables.thresholds i) ≡ false)

-- ---- the same as tests, which both readers make first; `Admitted` says that they are one
unfoldable pub sizes_right : Tables → Bool
sizes_right tables = both (eqb (length tables.codebook) codebook_numbers) (eqb (length tables.thresholds) threshold_numbers)

-- the number of the first negative threshold, from 0
abbrev pub first_negative : Tables → S.Search
first_negative tables = S.first_from (λ k. negative (at tables.thresholds k)) 0 threshold_numbers

-- 10: a negative threshold, place the first one's number from 0; else the tables are admitted as they are
abbrev pub sign_admission : Tables → S.Search → Result Tables Reading
sign_admission tables (S.at k) = Err (NegativeThreshold k)
sign_admission tables S.nowhere = Ok tables

-- 11: codebook not 1,280 or thresholds not 14. It comes first, and 10 after it
unfoldable pub admission : Tables → Result Tables Reading
admission tables = when (sizes_right tables) (sign_admission tables (first_negative tables)) (Err WrongTables)

-- what becomes of the tables, without the tables themselves
abbrev pub without_tables : Result Tables Reading → Result Unit Reading
without_tables (Ok tables) = Ok tt
without_tables (Err r) = Err r

-- what a reader answers: the refusal of the tables as it says it, or what comes next
abbrev pub if_admitted : {A : Type 0} → Result Tables Reading → (Reading → A) → A → A
if_admitted (Ok tables) refuse next = next
if_admitted (Err r) refuse next = refuse r

-- tables of zeros
abbrev pub zero_tables : Tables
zero_tables = tables_of (replicate codebook_numbers (pos 0)) (replicate threshold_numbers (pos 0))
