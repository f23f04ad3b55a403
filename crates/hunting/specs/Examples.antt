-- Literal examples of the hunting reading: numbers, places and their order, which no law would notice if definition and code were changed alike.
-- Assumes nothing.
use Rattle.std.specs.Prelude.{◌≡◌, refl, List, [], ◌∷◌, ◌++◌, ℤ, pos, negsuc, replicate, Err}
use Rattle.choices.specs.declared.Choices.{Choices}
use Rattle.bits.specs.Bits.{fields}
use Rattle.lists.specs.Search.{first_from}
use Rattle.tables.specs.Tables.{tables_of, sizes_right, admission}
use Rattle.hunt.specs.Hunt.{in_range, found, misses}
use Rattle.refusals.specs.declared.Reading.TheVariants as RR
use Rattle.gathering.specs.Gathering.{gathering}
use Rattle.hunting.specs.Hunting.{outcome, reading_found, hunting_reading}
use Rattle.refusals.specs.Refusals.{hunting_number, hunting_place}
use Rattle.refusals.specs.declared.Hunting.TheVariants.{Octets, MatchRange, Nowhere, TooMany}

-- tables of zeros
abbrev pub book : List ℤ
book = replicate 1280 (pos 0)

abbrev pub limits : List ℤ
limits = replicate 14 (pos 0)

-- the sixth and the last of 14 thresholds are negative: numbers 5 and 13
abbrev pub fallen : List ℤ
fallen = replicate 5 (pos 0) ++ (negsuc 0 ∷ replicate 7 (pos 3) ++ (negsuc 2147483647 ∷ []))

pub record Table (ch : Choices) : Type 0 where
  pub number_11 : hunting_number (Octets RR.WrongTables) ≡ 11
  pub place_11 : hunting_place (Octets RR.WrongTables) ≡ 0
  pub number_10 : hunting_number (Octets (RR.NegativeThreshold 13)) ≡ 10
  pub place_10 : hunting_place (Octets (RR.NegativeThreshold 13)) ≡ 13
  pub number_15 : hunting_number (TooMany 293763) ≡ 15
  pub place_15 : hunting_place (TooMany 293763) ≡ 293763
  pub number_16 : hunting_number (Octets RR.Unsettled) ≡ 16
  pub number_17 : hunting_number (Octets RR.Unfit) ≡ 17
  pub number_18 : hunting_number (Octets (RR.IndexShort 336)) ≡ 18
  pub place_18 : hunting_place (Octets (RR.IndexShort 336)) ≡ 336
  pub number_19 : hunting_number (Octets (RR.ReportShort 26)) ≡ 19
  pub place_19 : hunting_place (Octets (RR.ReportShort 26)) ≡ 26
  pub number_20 : hunting_number (Octets RR.AllBad) ≡ 20
  pub number_21 : hunting_number (MatchRange 17) ≡ 21
  pub place_21 : hunting_place (MatchRange 17) ≡ 17
  pub number_22 : hunting_number (Nowhere 5 9) ≡ 22
  pub place_22 : hunting_place (Nowhere 5 9) ≡ 5
  -- "11 still comes first", then 10 (02, C-12), then 21, then 22: nothing received, searched from bit 5 on
  pub first_11 : hunting_reading ch [] 5 17 (tables_of book []) [] [] ≡ outcome (Err (Octets RR.WrongTables)) [] []
  pub first_11_too : hunting_reading ch [] 5 17 (tables_of [] limits) [] [] ≡ outcome (Err (Octets RR.WrongTables)) [] []
  pub first_11_still : hunting_reading ch [] 5 17 (tables_of [] fallen) [] [] ≡ outcome (Err (Octets RR.WrongTables)) [] []
  pub then_10 : hunting_reading ch [] 5 17 (tables_of book fallen) [] [] ≡ outcome (Err (Octets (RR.NegativeThreshold 5))) [] []
  pub then_10_low : hunting_reading ch [] 5 11 (tables_of book fallen) [] [] ≡ outcome (Err (Octets (RR.NegativeThreshold 5))) [] []
  pub ten_before_22 : hunting_reading ch [] 5 16 (tables_of book (replicate 13 (pos 0) ++ (negsuc 0 ∷ []))) [] [] ≡ outcome (Err (Octets (RR.NegativeThreshold 13))) [] []
  pub then_21 : hunting_reading ch [] 5 17 (tables_of book limits) [] [] ≡ outcome (Err (MatchRange 17)) [] []
  pub then_22 : hunting_reading ch [] 5 16 (tables_of book limits) [] [] ≡ outcome (Err (Nowhere 5 0)) [] []

pub table : (ch : Choices) → Table ch
unfolding hunting_reading admission sizes_right first_from reading_found in_range gathering found misses fields
table ch = record {
  number_11 = refl;
  place_11 = refl;
  number_10 = refl;
  place_10 = refl;
  number_15 = refl;
  place_15 = refl;
  number_16 = refl;
  number_17 = refl;
  number_18 = refl;
  place_18 = refl;
  number_19 = refl;
  place_19 = refl;
  number_20 = refl;
  number_21 = refl;
  place_21 = refl;
  number_22 = refl;
  place_22 = refl;
  first_11 = refl;
  first_11_too = refl;
  first_11_still = refl;
  then_10 = refl;
  then_10_low = refl;
  ten_before_22 = refl;
  then_21 = refl;
  then_22 = refl;
}
