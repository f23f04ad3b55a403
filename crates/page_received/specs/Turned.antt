-- Tables that are turned away for a negative threshold (02, C-12), case by case: "10, a negative threshold, place the first one's number from 0; it comes after
-- 11 and before cutting". The numbers stand bare here, as they do there; -1 is the largest negative number and -2147483648 the least of 32 bits.
-- Assumes nothing.
use Rattle.std.specs.Prelude.{◌≡◌, refl, List, [], ◌∷◌, ◌++◌, ℕ, ℤ, pos, negsuc, length, replicate}
use Rattle.std.proofs.Common.{sym, ap, ◌∙◌, arith}
use Rattle.lists.specs.Search.{at, first_from}
use Rattle.choices.specs.declared.Choices.{Choices}
use Rattle.tables.specs.Tables.{tables_of, first_negative, sign_admission}
use Rattle.tables.proofs.AdmittedLaws.{signs_next, wrong_sizes}
use Rattle.reader.proofs.FirstTests.{not_admitted}
use Rattle.refusals.specs.declared.Reading.TheVariants.{WrongTables, NegativeThreshold}
use Rattle.page_received.specs.Received.{Refuses, refuses}

-- ---- what a line says: whatever the octets and the buffers, and whatever numbers the codebook of c holds, these thresholds are refused so
abbrev pub Turns : (ch : Choices) → ℕ → List ℤ → ℕ → ℕ → Type 0
Turns ch c thresholds number place =
    (octets : List ℕ) (codebook : List ℤ) → length codebook ≡ c → (index report : List ℕ) → Refuses ch octets (tables_of codebook thresholds) index report number place

pub record Table (ch : Choices) : Type 0 where
  -- the first, one in the middle, and the last, number 13
  pub number_0 : Turns ch 1280 (negsuc 0 ∷ replicate 13 (pos 0)) 10 0
  pub number_6 : Turns ch 1280 (replicate 6 (pos 2147483647) ++ (negsuc 2147483647 ∷ replicate 7 (pos 2147483647))) 10 6
  pub number_13 : Turns ch 1280 (replicate 13 (pos 0) ++ (negsuc 0 ∷ [])) 10 13
  -- any negative number, not -1 and the least alone
  pub minus_2 : Turns ch 1280 (replicate 4 (pos 0) ++ (negsuc 1 ∷ replicate 9 (pos 0))) 10 4
  pub minus_65536 : Turns ch 1280 (replicate 12 (pos 0) ++ (negsuc 65535 ∷ pos 0 ∷ [])) 10 12
  -- "the first one's number": of 3 and 9 it is 3, whichever is lower; of all 14 it is 0
  pub first_of_two : Turns ch 1280 (replicate 3 (pos 5) ++ (negsuc 0 ∷ replicate 5 (pos 5) ++ (negsuc 2147483647 ∷ replicate 4 (pos 5)))) 10 3
  pub first_not_last : Turns ch 1280 (replicate 3 (pos 5) ++ (negsuc 2147483647 ∷ replicate 5 (pos 5) ++ (negsuc 0 ∷ replicate 4 (pos 5)))) 10 3
  pub all_negative : Turns ch 1280 (replicate 14 (negsuc 0)) 10 0
  -- "it comes after 11": codebooks of 1,279 and 1,281, 13 and 15 thresholds, with a negative one among them
  pub codebook_1279 : Turns ch 1279 (replicate 14 (negsuc 0)) 11 0
  pub codebook_1281 : Turns ch 1281 (negsuc 0 ∷ replicate 13 (pos 0)) 11 0
  pub thresholds_13 : Turns ch 1280 (replicate 13 (negsuc 0)) 11 0
  pub thresholds_15 : Turns ch 1280 (negsuc 0 ∷ replicate 14 (pos 0)) 11 0

-- ---- the lines
module _ (ch : Choices) (thresholds : List ℤ) where
  turned : (k : ℕ) → length thresholds ≡ 14 → first_negative (tables_of [] thresholds) ≡ at k → Turns ch 1280 thresholds 10 k
  turned k st e octets codebook sc index report =
      let tables = tables_of codebook thresholds in
      refuses ch octets tables index report (NegativeThreshold k)
      (sym (not_admitted ch octets tables index report (NegativeThreshold k) (signs_next tables (sc, st) ∙ ap (sign_admission tables) e)))

  unsized : (c : ℕ) → (c ≡ 1280 → length thresholds ≡ 14 → ⊥) → Turns ch c thresholds 11 0
  unsized c h octets codebook sc index report =
      let tables = tables_of codebook thresholds in
      refuses ch octets tables index report WrongTables (sym (not_admitted ch octets tables index report WrongTables (wrong_sizes tables (λ r. h (sym sc ∙ r.0) r.1))))

pub table : (ch : Choices) → Table ch
unfolding first_from
table ch = record {
  number_0 = turned ch _ 0 refl refl;
  number_6 = turned ch _ 6 refl refl;
  number_13 = turned ch _ 13 refl refl;
  minus_2 = turned ch _ 4 refl refl;
  minus_65536 = turned ch _ 12 refl refl;
  first_of_two = turned ch _ 3 refl refl;
  first_not_last = turned ch _ 3 refl refl;
  all_negative = turned ch _ 0 refl refl;
  codebook_1279 = unsized ch _ 1279 (λ c t. omega arith);
  codebook_1281 = unsized ch _ 1281 (λ c t. omega arith);
  thresholds_13 = unsized ch _ 1280 (λ c t. omega arith);
  thresholds_15 = unsized ch _ 1280 (λ c t. omega arith);
}
