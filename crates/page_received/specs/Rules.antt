-- The reader's rules, case by case (01, "Headers", "Settings", "Bad pairs" with 02, C-12, "Replacing", and the success answer): numbers, places and bounds as 01
-- prints them, which no theorem would notice if definition, laws and code were changed alike. The numbers stand bare here, as they do there.
-- Assumes nothing.
use Rattle.std.specs.Prelude.{◌≡◌, true, false, List, [], ◌∷◌, ◌++◌, ℕ, zero, suc, ℤ, pos, negsuc, replicate, Some, None}
use Rattle.choices.specs.Choices.{by_default, by_one_header}
use Rattle.choices.specs.declared.Choices.{Choices}
use Rattle.settings.specs.Settings.{settings as set}
use Rattle.message.specs.Message.{message, common_bits}
use Rattle.header.specs.Types.{Header}
use Rattle.settling.specs.Settling.{settling}
use Rattle.header_notes.specs.HeaderNotes.{header_note}
use Rattle.consistency.specs.Consistency.{exceeding, element_exceeds, flagged, inconsistent}
use Rattle.replacing.specs.Examples.{stand_ins}
use Rattle.replacing.specs.Speech.{speech_of, end_of}
use Rattle.tables.specs.Tables.{tables_of}

-- ---- tables
-- k, k + 1, .., n of them: the number at place p of `up_to` is p
unfoldable pub numbers_from : ℕ → ℕ → List ℤ
numbers_from k zero = []
numbers_from k (suc n) = pos k ∷ numbers_from (suc k) n

unfoldable pub up_to : ℕ → List ℤ
up_to n = numbers_from 0 n

-- one number 9 behind k zeros
unfoldable pub nine_at : ℕ → List ℤ
nine_at k = replicate k (pos 0) ++ (pos 9 ∷ [])

unfoldable pub all14 : ℕ → List ℤ
all14 n = replicate 14 (pos n)

-- in codebook 2 entry 0 is 0, 9 and entry 1 is 9, 0
unfoldable pub crossed : List ℤ
crossed = replicate 256 (pos 0) ++ (pos 0 ∷ pos 9 ∷ pos 9 ∷ pos 0 ∷ [])

-- the two thresholds of each codebook
unfoldable pub pairs14 : ℕ → ℕ → List ℤ
pairs14 a b = (pos a ∷ pos b ∷ pos a ∷ pos b ∷ []) ++ ((pos a ∷ pos b ∷ pos a ∷ pos b ∷ []) ++ (pos a ∷ pos b ∷ pos a ∷ pos b ∷ pos a ∷ pos b ∷ []))

pub record Consistency : Type 0 where
  -- "codebook c (0 to 5) begins at 128c and the seventh at 768; entry j is two numbers": the first number of codebook 1, both of its second entry, and the last
  -- number of the seventh, which is entry 255's second
  pub codebook_1 : element_exceeds (tables_of (nine_at 128) (all14 0)) 1 5 0 0 ≡ true
  pub entry_1_first : element_exceeds (tables_of (nine_at 130) (all14 0)) 1 5 1 0 ≡ true
  pub entry_1_second : element_exceeds (tables_of (nine_at 131) (all14 0)) 1 5 1 1 ≡ true
  pub seventh : element_exceeds (tables_of (nine_at 768) (all14 0)) 6 5 0 0 ≡ true
  pub last_number : element_exceeds (tables_of (nine_at 1279) (all14 0)) 6 0 255 1 ≡ true
  pub not_before_last : element_exceeds (tables_of (nine_at 1279) (all14 0)) 6 0 254 1 ≡ false
  -- the same of falls: the first number of codebook 1, and the last of the seventh
  pub codebook_1_falls : element_exceeds (tables_of (nine_at 128) (all14 0)) 1 0 5 0 ≡ true
  pub last_number_falls : element_exceeds (tables_of (nine_at 1279) (all14 0)) 6 255 0 1 ≡ true
  -- "2c and 2c+1 for the two elements of codebook c": of thresholds 0 to 13 those of codebook 3 are 6 and 7. The difference is 6, then 8
  pub threshold_6 : element_exceeds (tables_of (up_to 1280) (up_to 14)) 3 0 3 0 ≡ false
  pub past_threshold_6 : element_exceeds (tables_of (up_to 1280) (up_to 14)) 3 0 4 0 ≡ true
  pub past_threshold_7 : element_exceeds (tables_of (up_to 1280) (up_to 14)) 3 0 4 1 ≡ true
  pub threshold_11 : element_exceeds (tables_of (up_to 1280) (up_to 14)) 5 0 5 1 ≡ false
  pub past_threshold_11 : element_exceeds (tables_of (up_to 1280) (up_to 14)) 5 0 6 1 ≡ true
  -- and the same thresholds hold for falls
  pub fall_threshold_6 : element_exceeds (tables_of (up_to 1280) (up_to 14)) 3 3 0 0 ≡ false
  pub fall_past_threshold_6 : element_exceeds (tables_of (up_to 1280) (up_to 14)) 3 4 0 0 ≡ true
  pub fall_threshold_11 : element_exceeds (tables_of (up_to 1280) (up_to 14)) 5 5 0 1 ≡ false
  pub fall_past_threshold_11 : element_exceeds (tables_of (up_to 1280) (up_to 14)) 5 6 0 1 ≡ true
  -- "the absolute difference exceeds the threshold" (02, C-12): 2 does not exceed 2, and exceeds 1, up and down; what is 0 apart does not exceed 0
  pub two_not_two : exceeding (pos 2) (pos 5) (pos 7) ≡ false
  pub two_past_one : exceeding (pos 1) (pos 5) (pos 7) ≡ true
  pub fall_not_two : exceeding (pos 2) (pos 7) (pos 5) ≡ false
  pub fall_past_one : exceeding (pos 1) (pos 7) (pos 5) ≡ true
  pub fall_past_zero : exceeding (pos 0) (pos 7) (pos 6) ≡ true
  pub still : exceeding (pos 0) (pos 7) (pos 7) ≡ false
  -- "A negative threshold then flags everything": a rise, a fall, and nothing at all
  pub rise_past_minus_1 : exceeding (negsuc 0) (pos 5) (pos 7) ≡ true
  pub fall_past_minus_1 : exceeding (negsuc 0) (pos 7) (pos 5) ≡ true
  pub still_past_minus_1 : exceeding (negsuc 0) (pos 7) (pos 7) ≡ true
  -- from -1 to 1 and back are 2
  pub through_zero : exceeding (pos 1) (negsuc 0) (pos 1) ≡ true
  pub fall_through_zero : exceeding (pos 1) (pos 1) (negsuc 0) ≡ true
  pub through_zero_not_two : exceeding (pos 2) (negsuc 0) (pos 1) ≡ false
  -- "it may need 33 bits": the least number and the largest, either first
  pub exact_rise : exceeding (pos 2147483647) (negsuc 2147483647) (pos 2147483647) ≡ true
  pub exact_fall : exceeding (pos 2147483647) (pos 2147483647) (negsuc 2147483647) ≡ true
  -- 2^31 - 1 does not exceed itself, and 2^31 does
  pub largest_rise : exceeding (pos 2147483647) (pos 0) (pos 2147483647) ≡ false
  pub one_larger_rise : exceeding (pos 2147483647) (negsuc 0) (pos 2147483647) ≡ true
  pub largest_fall : exceeding (pos 2147483647) (negsuc 0) (negsuc 2147483647) ≡ false
  pub one_larger_fall : exceeding (pos 2147483647) (pos 0) (negsuc 2147483647) ≡ true
  -- "for either of its two elements"
  pub first_element : flagged (tables_of (up_to 1280) (pairs14 0 100)) 2 0 1 ≡ true
  pub second_element : flagged (tables_of (up_to 1280) (pairs14 100 0)) 2 0 1 ≡ true
  pub neither : flagged (tables_of (up_to 1280) (pairs14 100 100)) 2 0 1 ≡ false
  pub first_element_falls : flagged (tables_of (up_to 1280) (pairs14 0 100)) 2 1 0 ≡ true
  pub second_element_falls : flagged (tables_of (up_to 1280) (pairs14 100 0)) 2 1 0 ≡ true
  -- and one that rises does not make up for one that falls
  pub rises_and_falls : flagged (tables_of crossed (all14 1)) 2 0 1 ≡ true
  pub falls_and_rises : flagged (tables_of crossed (all14 1)) 2 1 0 ≡ true
  -- "if at least two of its seven index pairs are flagged": two, one, the last two; two that fall, wherever they stand, one that falls, and one that rises with
  -- one that falls
  pub two_flagged : inconsistent (tables_of (up_to 1280) (all14 1)) (replicate 7 0) (1 ∷ 1 ∷ 0 ∷ 0 ∷ 0 ∷ 0 ∷ 0 ∷ []) ≡ true
  pub one_flagged : inconsistent (tables_of (up_to 1280) (all14 1)) (replicate 7 0) (1 ∷ 0 ∷ 0 ∷ 0 ∷ 0 ∷ 0 ∷ 0 ∷ []) ≡ false
  pub last_two_flagged : inconsistent (tables_of (up_to 1280) (all14 1)) (replicate 7 0) (0 ∷ 0 ∷ 0 ∷ 0 ∷ 0 ∷ 1 ∷ 1 ∷ []) ≡ true
  pub two_fallen : inconsistent (tables_of (up_to 1280) (all14 1)) (1 ∷ 1 ∷ 0 ∷ 0 ∷ 0 ∷ 0 ∷ 0 ∷ []) (replicate 7 0) ≡ true
  pub middle_two_fallen : inconsistent (tables_of (up_to 1280) (all14 1)) (0 ∷ 0 ∷ 0 ∷ 1 ∷ 1 ∷ 0 ∷ 0 ∷ []) (replicate 7 0) ≡ true
  pub last_two_fallen : inconsistent (tables_of (up_to 1280) (all14 1)) (0 ∷ 0 ∷ 0 ∷ 0 ∷ 0 ∷ 1 ∷ 1 ∷ []) (replicate 7 0) ≡ true
  pub one_fallen : inconsistent (tables_of (up_to 1280) (all14 1)) (0 ∷ 0 ∷ 0 ∷ 0 ∷ 0 ∷ 0 ∷ 1 ∷ []) (replicate 7 0) ≡ false
  pub one_of_each : inconsistent (tables_of (up_to 1280) (all14 1)) (0 ∷ 1 ∷ 0 ∷ 0 ∷ 0 ∷ 0 ∷ 0 ∷ []) (1 ∷ 0 ∷ 0 ∷ 0 ∷ 0 ∷ 0 ∷ 0 ∷ []) ≡ true

-- ---- replacing, frames counted from 1
pub record Replacing : Type 0 where
  -- "At the start of an utterance all 2B take the frame after": pairs 1 and 2 bad, and the first alone
  pub start_of_two : stand_ins (1 ∷ 2 ∷ 0 ∷ []) (1 ∷ 2 ∷ 3 ∷ 4 ∷ 5 ∷ 6 ∷ []) ≡ 5 ∷ 5 ∷ 5 ∷ 5 ∷ 5 ∷ 6 ∷ []
  pub start_of_one : stand_ins (1 ∷ 0 ∷ 0 ∷ []) (1 ∷ 2 ∷ 3 ∷ []) ≡ 3 ∷ 3 ∷ 3 ∷ []
  -- "at the end, the one before"
  pub end_of_two : stand_ins (0 ∷ 1 ∷ 1 ∷ []) (1 ∷ 2 ∷ 3 ∷ 4 ∷ 5 ∷ 6 ∷ []) ≡ 1 ∷ 2 ∷ 2 ∷ 2 ∷ 2 ∷ 2 ∷ []
  -- two runs, each by its own neighbours
  pub two_runs : stand_ins (0 ∷ 1 ∷ 0 ∷ 2 ∷ 0 ∷ []) (3 ∷ 4 ∷ 7 ∷ 8 ∷ []) ≡ 2 ∷ 5 ∷ 6 ∷ 9 ∷ []
  -- three bad pairs, frames 3 to 8: 3, 4 and 5 become 2; 6, 7 and 8 become 9
  pub run_of_three : stand_ins (0 ∷ 1 ∷ 1 ∷ 1 ∷ 0 ∷ []) (3 ∷ 4 ∷ 5 ∷ 6 ∷ 7 ∷ 8 ∷ []) ≡ 2 ∷ 2 ∷ 2 ∷ 9 ∷ 9 ∷ 9 ∷ []

-- ---- speech and end
-- two multiframes of zeros with one octet of frame k, counted from 0, set
unfoldable pub one_at : ℕ → List ℕ
one_at k = replicate k 0 ++ (1 ∷ replicate 335 0)

pub record Speech : Type 0 where
  -- "24(m-1) plus the last nonzero frame's place (1 to 24, 0 if none) in the last multiframe": none there is 24, whatever the first holds
  pub none_in_the_last : speech_of 2 (replicate 336 0) ≡ 24
  pub only_in_the_first : speech_of 2 (one_at 14) ≡ 24
  pub first_of_the_last : speech_of 2 (one_at 168) ≡ 25
  -- the seventh index counts too
  pub seventh_of_the_last : speech_of 2 (one_at 174) ≡ 25
  pub last_of_the_last : speech_of 2 (one_at 335) ≡ 48
  -- "end, 1 if the last frame is zero after replacing, else 0"
  pub ends : end_of 2 (one_at 328) ≡ 1
  pub ends_not : end_of 2 (one_at 329) ≡ 0

-- a header that is read with this message and so many flips
abbrev pub read_with : ℕ → ℕ → Header
read_with m f = Some (record { message = m; flips = f })

-- ---- header notes: 8 kHz, type 0 are settled
pub record Notes : Type 0 where
  -- "0 clean, 1 or 2 flips mended, 3 lost"
  pub clean : header_note (common_bits (message (set 0 0) 0 0)) 0 (read_with (message (set 0 0) 1 0) 0) ≡ 0
  pub mended : header_note (common_bits (message (set 0 0) 0 0)) 0 (read_with (message (set 0 0) 1 0) 2) ≡ 2
  pub lost : header_note (common_bits (message (set 0 0) 0 0)) 0 None ≡ 3
  -- "a readable one adds 4 if its counter is not (position from 1) mod 16"
  pub out_of_step : header_note (common_bits (message (set 0 0) 0 0)) 1 (read_with (message (set 0 0) 1 0) 0) ≡ 4
  pub sixteenth : header_note (common_bits (message (set 0 0) 0 0)) 15 (read_with (message (set 0 0) 0 0) 0) ≡ 0
  pub seventeenth : header_note (common_bits (message (set 0 0) 0 0)) 16 (read_with (message (set 0 0) 1 0) 1) ≡ 1
  -- "and 8 if its common bits differ from the settled"
  pub other_settings : header_note (common_bits (message (set 0 0) 0 0)) 0 (read_with (message (set 1 0) 1 0) 0) ≡ 8
  pub both_added : header_note (common_bits (message (set 0 0) 0 0)) 4 (read_with (message (set 1 0) 1 0) 1) ≡ 13

-- ---- settings: "the first readable header that agrees in them with an earlier readable one", not only with the one just before it
pub record Settings (ch : Choices) : Type 0 where
  pub around_another : settling ch (read_with 8 0 ∷ read_with 1 0 ∷ read_with 8 0 ∷ []) ≡ Some (common_bits 8)
  pub around_a_lost_one : settling ch (read_with 8 0 ∷ None ∷ read_with 8 0 ∷ []) ≡ Some (common_bits 8)
  -- the third agrees with the second before the fourth agrees with the first
  pub first_to_agree : settling ch (read_with 8 0 ∷ read_with 1 0 ∷ read_with 1 0 ∷ read_with 8 0 ∷ []) ≡ Some (common_bits 1)
  pub none_agrees : settling ch (read_with 8 0 ∷ read_with 1 0 ∷ []) ≡ None
  pub one_is_lost : settling ch (read_with 8 0 ∷ None ∷ []) ≡ None
  -- "an only multiframe whose header is itself a codeword settles them (house)", where the caller asks for it; by default it does not (02, C-20)
  pub only_clean : settling by_one_header (read_with 8 0 ∷ []) ≡ Some (common_bits 8)
  pub only_by_default : settling by_default (read_with 8 0 ∷ []) ≡ None
  pub only_mended : settling ch (read_with 8 1 ∷ []) ≡ None
