-- Literal examples of dsr_write and dsr_read: which number stands where, and what stays, which no law would notice if definition, contract and code were
-- changed alike.
-- Assumes nothing.
use Rattle.std.specs.Prelude.{◌≡◌, refl, List, [], ◌∷◌, ℕ, replicate, Some, Ok, Err}
use Rattle.lists.specs.Search.{first_from}
use Rattle.choices.specs.declared.Choices.{Choices}
use Rattle.settings.specs.Settings.{settings}
use Rattle.frames.specs.Frames.{zero_frame}
use Rattle.reader.specs.Reading.{Outcome, outcome, reading, verdict}
use Rattle.refusals.specs.declared.Reading.TheVariants.{CutShort, IndexShort, AllBad}
use Rattle.writer.specs.Writing as W
use Rattle.writer.specs.Writing.{room_answer, writing}
use Rattle.entries.specs.Entries.{returning, given_of, dsr_write, dsr_read}
use Rattle.tables.specs.Tables.{tables_of, sizes_right, admission}

-- 16 kHz, noise robust, 2 multiframes, 30 frames of speech, 4 bad pairs, end
abbrev pub talk : Outcome
talk = outcome (Ok (record { settings = settings 3 1; multiframes = 2; speech = 30; bad = 4; end = 0 })) (1 ∷ []) (2 ∷ [])

-- seven numbers lent, which came as 90 to 96; index and report came as 5 and 6, the place as 8
abbrev pub seven : List ℕ
seven = 90 ∷ 91 ∷ 92 ∷ 93 ∷ 94 ∷ 95 ∷ 96 ∷ []

pub record Table (ch : Choices) : Type 0 where
  -- rate, type, multiframes, speech, bad, end; a seventh number stays
  pub six-numbers : returning 6 seven 8 (5 ∷ []) (6 ∷ []) (given_of talk) ≡ record { number = 0; index = 1 ∷ []; report = 2 ∷ []; answer = 3 ∷ 1 ∷ 2 ∷ 30 ∷ 4 ∷ 0 ∷ 96 ∷ []; place = 8 }
  -- a refusal has a place of its own, and leaves the answer and both buffers
  pub refused-13 : returning 6 seven 8 (5 ∷ []) (6 ∷ []) (given_of (outcome (Err (CutShort 290)) (5 ∷ []) (6 ∷ [])))
      ≡ record { number = 13; index = 5 ∷ []; report = 6 ∷ []; answer = seven; place = 290 }
  pub refused-18 : returning 6 seven 8 (5 ∷ []) (6 ∷ []) (given_of (outcome (Err (IndexShort 336)) (5 ∷ []) (6 ∷ [])))
      ≡ record { number = 18; index = 5 ∷ []; report = 6 ∷ []; answer = seven; place = 336 }
  pub refused-20 : returning 6 seven 8 (5 ∷ []) (6 ∷ []) (given_of (outcome (Err AllBad) (5 ∷ []) (6 ∷ [])))
      ≡ record { number = 20; index = 5 ∷ []; report = 6 ∷ []; answer = seven; place = 0 }
  -- no room for six numbers: 99 comes before all, and all stays
  pub five-numbers : returning 6 (replicate 5 90) 8 (5 ∷ []) (6 ∷ []) (given_of talk) ≡ record { number = 99; index = 5 ∷ []; report = 6 ∷ []; answer = replicate 5 90; place = 8 }
  -- dsr_read itself: no tables are 11
  pub no-tables : dsr_read (0x87 ∷ []) (Some ch) (tables_of [] []) (5 ∷ []) (6 ∷ []) seven 8
      ≡ record { number = 11; index = 5 ∷ []; report = 6 ∷ []; answer = seven; place = 0 }
  -- dsr_write: rate before type, the number returned, the place lent, the output as it came
  pub rate_2 : dsr_write 2 0 [] (7 ∷ []) ≡ record { number = 1; output = 7 ∷ []; place = 0 }
  pub type_2 : dsr_write 0 2 [] (7 ∷ []) ≡ record { number = 1; output = 7 ∷ []; place = 0 }
  pub rate_3_type_1 : dsr_write 3 1 [] (7 ∷ []) ≡ record { number = 6; output = 7 ∷ []; place = 144 }
  pub rate-1-type-3 : dsr_write 1 3 [] (7 ∷ []) ≡ record { number = 1; output = 7 ∷ []; place = 0 }
  pub eight-octets : dsr_write 0 0 (replicate 8 1) (7 ∷ []) ≡ record { number = 2; output = 7 ∷ []; place = 8 }
  pub wide-index : dsr_write 0 0 (64 ∷ 0 ∷ 0 ∷ 0 ∷ 0 ∷ 0 ∷ 0 ∷ []) (7 ∷ []) ≡ record { number = 4; output = 7 ∷ []; place = 1 }

pub table : (ch : Choices) → Table ch
unfolding returning reading verdict admission sizes_right writing W.verdict room_answer first_from zero_frame
table ch = record {
  six-numbers = refl;
  refused-13 = refl;
  refused-18 = refl;
  refused-20 = refl;
  five-numbers = refl;
  no-tables = refl;
  rate_2 = refl;
  type_2 = refl;
  rate_3_type_1 = refl;
  rate-1-type-3 = refl;
  eight-octets = refl;
  wide-index = refl;
}
