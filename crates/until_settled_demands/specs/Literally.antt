-- dsr_settle literally, in the numbers that a caller lends: the answer came as 9s, the place as 7.
-- Assumes nothing.
use Rattle.std.specs.Prelude.{ℕ, ◌≡◌, List, [], ◌∷◌, ◌++◌, Some}
use Rattle.choices.specs.Choices.{asked}
use Rattle.choices.specs.declared.Choices.{Choices}
use Rattle.choices.specs.Types.{Asked}
use Rattle.entries.specs.Entries.{returned}
use Rattle.entries.specs.Settle.{dsr_settle}
use Rattle.page_received.specs.Received.{headed, rate2}
use Rattle.page_received.specs.Settled.{sixteen1}

pub record Table (ch : Choices) : Type 0 where
  -- 16 kHz, noise robust, of two multiframes: rate, type, multiframes read; the number beyond them and the place stay
  pub sixteen : dsr_settle (headed sixteen1 ++ headed sixteen1) (Some ch) (9 ∷ 9 ∷ 9 ∷ 9 ∷ []) 7 ≡ returned 0 [] [] (3 ∷ 1 ∷ 2 ∷ 9 ∷ []) 7
  -- a refusal: its number and its place, and the answer stays
  pub rate_2 : (more : List ℕ) → dsr_settle ((headed rate2 ++ headed rate2) ++ more) (Some ch) (9 ∷ 9 ∷ 9 ∷ []) 7 ≡ returned 17 [] [] (9 ∷ 9 ∷ 9 ∷ []) 0
  pub nothing : dsr_settle (0x78 ∷ 0x4D ∷ []) (Some ch) (9 ∷ 9 ∷ 9 ∷ []) 7 ≡ returned 14 [] [] (9 ∷ 9 ∷ 9 ∷ []) 2
  -- 99 before 96, and all stays, the place too
  pub no_room : (q : Asked) → dsr_settle [] q (9 ∷ 9 ∷ []) 7 ≡ returned 99 [] [] (9 ∷ 9 ∷ []) 7
  pub no_choice : dsr_settle [] (asked 2) (9 ∷ 9 ∷ 9 ∷ []) 7 ≡ returned 96 [] [] (9 ∷ 9 ∷ 9 ∷ []) 7
