-- What is refused for good, met by either choice.
-- Assumes nothing.
use Rattle.std.specs.Prelude.{ℕ, ◌≡◌, List, [], ◌∷◌, ◌++◌, Some}
use Rattle.std.proofs.Common.{arith}
use Rattle.choices.specs.declared.Choices.{Choices}
use Rattle.tables.specs.Tables.{Tables, RightTables}
use Rattle.entries.specs.Entries.{returned, dsr_read}
use Rattle.page_received.specs.Received.{headed, lost, one, again}
use Rattle.page_received.specs.Settled.{table}
use Rattle.until_settled_demands.proofs.ForGoodCalls.{c_unknown_for_good, c_too_many_for_good}

-- ---- met, by either choice: a multiframe and an octet that begins nothing; a sync behind 255 multiframes whose headers are lost
module _ (ch : Choices) (more : List ℕ) (tables : Tables) (right : RightTables tables) (index report : List ℕ) where
  pub one_and_nothing_known : dsr_read ((one ++ (0x00 ∷ [])) ++ more) (Some ch) tables index report (9 ∷ 9 ∷ 9 ∷ 9 ∷ 9 ∷ 9 ∷ []) 7 ≡ returned 12 index report (9 ∷ 9 ∷ 9 ∷ 9 ∷ 9 ∷ 9 ∷ []) 144
  one_and_nothing_known =
      c_unknown_for_good ch (one ++ (0x00 ∷ [])) more tables right index report 144 (9 ∷ 9 ∷ 9 ∷ 9 ∷ 9 ∷ 9 ∷ []) 7 (omega arith) (table ch).unknown_behind

  pub a_sync_too_many : dsr_read ((again 255 (headed lost) ++ (0x87 ∷ 0xB2 ∷ [])) ++ more) (Some ch) tables index report (9 ∷ 9 ∷ 9 ∷ 9 ∷ 9 ∷ 9 ∷ []) 7
      ≡ returned 15 index report (9 ∷ 9 ∷ 9 ∷ 9 ∷ 9 ∷ 9 ∷ []) 36720
  a_sync_too_many =
      c_too_many_for_good ch (again 255 (headed lost) ++ (0x87 ∷ 0xB2 ∷ [])) more tables right index report 36720 (9 ∷ 9 ∷ 9 ∷ 9 ∷ 9 ∷ 9 ∷ []) 7 (omega arith) (table ch).sync_256
