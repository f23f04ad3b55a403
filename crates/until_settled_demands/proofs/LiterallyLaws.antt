-- dsr_settle literally, in the numbers that a caller lends: the answer came as 9s, the place as 7.
-- Assumes nothing.
use Rattle.std.specs.Prelude.{[], ◌∷◌, ◌++◌}
use Rattle.std.proofs.Common.{arith}
use Rattle.choices.specs.Choices.{asked}
use Rattle.choices.specs.declared.Choices.{Choices}
use Rattle.settings.specs.Settings.{settings}
use Rattle.refusals.specs.declared.Reading.TheVariants.{Empty, Unfit}
use Rattle.page_received.specs.Received.{headed, rate2}
use Rattle.page_received.specs.Settled.{sixteen1, table}
use Rattle.until_settled_demands.specs.Literally.{Table}
use Rattle.until_settled_demands.proofs.Numbers.{c_settled, c_settle_refused}
use Rattle.until_settled_demands.proofs.EntryLaws.{c_settle_no_room, c_settle_no_such_choice}

pub literally : (ch : Choices) → Table ch
unfolding asked
literally ch = record {
  sixteen = c_settled (headed sixteen1 ++ headed sixteen1) (9 ∷ 9 ∷ 9 ∷ 9 ∷ []) 7 ch (omega arith) (record { settings = settings 3 1; multiframes = 2 }) (table ch).sixteen_robust;
  rate_2 = λ more. c_settle_refused ((headed rate2 ++ headed rate2) ++ more) (9 ∷ 9 ∷ 9 ∷ []) 7 ch (omega arith) Unfit ((table ch).rate_2_twice more);
  nothing = c_settle_refused (0x78 ∷ 0x4D ∷ []) (9 ∷ 9 ∷ 9 ∷ []) 7 ch (omega arith) (Empty 2) (table ch).only_inverse;
  no_room = λ q. c_settle_no_room [] (9 ∷ 9 ∷ []) 7 q (omega arith);
  no_choice = c_settle_no_such_choice [] (9 ∷ 9 ∷ 9 ∷ []) 7 (omega arith);
}
