-- Settings without the whole utterance (02, C-11): what is answered of octets by a call that reads multiframes only until the settings are
-- settled, and then stops. ch is what the caller chose (C-20), hs are the readings of headers, in order.
-- Assumes nothing.
use Rattle.std.specs.Prelude.{ℕ, suc, List, [], ◌∷◌, eqb, length, Some, None, Ok, Err}
use Rattle.lists.specs.Tests.{when}
use Rattle.choices.specs.declared.Choices.{Choices}
use Rattle.message.specs.Message.{common_bits, settings_of}
use Rattle.refusals.specs.declared.Reading.TheVariants.{Empty, Unsettled, Unfit}
use Rattle.header.specs.Types.{Header}
use Rattle.cutting.specs.Cutting.{Ending, whole, refused, cutting}
use Rattle.header_readings.specs.Readings.{readings}
use Rattle.settling.specs.Settling.{among, first_agreeing, settling}
use Rattle.unfit.specs.Unfit.{unfit}
use Rattle.settling.specs.Types.{Settlement}
use Rattle.until_settled.specs.Types.{Answer}

-- "reads multiframes only until the settings are settled": how many headers are read, up to and with the first readable one that agrees with an
-- earlier readable one, of which `seen` are the common bits; all of them if none does
unfoldable pub read_until : List ℕ → List Header → ℕ
read_until seen [] = 0
read_until seen (None ∷ hs) = suc (read_until seen hs)
read_until seen (Some d ∷ hs) = when (among (common_bits d.message) seen) 1 (suc (read_until (common_bits d.message ∷ seen) hs))

-- common bits c are settled by the first m multiframes: the settings, "or 17" (settled rate is 2 or any EXP is 1). 16: settings not settled
abbrev pub settled_answer : ℕ → Settlement → Answer
settled_answer m (Some c) = when (unfit c) (Err Unfit) (Ok (record { settings = settings_of c; multiframes = m }))
settled_answer m None = Err Unsettled

-- no two headers agree, and the n octets end where cutting is done: 14 if there is no multiframe; only now an only multiframe is known to be the only
-- one, and settles where the caller asks for it (C-20)
unfoldable pub end_answer : Choices → ℕ → List Header → Answer
end_answer ch n hs = when (eqb (length hs) 0) (Err (Empty n)) (settled_answer (length hs) (settling ch hs))

-- no two headers agree: "If nothing settles before the end it refuses as the full reading does". 12, 13 and 15 are what cutting meets
abbrev pub unsettled_answer : Choices → ℕ → List Header → Ending → Answer
unsettled_answer ch n hs whole = end_answer ch n hs
unsettled_answer ch n hs (refused r) = Err r

-- two headers that agree settle at once, however cutting would end
abbrev pub answer_by : Choices → ℕ → List Header → Ending → Settlement → Answer
answer_by ch n hs e (Some c) = settled_answer (read_until [] hs) (Some c)
answer_by ch n hs e None = unsettled_answer ch n hs e

-- what is answered, for all octets: the headers are those of the multiframes that cutting meets, up to where it ends
unfoldable pub until_settled : Choices → List ℕ → Answer
until_settled ch octets =
    answer_by ch (length octets) (readings octets (cutting octets).places) (cutting octets).ending (first_agreeing [] (readings octets (cutting octets).places))
