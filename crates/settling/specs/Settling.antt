-- Settings (01, "Settings"; 02, C-20), from the readings of all headers in order.
-- Assumes nothing.
use Rattle.std.specs.Prelude.{ℕ, List, [], ◌∷◌, Bool, true, false, eqb, Some, None}
use Rattle.lists.specs.Tests.{when}
use Rattle.message.specs.Message.{common_bits}
use Rattle.choices.specs.Choices.{one_settles}
use Rattle.choices.specs.declared.Choices.{Choices}
use Rattle.header.specs.Types.{Header}
use Rattle.settling.specs.Types.{Settlement}

-- ---- settings: common bits are SampRate, feType and EXP, a message with its counter 0

-- x is one of them
abbrev pub among : ℕ → List ℕ → Bool
among x [] = false
among x (y ∷ l) = when (eqb x y) true (among x l)

-- the common bits of the first readable header that agrees in them with an earlier readable one, of which `seen` are the common bits
unfoldable pub first_agreeing : List ℕ → List Header → Settlement
first_agreeing seen [] = None
first_agreeing seen (None ∷ hs) = first_agreeing seen hs
first_agreeing seen (Some d ∷ hs) =
    when (among (common_bits d.message) seen) (Some (common_bits d.message)) (first_agreeing (common_bits d.message ∷ seen) hs)

-- an only multiframe whose header is itself a codeword (house)
unfoldable pub only_one : List Header → Settlement
only_one [] = None
only_one (None ∷ hs) = None
only_one (Some d ∷ []) = when (eqb d.flips 0) (Some (common_bits d.message)) None
only_one (Some d ∷ h ∷ hs) = None

-- if none agrees
abbrev pub or_else : Settlement → Settlement → Settlement
or_else (Some c) other = Some c
or_else None other = other

-- one header alone settles only where the caller asks for it: by default an only multiframe settles nothing (02, C-20)
unfoldable pub settling : Choices → List Header → Settlement
settling ch hs = or_else (first_agreeing [] hs) (when (one_settles ch) (only_one hs) None)
