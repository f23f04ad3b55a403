-- The headers of a damaged image: as what the reader takes them, and which of them settle the settings sent. Up to two flips are mended and
-- counted, three lose a header, and two that are read settle; where the caller asks for the old rule (02, C-20), an only one that is untouched
-- does too.
-- Assumes nothing.
use Rattle.std.specs.Prelude.{◌≡◌, true, List, ◌⊎◌, ℕ, ◌≤◌, ◌<◌, leb, Some, None}
use Rattle.choices.specs.declared.Choices.{Choices}
use Rattle.lists.specs.Tests.{when}
use Rattle.choices.specs.Choices.{one_settles}
use Rattle.header_code.specs.Code.{flips_to}
use Rattle.message.specs.Message.{message, common_bits}
use Rattle.header.specs.Reading as H
use Rattle.header.specs.Types.{Header}
use Rattle.writer.specs.Utterance.{Utterance, multiframes_of, image_of}
use Rattle.damage.specs.Damage.{header_flips}

-- the common bits that the writer sends, whatever the counter
abbrev pub sent_common : Utterance → ℕ
sent_common u = common_bits (message u.settings 0 0)

-- what a header is read as whose word came for this message: up to two flips are mended and counted, three lose it
abbrev pub heard_as : ℕ → ℕ → Header
heard_as w message = when (leb (flips_to w message) H.mendable) (Some (H.decoded_as w message)) None

-- two headers have at most two flips each
pub record TwoReadable (u : Utterance) (s : List ℕ) : Type 0 where
  pub one : ℕ
  pub two : ℕ
  pub order : one < two
  pub within : two < multiframes_of u
  pub few_of_one : header_flips (image_of u) s one ≤ 2
  pub few_of_two : header_flips (image_of u) s two ≤ 2

-- what settles the settings: two such headers; or, where the caller asks for the old rule, an only header that is untouched
abbrev pub Settling : Choices → Utterance → List ℕ → Type 0
Settling ch u s = TwoReadable u s ⊎ ((one_settles ch ≡ true) × ((multiframes_of u ≡ 1) × (header_flips (image_of u) s 0 ≡ 0)))

-- what demand 3 asks of m headers, the first of which came with so many flips: "two multiframes or more, or an untouched only header", the
-- latter only where the caller asks for the old rule: "under the new default [..] demand 3 need[s] two multiframes or more" (02, C-20)
abbrev pub CanSettle : Choices → ℕ → ℕ → Type 0
CanSettle ch m flips = (2 ≤ m) ⊎ ((one_settles ch ≡ true) × (flips ≡ 0))
