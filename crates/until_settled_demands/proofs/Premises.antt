-- Utterances and images that meet the premises of these theorems, so that none of them speaks of nothing.
-- Assumes nothing.
use Rattle.std.specs.Prelude.{ℕ, ◌*◌, ◌≤◌, ◌≡◌, List, ◌++◌, take, Ok}
use Rattle.std.proofs.Common.{sym, ap, ◌∙◌, le_of_eq}
use Rattle.layout.specs.Layout.{multiframe_octets}
use Rattle.settings.specs.Settings.{settings}
use Rattle.settings.specs.declared.Settings.{Settings}
use Rattle.choices.specs.declared.Choices.{Choices}
use Rattle.writer.specs.Utterance.{multiframes_of, image_of}
use Rattle.demands_met.specs.Met.{says24, two_multiframes, settings_24, hurt_image}
use Rattle.demands_met.proofs.MetLaws.{names_says24}
use Rattle.until_settled.specs.UntilSettled.{until_settled}
use Rattle.until_settled_demands.proofs.WrittenLaws.{damaged_settles, growing_settles}

-- 24 frames of 8 kHz, type 0, are two multiframes
two : 2 ≤ multiframes_of says24
two = le_of_eq (sym two_multiframes)

-- ---- with flips in both headers and pairs damaged
pub hurt_settles : (ch : Choices) → until_settled ch (hurt_image says24) ≡ Ok (record { settings = settings 0 0; multiframes = 2 })
hurt_settles ch =
    damaged_settles ch says24 (hurt_image says24) two (names_says24 ch).damage ∙ ap (λ (x : Settings). Ok (record { settings = x; multiframes = 2 })) settings_24

-- ---- its first 288 octets, and whatever comes behind them
pub growing_24 : (ch : Choices) (more : List ℕ) → until_settled ch (take (multiframe_octets * 2) (image_of says24) ++ more) ≡ Ok (record { settings = settings 0 0; multiframes = 2 })
growing_24 ch more = growing_settles ch says24 two more ∙ ap (λ (x : Settings). Ok (record { settings = x; multiframes = 2 })) settings_24
