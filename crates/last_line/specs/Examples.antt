-- Literal examples: the total of the shipped sample's listing, another, and a refusal's line.
-- Assumes nothing.
use Rattle.std.specs.Prelude.{◌≡◌, refl, [], ◌∷◌}
use Rattle.settings.specs.Settings.{settings}
use Rattle.refusals.specs.declared.Reading.TheVariants.{Empty, CutShort}
use Rattle.text.specs.Text.{numeral, decimal}
use Rattle.last_line.specs.LastLine.{total, refusal}

-- the sample's total: "rate 0 type 0 multiframes 3 speech 60 bad 1 end 1"
pub sample_total : total record { settings = settings 0 0; multiframes = 3; speech = 60; bad = 1; end = 1 }
    ≡ 114 ∷ 97 ∷ 116 ∷ 101 ∷ 32 ∷ 48 ∷ 32 ∷ 116 ∷ 121 ∷ 112 ∷ 101 ∷ 32 ∷ 48 ∷ 32 ∷ 109 ∷ 117 ∷ 108 ∷ 116 ∷ 105 ∷ 102 ∷ 114 ∷ 97 ∷ 109 ∷ 101 ∷ 115
    ∷ 32 ∷ 51 ∷ 32 ∷ 115 ∷ 112 ∷ 101 ∷ 101 ∷ 99 ∷ 104 ∷ 32 ∷ 54 ∷ 48 ∷ 32 ∷ 98 ∷ 97 ∷ 100 ∷ 32 ∷ 49 ∷ 32 ∷ 101 ∷ 110 ∷ 100 ∷ 32 ∷ 49 ∷ 10 ∷ []
unfolding total decimal numeral
sample_total = refl

-- six numbers that differ: "rate 3 type 1 multiframes 2 speech 30 bad 4 end 0"
pub other_total : total record { settings = settings 3 1; multiframes = 2; speech = 30; bad = 4; end = 0 }
    ≡ 114 ∷ 97 ∷ 116 ∷ 101 ∷ 32 ∷ 51 ∷ 32 ∷ 116 ∷ 121 ∷ 112 ∷ 101 ∷ 32 ∷ 49 ∷ 32 ∷ 109 ∷ 117 ∷ 108 ∷ 116 ∷ 105 ∷ 102 ∷ 114 ∷ 97 ∷ 109 ∷ 101 ∷ 115 ∷ 32 ∷ 50 ∷ 32 ∷ 115 ∷ 112 ∷ 101 ∷ 101 ∷ 99 ∷ 104 ∷ 32 ∷ 51 ∷ 48 ∷ 32 ∷ 98 ∷ 97 ∷ 100 ∷ 32 ∷ 52 ∷ 32 ∷ 101 ∷ 110 ∷ 100 ∷ 32 ∷ 48 ∷ 10 ∷ []
unfolding total decimal numeral
other_total = refl

-- 01's empty input, "refused 14 0", and the sample cut inside its third multiframe, which begins at octet 290: "refused 13 290"
pub empty_refused : refusal (Empty 0) ≡ 114 ∷ 101 ∷ 102 ∷ 117 ∷ 115 ∷ 101 ∷ 100 ∷ 32 ∷ 49 ∷ 52 ∷ 32 ∷ 48 ∷ 10 ∷ []
unfolding refusal decimal numeral
empty_refused = refl

pub cut_refused : refusal (CutShort 290) ≡ 114 ∷ 101 ∷ 102 ∷ 117 ∷ 115 ∷ 101 ∷ 100 ∷ 32 ∷ 49 ∷ 51 ∷ 32 ∷ 50 ∷ 57 ∷ 48 ∷ 10 ∷ []
unfolding refusal decimal numeral
cut_refused = refl
