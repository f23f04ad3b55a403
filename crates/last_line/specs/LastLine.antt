-- The last line of the listing that dsrlist prints (01, "Examples at the edges"), as octets in ASCII: the total, or the refusal.
-- Assumes nothing.
use Rattle.std.specs.Prelude.{ℕ, ◌+◌, ◌*◌, List, [], ◌∷◌, ◌++◌}
use Rattle.refusals.specs.Refusals.{reading_number, reading_place}
use Rattle.refusals.specs.declared.Reading.{Reading}
use Rattle.reader.specs.declared.Summary.{Summary}
use Rattle.text.specs.Text.{number_digits, field}
use Rattle.lines.specs.Lines.{newline, space}

-- ---- the words, each with the spaces round it
-- "rate "
abbrev pub rate_word : List ℕ
rate_word = 114 ∷ 97 ∷ 116 ∷ 101 ∷ 32 ∷ []

-- " type "
abbrev pub type_word : List ℕ
type_word = 32 ∷ 116 ∷ 121 ∷ 112 ∷ 101 ∷ 32 ∷ []

-- " multiframes "
abbrev pub multiframes_word : List ℕ
multiframes_word = 32 ∷ 109 ∷ 117 ∷ 108 ∷ 116 ∷ 105 ∷ 102 ∷ 114 ∷ 97 ∷ 109 ∷ 101 ∷ 115 ∷ 32 ∷ []

-- " speech "
abbrev pub speech_word : List ℕ
speech_word = 32 ∷ 115 ∷ 112 ∷ 101 ∷ 101 ∷ 99 ∷ 104 ∷ 32 ∷ []

-- " bad "
abbrev pub bad_word : List ℕ
bad_word = 32 ∷ 98 ∷ 97 ∷ 100 ∷ 32 ∷ []

-- " end "
abbrev pub end_word : List ℕ
end_word = 32 ∷ 101 ∷ 110 ∷ 100 ∷ 32 ∷ []

-- "refused "
abbrev pub refused_word : List ℕ
refused_word = 114 ∷ 101 ∷ 102 ∷ 117 ∷ 115 ∷ 101 ∷ 100 ∷ 32 ∷ []

-- ---- the line
-- the total: the success answer's fields, in that order
unfoldable pub total : Summary → List ℕ
total s =
    field rate_word s.settings.rate ++ (field type_word s.settings.kind ++ (field multiframes_word s.multiframes
    ++ (field speech_word s.speech ++ (field bad_word s.bad ++ (field end_word s.end ++ newline)))))

-- a refusal: `refused`, number, place
unfoldable pub refusal : Reading → List ℕ
refusal r = field refused_word (reading_number r) ++ (field space (reading_place r) ++ newline)

-- ---- the most octets that it can take
-- of a total or a refusal: 42 of words, six numbers and a line feed
abbrev pub most_total : ℕ
most_total = 6 * number_digits + 43
