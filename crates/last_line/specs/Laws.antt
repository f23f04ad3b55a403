-- The last line tells its numbers: a refusal its number and place, the total the success answer's fields.
-- Assumes nothing.
use Rattle.std.specs.Prelude.{◌≡◌, List, [], ◌∷◌, ◌++◌, ℕ, ◌<◌}
use Rattle.std.proofs.Common.{sym, ◌∙◌, append_assoc, arith}
use Rattle.refusals.specs.Refusals.{reading_number, reading_place}
use Rattle.refusals.specs.declared.Reading.{Reading}
use Rattle.reader.specs.declared.Summary.{Summary}
use Rattle.text.specs.Text.{decimal, field}
use Rattle.text.proofs.Laws.{told}
use Rattle.lines.specs.Lines.{newline}
use Rattle.last_line.specs.LastLine.{rate_word, total, refusal}

-- A REFUSAL'S LINE tells its number and place
pub refusal_tells : (r q : Reading) → refusal r ≡ refusal q → (reading_number r ≡ reading_number q) × (reading_place r ≡ reading_place q)
unfolding refusal
refusal_tells r q e =
    let w : decimal (reading_number r) ++ (32 ∷ (decimal (reading_place r) ++ newline)) ≡ decimal (reading_number q) ++ (32 ∷ (decimal (reading_place q) ++ newline)) = cc in
    let n = told (reading_number r) (reading_number q) 32 (decimal (reading_place r) ++ newline) (decimal (reading_place q) ++ newline) (omega arith) w in
    let p = told (reading_place r) (reading_place q) 10 [] [] (omega arith) n.1 in
    (n.0, p.0)

-- ---- the total
same_front : (w x y : List ℕ) → w ++ x ≡ w ++ y → x ≡ y
same_front [] x y e = e
same_front (a ∷ w) x y e = same_front w x y cc

field_told : (w : List ℕ) (m n s : ℕ) (x y : List ℕ) → s < 48 → field w m ++ (s ∷ x) ≡ field w n ++ (s ∷ y) → (m ≡ n) × (x ≡ y)
field_told w m n s x y h e =
    told m n s x y h
    (same_front w (decimal m ++ (s ∷ x)) (decimal n ++ (s ∷ y)) (sym (append_assoc w (decimal m) (s ∷ x)) ∙ e ∙ append_assoc w (decimal n) (s ∷ y)))

-- the words behind their first space
abbrev type_letters : List ℕ
type_letters = 116 ∷ 121 ∷ 112 ∷ 101 ∷ 32 ∷ []

abbrev multiframes_letters : List ℕ
multiframes_letters = 109 ∷ 117 ∷ 108 ∷ 116 ∷ 105 ∷ 102 ∷ 114 ∷ 97 ∷ 109 ∷ 101 ∷ 115 ∷ 32 ∷ []

abbrev speech_letters : List ℕ
speech_letters = 115 ∷ 112 ∷ 101 ∷ 101 ∷ 99 ∷ 104 ∷ 32 ∷ []

abbrev bad_letters : List ℕ
bad_letters = 98 ∷ 97 ∷ 100 ∷ 32 ∷ []

abbrev end_letters : List ℕ
end_letters = 101 ∷ 110 ∷ 100 ∷ 32 ∷ []

-- what stands behind the space after each number
abbrev from_end : Summary → List ℕ
from_end s = field end_letters s.end ++ newline

abbrev from_bad : Summary → List ℕ
from_bad s = field bad_letters s.bad ++ (32 ∷ from_end s)

abbrev from_speech : Summary → List ℕ
from_speech s = field speech_letters s.speech ++ (32 ∷ from_bad s)

abbrev from_multiframes : Summary → List ℕ
from_multiframes s = field multiframes_letters s.multiframes ++ (32 ∷ from_speech s)

abbrev from_type : Summary → List ℕ
from_type s = field type_letters s.settings.kind ++ (32 ∷ from_multiframes s)

-- what two equal totals have alike
pub record Alike (s t : Summary) : Type 0 where
  pub rate : s.settings.rate ≡ t.settings.rate
  pub kind : s.settings.kind ≡ t.settings.kind
  pub multiframes : s.multiframes ≡ t.multiframes
  pub speech : s.speech ≡ t.speech
  pub bad : s.bad ≡ t.bad
  pub end : s.end ≡ t.end

-- THE TOTAL tells every field of the success answer
pub total_tells : (s t : Summary) → total s ≡ total t → Alike s t
unfolding total
total_tells s t e =
    let a = field_told rate_word s.settings.rate t.settings.rate 32 (from_type s) (from_type t) (omega arith) e in
    let b = field_told type_letters s.settings.kind t.settings.kind 32 (from_multiframes s) (from_multiframes t) (omega arith) a.1 in
    let c = field_told multiframes_letters s.multiframes t.multiframes 32 (from_speech s) (from_speech t) (omega arith) b.1 in
    let d = field_told speech_letters s.speech t.speech 32 (from_bad s) (from_bad t) (omega arith) c.1 in
    let f = field_told bad_letters s.bad t.bad 32 (from_end s) (from_end t) (omega arith) d.1 in
    let g = field_told end_letters s.end t.end 10 [] [] (omega arith) f.1 in
    record { rate = a.0; kind = b.0; multiframes = c.0; speech = d.0; bad = f.0; end = g.0 }
