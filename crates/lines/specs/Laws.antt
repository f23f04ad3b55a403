-- A multiframe's line tells its notes.
-- Assumes nothing.
use Rattle.std.specs.Prelude.{◌≡◌, refl, List, ◌++◌, ℕ, zero, suc, ◌+◌, ◌<◌, get_or}
use Rattle.std.proofs.Common.{sym, ap, ap₂, ◌∙◌, arith}
use Rattle.std.proofs.Math.ListN.{get_or-append}
use Rattle.lists.specs.Rows.{each, joined, length_each, each_at}
use Rattle.layout.specs.Layout.{multiframe_pairs}
use Rattle.text.specs.Text.{digit, decimal, decimal_small}
use Rattle.text.proofs.Laws.{told}
use Rattle.lines.specs.Lines.{newline, pair_text, line}

-- ---- a multiframe's line
-- it tells its header note, and the text of its pair notes
pub line_tells : (a b : List ℕ) → line a ≡ line b → (get_or a 0 0 ≡ get_or b 0 0) × (pair_text a ++ newline ≡ pair_text b ++ newline)
unfolding line
line_tells a b e = told (get_or a 0 0) (get_or b 0 0) 32 (pair_text a ++ newline) (pair_text b ++ newline) (omega arith) e

-- numbers below 10 are a digit each
one_digit_each : (f : ℕ → ℕ) (n : ℕ) → ((k : ℕ) → k < n → f k < 10) → joined (λ k. decimal (f k)) n ≡ each (λ k. digit (f k)) n
one_digit_each f zero h = refl
one_digit_each f (suc n) h =
    ap₂ (λ (x y : List ℕ). x ++ y) (one_digit_each f n (λ k i. h k (omega (arith, i)))) (decimal_small (f n) (h n (omega arith)))

digit_at : (f : ℕ → ℕ) (n : ℕ) (behind : List ℕ) → ((k : ℕ) → k < n → f k < 10) → (k : ℕ) → k < n
    → get_or (joined (λ i. decimal (f i)) n ++ behind) k 0 ≡ digit (f k)
digit_at f n behind h k i =
    ap (λ (l : List ℕ). get_or (l ++ behind) k 0) (one_digit_each f n h)
    ∙ get_or-append (each (λ j. digit (f j)) n) behind 0 k (omega (arith, i, length_each (λ j. digit (f j)) n))
    ∙ each_at (λ j. digit (f j)) n k 0 i

digits_told : (f g : ℕ → ℕ) (n : ℕ) (behind : List ℕ) → ((k : ℕ) → k < n → f k < 10) → ((k : ℕ) → k < n → g k < 10)
    → joined (λ k. decimal (f k)) n ++ behind ≡ joined (λ k. decimal (g k)) n ++ behind → (k : ℕ) → k < n → f k ≡ g k
digits_told f g n behind hf hg e k i =
    let d : digit (f k) ≡ digit (g k) = sym (digit_at f n behind hf k i) ∙ ap (λ (l : List ℕ). get_or l k 0) e ∙ digit_at g n behind hg k i in
    omega (arith, d)

-- each of the twelve pair notes is one digit, as every note of a reading is
abbrev pub OneDigit : List ℕ → Type 0
OneDigit notes = (p : ℕ) → p < multiframe_pairs → get_or notes (p + 1) 0 < 10

-- A MULTIFRAME'S LINE tells its header note and its pair notes
pub notes_told : (a b : List ℕ) → OneDigit a → OneDigit b → line a ≡ line b
    → (get_or a 0 0 ≡ get_or b 0 0) × ((p : ℕ) → p < multiframe_pairs → get_or a (p + 1) 0 ≡ get_or b (p + 1) 0)
unfolding pair_text
notes_told a b ha hb e =
    let t = line_tells a b e in
    (t.0, digits_told (λ p. get_or a (p + 1) 0) (λ p. get_or b (p + 1) 0) multiframe_pairs newline ha hb t.1)
