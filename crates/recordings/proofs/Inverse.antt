-- ONE INVERSE SYNC CHANGES NOTHING between any octets that are cut to their end, and hold 1 to 255 multiframes.
-- Assumes nothing.
use Rattle.std.specs.Prelude.{◌≡◌, refl}
use Rattle.std.proofs.Math.Path.{sym, ap}
use Rattle.std.proofs.Common.{ap₂, ◌∙◌}
use mathlib.Core.List.{List, [], ◌∷◌, ◌++◌, append_assoc}
use Prim.Native.Nat.{ℕ, ◌+◌, ◌≤◌, ◌<◌}
use native.Mathlib.Omega.{arith}
use Rattle.layout.specs.Layout.{most_multiframes, inverse_first, inverse_second}
use Rattle.choices.specs.declared.Choices.{Choices}
use Rattle.tables.specs.Tables.{Tables}
use Rattle.cutting.specs.Cutting.{whole, cutting}
use Rattle.cutting.specs.Laws.{Chunk, multiframe, inverse, octets_of, Proper}
use Rattle.reader.specs.Reading.{reading}
use Rattle.recordings.specs.Chunks.{multiframe_count, chunked}
use Rattle.recordings.specs.Inverse.{plain, inverses_change_nothing, found}

-- ---- ONE INVERSE SYNC, over octets alone
-- chunks behind chunks
octets_append : (cs ds : List Chunk) → octets_of (cs ++ ds) ≡ octets_of cs ++ octets_of ds
octets_append [] ds = refl
octets_append (multiframe f ∷ cs) ds = ap (λ (l : List ℕ). f ++ l) (octets_append cs ds) ∙ sym (append_assoc f (octets_of cs) (octets_of ds))
octets_append (inverse ∷ cs) ds = ap (λ (l : List ℕ). inverse_first ∷ inverse_second ∷ l) (octets_append cs ds)

plain_append : (cs ds : List Chunk) → plain (cs ++ ds) ≡ plain cs ++ plain ds
plain_append [] ds = refl
plain_append (multiframe f ∷ cs) ds = ap (λ (l : List Chunk). multiframe f ∷ l) (plain_append cs ds)
plain_append (inverse ∷ cs) ds = plain_append cs ds

proper_append : (cs ds : List Chunk) → Proper cs → Proper ds → Proper (cs ++ ds)
proper_append [] ds ok ok2 = ok2
proper_append (multiframe f ∷ cs) ds ok ok2 = (ok.0, ok.1, ok.2, proper_append cs ds ok.3 ok2)
proper_append (inverse ∷ cs) ds ok ok2 = proper_append cs ds ok ok2

count_append : (cs ds : List Chunk) → multiframe_count (cs ++ ds) ≡ multiframe_count cs + multiframe_count ds
count_append [] ds = omega arith
count_append (multiframe f ∷ cs) ds = let h = count_append cs ds in omega arith
count_append (inverse ∷ cs) ds = count_append cs ds

-- it changes nothing between any octets a and b, each of which is cut to its end
pub one_inverse : (ch : Choices) (a b : List ℕ) → (cutting a).ending ≡ whole → (cutting b).ending ≡ whole → 0 < found a + found b → found a + found b ≤ most_multiframes
    → (tables : Tables) (index report : List ℕ)
    → reading ch (a ++ (inverse_first ∷ inverse_second ∷ b)) tables index report ≡ reading ch (a ++ b) tables index report
one_inverse ch a b ca cb some few tables index report =
    let x = chunked a ca in
    let y = chunked b cb in
    let cs = x.chunks in
    let ds = y.chunks in
    let with-one : octets_of (cs ++ (inverse ∷ ds)) ≡ a ++ (inverse_first ∷ inverse_second ∷ b) =
    octets_append cs (inverse ∷ ds) ∙ ap₂ (λ (l m : List ℕ). l ++ (inverse_first ∷ inverse_second ∷ m)) x.octets y.octets in
    let without : octets_of (cs ++ ds) ≡ a ++ b = octets_append cs ds ∙ ap₂ (λ (l m : List ℕ). l ++ m) x.octets y.octets in
    let n : multiframe_count (cs ++ ds) ≡ found a + found b = count_append cs ds ∙ ap₂ ◌+◌ x.counted y.counted in
    let n1 : multiframe_count (cs ++ (inverse ∷ ds)) ≡ found a + found b = count_append cs (inverse ∷ ds) ∙ ap₂ ◌+◌ x.counted y.counted in
    ap (λ (s : List ℕ). reading ch s tables index report) (sym with-one)
    ∙ inverses_change_nothing ch (cs ++ (inverse ∷ ds)) (proper_append cs (inverse ∷ ds) x.proper y.proper) (omega (arith, n1)) (omega (arith, n1)) tables index report
    ∙ ap (λ (l : List Chunk). reading ch (octets_of l) tables index report) (plain_append cs (inverse ∷ ds) ∙ sym (plain_append cs ds))
    ∙ sym (inverses_change_nothing ch (cs ++ ds) (proper_append cs ds x.proper y.proper) (omega (arith, n)) (omega (arith, n)) tables index report)
    ∙ ap (λ (s : List ℕ). reading ch s tables index report) without
