-- Whole multiframes and inverse syncs in any order, as cutting's laws call them chunks: what is cut behind them, that octets which are cut to
-- their end are chunks, and how a reading refuses what cutting refuses.
-- Assumes nothing.
use Rattle.std.specs.Prelude.{◌≡◌, refl, List, [], ◌∷◌, ◌++◌, ℕ, zero, suc, ◌+◌, ◌*◌, ◌≤◌, ◌<◌, length, take, drop, get_or, Err}
use Rattle.std.proofs.Common.{sym, ap₂, ◌∙◌, append_assoc, arith, length-append, length-drop, take-append-drop, length-take-le, drop_at, get_or-take, ext_get_or}
use Rattle.std.proofs.Math.Path.{ap}
use Rattle.std.proofs.Math.ListN.{get_or-append}
use Rattle.layout.specs.Layout.{multiframe_octets, sync_octets, most_multiframes, sync_first, sync_second, inverse_first, inverse_second}
use Rattle.choices.specs.declared.Choices.{Choices}
use Rattle.tables.specs.Tables.{Tables, RightTables}
use Rattle.tables.proofs.AdmittedLaws.{right_passes}
use Rattle.cutting.specs.declared.Piece.{Piece}
use Rattle.cutting.specs.declared.Piece.TheVariants.{End, Multiframe, Inverse, Unknown, CutShort, TooMany}
use Rattle.cutting.specs.Cutting.{piece_of, whole, refused, Cutting, prepend, step, walk, cutting}
use Rattle.cutting.specs.Laws.{Says, Chunk, multiframe, inverse, octets_of, places_of, Proper}
use Rattle.cutting.proofs.Laws.{multiframe_met, inverse_met, says, walk_step}
use Rattle.deciding.specs.Deciding.{whole_verdict}
use Rattle.reader.specs.Reading.{end_verdict, verdict, Outcome, outcome, reading}
use Rattle.reader.proofs.ReadingLaws.{refused_keeps}
use Rattle.refusals.specs.Refusals.{reading_number, reading_place}
use Rattle.refusals.specs.declared.Reading.{Reading as Refusal}
use Rattle.refusals.specs.declared.Reading.TheVariants as RR

-- ---- chunks
-- the octets of each multiframe, in order
abbrev pub multiframes_in : List Chunk → List (List ℕ)
multiframes_in [] = []
multiframes_in (multiframe f ∷ cs) = f ∷ multiframes_in cs
multiframes_in (inverse ∷ cs) = multiframes_in cs

-- how many multiframes and how many inverse syncs there are
abbrev pub multiframe_count : List Chunk → ℕ
multiframe_count cs = length (multiframes_in cs)

abbrev pub inverse_count : List Chunk → ℕ
inverse_count [] = 0
inverse_count (multiframe f ∷ cs) = inverse_count cs
inverse_count (inverse ∷ cs) = suc (inverse_count cs)

-- a place for each multiframe
pub places_count : (cs : List Chunk) (p : ℕ) → length (places_of p cs) ≡ multiframe_count cs
places_count [] p = refl
places_count (multiframe f ∷ cs) p = ap suc (places_count cs (p + multiframe_octets))
places_count (inverse ∷ cs) p = places_count cs (p + sync_octets)

-- 144 octets a multiframe and 2 an inverse sync
pub chunk_octets : (cs : List Chunk) → Proper cs → length (octets_of cs) ≡ multiframe_octets * multiframe_count cs + sync_octets * inverse_count cs
chunk_octets [] ok = refl
chunk_octets (multiframe f ∷ cs) ok = let h = chunk_octets cs ok.3 in omega (arith, length-append f (octets_of cs), ok.0)
chunk_octets (inverse ∷ cs) ok = let h = chunk_octets cs ok in omega arith

-- ---- what is cut behind chunks is cut as it would be alone, but for its place and the multiframes before it
pub cut_behind : (cs : List Chunk) (r : List ℕ) (p m : ℕ) → Proper cs → m + multiframe_count cs ≤ most_multiframes
    → (walk 0 (octets_of cs ++ r) p m).ending ≡ (walk 0 r (p + length (octets_of cs)) (m + multiframe_count cs)).ending
cut_behind [] r p m ok few = let a : p ≡ p + 0 = omega arith in let b : m ≡ m + 0 = omega arith in ap₂ (λ (i n : ℕ). (walk 0 r i n).ending) a b
cut_behind (multiframe f ∷ cs) r p m ok few =
    let l = octets_of cs ++ r in
    let a : get_or (f ++ l) 0 0 ≡ sync_first = get_or-append f l 0 0 (omega (arith, ok.0)) ∙ ok.1 in
    let b : get_or (f ++ l) 1 0 ≡ sync_second = get_or-append f l 0 1 (omega (arith, ok.0)) ∙ ok.2 in
    let n : multiframe_octets ≤ length (f ++ l) = omega (arith, length-append f l, ok.0) in
    let q : piece_of (f ++ l) m ≡ Multiframe = rw (a, b) (multiframe_met (length (f ++ l)) m n (omega arith)) in
    let w : walk 0 (f ++ l) p m ≡ prepend p (walk 0 l (p + multiframe_octets) (m + 1)) = walk_step (f ++ l) p m ∙ rw (q, drop_at f l multiframe_octets ok.0) in
    let i : p + multiframe_octets + length (octets_of cs) ≡ p + length (f ++ octets_of cs) = omega (arith, length-append f (octets_of cs), ok.0) in
    let k : m + 1 + multiframe_count cs ≡ m + suc (multiframe_count cs) = omega arith in
    ap (λ (s : List ℕ). (walk 0 s p m).ending) (append_assoc f (octets_of cs) r) ∙ ap (λ (x : Cutting). x.ending) w
    ∙ cut_behind cs r (p + multiframe_octets) (m + 1) ok.3 (omega arith) ∙ ap₂ (λ (i n : ℕ). (walk 0 r i n).ending) i k
cut_behind (inverse ∷ cs) r p m ok few =
    let l = octets_of cs ++ r in
    let n : 2 ≤ length (inverse_first ∷ inverse_second ∷ l) = omega arith in
    let w : walk 0 (inverse_first ∷ inverse_second ∷ l) p m ≡ walk 0 l (p + 2) m =
    walk_step (inverse_first ∷ inverse_second ∷ l) p m ∙ rw (inverse_met (length (inverse_first ∷ inverse_second ∷ l)) m n) in
    let i : p + 2 + length (octets_of cs) ≡ p + suc (suc (length (octets_of cs))) = omega arith in
    ap (λ (x : Cutting). x.ending) w ∙ cut_behind cs r (p + 2) m ok few ∙ ap (λ (i : ℕ). (walk 0 r i (m + multiframe_count cs)).ending) i

-- so is what cutting refuses: at the place behind them
pub refused_behind : (cs : List Chunk) (r : List ℕ) (q : Piece) (x : Refusal) → Proper cs → multiframe_count cs ≤ most_multiframes → piece_of r (multiframe_count cs) ≡ q
    → ((v w : Cutting) → (step q (length (octets_of cs)) v w).ending ≡ refused x) → (cutting (octets_of cs ++ r)).ending ≡ refused x
refused_behind cs r q x ok few met refuses =
    let z : (k : ℕ) → 0 + k ≡ k = λ k. omega arith in
    cut_behind cs r 0 0 ok (omega arith) ∙ ap₂ (λ (i k : ℕ). (walk 0 r i k).ending) (z (length (octets_of cs))) (z (multiframe_count cs))
    ∙ ap (λ (x : Cutting). x.ending) (walk_step r (length (octets_of cs)) (multiframe_count cs)) ∙ rw met (refuses _ _)

-- ---- octets that are cut to their end are chunks
pub record Chunked (s : List ℕ) (count : ℕ) : Type 0 where
  pub chunks : List Chunk
  pub proper : Proper chunks
  pub octets : octets_of chunks ≡ s
  pub counted : multiframe_count chunks ≡ count

not_whole : (x : Refusal) → refused x ≡ whole → ⊥
not_whole x e = let z : ◌≡◌ {A = ℕ} 0 1 = cc in omega arith

chunked_on : (n : ℕ) (s : List ℕ) (p m : ℕ) → length s ≤ suc n → (walk 0 s p m).ending ≡ whole
    → ((r : List ℕ) (i k : ℕ) → length r ≤ n → (walk 0 r i k).ending ≡ whole → Chunked r (length (walk 0 r i k).places)) → Chunked s (length (walk 0 s p m).places)
unfolding walk
chunked_on n [] p m h e rest = record { chunks = []; proper = tt; octets = refl; counted = refl }
chunked_on n (x ∷ l) p m h e rest =
    let s = x ∷ l in
    rw (walk_step s p m) (by (piece_of s m) (says (length s) x (get_or l 0 0) m) (ap (λ (w : Cutting). w.ending) (sym (walk_step s p m)) ∙ e))
  where
    by : (q : Piece) → Says (length (x ∷ l)) x (get_or l 0 0) m q
        → (step q p (walk 0 (drop multiframe_octets (x ∷ l)) (p + multiframe_octets) (m + 1)) (walk 0 (drop 2 (x ∷ l)) (p + 2) m)).ending ≡ whole
        → Chunked (x ∷ l) (length (step q p (walk 0 (drop multiframe_octets (x ∷ l)) (p + multiframe_octets) (m + 1)) (walk 0 (drop 2 (x ∷ l)) (p + 2) m)).places)
    by End z e = absurd (omega arith)
    by Unknown z e = absurd (not_whole (RR.Unknown p) e)
    by CutShort z e = absurd (not_whole (RR.CutShort p) e)
    by TooMany z e = absurd (not_whole (RR.TooMany p) e)
    by Multiframe z e =
        let s = x ∷ l in
        let c = rest (drop multiframe_octets s) (p + multiframe_octets) (m + 1) (omega (arith, length-drop multiframe_octets s)) e in
        record {
          chunks = multiframe (take multiframe_octets s) ∷ c.chunks;
          proper = (length-take-le multiframe_octets s z.0, z.2, get_or-take multiframe_octets s 1 0 (omega arith) ∙ z.3, c.proper);
          octets = ap (λ (r : List ℕ). take multiframe_octets s ++ r) c.octets ∙ take-append-drop multiframe_octets s;
          counted = ap suc c.counted;
        }
    by Inverse z e =
        let s = x ∷ l in
        let c = rest (drop 2 s) (p + 2) m (omega (arith, length-drop 2 s)) e in
        let y : take 2 s ≡ inverse_first ∷ inverse_second ∷ [] =
        ext_get_or 0 (take 2 s) (inverse_first ∷ inverse_second ∷ []) (length-take-le 2 s z.0) (λ i j. two i (omega (arith, length-take-le 2 s z.0))) in
        record {
          chunks = inverse ∷ c.chunks;
          proper = c.proper;
          octets = ap₂ (λ (a b : List ℕ). a ++ b) (sym y) c.octets ∙ take-append-drop 2 s;
          counted = c.counted;
        }
      where
        two : (i : ℕ) → i < 2 → get_or (take 2 (x ∷ l)) i 0 ≡ get_or (inverse_first ∷ inverse_second ∷ []) i 0
        two zero j = z.1
        two (suc zero) j = get_or-take 2 (x ∷ l) 1 0 (omega arith) ∙ z.2
        two (suc (suc i)) j = absurd (omega arith)

chunked_from : (n : ℕ) (s : List ℕ) (p m : ℕ) → length s ≤ n → (walk 0 s p m).ending ≡ whole → Chunked s (length (walk 0 s p m).places)
unfolding walk
chunked_from zero [] p m h e = record { chunks = []; proper = tt; octets = refl; counted = refl }
chunked_from zero (x ∷ l) p m h e = absurd (omega arith)
chunked_from (suc n) s p m h e = chunked_on n s p m h e (λ r i k j g. chunked_from n r i k j g)

pub chunked : (s : List ℕ) → (cutting s).ending ≡ whole → Chunked s (length (cutting s).places)
chunked s e = chunked_from (length s) s 0 0 (omega arith) e

-- ---- refusals
-- refused with 01's number and place, and both buffers as they came
pub record Refuses (o : Outcome) (index report : List ℕ) (number place : ℕ) : Type 0 where
  pub refusal : Refusal
  pub is_refused : o ≡ outcome (Err refusal) index report
  pub number_is : reading_number refusal ≡ number
  pub place_is : reading_place refusal ≡ place

module _ (ch : Choices) (s : List ℕ) (tables : Tables) (index report : List ℕ) (sized : RightTables tables) where
  -- with the tables right, cutting decides
  cutting_decides : verdict ch s tables (length index) (length report) ≡ end_verdict ch s tables (length index) (length report) (cutting s).places (cutting s).ending
  unfolding verdict
  cutting_decides = rw (right_passes tables sized)

  -- what cutting refuses is refused, with its number and place
  pub cut_refuses : (x : Refusal) → (cutting s).ending ≡ refused x → Refuses (reading ch s tables index report) index report (reading_number x) (reading_place x)
  cut_refuses x e = record {
    refusal = x;
    is_refused = refused_keeps ch s tables index report x
        (cutting_decides ∙ ap (end_verdict ch s tables (length index) (length report) (cutting s).places) e);
    number_is = refl;
    place_is = refl;
  }

  -- and chunks without a multiframe are 14, at the number of octets
  pub none_refuses : cutting s ≡ record { places = []; ending = whole } → Refuses (reading ch s tables index report) index report 14 (length s)
  unfolding whole_verdict
  none_refuses e = record {
    refusal = RR.Empty (length s);
    is_refused = refused_keeps ch s tables index report (RR.Empty (length s))
        (cutting_decides ∙ ap (λ (w : Cutting). end_verdict ch s tables (length index) (length report) w.places w.ending) e);
    number_is = refl;
    place_is = refl;
  }
