-- What a caller in C gets of `dsr_write`, `dsr_read` and `dsr_read_bits`, with which the entries' contracts are equations: when a number is 0, and
-- what stays when it is not (demand 1).
-- Assumes nothing.
use Rattle.std.specs.Prelude.{◌≡◌, Bool, List, [], ℕ, ◌≤◌, ◌<◌, drop, Some, Ok, Err}
use Rattle.std.proofs.Math.Path.{refl}
use Rattle.std.proofs.Common.{sym, ap, ap₂, ◌∙◌, arith, lt-ltb, ltb-false}
use Rattle.std.proofs.Math.Bool.{true, false}
use Rattle.std.proofs.Math.Dec.{ltb}
use Rattle.std.proofs.Math.ListN.{length}
use Rattle.choices.specs.declared.Choices.{Choices}
use Rattle.lists.specs.Tests.{when}
use Rattle.lists.specs.Parts.{over, drop_over}
use Rattle.tables.specs.Tables.{Tables}
use Rattle.settings.specs.Settings.{settings}
use Rattle.writer.specs.Writing as W
use Rattle.writer.specs.Writing.{writing}
use Rattle.writer.specs.Types as WA
use Rattle.refusals.specs.Refusals.{success, no_room, reading_number, reading_place, hunting_number, hunting_place}
use Rattle.refusals.proofs.Laws.{writing_no_success, reading_no_success, hunting_no_success}
use Rattle.reader.specs.Reading as R
use Rattle.reader.specs.Reading.{reading}
use Rattle.reader.specs.declared.Summary.{Summary}
use Rattle.refusals.specs.declared.Reading.{Reading as Refusal}
use Rattle.reader.proofs.ReadingLaws.{refusal_keeps}
use Rattle.reader.specs.Types.{Answer}
use Rattle.hunting.specs.Hunting as G
use Rattle.hunting.specs.Hunting.{hunting_reading}
use Rattle.hunting.specs.Says as F
use Rattle.hunting.proofs.Says as FL
use Rattle.hunting.specs.declared.Counted.{Counted}
use Rattle.refusals.specs.declared.Hunting as GR
use Rattle.hunting.specs.Types as GA
use Rattle.entries.specs.Entries.{answer_numbers, summary_numbers, Told, numbers, refusal, Given, given, returned, answered, returning, told_of, given_of, dsr_write, dsr_read}
use Rattle.entries.specs.Laws.{tells_numbers, tells_refusal, returns_told}
use Rattle.entries.specs.Bits.{counted_numbers, numbers_of, bits_told, bits_given, dsr_read_bits}

-- octets beyond what is laid over a buffer's front stay
pub beyond : (l f : List ℕ) (w : ℕ) → w ≤ length l → length f ≡ w → drop w (over l 0 w f) ≡ drop w l
beyond l f w room size = drop_over l f 0 w (omega arith) size w (omega arith)

-- ---- dsr_write
module _ (rate kind : ℕ) (indices out : List ℕ) where
  -- 0 is success: the place is the octets written
  pub write_zero : (dsr_write rate kind indices out).number ≡ 0 → (writing (settings rate kind) indices out).answer ≡ Ok (dsr_write rate kind indices out).place
  write_zero e = by (writing (settings rate kind) indices out).answer e
    where
      by : (a : WA.Answer) → W.number_of a ≡ 0 → a ≡ Ok (W.place_of a)
      by (Ok n) e = refl
      by (Err r) e = absurd (writing_no_success r e)

  -- any other number leaves the output as it came
  pub write_keeps : ((dsr_write rate kind indices out).number ≡ 0 → ⊥) → (dsr_write rate kind indices out).output ≡ out
  unfolding writing
  write_keeps n = by (W.verdict (settings rate kind) indices (length out)) n
    where
      by : (a : WA.Answer) → (W.number_of (W.finished (settings rate kind) indices out a).answer ≡ 0 → ⊥) → (W.finished (settings rate kind) indices out a).output ≡ out
      by (Ok k) n = absurd (n refl)
      by (Err r) n = refl

-- ---- both readings, of w numbers
module _ (w : ℕ) (a : List ℕ) (p : ℕ) (i r : List ℕ) (g : Given) where
  -- a success, with room for its numbers, is 0, both buffers and its numbers; numbers beyond them and the place stay
  pub told_success : w ≤ length a → (l : List ℕ) → g.told ≡ numbers l → returning w a p i r g ≡ returned 0 g.index g.report (over a 0 w l) p
  told_success h l e =
      let told : returned success [] [] (over a 0 w l) p ≡ answered w a p [] [] (numbers l) = tells_numbers w a p (numbers l) l (over a 0 w l) refl refl in
      sym (returns_told w a p i r g h (numbers l) g.index g.report (over a 0 w l) success p (ap (λ (t : Told). given t g.index g.report) (sym e)) told)

  -- a refusal is its number and its place, and the answer stays
  pub told_refused : w ≤ length a → (n q : ℕ) → g ≡ given (refusal n q) i r → returning w a p i r g ≡ returned n i r a q
  told_refused h n q e =
      let told : returned n [] [] a q ≡ answered w a p [] [] (refusal n q) = tells_refusal w a p (refusal n q) n q n q refl refl refl in
      sym (returns_told w a p i r g h (refusal n q) i r a n q (sym e) told)

  -- no room is 99, and all stays
  pub told_no_room : length a < w → returning w a p i r g ≡ returned no_room i r a p
  unfolding returning
  told_no_room h = rw (lt-ltb (length a) w h)

  -- 0 is told with room only
  pub told_zero : (returning w a p i r g).number ≡ 0 → (w ≤ length a) × ((answered w a p g.index g.report g.told).number ≡ 0)
  unfolding returning
  told_zero e = by (ltb (length a) w) refl e
    where
      by : (t : Bool) → ltb (length a) w ≡ t → (when t (returned no_room i r a p) (answered w a p g.index g.report g.told)).number ≡ 0
          → (w ≤ length a) × ((answered w a p g.index g.report g.told).number ≡ 0)
      by true s e = absurd (omega arith)
      by false s e = (ltb-false (length a) w s, e)

  -- where a refusal leaves both buffers, any other number than 0 does, and the answer stays
  pub told_keeps : ((n q : ℕ) → g.told ≡ refusal n q → (g.index ≡ i) × (g.report ≡ r)) → ((returning w a p i r g).number ≡ 0 → ⊥)
      → ((returning w a p i r g).index ≡ i) × (((returning w a p i r g).report ≡ r) × ((returning w a p i r g).answer ≡ a))
  unfolding returning
  told_keeps stays n = by (ltb (length a) w) g.told refl n
    where
      by : (t : Bool) (x : Told) → g.told ≡ x → ((when t (returned no_room i r a p) (answered w a p g.index g.report x)).number ≡ 0 → ⊥)
          → ((when t (returned no_room i r a p) (answered w a p g.index g.report x)).index ≡ i)
          × (((when t (returned no_room i r a p) (answered w a p g.index g.report x)).report ≡ r)
          × ((when t (returned no_room i r a p) (answered w a p g.index g.report x)).answer ≡ a))
      by true x q n = (refl, (refl, refl))
      by false (numbers l) q n = absurd (n refl)
      by false (refusal k m) q n = ((stays k m q).0, ((stays k m q).1, refl))

-- numbers are no refusal
no_refusal : {l : List ℕ} {n q : ℕ} → numbers l ≡ refusal n q → ⊥
no_refusal e = let k : ◌≡◌ {A = ℕ} 0 1 = cc in omega arith

-- ---- dsr_read
module _ (a : List ℕ) (p : ℕ) (i r : List ℕ) (o : R.Outcome) where
  -- a reading that succeeds, with room for six numbers, is 0, both buffers and the six numbers; numbers beyond and the place stay
  pub read_success : answer_numbers ≤ length a → (g : Summary) → o.answer ≡ Ok g
      → returning answer_numbers a p i r (given_of o) ≡ returned 0 o.index o.report (over a 0 answer_numbers (summary_numbers g)) p
  read_success h g e = told_success answer_numbers a p i r (given_of o) h (summary_numbers g) (ap told_of e)

  -- and nothing else is 0
  pub read_zero : (returning answer_numbers a p i r (given_of o)).number ≡ 0 → (answer_numbers ≤ length a) × ((g : Summary) × (o.answer ≡ Ok g))
  read_zero e = let z = told_zero answer_numbers a p i r (given_of o) e in (z.0, by o.answer refl z.1)
    where
      by : (x : Answer) → o.answer ≡ x → (answered answer_numbers a p o.index o.report (told_of x)).number ≡ 0 → (g : Summary) × (o.answer ≡ Ok g)
      by (Ok g) q e = (g, q)
      by (Err x) q e = absurd (reading_no_success x e)

-- a refusal of the reader leaves both buffers
refusal_stays : (ch : Choices) (octets : List ℕ) (tables : Tables) (index report : List ℕ) (x : Refusal) → (reading ch octets tables index report).answer ≡ Err x
    → ((reading ch octets tables index report).index ≡ index) × ((reading ch octets tables index report).report ≡ report)
refusal_stays ch octets tables index report x e =
    let k = refusal_keeps ch octets tables index report x e in
    (ap (λ (o : R.Outcome). o.index) k, ap (λ (o : R.Outcome). o.report) k)

-- any other number leaves both buffers and the answer as they came
pub read_keeps : (ch : Choices) (octets : List ℕ) (tables : Tables) (index report answer : List ℕ) (place : ℕ)
    → ((dsr_read octets (Some ch) tables index report answer place).number ≡ 0 → ⊥)
    → ((dsr_read octets (Some ch) tables index report answer place).index ≡ index)
    × (((dsr_read octets (Some ch) tables index report answer place).report ≡ report) × ((dsr_read octets (Some ch) tables index report answer place).answer ≡ answer))
read_keeps ch octets tables index report answer place =
    told_keeps answer_numbers answer place index report (given_of (reading ch octets tables index report)) (λ n q.
    by (reading ch octets tables index report).answer refl)
  where
    by : (x : Answer) {n q : ℕ} → (reading ch octets tables index report).answer ≡ x → told_of x ≡ refusal n q
        → ((reading ch octets tables index report).index ≡ index) × ((reading ch octets tables index report).report ≡ report)
    by (Ok g) z e = absurd (no_refusal e)
    by (Err y) z e = refusal_stays ch octets tables index report y z

-- a refusal gives 01's number and its place, and all else stays; with no room for six numbers it is 99, and all stays
pub read_refused : (ch : Choices) (octets : List ℕ) (tables : Tables) (index report answer : List ℕ) (place : ℕ) (x : Refusal) → answer_numbers ≤ length answer
    → (reading ch octets tables index report).answer ≡ Err x
    → dsr_read octets (Some ch) tables index report answer place ≡ returned (reading_number x) index report answer (reading_place x)
read_refused ch octets tables index report answer place x room e =
    told_refused answer_numbers answer place index report (given_of (reading ch octets tables index report)) room (reading_number x) (reading_place x)
    (ap given_of (refusal_keeps ch octets tables index report x e))

pub read_no_room : (ch : Choices) (octets : List ℕ) (tables : Tables) (index report answer : List ℕ) (place : ℕ) → length answer < answer_numbers
    → dsr_read octets (Some ch) tables index report answer place ≡ returned no_room index report answer place
read_no_room ch octets tables index report answer place =
    told_no_room answer_numbers answer place index report (given_of (reading ch octets tables index report))

-- ---- dsr_read_bits
module _ (a : List ℕ) (p : ℕ) (i r : List ℕ) (o : G.Outcome) where
  pub bits_success : counted_numbers ≤ length a → (c : Counted) → o.answer ≡ Ok c
      → returning counted_numbers a p i r (bits_given o) ≡ returned 0 o.index o.report (over a 0 counted_numbers (numbers_of c)) p
  bits_success h c e = told_success counted_numbers a p i r (bits_given o) h (numbers_of c) (ap bits_told e)

  pub bits_zero : (returning counted_numbers a p i r (bits_given o)).number ≡ 0 → (counted_numbers ≤ length a) × ((c : Counted) × (o.answer ≡ Ok c))
  bits_zero e = let z = told_zero counted_numbers a p i r (bits_given o) e in (z.0, by o.answer refl z.1)
    where
      by : (x : GA.Answer) → o.answer ≡ x → (answered counted_numbers a p o.index o.report (bits_told x)).number ≡ 0 → (c : Counted) × (o.answer ≡ Ok c)
      by (Ok c) q e = (c, q)
      by (Err x) q e = absurd (hunting_no_success x e)

-- a refusal of the hunting reader leaves both buffers
module _ (ch : Choices) (s : List ℕ) (from least : ℕ) (tables : Tables) (index report : List ℕ) where
  abbrev found : G.Outcome
  found = hunting_reading ch s from least tables index report

  bits_stay : (x : GR.Hunting) → found.answer ≡ Err x → (found.index ≡ index) × (found.report ≡ report)
  bits_stay x e = by (FL.fate ch s from least tables index report)
    where
      kept : (y : GR.Hunting) → found ≡ G.outcome (Err y) index report → (found.index ≡ index) × (found.report ≡ report)
      kept y q = (ap (λ (o : G.Outcome). o.index) q, ap (λ (o : G.Outcome). o.report) q)

      counted_stays : (o : R.Outcome) (n t : ℕ) → ((y : Refusal) → o.answer ≡ Err y → (o.index ≡ index) × (o.report ≡ report)) → found ≡ G.counted o n t
          → (found.index ≡ index) × (found.report ≡ report)
      counted_stays o n t stays q = from_answer o.answer refl
        where
          from_answer : (y : Answer) → o.answer ≡ y → (found.index ≡ index) × (found.report ≡ report)
          from_answer (Ok g) z =
              let f : Ok _ ≡ Err x = sym (ap (λ (w : Answer). G.with_counts w n t) z) ∙ sym (ap (λ (w : G.Outcome). w.answer) q) ∙ e in
              let k : ◌≡◌ {A = ℕ} 0 1 = cc in absurd (omega arith)
          from_answer (Err y) z =
              (ap (λ (w : G.Outcome). w.index) q ∙ (stays y z).0, ap (λ (w : G.Outcome). w.report) q ∙ (stays y z).1)

      by : F.Fate ch s from least tables index report → (found.index ≡ index) × (found.report ≡ report)
      by (F.wrong_tables w q) = kept _ q
      by (F.negative_threshold k h n q) = kept _ q
      by (F.range t w q) = kept _ q
      by (F.nowhere t r n q) = kept _ q
      by (F.many p t r x b q) = kept _ q
      by (F.read t r n w q) = counted_stays _ _ _ (refusal_stays ch _ tables index report) q

  -- any other number than 0 leaves both buffers and the answer as they came
  pub bits_kept : (answer : List ℕ) (place : ℕ) → ((dsr_read_bits s from least (Some ch) tables index report answer place).number ≡ 0 → ⊥)
      → ((dsr_read_bits s from least (Some ch) tables index report answer place).index ≡ index)
      × (((dsr_read_bits s from least (Some ch) tables index report answer place).report ≡ report) × ((dsr_read_bits s from least (Some ch) tables index report answer place).answer ≡ answer))
  bits_kept answer place = told_keeps counted_numbers answer place index report (bits_given found) (λ n q. by found.answer refl)
    where
      by : (x : GA.Answer) {n q : ℕ} → found.answer ≡ x → bits_told x ≡ refusal n q → (found.index ≡ index) × (found.report ≡ report)
      by (Ok c) z e = absurd (no_refusal e)
      by (Err y) z e = bits_stay y z

  -- a refusal gives its number and its place, and all else stays; with no room for eight numbers it is 99, and all stays
  pub bits_refused : (answer : List ℕ) (place : ℕ) (x : GR.Hunting) → counted_numbers ≤ length answer → found.answer ≡ Err x
      → dsr_read_bits s from least (Some ch) tables index report answer place ≡ returned (hunting_number x) index report answer (hunting_place x)
  bits_refused answer place x room e =
      let k = bits_stay x e in
      told_refused counted_numbers answer place index report (bits_given found) room (hunting_number x) (hunting_place x)
      (ap (λ (y : GA.Answer). given (bits_told y) found.index found.report) e ∙ ap₂ (given (bits_told (Err x))) k.0 k.1)

  pub bits_no_room : (answer : List ℕ) (place : ℕ) → length answer < counted_numbers
      → dsr_read_bits s from least (Some ch) tables index report answer place ≡ returned no_room index report answer place
  bits_no_room answer place = told_no_room counted_numbers answer place index report (bits_given found)
