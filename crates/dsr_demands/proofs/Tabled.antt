-- What a caller in C is told of the tables (02, C-12): 10 and its place exactly for the first negative threshold behind right sizes, whatever was received, and
-- 0 only where no threshold is negative. The same of the reading that hunts.
-- Assumes nothing.
use Rattle.std.specs.Prelude.{◌≡◌, Bool, List, [], ℕ, ◌≤◌, ◌<◌, Some, Ok, Err}
use Rattle.std.proofs.Math.Path.{refl, ap}
use Rattle.std.proofs.Common.{sym, ◌∙◌, subst, inl, inr, arith, ltb-false}
use Rattle.std.proofs.Math.Bool.{true, false}
use Rattle.std.proofs.Math.Dec.{ltb}
use Rattle.std.proofs.Math.ListN.{length}
use Rattle.lists.specs.Tests.{when, true_false}
use Rattle.lists.specs.Search.{first_from}
use Rattle.layout.specs.Layout.{threshold_numbers}
use Rattle.choices.specs.declared.Choices.{Choices}
use Rattle.tables.specs.Tables.{Tables, at as number_at, negative, RightSizes, RightTables, FirstNegative, sizes_right, admission}
use Rattle.tables.proofs.AdmittedLaws.{ten_exactly}
use Rattle.refusals.specs.Refusals.{no_room, reading_number, reading_place, hunting_number, hunting_place}
use Rattle.refusals.specs.declared.Reading.{Reading as Refusal}
use Rattle.refusals.specs.declared.Reading.TheVariants as RV
use Rattle.refusals.specs.declared.Hunting.{Hunting}
use Rattle.refusals.specs.declared.Hunting.TheVariants as HV
use Rattle.reader.specs.Reading.{reading}
use Rattle.reader.proofs.RefusalLaws.{refused_exactly}
use Rattle.reader.specs.Types.{Answer}
use Rattle.hunting.specs.Hunting as G
use Rattle.hunting.specs.Hunting.{hunting_reading}
use Rattle.hunting.specs.Once.{negative_next}
use Rattle.hunting.specs.Says as F
use Rattle.hunting.proofs.Says as FL
use Rattle.hunting.specs.declared.Counted.{Counted}
use Rattle.hunting.specs.Types as GA
use Rattle.writer.specs.Utterance.{Utterance, image_of}
use Rattle.demands.proofs.WritesAgainLaws as A
use Rattle.entries.specs.Entries.{answer_numbers, Told, numbers, refusal, Given, Returned, returned, answered, returning, told_of, given_of, dsr_read}
use Rattle.entries.specs.Bits.{counted_numbers, bits_told, bits_given, dsr_read_bits}
use Rattle.dsr_demands.specs.Calls.{read_zero, read_refused, bits_zero, bits_refused}
use Rattle.dsr_demands.specs.Tabled.{last_negative}

-- ---- a number of 01 or 02 that is returned is the refusal's, and the place is its place
module _ (w : ℕ) (a : List ℕ) (p : ℕ) (i r : List ℕ) (g : Given) where
  returns_told : (returning w a p i r g).number ≡ 10 → (w ≤ length a) × ((q : ℕ) × ((g.told ≡ refusal 10 q) × ((returning w a p i r g).place ≡ q)))
  unfolding returning
  returns_told e = by (ltb (length a) w) g.told refl refl e
    where
      by : (t : Bool) (x : Told) → ltb (length a) w ≡ t → g.told ≡ x → (when t (returned no_room i r a p) (answered w a p g.index g.report x)).number ≡ 10
          → (w ≤ length a) × ((q : ℕ) × ((g.told ≡ refusal 10 q) × ((when t (returned no_room i r a p) (answered w a p g.index g.report x)).place ≡ q)))
      by true x s z e = absurd (omega arith)
      by false (numbers l) s z e = absurd (omega arith)
      by false (refusal n q) s z e = (ltb-false (length a) w s, (q, (z ∙ ap (λ (k : ℕ). refusal k q) e, refl)))

-- which refusal 10 is
of_number : (x : Refusal) → reading_number x ≡ 10 → x ≡ RV.NegativeThreshold (reading_place x)
of_number (RV.NegativeThreshold k) e = refl
of_number RV.WrongTables e = absurd (omega arith)
of_number (RV.Unknown p) e = absurd (omega arith)
of_number (RV.CutShort p) e = absurd (omega arith)
of_number (RV.Empty n) e = absurd (omega arith)
of_number (RV.TooMany p) e = absurd (omega arith)
of_number RV.Unsettled e = absurd (omega arith)
of_number RV.Unfit e = absurd (omega arith)
of_number (RV.IndexShort n) e = absurd (omega arith)
of_number (RV.ReportShort n) e = absurd (omega arith)
of_number RV.AllBad e = absurd (omega arith)

number_of : {n q m k : ℕ} → refusal n q ≡ refusal m k → (n ≡ m) × (q ≡ k)
number_of e = (cc, cc)

no_numbers : {l : List ℕ} {n q : ℕ} → numbers l ≡ refusal n q → ⊥
no_numbers e = let k : ◌≡◌ {A = ℕ} 0 1 = cc in omega arith

-- ---- dsr_read
module _ (ch : Choices) (octets : List ℕ) (tables : Tables) (index report answer : List ℕ) (place : ℕ) where
  -- 10 for the first negative threshold, whatever was received; all else stays
  pub c_negative : answer_numbers ≤ length answer → RightSizes tables → (k : ℕ) → FirstNegative tables k
      → dsr_read octets (Some ch) tables index report answer place ≡ returned 10 index report answer k
  c_negative room sized k first =
      read_refused ch octets tables index report answer place (RV.NegativeThreshold k) room
      ((refused_exactly ch octets tables index report (RV.NegativeThreshold k)).1 (sized, first))

  -- and for nothing else
  pub c_ten_only : (dsr_read octets (Some ch) tables index report answer place).number ≡ 10
      → RightSizes tables × FirstNegative tables (dsr_read octets (Some ch) tables index report answer place).place
  c_ten_only e =
      let z = returns_told answer_numbers answer place index report (given_of (reading ch octets tables index report)) e in
      by (reading ch octets tables index report).answer refl z.1.0 z.1.1.0 z.1.1.1
    where
      by : (x : Answer) → (reading ch octets tables index report).answer ≡ x → (q : ℕ) → told_of (reading ch octets tables index report).answer ≡ refusal 10 q
          → (dsr_read octets (Some ch) tables index report answer place).place ≡ q
          → RightSizes tables × FirstNegative tables (dsr_read octets (Some ch) tables index report answer place).place
      by (Ok s) ex q et ep = absurd (no_numbers (sym (ap told_of ex) ∙ et))
      by (Err x) ex q et ep =
          let n = number_of (sym (ap told_of ex) ∙ et) in
          let g = (refused_exactly ch octets tables index report (RV.NegativeThreshold (reading_place x))).0 (ex ∙ ap Err (of_number x n.0)) in
          (g.0, subst (FirstNegative tables) (n.1 ∙ sym ep) g.1)

  -- so its place is the number of a threshold
  pub c_ten_place : (dsr_read octets (Some ch) tables index report answer place).number ≡ 10
      → (dsr_read octets (Some ch) tables index report answer place).place < threshold_numbers
  c_ten_place e = (c_ten_only e).1.0

  -- 0 only with right tables
  pub c_zero_right : (dsr_read octets (Some ch) tables index report answer place).number ≡ 0 → RightTables tables
  c_zero_right e =
      let z = read_zero answer place index report (reading ch octets tables index report) e in
      (A.was_read ch octets tables index report [] z.1.0 z.1.1).reader_accepts.right_tables

-- ---- dsr_read_bits
module _ (ch : Choices) (s : List ℕ) (from least : ℕ) (tables : Tables) (index report answer : List ℕ) (place : ℕ) where
  pub c_bits_negative : counted_numbers ≤ length answer → RightSizes tables → (k : ℕ) → FirstNegative tables k
      → dsr_read_bits s from least (Some ch) tables index report answer place ≡ returned 10 index report answer k
  c_bits_negative room sized k first =
      bits_refused ch s from least tables index report answer place (HV.Octets (RV.NegativeThreshold k)) room
      (ap (λ (o : G.Outcome). o.answer) (negative_next ch s from least tables index report k sized first))

  pub c_bits_ten_only : (dsr_read_bits s from least (Some ch) tables index report answer place).number ≡ 10
      → RightSizes tables × FirstNegative tables (dsr_read_bits s from least (Some ch) tables index report answer place).place
  c_bits_ten_only e =
      let z = returns_told counted_numbers answer place index report (bits_given (hunting_reading ch s from least tables index report)) e in
      by (hunting_reading ch s from least tables index report).answer refl z.1.0 z.1.1.0 z.1.1.1
    where
      of : (x : Hunting) → (hunting_reading ch s from least tables index report).answer ≡ Err x → hunting_number x ≡ 10
          → RightSizes tables × FirstNegative tables (hunting_place x)
      of (HV.MatchRange n) ex e = absurd (omega arith)
      of (HV.Nowhere f n) ex e = absurd (omega arith)
      of (HV.TooMany p) ex e = absurd (omega arith)
      of (HV.Octets y) ex e = turned y (of_number y e) (subst (λ (v : Refusal). F.Comes ch s from least tables index report (HV.Octets v)) (of_number y e)
          (FL.comes ch s from least tables index report (HV.Octets y) ex))
        where
          turned : (y : Refusal) → y ≡ RV.NegativeThreshold (reading_place y) → F.Comes ch s from least tables index report (HV.Octets (RV.NegativeThreshold (reading_place y)))
              → RightSizes tables × FirstNegative tables (reading_place y)
          turned y q (inl h) = h
          turned y q (inr h) = absurd h

      by : (x : GA.Answer) → (hunting_reading ch s from least tables index report).answer ≡ x → (q : ℕ)
          → bits_told (hunting_reading ch s from least tables index report).answer ≡ refusal 10 q
          → (dsr_read_bits s from least (Some ch) tables index report answer place).place ≡ q
          → RightSizes tables × FirstNegative tables (dsr_read_bits s from least (Some ch) tables index report answer place).place
      by (Ok c) ex q et ep = absurd (no_numbers (sym (ap bits_told ex) ∙ et))
      by (Err x) ex q et ep =
          let n = number_of (sym (ap bits_told ex) ∙ et) in
          let g = of x ex n.0 in
          (g.0, subst (FirstNegative tables) (n.1 ∙ sym ep) g.1)

  pub c_bits_ten_place : (dsr_read_bits s from least (Some ch) tables index report answer place).number ≡ 10
      → (dsr_read_bits s from least (Some ch) tables index report answer place).place < threshold_numbers
  c_bits_ten_place e = (c_bits_ten_only e).1.0

  pub c_bits_zero_right : (dsr_read_bits s from least (Some ch) tables index report answer place).number ≡ 0 → RightTables tables
  c_bits_zero_right e =
      let z = bits_zero answer place index report (hunting_reading ch s from least tables index report) e in
      by z.1.0 z.1.1 (FL.fate ch s from least tables index report)
    where
      other : (c : Counted) (x : Hunting) → (hunting_reading ch s from least tables index report).answer ≡ Ok c
          → hunting_reading ch s from least tables index report ≡ G.outcome (Err x) index report → RightTables tables
      other c x f q = let g = sym (ap (λ (o : G.Outcome). o.answer) q) ∙ f in let k : ◌≡◌ {A = ℕ} 0 1 = cc in absurd (omega arith)

      by : (c : Counted) → (hunting_reading ch s from least tables index report).answer ≡ Ok c → F.Fate ch s from least tables index report → RightTables tables
      by c f (F.wrong_tables w q) = other c _ f q
      by c f (F.negative_threshold k h n q) = other c _ f q
      by c f (F.range t w q) = t
      by c f (F.nowhere t r n q) = t
      by c f (F.many p t r x b q) = t
      by c f (F.read t r n w q) = t

last_first_lem : RightSizes last_negative × FirstNegative last_negative 13
unfolding admission sizes_right first_from
last_first_lem = (ten_exactly last_negative 13).0 refl

-- every written utterance, which with right tables is read, is 10 at 13; and 10 tells which it was, and that none before it is negative
module _ (ch : Choices) (u : Utterance) (index report answer : List ℕ) (place : ℕ) (room : answer_numbers ≤ length answer) where
  pub written_10 : dsr_read (image_of u) (Some ch) last_negative index report answer place ≡ returned 10 index report answer 13
  written_10 = c_negative ch (image_of u) last_negative index report answer place room last_first_lem.0 13 last_first_lem.1

  pub written_10_tells : (negative (number_at last_negative.thresholds (dsr_read (image_of u) (Some ch) last_negative index report answer place).place) ≡ true)
      × ((i : ℕ) → i < (dsr_read (image_of u) (Some ch) last_negative index report answer place).place → negative (number_at last_negative.thresholds i) ≡ false)
  written_10_tells =
      let t = c_ten_only ch (image_of u) last_negative index report answer place (ap (λ (x : Returned). x.number) written_10) in (t.1.1, t.1.2)

-- and nothing received is read with it, at any bit neither
pub never_done : (ch : Choices) (octets index report answer : List ℕ) (place : ℕ) → (dsr_read octets (Some ch) last_negative index report answer place).number ≡ 0 → ⊥
never_done ch octets index report answer place e =
    true_false (sym last_first_lem.1.1 ∙ (c_zero_right ch octets last_negative index report answer place e).1 13 last_first_lem.1.0)

module _ (ch : Choices) (s : List ℕ) (from least : ℕ) (index report answer : List ℕ) (place : ℕ) where
  pub bits_never_done : (dsr_read_bits s from least (Some ch) last_negative index report answer place).number ≡ 0 → ⊥
  bits_never_done e =
      true_false (sym last_first_lem.1.1 ∙ (c_bits_zero_right ch s from least last_negative index report answer place e).1 13 last_first_lem.1.0)

  pub bits_always_10 : counted_numbers ≤ length answer
      → (dsr_read_bits s from least (Some ch) last_negative index report answer place ≡ returned 10 index report answer 13)
      × (negative (number_at last_negative.thresholds (dsr_read_bits s from least (Some ch) last_negative index report answer place).place) ≡ true)
  bits_always_10 room =
      let e = c_bits_negative ch s from least last_negative index report answer place room last_first_lem.0 13 last_first_lem.1 in
      (e, (c_bits_ten_only ch s from least last_negative index report answer place (ap (λ (x : Returned). x.number) e)).1.1)
