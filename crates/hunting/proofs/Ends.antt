-- How a hunting reading ends: the first tests, and what `gather` answered.
-- Assumes nothing.
use Rattle.gathering.specs.Types.{Gathered, whole_of, too_many_at}
use Rattle.std.specs.Prelude.{Ok, Err}
use Prim.Native.Nat.{ℕ, ◌+◌, ◌*◌, ◌≤◌, ◌<◌}
use mathlib.Core.Path.{◌≡◌, refl, sym, ap, ap₂, ◌∙◌, subst}
use mathlib.Core.Bool.{true, false}
use mathlib.Core.List.{List, [], ◌∷◌}
use native.Mathlib.Omega.{arith}
use lib.ListN.{length, take}
use Rattle.layout.specs.Layout.{multiframe_octets, most_multiframes}
use Rattle.choices.specs.declared.Choices.{Choices}
use Rattle.tables.specs.Tables.{Tables, admission}
use Rattle.bits.specs.Bits.{bits}
use Rattle.hunt.specs.Hunt.{multiframe_bits, in_range, searched}
use Rattle.reader.specs.Reading as R
use Rattle.reader.specs.Types.{Answer as OctetAnswer}
use Rattle.refusals.specs.declared.Reading.{Reading as OctetRefusal}
use Rattle.gathering.specs.Gathering.{Ending, whole, too_many, Gathering, gathering, outside_of, image_of, answered_by, answered, LaidBy, Laid}
use Rattle.gathering.proofs.Laws.{room_for, at_most, apart}
use Rattle.hunting.specs.Hunting.{Outcome, outcome, with_counts, counted, reading_by, reading_found, hunting_reading}
use Rattle.refusals.specs.declared.Hunting.TheVariants.{Octets, MatchRange, Nowhere, TooMany}

-- ---- the octet reader's answer
pub read_counted : (a b : OctetAnswer) (i r : List ℕ) (o : R.Outcome) (n t : ℕ) → R.outcome a i r ≡ o → a ≡ b → outcome (with_counts b n t) i r ≡ counted o n t
read_counted a b i r o n t e f = ap (λ (x : OctetAnswer). outcome (with_counts x n t) i r) (sym f) ∙ ap (λ (x : R.Outcome). counted x n t) e

-- ---- what gather answered
abbrev counted_of : Gathered → ℕ
counted_of (Ok w) = w.count
counted_of (Err t) = 0

abbrev tested_of : Gathered → ℕ
tested_of (Ok w) = w.tested
tested_of (Err t) = 0

abbrev place_of : Gathered → ℕ
place_of (Ok w) = 0
place_of (Err t) = t.place

answered_many : (w : Gathering) (p : ℕ) → too_many_at p ≡ answered w → w.ending ≡ too_many p
answered_many w p e = by w.ending refl e
  where
    by : (x : Ending) → w.ending ≡ x → too_many_at p ≡ answered_by (length w.places) w.tested x → w.ending ≡ too_many p
    by whole a q = let z : ◌≡◌ {A = ℕ} 0 1 = cc in absurd (omega arith)
    by (too_many k) a q = a ∙ ap too_many (sym (ap place_of q))

answered_whole : (w : Gathering) (m n : ℕ) → whole_of m n ≡ answered w → (w.ending ≡ whole) × (m ≡ length w.places) × (n ≡ w.tested)
answered_whole w m n e = by w.ending refl e
  where
    by : (x : Ending) → w.ending ≡ x → whole_of m n ≡ answered_by (length w.places) w.tested x → (w.ending ≡ whole) × (m ≡ length w.places) × (n ≡ w.tested)
    by whole a q = (a, ap counted_of q, ap tested_of q)
    by (too_many k) a q = let z : ◌≡◌ {A = ℕ} 0 1 = cc in absurd (omega arith)

module _ (ch : Choices) (s : List ℕ) (from least : ℕ) where
  abbrev found : Gathering
  found = gathering (bits s) least most_multiframes from

  -- the multiframes found have room behind the first bit searched
  pub some_room : (m n : ℕ) → whole_of m n ≡ answered found → (m ≡ 0 → ⊥) → (from + multiframe_bits * m ≤ searched (bits s)) × (m ≤ most_multiframes)
  some_room m n e z =
      let w = answered_whole found m n e in
      let few = at_most (bits s) least most_multiframes from in
      let some : 0 < length found.places = positive (length found.places) (λ y. z (w.1 ∙ y)) in
      (omega (arith, w.1, room_for (bits s) least from found.places (apart (bits s) least most_multiframes from) some), omega (arith, w.1))
    where
      positive : (k : ℕ) → (k ≡ 0 → ⊥) → 0 < k
      positive k h = omega arith

  module _ (tables : Tables) (index report : List ℕ) where
    abbrev by_ending : List ℕ → ℕ → Ending → Outcome
    by_ending ps n e = reading_by ch s from least tables index report ps n e

    gone_on : (ps : List ℕ) (n : ℕ) (e : Ending) → found.places ≡ ps → found.tested ≡ n → found.ending ≡ e
        → by_ending ps n e ≡ reading_found ch s from least tables index report
    unfolding reading_found
    gone_on ps n e ep en ee = rw (ep, en, ee)

    -- ---- the reading of what is found
    pub ends_many : (p : ℕ) → too_many_at p ≡ answered found → outcome (Err (TooMany p)) index report ≡ reading_found ch s from least tables index report
    ends_many p e = from_list found.places ∙ gone_on found.places found.tested (too_many p) refl refl (answered_many found p e)
      where
        from_list : (ps : List ℕ) → outcome (Err (TooMany p)) index report ≡ by_ending ps found.tested (too_many p)
        from_list [] = refl
        from_list (q ∷ ps) = refl

    module _ (m n : ℕ) (e : whole_of m n ≡ answered found) where
      pub ends_nowhere : m ≡ 0 → outcome (Err (Nowhere from n)) index report ≡ reading_found ch s from least tables index report
      ends_nowhere z =
          let w = answered_whole found m n e in
          none found.places (sym w.1 ∙ z) ∙ gone_on found.places n whole refl (sym w.2) w.0
        where
          none : (ps : List ℕ) → length ps ≡ 0 → outcome (Err (Nowhere from n)) index report ≡ by_ending ps n whole
          none [] h = refl
          none (p ∷ ps) h = absurd (omega arith)

      pub ends_read : (image : List ℕ) (b : ℕ) (o : Outcome) → (m ≡ 0 → ⊥) → Laid s found image → b ≡ outside_of (bits s) from m
          → o ≡ counted (R.reading ch (take (multiframe_octets * m) image) tables index report) b n
          → o ≡ reading_found ch s from least tables index report
      ends_read image b o z laid eb eo =
          let w = answered_whole found m n e in
          let front : take (multiframe_octets * m) image ≡ image_of s found.places =
          ap (λ (k : ℕ). take (multiframe_octets * k) image) w.1 ∙ subst (λ (x : Ending). LaidBy s found.places x image) w.0 laid in
          eo ∙ ap₂ (λ (x : List ℕ) (k : ℕ). counted (R.reading ch x tables index report) k n) front (eb ∙ ap (outside_of (bits s) from) w.1)
          ∙ some found.places (λ y. z (w.1 ∙ y)) ∙ gone_on found.places n whole refl (sym w.2) w.0
        where
          some : (ps : List ℕ) → (length ps ≡ 0 → ⊥)
              → counted (R.reading ch (image_of s ps) tables index report) (outside_of (bits s) from (length ps)) n ≡ by_ending ps n whole
          some [] h = absurd (h refl)
          some (p ∷ ps) h = refl

    -- ---- the first tests
    pub not_admitted : (r : OctetRefusal) → admission tables ≡ Err r → outcome (Err (Octets r)) index report ≡ hunting_reading ch s from least tables index report
    unfolding hunting_reading
    not_admitted r e = rw e

    module _ {admitted : Tables} (right : admission tables ≡ Ok admitted) where
      pub out_of_range : in_range least ≡ false → outcome (Err (MatchRange least)) index report ≡ hunting_reading ch s from least tables index report
      unfolding hunting_reading
      out_of_range e = rw (right, e)

      pub in_range_lem : in_range least ≡ true → (o : Outcome) → o ≡ reading_found ch s from least tables index report → o ≡ hunting_reading ch s from least tables index report
      unfolding hunting_reading
      in_range_lem e o eo = rw (right, e) eo
