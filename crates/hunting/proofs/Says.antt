-- What a hunting reading's answer says, case by case: which refusals occur and when, how many multiframes, bits outside and places tested there
-- are, and that every whole multiframe whose place passes is read.
-- Assumes nothing.
use Rattle.std.specs.Prelude.{ℕ, zero, suc, ◌+◌, ◌*◌, ◌≤◌, ◌<◌, ◌↔◌, List, [], ◌∷◌, ◌++◌, Bool, true, false, eqb, ltb, length, get_or, Some, None, Ok, Err, Result}
use Rattle.std.proofs.Math.Path.{◌≡◌, refl, sym}
use Rattle.std.proofs.Common.{ap, ap₂, ◌∙◌, subst, inl, inr, arith, get_or-append-add, ne_eqb}
use Rattle.lists.specs.Tests.{by_test, true_false}
use Rattle.layout.specs.Layout.{multiframe_octets, most_multiframes, index_octets, report_octets, sync_first, sync_second}
use Rattle.choices.specs.declared.Choices.{Choices}
use Rattle.tables.specs.Tables.{Tables, RightTables, admission}
use Rattle.tables.specs.Admitted.{Shown}
use Rattle.tables.proofs.AdmittedLaws.{shown, by_shown, right_passes}
use Rattle.bits.specs.Bits.{bits}
use Rattle.cutting.specs.Cutting.{Cutting, cutting, whole as uncut}
use Rattle.cutting.specs.Laws.{every}
use Rattle.cutting.proofs.Laws.{every_length, whole_image}
use Rattle.settling.specs.Types.{Settlement}
use Rattle.unfit.specs.Unfit.{unfit}
use Rattle.hunt.specs.Hunt.{in_range, places_left}
use Rattle.reader.specs.Reading as R
use Rattle.deciding.specs.Deciding.{received_notes, room_verdict, settled_verdict, whole_verdict}
use Rattle.deciding.specs.Types.{Verdict}
use Rattle.refusals.specs.declared.Reading.{Reading as OctetRefusal}
use Rattle.refusals.specs.declared.Reading.TheVariants as RR
use Rattle.reader.specs.declared.Summary.{Summary}
use Rattle.reader.specs.Types.{Answer as OctetAnswer}
use Rattle.gathering.specs.Gathering.{Ending, whole, too_many, Gathering, gathering, outside_of, aligned, image_of}
use Rattle.gathering.specs.Laws.{Ends}
use Rattle.gathering.proofs.Laws.{taken, apart, at_most, room_for, length_aligned, length_image}
use Rattle.gathering.specs.Says.{NonePasses, Tested}
use Rattle.gathering.proofs.SaysLaws.{tested_says, none_found, nothing_found, many_says}
use Rattle.hunting.specs.Hunting.{with_counts, counted, Outcome, outcome, reading_by, reading_found, hunting_reading}
use Rattle.refusals.specs.Refusals.{reading_number, hunting_number, hunting_place}
use Rattle.refusals.specs.Laws.{hunting_tested, hunting_of}
use Rattle.refusals.proofs.Laws.{hunting_one_case}
use Rattle.hunting.specs.declared.Counted.{Counted}
use Rattle.refusals.specs.declared.Hunting.{Hunting as Refusal}
use Rattle.refusals.specs.declared.Hunting.TheVariants.{Octets, MatchRange, Nowhere, TooMany}
use Rattle.hunting.specs.Says.{Late}
use Rattle.hunting.specs.Says.{wrong_tables, negative_threshold, range, nowhere, many, read}
use Rattle.hunting.specs.Says as Stated

-- ---- the image put together is cut into just its multiframes
sync_at_lem : (s ps : List ℕ) (k : ℕ) → k < length ps → (get_or (image_of s ps) (multiframe_octets * k) 0 ≡ sync_first) × (get_or (image_of s ps) (multiframe_octets * k + 1) 0 ≡ sync_second)
unfolding image_of aligned
sync_at_lem s [] k h = absurd (omega arith)
sync_at_lem s (p ∷ ps) zero h = (refl, refl)
sync_at_lem s (p ∷ ps) (suc k) h =
    let i = sync_at_lem s ps k (omega arith) in
    let n = length_aligned s p in
    let a : multiframe_octets * suc k ≡ length (aligned s p) + multiframe_octets * k = omega (arith, n) in
    let b : multiframe_octets * suc k + 1 ≡ length (aligned s p) + (multiframe_octets * k + 1) = omega (arith, n) in (
      ap (λ (j : ℕ). get_or (aligned s p ++ image_of s ps) j 0) a ∙ get_or-append-add (aligned s p) (image_of s ps) (multiframe_octets * k) 0 ∙ i.0,
      ap (λ (j : ℕ). get_or (aligned s p ++ image_of s ps) j 0) b ∙ get_or-append-add (aligned s p) (image_of s ps) (multiframe_octets * k + 1) 0 ∙ i.1,
    )

pub image_cut : (s ps : List ℕ) → length ps ≤ most_multiframes → cutting (image_of s ps) ≡ record { places = every 0 (length ps); ending = uncut }
image_cut s ps few = whole_image (image_of s ps) (length ps) few (length_image s ps) (sync_at_lem s ps)

abbrev LateVerdict : Verdict → Type 0
LateVerdict (Err r) = Late r
LateVerdict (Ok c) = Unit

late_settled : (m bad pairs index report : ℕ) (s : Settlement) → LateVerdict (settled_verdict m bad pairs index report s)
unfolding settled_verdict room_verdict
late_settled m bad pairs index report None = tt
late_settled m bad pairs index report (Some c) =
    by_test LateVerdict (unfit c) (λ e. tt) (λ e.
    by_test LateVerdict (ltb index (index_octets * m)) (λ e. tt) (λ e.
    by_test LateVerdict (ltb report (report_octets * m)) (λ e. tt) (λ e. by_test LateVerdict (eqb bad pairs) (λ e. tt) (λ e. tt))))

module _ (ch : Choices) (s ps : List ℕ) (some : 0 < length ps) (few : length ps ≤ most_multiframes) (tables : Tables) (index report : List ℕ)
    (right : RightTables tables) where
  abbrev image : List ℕ
  image = image_of s ps

  abbrev rows : List ℕ
  rows = every 0 (length ps)

  -- it is decided by its multiframes alone
  decided : R.reading ch image tables index report
      ≡ R.finished image tables index report rows (whole_verdict ch image tables (length index) (length report) rows)
  unfolding R.reading R.verdict
  decided =
      rw (right_passes tables right)
      (ap (λ (w : Cutting). R.finished image tables index report w.places (R.end_verdict ch image tables (length index) (length report) w.places w.ending))
      (image_cut s ps few))

  late_whole : LateVerdict (whole_verdict ch image tables (length index) (length report) rows)
  unfolding whole_verdict
  late_whole =
      rw (ne_eqb (length rows) 0 (λ e. omega (arith, every_length 0 (length ps)))) (late_settled (length rows) _ _ (length index) (length report) _)

  pub image_late : (r : OctetRefusal) → (R.reading ch image tables index report).answer ≡ Err r → Late r
  image_late r e = by (whole_verdict ch image tables (length index) (length report) rows) late_whole (sym (ap (λ (o : R.Outcome). o.answer) decided) ∙ e)
    where
      by : (v : Verdict) → LateVerdict v → (R.finished image tables index report rows v).answer ≡ Err r → Late r
      by (Err q) l f = let z : q ≡ r = cc in subst Late z l
      by (Ok c) l f = let z : ◌≡◌ {A = ℕ} 0 1 = cc in absurd (omega arith)

  -- and its success answers as many multiframes as were put together
  pub image_count : (g : Summary) → (R.reading ch image tables index report).answer ≡ Ok g → g.multiframes ≡ length ps
  image_count g e = by (whole_verdict ch image tables (length index) (length report) rows) (sym (ap (λ (o : R.Outcome). o.answer) decided) ∙ e)
    where
      by : (v : Verdict) → (R.finished image tables index report rows v).answer ≡ Ok g → g.multiframes ≡ length ps
      by (Err q) f = let z : ◌≡◌ {A = ℕ} 0 1 = cc in absurd (omega arith)
      by (Ok c) f =
          let x = R.summary image rows (received_notes image rows tables) c in
          let z : x ≡ g = cc in
          sym (ap (λ (y : Summary). y.multiframes) z) ∙ every_length 0 (length ps)

-- ---- the answer
counted_read : (a : OctetAnswer) (n t : ℕ) (c : Counted) → with_counts a n t ≡ Ok c → (a ≡ Ok c.summary) × (c.outside ≡ n) × (c.tested ≡ t)
counted_read (Ok g) n t c e =
    let z : record { summary = g; outside = n; tested = t } ≡ c = cc in
    (ap (λ (x : Counted). Ok x.summary) z, sym (ap (λ (x : Counted). x.outside) z), sym (ap (λ (x : Counted). x.tested) z))
counted_read (Err r) n t c e = let z : ◌≡◌ {A = ℕ} 0 1 = cc in absurd (omega arith)

counted_refused : (a : OctetAnswer) (n t : ℕ) (r : Refusal) → with_counts a n t ≡ Err r → (q : OctetRefusal) × ((a ≡ Err q) × (Octets q ≡ r))
counted_refused (Ok g) n t r e = let z : ◌≡◌ {A = ℕ} 0 1 = cc in absurd (omega arith)
counted_refused (Err q) n t r e = (q, (refl, cc))

module _ (ch : Choices) (s : List ℕ) (from least : ℕ) (tables : Tables) (index report : List ℕ) where
  abbrev found : Gathering
  found = gathering (bits s) least most_multiframes from

  abbrev result : Outcome
  result = hunting_reading ch s from least tables index report

  abbrev keeps : Refusal → Outcome
  keeps r = outcome (Err r) index report

  abbrev Fate : Type 0
  Fate = Stated.Fate ch s from least tables index report

  abbrev Success : Counted → Type 0
  Success = Stated.Success ch s from least tables index report

  abbrev Comes : Refusal → Type 0
  Comes = Stated.Comes ch s from least tables index report

  found_fate : RightTables tables → in_range least ≡ true → result ≡ reading_by ch s from least tables index report found.places found.tested found.ending → Fate
  found_fate ts er e = by found.places found.ending refl refl e
    where
      by : (ps : List ℕ) (x : Ending) → found.places ≡ ps → found.ending ≡ x → result ≡ reading_by ch s from least tables index report ps found.tested x → Fate
      by [] whole ep ex e =
          let n : found.tested ≡ places_left (bits s) from = subst (Tested (bits s) least from found.tested) ep (tested_says (bits s) least most_multiframes from ex) in
          nowhere ts er (none_found (bits s) least 254 from ep) (e ∙ ap (λ (k : ℕ). keeps (Nowhere from k)) n)
      by (p ∷ ps) whole ep ex e =
          read ts er (omega (arith, ap length ep)) ex
          (e ∙ ap (λ (x : List ℕ). counted (R.reading ch (image_of s x) tables index report) (outside_of (bits s) from (length x)) found.tested) (sym ep))
      by [] (too_many p) ep ex e = many p ts er ex (many_says (bits s) least most_multiframes from p ex) e
      by (q ∷ ps) (too_many p) ep ex e = many p ts er ex (many_says (bits s) least most_multiframes from p ex) e

  pub fate : Fate
  unfolding hunting_reading reading_found
  fate = by (admission tables) (in_range least) refl refl (shown tables)
    where
      turned : (r : OctetRefusal) → Shown tables (Err r) → admission tables ≡ Err r → Fate
      turned =
          by_shown tables (λ (q : OctetRefusal). admission tables ≡ Err q → Fate) (λ n e. wrong_tables n (rw e)) (λ k n e. negative_threshold k n.0 n.1 (rw e))

      by : (a : Result Tables OctetRefusal) (r : Bool) → admission tables ≡ a → in_range least ≡ r → Shown tables a → Fate
      by (Err q) r ea er h = turned q h ea
      by (Ok admitted) false ea er h = range h er (rw (ea, er))
      by (Ok admitted) true ea er h = found_fate h er (rw (ea, er))

  -- 22 EXACTLY IF NO PLACE PASSES, where the tables are right and T is in its range
  pub nowhere_exactly : RightTables tables → in_range least ≡ true
      → (result ≡ keeps (Nowhere from (places_left (bits s) from))) ↔ NonePasses (bits s) least from
  unfolding hunting_reading reading_found
  nowhere_exactly right er = (
    λ e. by fate (ap (λ (o : Outcome). o.answer) e),
    λ none.
        rw (right_passes tables right, er)
        (ap (λ (g : Gathering). reading_by ch s from least tables index report g.places g.tested g.ending) (nothing_found (bits s) least 254 from none)),
  )
    where
      by : Fate → result.answer ≡ Err (Nowhere from (places_left (bits s) from)) → NonePasses (bits s) least from
      by (wrong_tables w e) f = absurd (w right.0)
      by (negative_threshold k h n e) f = absurd (true_false (sym n.1 ∙ right.1 k n.0))
      by (range ts w e) f = absurd (true_false (sym er ∙ w))
      by (nowhere ts r n e) f = n
      by (many p ts r x b e) f = let g = sym (ap (λ (o : Outcome). o.answer) e) ∙ f in let z : ◌≡◌ {A = ℕ} 0 1 = cc in absurd (omega arith)
      by (read t r n w e) f =
          let g = counted_refused (R.reading ch (image_of s found.places) tables index report).answer (outside_of (bits s) from (length found.places)) found.tested
          (Nowhere from (places_left (bits s) from)) (sym (ap (λ (o : Outcome). o.answer) e) ∙ f) in
          let h = g.1.1 in
          let z : ◌≡◌ {A = ℕ} 0 1 = cc in absurd (omega arith)

  pub success : (c : Counted) → result.answer ≡ Ok c → Success c
  success c f = by fate
    where
      other : (r : Refusal) → result ≡ keeps r → Success c
      other r e = let g = sym (ap (λ (o : Outcome). o.answer) e) ∙ f in let z : ◌≡◌ {A = ℕ} 0 1 = cc in absurd (omega arith)

      by : Fate → Success c
      by (wrong_tables w e) = other (Octets RR.WrongTables) e
      by (negative_threshold k h n e) = other (Octets (RR.NegativeThreshold k)) e
      by (range t w e) = other (MatchRange least) e
      by (nowhere t r n e) = other (Nowhere from (places_left (bits s) from)) e
      by (many p t r x b e) = other (TooMany p) e
      by (read t r n w e) =
          let o = R.reading ch (image_of s found.places) tables index report in
          let a = counted_read o.answer (outside_of (bits s) from (length found.places)) found.tested c (sym (ap (λ (o : Outcome). o.answer) e) ∙ f) in
          let few = at_most (bits s) least most_multiframes from in
          let m = image_count ch s found.places n few tables index report t c.summary a.0 in
          let far = apart (bits s) least most_multiframes from in
          let room = room_for (bits s) least from found.places far n in
          record {
            as_01_says = ap₂ (λ (x : OctetAnswer) (y : Outcome). R.outcome x y.index y.report) a.0 (sym e);
            count = m;
            some = n;
            few = few;
            bits_in_all = omega (arith, a.1, m);
            begins = omega arith;
            places_tested = subst (λ (k : ℕ). Tested (bits s) least from k found.places) (sym a.2) (tested_says (bits s) least most_multiframes from w);
            stand_apart = far;
            all_taken = λ u le inside passes. taken (bits s) least u inside passes most_multiframes from le (subst Ends (sym w) tt);
          }

  pub comes : (r : Refusal) → result.answer ≡ Err r → Comes r
  comes r f = by fate
    where
      same : (x : Refusal) → result ≡ keeps x → Comes x → Comes r
      same x e k = let g = sym (ap (λ (o : Outcome). o.answer) e) ∙ f in let z : x ≡ r = cc in subst Comes z k

      by : Fate → Comes r
      by (wrong_tables w e) = same (Octets RR.WrongTables) e (inl w)
      by (negative_threshold k h n e) = same (Octets (RR.NegativeThreshold k)) e (inl (h, n))
      by (range t w e) = same (MatchRange least) e tt
      by (nowhere t x n e) = same (Nowhere from (places_left (bits s) from)) e tt
      by (many p t x g b e) = same (TooMany p) e tt
      by (read t x n w e) =
          let o = R.reading ch (image_of s found.places) tables index report in
          let g = counted_refused o.answer (outside_of (bits s) from (length found.places)) found.tested r (sym (ap (λ (o : Outcome). o.answer) e) ∙ f) in
          subst Comes g.1.1
          (inr (image_late ch s found.places n (at_most (bits s) least most_multiframes from) tables index report t g.0 g.1.0))

  number_comes : (r : Refusal) → Comes r → (hunting_number r ≡ 12 → ⊥) × (hunting_number r ≡ 13 → ⊥) × (hunting_number r ≡ 14 → ⊥)
  number_comes (MatchRange k) l = (λ e. omega arith, λ e. omega arith, λ e. omega arith)
  number_comes (Nowhere f n) l = (λ e. omega arith, λ e. omega arith, λ e. omega arith)
  number_comes (TooMany p) l = (λ e. omega arith, λ e. omega arith, λ e. omega arith)
  number_comes (Octets q) (inl h) =
      by_shown tables (λ (r : OctetRefusal). (reading_number r ≡ 12 → ⊥) × (reading_number r ≡ 13 → ⊥) × (reading_number r ≡ 14 → ⊥))
      (λ n. (λ e. omega arith, λ e. omega arith, λ e. omega arith)) (λ k n. (λ e. omega arith, λ e. omega arith, λ e. omega arith)) q h
  number_comes (Octets q) (inr l) = of_late q l
    where
      of_late : (q : OctetRefusal) → Late q → (reading_number q ≡ 12 → ⊥) × (reading_number q ≡ 13 → ⊥) × (reading_number q ≡ 14 → ⊥)
      of_late RR.WrongTables l = absurd l
      of_late (RR.NegativeThreshold k) l = absurd l
      of_late (RR.Unknown p) l = absurd l
      of_late (RR.CutShort p) l = absurd l
      of_late (RR.Empty n) l = absurd l
      of_late (RR.TooMany p) l = absurd l
      of_late RR.Unsettled l = (λ e. omega arith, λ e. omega arith, λ e. omega arith)
      of_late RR.Unfit l = (λ e. omega arith, λ e. omega arith, λ e. omega arith)
      of_late (RR.IndexShort n) l = (λ e. omega arith, λ e. omega arith, λ e. omega arith)
      of_late (RR.ReportShort n) l = (λ e. omega arith, λ e. omega arith, λ e. omega arith)
      of_late RR.AllBad l = (λ e. omega arith, λ e. omega arith, λ e. omega arith)

  pub never_12_to_14 : (r : Refusal) → result.answer ≡ Err r → (hunting_number r ≡ 12 → ⊥) × (hunting_number r ≡ 13 → ⊥) × (hunting_number r ≡ 14 → ⊥)
  never_12_to_14 r f = number_comes r (comes r f)

  -- and the octet reader's 15 never comes, so that no number of an answer stands for two cases
  pub never_octet_15 : (r : Refusal) → result.answer ≡ Err r → (p : ℕ) → r ≡ Octets (RR.TooMany p) → ⊥
  never_octet_15 r f p e = never (subst Comes e (comes r f))
    where
      never : Comes (Octets (RR.TooMany p)) → ⊥
      never (inl h) = h
      never (inr l) = l

  pub one_case : (r q : Refusal) → result.answer ≡ Err r → hunting_number r ≡ hunting_number q → hunting_of (hunting_number q) (hunting_place r) (hunting_tested r) ≡ r
  one_case r q f e = hunting_one_case r q (never_octet_15 r f) e
