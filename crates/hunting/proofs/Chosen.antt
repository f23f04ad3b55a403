-- What the choice changes in a hunting reading (02, C-20): an only multiframe found, which by default is refused with 16, and nothing else.
-- Assumes nothing.
use Rattle.std.specs.Prelude.{ℕ, ◌≤◌, ◌≡◌, true, false, Ok, Err}
use Rattle.std.proofs.Common.{arith, sym, ◌∙◌, subst}
use Rattle.std.proofs.Math.Path.{refl, ap}
use mathlib.Core.List.{List, [], ◌∷◌}
use Rattle.std.proofs.Math.ListN.{length}
use Rattle.lists.specs.Tests.{when}
use Rattle.layout.specs.Layout.{most_multiframes}
use Rattle.choices.specs.Choices.{one_settles}
use Rattle.choices.specs.declared.Choices.{Choices}
use Rattle.tables.specs.Tables.{Tables, RightTables, admission, if_admitted}
use Rattle.tables.proofs.AdmittedLaws.{right_passes}
use Rattle.refusals.specs.declared.Reading.{Reading as OctetRefusal}
use Rattle.cutting.specs.Cutting.{Cutting, cutting}
use Rattle.cutting.proofs.ReachedLaws.{whole_exactly}
use Rattle.cutting.proofs.Laws.{every_length}
use Rattle.bits.specs.Bits.{bits}
use Rattle.hunt.specs.Hunt.{in_range}
use Rattle.gathering.specs.Gathering.{Ending, whole, too_many, Gathering, gathering, outside_of, image_of}
use Rattle.gathering.proofs.Laws.{at_most}
use Rattle.reader.proofs.Chosen.{two_alike, one_refused, default_two}
use Rattle.reader.specs.Reading as R
use Rattle.refusals.specs.declared.Reading.TheVariants.{Unsettled}
use Rattle.refusals.specs.declared.Hunting.TheVariants.{Octets, MatchRange}
use Rattle.hunting.specs.Hunting.{Outcome, outcome, counted, reading_by, reading_found, hunting_reading}
use Rattle.hunting.proofs.Says.{image_cut, success}
use Rattle.hunting.specs.declared.Counted.{Counted}

module _ (s : List ℕ) (from least : ℕ) (tables : Tables) (index report : List ℕ) where
  abbrev found : Gathering
  found = gathering (bits s) least most_multiframes from

  -- as many multiframes as were found are cut
  cut_count : length (cutting (image_of s found.places)).places ≡ length found.places
  cut_count =
      ap (λ (w : Cutting). length w.places) (image_cut s found.places (at_most (bits s) least most_multiframes from)) ∙ every_length 0 (length found.places)

  -- TWO MULTIFRAMES FOUND OR MORE, whatever their headers, are read alike by every choice
  pub found_alike : (ch dh : Choices) → 2 ≤ length (gathering (bits s) least most_multiframes from).places
      → hunting_reading ch s from least tables index report ≡ hunting_reading dh s from least tables index report
  unfolding hunting_reading reading_found
  found_alike ch dh two =
      ap
      (λ (o : Outcome). if_admitted (admission tables) (λ (r : OctetRefusal). outcome (Err (Octets r)) index report) (when (in_range least) o (outcome (Err (MatchRange least)) index report)))
      (by found.places found.ending refl)
    where
      by : (ps : List ℕ) (e : Ending) → found.places ≡ ps → reading_by ch s from least tables index report ps found.tested e ≡ reading_by dh s from least tables index report ps found.tested e
      by [] whole q = refl
      by [] (too_many p) q = refl
      by (p ∷ ps) (too_many t) q = refl
      by (p ∷ ps) whole q =
          ap (λ (o : R.Outcome). counted o (outside_of (bits s) from (length (p ∷ ps))) found.tested)
          (two_alike (image_of s (p ∷ ps)) tables index report ch dh
          (subst (λ (l : List ℕ). 2 ≤ length (cutting (image_of s l)).places) q (omega (arith, cut_count))))

  module _ (ch : Choices) (default : one_settles ch ≡ false) where
    -- BY DEFAULT AN ONLY MULTIFRAME FOUND IS REFUSED, 16, whatever its header is, where none of 11, 10, 21, 22 and 15 comes before
    pub found_refused : RightTables tables → in_range least ≡ true → (gathering (bits s) least most_multiframes from).ending ≡ whole
        → length (gathering (bits s) least most_multiframes from).places ≡ 1
        → hunting_reading ch s from least tables index report ≡ outcome (Err (Octets Unsettled)) index report
    unfolding hunting_reading reading_found
    found_refused right range ends one = rw (right_passes tables right, range, ends) (by found.places refl)
      where
        by : (ps : List ℕ) → found.places ≡ ps → reading_by ch s from least tables index report ps found.tested whole ≡ outcome (Err (Octets Unsettled)) index report
        by [] q = absurd (omega (arith, one, ap length q))
        by (p ∷ ps) q =
            let c : (cutting (image_of s (p ∷ ps))).places ≡ (cutting (image_of s found.places)).places = ap (λ (l : List ℕ). (cutting (image_of s l)).places) (sym q) in
            ap (λ (o : R.Outcome). counted o (outside_of (bits s) from (length (p ∷ ps))) found.tested)
            (one_refused (image_of s (p ∷ ps)) tables index report ch default (
              right,
              (whole_exactly (image_of s (p ∷ ps))).0
                  (ap (λ (l : List ℕ). (cutting (image_of s l)).ending) (sym q) ∙ ap (λ (w : Cutting). w.ending) (image_cut s found.places (at_most (bits s) least most_multiframes from))),
            )
            (ap length c ∙ cut_count ∙ one))

    -- so what is read by default has two multiframes or more
    pub found_two : (c : Counted) → (hunting_reading ch s from least tables index report).answer ≡ Ok c → 2 ≤ c.summary.multiframes
    found_two c e =
        default_two (image_of s found.places) tables index report ch default c.summary
        (ap (λ (o : R.Outcome). o.answer) (success ch s from least tables index report c e).as_01_says)
