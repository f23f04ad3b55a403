-- What the choice changes (02, C-20): an only multiframe, which by default is refused with 16, and nothing else.
-- Assumes nothing.
use Rattle.std.specs.Prelude.{ℕ, ◌≤◌, ◌<◌, List, false, eqb, Some, None, Ok, Err, Result}
use native.Mathlib.Omega.{arith}
use Rattle.std.proofs.Math.Decide.{dec_lt}
use Rattle.std.proofs.Math.Path.{◌≡◌, refl, ap, sym}
use Rattle.std.proofs.Common.{◌∙◌}
use Rattle.std.proofs.Math.ListN.{length}
use Rattle.lists.specs.Tests.{when}
use Rattle.choices.specs.Choices.{one_settles}
use Rattle.choices.specs.declared.Choices.{Choices}
use Rattle.tables.specs.Tables.{Tables, admission, if_admitted}
use Rattle.tables.proofs.AdmittedLaws.{passes_right}
use Rattle.refusals.specs.declared.Reading.{Reading as Refusal}
use Rattle.refusals.specs.declared.Reading.TheVariants.{Empty, Unsettled}
use Rattle.cutting.specs.Cutting.{Ending, whole, refused, cutting}
use Rattle.cutting.proofs.ReachedLaws.{whole_exactly}
use Rattle.carrier.specs.Carrier.{pair_count}
use Rattle.header_readings.specs.Readings.{readings}
use Rattle.settling.specs.Settling.{settling}
use Rattle.header_readings.specs.Laws.{length_readings}
use Rattle.settling.proofs.Laws.{not_one, one_default}
use Rattle.settling.specs.Types.{Settlement}
use Rattle.bad_pairs.specs.BadPairs.{bad_pairs}
use Rattle.deciding.specs.Deciding.{received_notes, settled_verdict, whole_verdict}
use Rattle.reader.specs.Reading.{summary, end_verdict, verdict, finished, outcome, reading}
use Rattle.reader.proofs.FirstTests.{not_admitted, not_cut}
use Rattle.reader.specs.RefusalLaws.{CutUp}
use Rattle.reader.proofs.RefusalLaws.{refuses_unsettled}
use Rattle.reader.proofs.ReadingLaws.{accepted, refused_keeps}
use Rattle.reader.specs.declared.Summary.{Summary}
use Rattle.deciding.specs.Types.{Verdict}

module _ (octets : List ℕ) (tables : Tables) (index report : List ℕ) where
  abbrev places : List ℕ
  places = (cutting octets).places

  module _ (ch dh : Choices) (same : settling ch (readings octets places) ≡ settling dh (readings octets places)) where
    ends_alike : (e : Ending) → end_verdict ch octets tables (length index) (length report) places e ≡ end_verdict dh octets tables (length index) (length report) places e
    unfolding whole_verdict
    ends_alike whole =
        ap (λ (s : Settlement). when (eqb (length places) 0) (Err (Empty (length octets)))
        (settled_verdict (length places) (bad_pairs (received_notes octets places tables)) (pair_count places) (length index) (length report) s)) same
    ends_alike (refused r) = refl

    read_alike : reading ch octets tables index report ≡ reading dh octets tables index report
    unfolding reading verdict
    read_alike =
        ap (λ (v : Verdict). finished octets tables index report places (if_admitted (admission tables) Err v)) (ends_alike (cutting octets).ending)

  -- every number of multiframes but one, whatever their headers, is read alike by every choice
  many_alike : (ch dh : Choices) → (length (cutting octets).places ≡ 1 → ⊥) → reading ch octets tables index report ≡ reading dh octets tables index report
  many_alike ch dh n =
      let hs = readings octets places in
      let other : length hs ≡ 1 → ⊥ = λ e. n (sym (length_readings octets places) ∙ e) in
      read_alike ch dh (not_one ch hs other ∙ sym (not_one dh hs other))

  -- TWO MULTIFRAMES OR MORE, whatever their headers, are read alike by every choice
  pub two_alike : (ch dh : Choices) → 2 ≤ length (cutting octets).places → reading ch octets tables index report ≡ reading dh octets tables index report
  two_alike ch dh two = many_alike ch dh (λ e. omega (arith, e))

  -- AND NOTHING ELSE IS CHANGED: whatever is not an only multiframe behind right tables, cut to the end of the octets, is read or refused alike
  pub else_alike : (ch dh : Choices) → (CutUp octets tables → length (cutting octets).places ≡ 1 → ⊥) → reading ch octets tables index report ≡ reading dh octets tables index report
  else_alike ch dh n = by (admission tables) (cutting octets).ending refl refl
    where
      by : (a : Result Tables Refusal) (e : Ending) → admission tables ≡ a → (cutting octets).ending ≡ e → reading ch octets tables index report ≡ reading dh octets tables index report
      by (Err r) e ea ee = sym (not_admitted ch octets tables index report r ea) ∙ not_admitted dh octets tables index report r ea
      by (Ok admitted) (refused r) ea ee = sym (not_cut ch octets tables index report ea r ee) ∙ not_cut dh octets tables index report ea r ee
      by (Ok admitted) whole ea ee = many_alike ch dh (n (passes_right tables ea, (whole_exactly octets).0 ee))

  module _ (ch : Choices) (default : one_settles ch ≡ false) where
    one_unsettled : length (cutting octets).places ≡ 1 → settling ch (readings octets (cutting octets).places) ≡ None
    one_unsettled one = one_default ch (readings octets places) default (length_readings octets places ∙ one)

    -- "BY DEFAULT AN ONLY MULTIFRAME IS NOW REFUSED AS UNSETTLED", whatever its header is, where none of 10 to 15 comes before
    pub one_refused : CutUp octets tables → length (cutting octets).places ≡ 1
        → reading ch octets tables index report ≡ outcome (Err Unsettled) index report
    one_refused cut one =
        refused_keeps ch octets tables index report Unsettled
        (refuses_unsettled ch octets tables (length index) (length report) (cut, λ e. omega (arith, one, e)) (one_unsettled one))

    -- so what is read by default has two multiframes or more
    pub default_two : (g : Summary) → (reading ch octets tables index report).answer ≡ Ok g → 2 ≤ g.multiframes
    unfolding reading
    default_two g = by (verdict ch octets tables (length index) (length report)) refl
      where
        by : (v : Verdict) → verdict ch octets tables (length index) (length report) ≡ v → (finished octets tables index report places v).answer ≡ Ok g → 2 ≤ g.multiframes
        by (Err r) ev e = let z : ◌≡◌ {A = ℕ} 0 1 = cc in absurd (omega arith)
        by (Ok c) ev e =
            let a = accepted ch octets tables (length index) (length report) c ev in
            let x = summary octets places (received_notes octets places tables) c in
            let z : x ≡ g = cc in
            let m : length places ≡ g.multiframes = ap (λ (s : Summary). s.multiframes) z in
            many (dec_lt (length places) 2) a.some a.fitting.settles m
          where
            many : Dec (length places < 2) → (length places ≡ 0 → ⊥) → settling ch (readings octets places) ≡ Some c → length places ≡ g.multiframes → 2 ≤ g.multiframes
            many (no n) some s m = omega (arith, m)
            many (yes l) some s m =
                let u : None ≡ Some c = sym (one_unsettled (only (length places) l some)) ∙ s in
                let z : ◌≡◌ {A = ℕ} 0 1 = cc in absurd (omega arith)
              where
                only : (n : ℕ) → n < 2 → (n ≡ 0 → ⊥) → n ≡ 1
                only n l some = omega arith
