-- What an accepted input has, and that nothing else is accepted: the refusals read backwards.
-- Assumes nothing.
use Rattle.std.specs.Prelude.{ℕ, ◌*◌, List, Ok, Err, Result}
use native.Mathlib.Omega.{arith}
use Rattle.std.proofs.Math.Path.{◌≡◌, refl}
use Rattle.std.proofs.Common.{ap, ◌∙◌}
use Rattle.std.proofs.Math.ListN.{length}
use borrow.Author.Tests.{ne_eqb, le-ltb}
use Rattle.lists.specs.Parts.{over}
use Rattle.layout.specs.Layout.{index_octets, report_octets}
use Rattle.choices.specs.declared.Choices.{Choices}
use Rattle.tables.specs.Tables.{Tables, RightTables, admission, if_admitted}
use Rattle.tables.proofs.AdmittedLaws.{right_passes, passes_right}
use Rattle.cutting.specs.Cutting.{Ending, whole, refused, cutting}
use Rattle.unfit.specs.Laws.{fit_is}
use Rattle.carrier.specs.Carrier.{pair_count}
use Rattle.bad_pairs.specs.BadPairs.{bad_pairs}
use Rattle.replacing.specs.Replacing.{pairs_octets}
use Rattle.replacing.proofs.Laws.{replaced_length}
use Rattle.deciding.specs.Laws.{WholeSays, whole_says}
use Rattle.deciding.specs.Deciding.{room_verdict, settled_verdict, whole_verdict, received_notes}
use Rattle.report.specs.Report.{report_part}
use Rattle.reader.specs.Reading.{index_part, summary, end_verdict, verdict, finished, outcome, end_reading, reading, received_frames}
use Rattle.refusals.specs.declared.Reading.{Reading as Refusal}
use Rattle.reader.specs.declared.Summary.{Summary}
use Rattle.reader.specs.Types.{Answer}
use Rattle.deciding.specs.Types.{Verdict}
use Rattle.reader.specs.ReadingLaws.{Accepted}

module _ (ch : Choices) (octets : List ℕ) (tables : Tables) (index report : ℕ) where
  abbrev places : List ℕ
  places = (cutting octets).places

  abbrev AcceptedBy : Verdict → Type 0
  AcceptedBy (Err r) = Unit
  AcceptedBy (Ok c) = Accepted ch octets tables index report c

  accepted_by : AcceptedBy (verdict ch octets tables index report)
  unfolding verdict
  accepted_by =
      by (admission tables) refl
    where
      fit : (v : Verdict) → RightTables tables → (cutting octets).ending ≡ whole → WholeSays ch octets tables index report places v → AcceptedBy v
      fit (Err r) t e h = tt
      fit (Ok c) t e h = record { right_tables = t; uncut = e; some = h.0; fitting = h.1 }

      ended : (e : Ending) → (cutting octets).ending ≡ e → RightTables tables → AcceptedBy (end_verdict ch octets tables index report places e)
      ended (refused r) e t = tt
      ended whole e t = fit (whole_verdict ch octets tables index report places) t e (whole_says ch octets tables index report places)

      by : (a : Result Tables Refusal) → admission tables ≡ a → AcceptedBy (if_admitted a Err (end_verdict ch octets tables index report places (cutting octets).ending))
      by (Ok admitted) e = ended (cutting octets).ending refl (passes_right tables e)
      by (Err r) e = tt

  -- what acceptance says
  pub accepted : (c : ℕ) → verdict ch octets tables index report ≡ Ok c → Accepted ch octets tables index report c
  accepted c e = rw e at accepted_by

  -- and what it takes
  pub accepting : (c : ℕ) → Accepted ch octets tables index report c → verdict ch octets tables index report ≡ Ok c
  unfolding verdict whole_verdict settled_verdict room_verdict
  accepting c a =
      let f = a.fitting in
      rw (
        right_passes tables a.right_tables,
        a.uncut,
        ne_eqb (length places) 0 a.some,
        f.settles,
        fit_is c f.usable,
        le-ltb index (index_octets * length places) f.roomy.index_room,
        le-ltb report (report_octets * length places) f.roomy.report_room,
        ne_eqb (bad_pairs (received_notes octets places tables)) (pair_count places) f.roomy.not_all,
      )

-- ---- the one outcome of each input
module _ (ch : Choices) (octets : List ℕ) (tables : Tables) (index report : List ℕ) where
  -- a refusal changes no octet of either buffer
  pub refused_keeps : (r : Refusal) → verdict ch octets tables (length index) (length report) ≡ Err r
      → reading ch octets tables index report ≡ outcome (Err r) index report
  unfolding reading
  refused_keeps r e = rw e

  -- so an answer that is a refusal says that both buffers are as they came
  pub refusal_keeps : (r : Refusal) → (reading ch octets tables index report).answer ≡ Err r
      → reading ch octets tables index report ≡ outcome (Err r) index report
  unfolding reading
  refusal_keeps r e = by (verdict ch octets tables (length index) (length report)) e
    where
      never : (s : Summary) → Ok s ≡ Err r → ⊥
      never s e = let z : ◌≡◌ {A = ℕ} 0 1 = cc in omega arith

      by : (v : Verdict) → (finished octets tables index report (cutting octets).places v).answer ≡ Err r
          → finished octets tables index report (cutting octets).places v ≡ outcome (Err r) index report
      by (Err x) e = ap (λ (a : Answer). outcome a index report) e
      by (Ok c) e = absurd (never _ e)

  -- success lays both parts over the buffers' fronts
  pub accepted_lays : (c : ℕ) → verdict ch octets tables (length index) (length report) ≡ Ok c
      → reading ch octets tables index report
      ≡ outcome (Ok (summary octets (cutting octets).places (received_notes octets (cutting octets).places tables) c))
      (over index 0 (index_octets * length (cutting octets).places) (index_part octets (cutting octets).places (received_notes octets (cutting octets).places tables)))
      (over report 0 (report_octets * length (cutting octets).places) (report_part octets (cutting octets).places (received_notes octets (cutting octets).places tables) c))
  unfolding reading
  accepted_lays c e = rw e

  -- a reading by its parts: 11 and 10, what cutting refuses, else the reading of the multiframes found
  pub in_order : reading ch octets tables index report
      ≡ if_admitted (admission tables) (λ r. outcome (Err r) index report) (end_reading ch octets tables index report (cutting octets).places (cutting octets).ending)
  unfolding reading verdict
  in_order = by (admission tables) (cutting octets).ending
    where
      by : (a : Result Tables Refusal) (e : Ending)
          → finished octets tables index report (cutting octets).places
          (if_admitted a Err (end_verdict ch octets tables (length index) (length report) (cutting octets).places e))
          ≡ if_admitted a (λ r. outcome (Err r) index report) (end_reading ch octets tables index report (cutting octets).places e)
      by (Err r) e = refl
      by (Ok admitted) whole = refl
      by (Ok admitted) (refused r) = refl

-- ---- the sizes of what a reading holds
module _ (octets places ns : List ℕ) where
  -- 168 octets for each multiframe
  pub length_index : length ns ≡ pair_count places → length (index_part octets places ns) ≡ index_octets * length places
  length_index e = replaced_length ns (received_frames octets places) ∙ ap pairs_octets e ∙ omega arith
