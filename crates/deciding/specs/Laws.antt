-- What an accepted input has, of octets that are cut up, and that nothing else is accepted: 14 and 16 to 20 read backwards.
-- Assumes nothing.
use Rattle.std.specs.Prelude.{ℕ, ◌*◌, ◌≤◌, ◌≡◌, refl, List, length, ltb, eqb, Some, None, Ok, Err}
use Rattle.std.proofs.Common.{ap, sym, subst, ltb-false}
use Rattle.std.proofs.lemmas.Bool.{eqb-false}
use Rattle.lists.specs.Tests.{by_test}
use Rattle.layout.specs.Layout.{index_octets, report_octets}
use Rattle.choices.specs.declared.Choices.{Choices}
use Rattle.tables.specs.Tables.{Tables}
use Rattle.header_readings.specs.Readings.{readings}
use Rattle.settling.specs.Settling.{settling}
use Rattle.unfit.specs.Unfit.{unfit}
use Rattle.unfit.specs.Laws.{Usable, fit_says}
use Rattle.settling.specs.Types.{Settlement}
use Rattle.carrier.specs.Carrier.{pair_count}
use Rattle.bad_pairs.specs.BadPairs.{bad_pairs}
use Rattle.deciding.specs.Deciding.{received_notes, room_verdict, settled_verdict, whole_verdict}
use Rattle.deciding.specs.Types.{Verdict}

-- the room for both parts, and a pair that is not bad
pub record Roomy (m bad pairs index report : ℕ) : Type 0 where
  pub index_room : index_octets * m ≤ index
  pub report_room : report_octets * m ≤ report
  pub not_all : bad ≡ pairs → ⊥

abbrev RoomSays : (m bad pairs index report c : ℕ) → Verdict → Type 0
RoomSays m bad pairs index report c (Err r) = Unit
RoomSays m bad pairs index report c (Ok d) = (d ≡ c) × Roomy m bad pairs index report

room_says : (m bad pairs index report c : ℕ) → RoomSays m bad pairs index report c (room_verdict m bad pairs index report c)
unfolding room_verdict
room_says m bad pairs index report c =
    let P = RoomSays m bad pairs index report c in
    by_test P (ltb index (index_octets * m)) (λ h. tt) (λ hi.
    by_test P (ltb report (report_octets * m)) (λ h. tt) (λ hr.
    by_test P (eqb bad pairs) (λ h. tt) (λ hb. (
      refl,
      record {
        index_room = ltb-false index (index_octets * m) hi;
        report_room = ltb-false report (report_octets * m) hr;
        not_all = eqb-false bad pairs hb;
      },
    ))))

pub record Fitting (m bad pairs index report : ℕ) (s : Settlement) (c : ℕ) : Type 0 where
  pub settles : s ≡ Some c
  pub usable : Usable c
  pub roomy : Roomy m bad pairs index report

abbrev SettledSays : (m bad pairs index report : ℕ) → Settlement → Verdict → Type 0
SettledSays m bad pairs index report s (Err r) = Unit
SettledSays m bad pairs index report s (Ok c) = Fitting m bad pairs index report s c

settled_says : (m bad pairs index report : ℕ) (s : Settlement) → SettledSays m bad pairs index report s (settled_verdict m bad pairs index report s)
unfolding settled_verdict
settled_says m bad pairs index report None = tt
settled_says m bad pairs index report (Some c) =
    let P = SettledSays m bad pairs index report (Some c) in
    by_test P (unfit c) (λ h. tt) (λ h. lift (room_verdict m bad pairs index report c) (fit_says c h) (room_says m bad pairs index report c))
  where
    lift : (v : Verdict) → Usable c → RoomSays m bad pairs index report c v → SettledSays m bad pairs index report (Some c) v
    lift (Err r) u h = tt
    lift (Ok d) u h = record { settles = ap Some (sym h.0); usable = subst Usable (sym h.0) u; roomy = h.1 }

module _ (ch : Choices) (octets : List ℕ) (tables : Tables) (index report : ℕ) where
  -- what is said of octets that are cut up at places
  abbrev pub WholeSays : List ℕ → Verdict → Type 0
  WholeSays ps (Err r) = Unit
  WholeSays ps (Ok c) =
      (length ps ≡ 0 → ⊥) × Fitting (length ps) (bad_pairs (received_notes octets ps tables)) (pair_count ps) index report (settling ch (readings octets ps)) c

  pub whole_says : (ps : List ℕ) → WholeSays ps (whole_verdict ch octets tables index report ps)
  unfolding whole_verdict
  whole_says ps =
      by_test (WholeSays ps) (eqb (length ps) 0) (λ h. tt) (λ h.
      lift (settled_verdict (length ps) (bad_pairs (received_notes octets ps tables)) (pair_count ps) index report (settling ch (readings octets ps))) (eqb-false (length ps) 0 h)
      (settled_says (length ps) (bad_pairs (received_notes octets ps tables)) (pair_count ps) index report (settling ch (readings octets ps))))
    where
      lift : (v : Verdict) → (length ps ≡ 0 → ⊥)
          → SettledSays (length ps) (bad_pairs (received_notes octets ps tables)) (pair_count ps) index report (settling ch (readings octets ps)) v → WholeSays ps v
      lift (Err r) n h = tt
      lift (Ok c) n h = (n, h)

  pub whole_accepted : (ps : List ℕ) (c : ℕ) → whole_verdict ch octets tables index report ps ≡ Ok c
      → (length ps ≡ 0 → ⊥) × Fitting (length ps) (bad_pairs (received_notes octets ps tables)) (pair_count ps) index report (settling ch (readings octets ps)) c
  whole_accepted ps c e = rw e at (whole_says ps)
