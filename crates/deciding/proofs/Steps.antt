-- What the branches of `decide` show, put together over lists and numbers alone.
-- Assumes nothing.
use Rattle.std.specs.Prelude.{Some, None, Ok, Err}
use Prim.Native.Nat.{ℕ, ◌*◌}
use mathlib.Core.Path.{◌≡◌, refl, ap, sym, ◌∙◌}
use mathlib.Core.List.{List}
use mathlib.Core.Bool.{Bool, true, false}
use lib.ListN.{length}
use lib.Dec.{ltb, eqb}
use borrow.Author.Tests.{eq-eqb, ne_eqb}
use Rattle.lists.specs.Tests.{when}
use Rattle.lists.specs.Parts.{over}
use Rattle.layout.specs.Layout.{index_octets, report_octets}
use Rattle.choices.specs.declared.Choices.{Choices}
use Rattle.tables.specs.Tables.{Tables}
use Rattle.header_readings.specs.Readings.{readings}
use Rattle.settling.specs.Settling.{settling}
use Rattle.unfit.specs.Unfit.{unfit}
use Rattle.header_readings.specs.Stored.{open_all, pack_all, stored_back}
use Rattle.settling.specs.Types.{Settlement}
use Rattle.carrier.specs.Carrier.{pair_count}
use Rattle.notes.specs.Laws.{over_all}
use Rattle.bad_pairs.specs.BadPairs.{bad_pairs}
use Rattle.refusals.specs.declared.Reading.{Reading as Refusal}
use Rattle.refusals.specs.declared.Reading.TheVariants.{Empty, Unsettled, Unfit, IndexShort, ReportShort, AllBad}
use Rattle.deciding.specs.Deciding.{received_notes, room_verdict, settled_verdict, whole_verdict}
use Rattle.deciding.specs.Steps.{early_verdict}
use Rattle.deciding.specs.Types.{Verdict}

-- ---- 20, and the two parts of what is decided of settled common bits
unfoldable pub last_verdict : (bad pairs c : ℕ) → Verdict
last_verdict bad pairs c = when (eqb bad pairs) (Err AllBad) (Ok c)

abbrev pub and_then : Verdict → Verdict → Verdict
and_then (Err r) next = Err r
and_then (Ok c) next = next

pub in_two : (m bad pairs index report c : ℕ) → and_then (early_verdict m index report c) (last_verdict bad pairs c) ≡ settled_verdict m bad pairs index report (Some c)
unfolding early_verdict last_verdict settled_verdict room_verdict
in_two m bad pairs index report c = by (unfit c) (ltb index (index_octets * m)) (ltb report (report_octets * m))
  where
    by : (t u v : Bool)
        → and_then (when t (Err Unfit) (when u (Err (IndexShort (index_octets * m))) (when v (Err (ReportShort (report_octets * m))) (Ok c)))) (when (eqb bad pairs) (Err AllBad) (Ok c))
        ≡ when t (Err Unfit) (when u (Err (IndexShort (index_octets * m))) (when v (Err (ReportShort (report_octets * m))) (when (eqb bad pairs) (Err AllBad) (Ok c))))
    by true u v = refl
    by false true v = refl
    by false false true = refl
    by false false false = refl

-- early acceptance gives back the common bits that it was asked about
pub early_common : (m index report c d : ℕ) → early_verdict m index report c ≡ Ok d → d ≡ c
unfolding early_verdict
early_common m index report c d = by (unfit c) (ltb index (index_octets * m)) (ltb report (report_octets * m))
  where
    by : (t u v : Bool)
        → when t (Err Unfit) (when u (Err (IndexShort (index_octets * m))) (when v (Err (ReportShort (report_octets * m))) (Ok c))) ≡ Ok d → d ≡ c
    by true u v e = cc
    by false true v e = cc
    by false false true e = cc
    by false false false e = cc

-- ---- what the deciding functions' branches show
module _ (m bad pairs index report c : ℕ) (v : Verdict) (ev : v ≡ early_verdict m index report c) where
  pub refused_early : (r : Refusal) → v ≡ Err r → Err r ≡ settled_verdict m bad pairs index report (Some c)
  refused_early r e = ap (λ (x : Verdict). and_then x (last_verdict bad pairs c)) (sym e ∙ ev) ∙ in_two m bad pairs index report c

  passed_early : (w : Verdict) → v ≡ Ok c → w ≡ last_verdict bad pairs c → w ≡ settled_verdict m bad pairs index report (Some c)
  passed_early w e l = l ∙ ap (λ (x : Verdict). and_then x (last_verdict bad pairs c)) (sym e ∙ ev) ∙ in_two m bad pairs index report c

  -- how many are bad, of how many
  module _ (b n d : ℕ) (e : v ≡ Ok d) (eb : b ≡ bad) (en : n ≡ pairs) where
    same_accept : v ≡ Ok c
    same_accept = e ∙ ap Ok (early_common m index report c d (sym ev ∙ e))

    pub all_bad_lem : b ≡ n → Err AllBad ≡ settled_verdict m bad pairs index report (Some c)
    unfolding last_verdict
    all_bad_lem q = passed_early (Err AllBad) same_accept (rw (eq-eqb bad pairs (sym eb ∙ q ∙ en)))

    pub not_all_bad : (b ≡ n → ⊥) → Ok c ≡ settled_verdict m bad pairs index report (Some c)
    unfolding last_verdict
    not_all_bad q = passed_early (Ok c) same_accept (rw (ne_eqb bad pairs (λ z. q (eb ∙ z ∙ sym en))))

-- what is not settled is unsettled
unsettled : (s : Settlement) → ((c : ℕ) → s ≡ Some c → ⊥) → s ≡ None
unsettled None n = refl
unsettled (Some c) n = absurd (n c refl)

module _ (ch : Choices) (octets : List ℕ) (tables : Tables) (index report : ℕ) (places : List ℕ) where
  -- 14
  pub decided_empty : length places ≡ 0 → Err (Empty (length octets)) ≡ whole_verdict ch octets tables index report places
  unfolding whole_verdict
  decided_empty z = rw (eq-eqb (length places) 0 z)

  -- what the stored headers settle decides the rest
  module _ (some : length places ≡ 0 → ⊥) (headers : List ℕ) (eh : headers ≡ pack_all octets places (length places)) (s : Settlement) (es : s ≡ settling ch (open_all headers)) where
    settles : settling ch (readings octets places) ≡ s
    settles = sym (es ∙ ap (λ (l : List ℕ). settling ch (open_all l)) eh ∙ ap (settling ch) (stored_back octets places))

    pub decided_unsettled : ((c : ℕ) → s ≡ Some c → ⊥) → Err Unsettled ≡ whole_verdict ch octets tables index report places
    unfolding whole_verdict settled_verdict
    decided_unsettled n = rw (ne_eqb (length places) 0 some, settles, unsettled s n)

    pub decided_settled : (c : ℕ) (v : Verdict) → s ≡ Some c
        → v ≡ settled_verdict (length places) (bad_pairs (received_notes octets places tables)) (pair_count places) index report (Some c)
        → v ≡ whole_verdict ch octets tables index report places
    unfolding whole_verdict
    decided_settled c v e ev = rw (ne_eqb (length places) 0 some, settles, e) ev

-- headers in an array of just their number are all that read_headers stores
pub all_stored : (octets places l m : List ℕ) → length l ≡ length places → m ≡ over l 0 (length places) (pack_all octets places (length places)) → m ≡ pack_all octets places (length places)
all_stored octets places l m e em = em ∙ over_all l (pack_all octets places (length places)) (length places) e
