-- When each refusal is given: the answer is that refusal exactly if its own condition, `Given`, holds and that of none before it in 01's order.
-- Assumes nothing.
use Rattle.std.specs.Prelude.{ℕ, ◌*◌, ◌<◌, ◌≡◌, ◌↔◌, List, ltb, eqb, Some, None, Ok, Err, Result}
use Rattle.std.proofs.Common.{arith, ap, sym, ◌∙◌, subst}
use Rattle.std.proofs.Math.Path.{refl}
use Rattle.std.proofs.Math.ListN.{length}
use borrow.Author.Tests.{eq-eqb, ne_eqb, lt-ltb, le-ltb, ltb-true, ltb-false, eqb-true, eqb-false}
use Rattle.lists.specs.Tests.{by_test}
use Rattle.layout.specs.Layout.{index_octets, report_octets}
use Rattle.choices.specs.declared.Choices.{Choices}
use Rattle.tables.specs.Tables.{Tables, RightSizes, RightTables, FirstNegative, admission, if_admitted}
use Rattle.tables.specs.Admitted.{Shown}
use Rattle.tables.proofs.AdmittedLaws.{shown, by_shown, right_passes, wrong_sizes, negative_refused}
use Rattle.refusals.specs.declared.Reading.{Reading as Refusal}
use Rattle.refusals.specs.declared.Reading.TheVariants.{WrongTables, NegativeThreshold, Unknown, CutShort, Empty, TooMany, Unsettled, Unfit, IndexShort, ReportShort, AllBad}
use Rattle.cutting.specs.Cutting.{Ending, whole, refused, cutting}
use Rattle.cutting.specs.Reached.{Reason}
use Rattle.cutting.proofs.ReachedLaws.{ends_exactly, whole_exactly}
use Rattle.header_readings.specs.Readings.{readings}
use Rattle.settling.specs.Settling.{settling}
use Rattle.unfit.specs.Unfit.{unfit}
use Rattle.unfit.specs.Laws.{Unusable, fit_is, unfit_is, fit_says, unfit_says}
use Rattle.settling.specs.Types.{Settlement}
use Rattle.carrier.specs.Carrier.{pair_count}
use Rattle.bad_pairs.specs.BadPairs.{bad_pairs}
use Rattle.deciding.specs.Deciding.{room_verdict, settled_verdict, whole_verdict, received_notes}
use Rattle.reader.specs.Reading.{end_verdict, verdict, finished, reading}
use Rattle.reader.specs.declared.Summary.{Summary}
use Rattle.deciding.specs.Types.{Verdict}
use Rattle.reader.specs.RefusalLaws.{CutUp, AnyMultiframe}
use Rattle.reader.specs.RefusalLaws as Stated

module _ (ch : Choices) (octets : List ℕ) (tables : Tables) (index report : ℕ) where
  abbrev places : List ℕ
  places = (cutting octets).places

  abbrev Fit : Type 0
  Fit = Stated.Fit ch octets tables index report

  abbrev IndexRoom : Type 0
  IndexRoom = Stated.IndexRoom ch octets tables index report

  abbrev Room : Type 0
  Room = Stated.Room ch octets tables index report

  abbrev Given : Refusal → Type 0
  Given = Stated.Given ch octets tables index report

  -- ---- the conditions lead to the refusals
  pub refuses_tables : (RightSizes tables → ⊥) → verdict ch octets tables index report ≡ Err WrongTables
  unfolding verdict
  refuses_tables h = rw (wrong_sizes tables h)

  pub refuses_negative : (k : ℕ) → RightSizes tables → FirstNegative tables k → verdict ch octets tables index report ≡ Err (NegativeThreshold k)
  unfolding verdict
  refuses_negative k h f = rw (negative_refused tables k h f)

  ends : RightTables tables → (e : Ending) → (cutting octets).ending ≡ e → verdict ch octets tables index report ≡ end_verdict ch octets tables index report places e
  unfolding verdict
  ends t e w = rw (right_passes tables t, w)

  -- 12, 13 and 15
  pub refuses_cut : RightTables tables → (r : Refusal) → (cutting octets).ending ≡ refused r → verdict ch octets tables index report ≡ Err r
  refuses_cut t r e = ends t (refused r) e

  pub refuses_empty : CutUp octets tables → length places ≡ 0 → verdict ch octets tables index report ≡ Err (Empty (length octets))
  unfolding whole_verdict
  refuses_empty w z = ends w.0 whole ((whole_exactly octets).1 w.1) ∙ rw (eq-eqb (length places) 0 z)

  settled : AnyMultiframe octets tables → (s : Settlement) → settling ch (readings octets places) ≡ s
      → verdict ch octets tables index report ≡ settled_verdict (length places) (bad_pairs (received_notes octets places tables)) (pair_count places) index report s
  unfolding whole_verdict
  settled w s e = ends w.0.0 whole ((whole_exactly octets).1 w.0.1) ∙ rw (ne_eqb (length places) 0 w.1, e)

  pub refuses_unsettled : AnyMultiframe octets tables → settling ch (readings octets places) ≡ None → verdict ch octets tables index report ≡ Err Unsettled
  unfolding settled_verdict
  refuses_unsettled w e = settled w None e

  pub refuses_unfit : AnyMultiframe octets tables → (c : ℕ) → settling ch (readings octets places) ≡ Some c → Unusable c
      → verdict ch octets tables index report ≡ Err Unfit
  unfolding settled_verdict
  refuses_unfit w c e h = settled w (Some c) e ∙ rw (unfit_is c h)

  fits : (f : Fit) → verdict ch octets tables index report
      ≡ room_verdict (length places) (bad_pairs (received_notes octets places tables)) (pair_count places) index report f.1.0
  unfolding settled_verdict
  fits f = settled f.0 (Some f.1.0) f.1.1.0 ∙ rw (fit_is f.1.0 f.1.1.1)

  pub refuses_index : Fit → index < index_octets * length places → verdict ch octets tables index report ≡ Err (IndexShort (index_octets * length places))
  unfolding room_verdict
  refuses_index f h = fits f ∙ rw (lt-ltb index (index_octets * length places) h)

  pub refuses_report : IndexRoom → report < report_octets * length places → verdict ch octets tables index report ≡ Err (ReportShort (report_octets * length places))
  unfolding room_verdict
  refuses_report f h = fits f.0 ∙ rw (le-ltb index (index_octets * length places) f.1, lt-ltb report (report_octets * length places) h)

  pub refuses_all_bad : Room → bad_pairs (received_notes octets places tables) ≡ pair_count places → verdict ch octets tables index report ≡ Err AllBad
  unfolding room_verdict
  refuses_all_bad f h =
      fits f.0.0
      ∙ rw (le-ltb index (index_octets * length places) f.0.1, le-ltb report (report_octets * length places) f.1, eq-eqb (bad_pairs (received_notes octets places tables)) (pair_count places) h)

  given_refused : (r : Refusal) → Given r → verdict ch octets tables index report ≡ Err r
  given_refused WrongTables g = refuses_tables g
  given_refused (NegativeThreshold k) g = refuses_negative k g.0 g.1
  given_refused (Unknown p) g = refuses_cut g.0 (Unknown p) ((ends_exactly octets (refused (Unknown p))).1 g.1)
  given_refused (CutShort p) g = refuses_cut g.0 (CutShort p) ((ends_exactly octets (refused (CutShort p))).1 g.1)
  given_refused (TooMany p) g = refuses_cut g.0 (TooMany p) ((ends_exactly octets (refused (TooMany p))).1 g.1)
  given_refused (Empty n) g = refuses_empty g.0 g.1 ∙ ap (λ (k : ℕ). Err (Empty k)) (sym g.2)
  given_refused Unsettled g = refuses_unsettled g.0 g.1
  given_refused Unfit g = refuses_unfit g.0 g.1.0 g.1.1.0 g.1.1.1
  given_refused (IndexShort n) g = refuses_index g.0 g.1 ∙ ap (λ (k : ℕ). Err (IndexShort k)) (sym g.2)
  given_refused (ReportShort n) g = refuses_report g.0 g.1 ∙ ap (λ (k : ℕ). Err (ReportShort k)) (sym g.2)
  given_refused AllBad g = refuses_all_bad g.0 g.1

  -- ---- and the refusals show the conditions
  abbrev Shows : Verdict → Type 0
  Shows (Err r) = Given r
  Shows (Ok c) = Unit

  shows_room : (f : Fit) → Shows (room_verdict (length places) (bad_pairs (received_notes octets places tables)) (pair_count places) index report f.1.0)
  unfolding room_verdict
  shows_room f =
      by_test Shows (ltb index (index_octets * length places)) (λ h. (f, ltb-true index (index_octets * length places) h, refl)) (λ h.
      let i = ltb-false index (index_octets * length places) h in
      by_test Shows (ltb report (report_octets * length places)) (λ k. ((f, i), ltb-true report (report_octets * length places) k, refl)) (λ k.
      by_test Shows (eqb (bad_pairs (received_notes octets places tables)) (pair_count places))
      (λ b. (((f, i), ltb-false report (report_octets * length places) k), eqb-true (bad_pairs (received_notes octets places tables)) (pair_count places) b)) (λ b. tt)))

  shows_settled : AnyMultiframe octets tables → (s : Settlement) → settling ch (readings octets places) ≡ s
      → Shows (settled_verdict (length places) (bad_pairs (received_notes octets places tables)) (pair_count places) index report s)
  unfolding settled_verdict
  shows_settled w None e = (w, e)
  shows_settled w (Some c) e =
      by_test Shows (unfit c) (λ h. (w, (c, (e, unfit_says c h)))) (λ h. shows_room (w, (c, (e, fit_says c h))))

  shows_whole : CutUp octets tables → Shows (whole_verdict ch octets tables index report places)
  unfolding whole_verdict
  shows_whole w =
      by_test Shows (eqb (length places) 0) (λ h. (w, eqb-true (length places) 0 h, refl)) (λ h. shows_settled (w, eqb-false (length places) 0 h) (settling ch (readings octets places)) refl)

  -- what cutting refuses is 12, 13 or 15
  shows_cut : RightTables tables → (r : Refusal) → Reason octets r → Given r
  shows_cut t (Unknown p) m = (t, m)
  shows_cut t (CutShort p) m = (t, m)
  shows_cut t (TooMany p) m = (t, m)
  shows_cut t WrongTables m = absurd m
  shows_cut t (NegativeThreshold k) m = absurd m
  shows_cut t (Empty n) m = absurd m
  shows_cut t Unsettled m = absurd m
  shows_cut t Unfit m = absurd m
  shows_cut t (IndexShort n) m = absurd m
  shows_cut t (ReportShort n) m = absurd m
  shows_cut t AllBad m = absurd m

  shows_end : RightTables tables → (e : Ending) → (cutting octets).ending ≡ e → Shows (end_verdict ch octets tables index report places e)
  shows_end t whole e = shows_whole (t, (whole_exactly octets).0 e)
  shows_end t (refused r) e = shows_cut t r ((ends_exactly octets (refused r)).0 e)

  shows : Shows (verdict ch octets tables index report)
  unfolding verdict
  shows = by (admission tables) (shown tables)
    where
      by : (a : Result Tables Refusal) → Shown tables a → Shows (if_admitted a Err (end_verdict ch octets tables index report places (cutting octets).ending))
      by (Ok admitted) t = shows_end t (cutting octets).ending refl
      -- what turns the tables away is 11 or 10
      by (Err r) h = by_shown tables Given (λ n. n) (λ k n. n) r h

  pub decided_exactly : (r : Refusal) → (verdict ch octets tables index report ≡ Err r) ↔ Given r
  decided_exactly r = (λ e. subst Shows e shows, given_refused r)

-- ---- of the answer: each refusal exactly where it is given
pub refused_exactly : (ch : Choices) (octets : List ℕ) (tables : Tables) (index report : List ℕ) (r : Refusal)
    → ((reading ch octets tables index report).answer ≡ Err r) ↔ Given ch octets tables (length index) (length report) r
unfolding reading
refused_exactly ch octets tables index report r =
    let v = verdict ch octets tables (length index) (length report) in (
      λ e. (decided_exactly ch octets tables (length index) (length report) r).0 (by v e),
      λ g. ap (λ (x : Verdict). (finished octets tables index report (cutting octets).places x).answer) ((decided_exactly ch octets tables (length index) (length report) r).1 g),
    )
  where
    never : (s : Summary) → Ok s ≡ Err r → ⊥
    never s e = let z : ◌≡◌ {A = ℕ} 0 1 = cc in omega arith

    by : (v : Verdict) → (finished octets tables index report (cutting octets).places v).answer ≡ Err r → v ≡ Err r
    by (Err x) e = cc
    by (Ok c) e = absurd (never _ e)
