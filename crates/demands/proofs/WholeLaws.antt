-- Octets of m whole multiframes and nothing else, as the reader meets them: where it finds each header word and each packet, and what it gives
-- once the settings are settled, a pair is good and there is room.
-- Assumes nothing.
use Rattle.std.specs.Prelude.{◌≡◌, ℕ, suc, ◌+◌, ◌*◌, ◌/◌, ◌%◌, ◌≤◌, ◌<◌, drop, get_or, Some, None, Ok, Err}
use Rattle.std.proofs.Common.{sym, ◌∙◌, arith, ext_get_or, get_or-take, get_or-drop}
use Rattle.std.proofs.Math.Path.{ap, ap₂, subst}
use borrow.Author.Tests.{eq-eqb, ne_eqb, le-ltb}
use Rattle.replacing.specs.Replacing.{source, pairs_octets, replaced}
use Rattle.replacing.proofs.Laws.{good_stays, replaced_length, replaced_at}
use mathlib.Core.List.{List, ◌∷◌}
use Rattle.std.proofs.Math.ListN.{length, get_or-append}
use Rattle.lists.specs.Parts.{part, over, part_left}
use Rattle.lists.specs.Rows.{each, same_each}
use Rattle.layout.specs.Layout.{frame_indices, multiframe_pairs, multiframe_octets, most_multiframes, index_octets, report_octets, pair_of, first_pair, sync}
use Rattle.choices.specs.declared.Choices.{Choices}
use Rattle.tables.specs.Tables.{Tables}
use Rattle.tables.proofs.AdmittedLaws.{right_passes}
use Rattle.bits.specs.Bits.{bits}
use Rattle.cutting.specs.Cutting.{Cutting, whole, cutting}
use Rattle.cutting.proofs.Laws.{every_length, every_at, whole_image}
use Rattle.header.specs.Reading as H
use Rattle.header_readings.specs.Readings.{readings}
use Rattle.settling.specs.Settling.{settling}
use Rattle.header_notes.specs.HeaderNotes.{header_note}
use Rattle.unfit.specs.Laws.{Usable, fit_is}
use Rattle.carrier.specs.Carrier.{stream_from, header_word, stream_packet, word_at, stream_at, in_places, received, pair_count}
use Rattle.bad_pairs.specs.BadPairs.{bad_pairs}
use Rattle.deciding.specs.Deciding.{room_verdict, settled_verdict, whole_verdict, received_notes}
use Rattle.report.specs.Report.{report_part, length_report, report_at}
use Rattle.reader.specs.Reading.{index_part, summary, end_verdict, verdict, finished, outcome, reading}
use Rattle.deciding.specs.Laws.{Fitting}
use Rattle.reader.specs.ReadingLaws.{Accepted}
use Rattle.reader.proofs.ReadingLaws.{accepting}
use Rattle.deciding.specs.Types.{Verdict}
use Rattle.refusals.specs.declared.Reading.TheVariants.{Unsettled, AllBad}
use Rattle.image.specs.Made.{sync_in, word_in, packet_in, stream_in}
use Rattle.demands.specs.Whole.{Lent, header_note_in, pair_note_in, row_of}

module _ (s : List ℕ) (m : ℕ) (k : ℕ) (h : k < m) where
  place_at : get_or (row_of m) k 0 ≡ multiframe_octets * k
  place_at = every_at 0 m k h ∙ omega arith

  pub word_at_lem : word_at s (in_places (row_of m)) k ≡ word_in s k
  word_at_lem = ap (header_word s) place_at

  pub stream_at_lem : stream_at s (in_places (row_of m)) k ≡ stream_in s k
  stream_at_lem = ap (stream_from s) place_at

pub packet_at_lem : (s : List ℕ) (m q : ℕ) → q < multiframe_pairs * m → received s (row_of m) q ≡ packet_in s q
packet_at_lem s m q h = ap (λ (l : List ℕ). stream_packet (bits l) q) (stream_at_lem s m (q / multiframe_pairs) (omega arith))

pub readings_are : (s : List ℕ) (m : ℕ) → readings s (row_of m) ≡ each (λ k. H.reading (word_in s k)) m
unfolding readings
readings_are s m =
    ap (each (λ k. H.reading (word_at s (in_places (row_of m)) k))) (every_length 0 m)
    ∙ same_each (λ k. H.reading (word_at s (in_places (row_of m)) k)) (λ k. H.reading (word_in s k)) m (λ k h. ap H.reading (word_at_lem s m k h))

module _ (s : List ℕ) (m : ℕ) (few : m ≤ most_multiframes) (size : length s ≡ multiframe_octets * m)
    (syncs : (k : ℕ) → k < m → sync_in s k ≡ sync) where
  in_sync : (k i : ℕ) → k < m → i < 2 → get_or s (multiframe_octets * k + i) 0 ≡ get_or sync i 0
  in_sync k i h l =
      sym (get_or-take 2 (drop (multiframe_octets * k) s) i 0 l ∙ get_or-drop (multiframe_octets * k) s i 0) ∙ ap (λ (x : List ℕ). get_or x i 0) (syncs k h)

  -- it is cut there
  pub cut_is : cutting s ≡ record { places = row_of m; ending = whole }
  cut_is =
      whole_image s m few size (λ k h.
      let z : multiframe_octets * k ≡ multiframe_octets * k + 0 = omega arith in
      (ap (λ (i : ℕ). get_or s i 0) z ∙ in_sync k 0 h (omega arith), in_sync k 1 h (omega arith)))

  -- and read
  pub reads_as : (ch : Choices) (tables : Tables) (index report : List ℕ) (c : ℕ) → 0 < m → Lent m tables index report
      → Fitting (length (row_of m)) (bad_pairs (received_notes s (row_of m) tables)) (pair_count (row_of m)) (length index) (length report) (settling ch (readings s (row_of m))) c
      → reading ch s tables index report
      ≡ outcome (Ok (summary s (row_of m) (received_notes s (row_of m) tables) c))
      (over index 0 (index_octets * length (row_of m)) (index_part s (row_of m) (received_notes s (row_of m) tables)))
      (over report 0 (report_octets * length (row_of m)) (report_part s (row_of m) (received_notes s (row_of m) tables) c))
  unfolding reading
  reads_as ch tables index report c some lent fit =
      let pl : (cutting s).places ≡ row_of m = ap (λ (w : Cutting). w.places) cut_is in
      let a : Accepted ch s tables (length index) (length report) c =
      record {
        right_tables = lent.right_tables;
        uncut = ap (λ (w : Cutting). w.ending) cut_is;
        some = λ e. omega (arith, ap length pl, every_length 0 m);
        fitting = subst
            (λ (ps : List ℕ). Fitting (length ps) (bad_pairs (received_notes s ps tables)) (pair_count ps) (length index) (length report) (settling ch (readings s ps)) c)
            (sym pl) fit;
      } in
      ap₂ (λ (ps : List ℕ) (v : Verdict). finished s tables index report ps v) pl
      (accepting ch s tables (length index) (length report) c a)

-- what is laid over a buffer's front stands there
pub front_at : (l f : List ℕ) (w i : ℕ) → i < length f → get_or (over l 0 w f) i 0 ≡ get_or f i 0
front_at l f w i h = get_or-append f (drop (0 + w) l) 0 i h

pub front_part : (l f : List ℕ) (w a v : ℕ) → a + v ≤ length f → part a v (over l 0 w f) ≡ part a v f
front_part l f w a v h = part_left f (drop (0 + w) l) a v h

module _ (s places ns report : List ℕ) (c w : ℕ) (notes_size : length ns ≡ pair_count places) where
  report_octet : (k j : ℕ) → k < length places → j < report_octets
      → get_or (over report 0 w (report_part s places ns c)) (report_octets * k + j) 0 ≡ get_or (header_note c k (get_or (readings s places) k None) ∷ part (first_pair k) multiframe_pairs ns) j 0
  report_octet k j h l =
      let r = report_part s places ns c in
      front_at report r w (report_octets * k + j) (omega (arith, length_report s places ns c notes_size))
      ∙ sym (get_or-take report_octets (drop (report_octets * k) r) j 0 l ∙ get_or-drop (report_octets * k) r j 0) ∙ ap (λ (x : List ℕ). get_or x j 0) (report_at s places ns c k notes_size h)

  pub header_note_is : (k : ℕ) → k < length places → header_note_in (over report 0 w (report_part s places ns c)) k ≡ header_note c k (get_or (readings s places) k None)
  header_note_is k h =
      let z : report_octets * k ≡ report_octets * k + 0 = omega arith in
      ap (λ (i : ℕ). get_or (over report 0 w (report_part s places ns c)) i 0) z ∙ report_octet k 0 h (omega arith)

  pub pair_note_is : (q : ℕ) → q < pair_count places → pair_note_in (over report 0 w (report_part s places ns c)) q ≡ get_or ns q 0
  pair_note_is q h =
      let k = q / multiframe_pairs in
      let j = q % multiframe_pairs in
      let z : report_octets * k + 1 + j ≡ report_octets * k + suc j = omega arith in
      let e : multiframe_pairs * k + j ≡ q = omega arith in
      ap (λ (i : ℕ). get_or (over report 0 w (report_part s places ns c)) i 0) z ∙ report_octet k (suc j) (omega arith) (omega arith)
      ∙ get_or-take multiframe_pairs (drop (multiframe_pairs * k) ns) j 0 (omega arith) ∙ get_or-drop (multiframe_pairs * k) ns j 0 ∙ ap (λ (i : ℕ). get_or ns i 0) e

-- ---- no bad pair: nothing is replaced
pub nothing_replaced : (ns l : List ℕ) → ((q : ℕ) → q < length ns → get_or ns q 0 ≡ 0) → length l ≡ pairs_octets (length ns) → replaced ns l ≡ l
nothing_replaced ns l good size =
    let lr = replaced_length ns l in
    ext_get_or 0 (replaced ns l) l (lr ∙ sym size) (λ t h.
    let e : source ns (t / frame_indices) ≡ t / frame_indices = good_stays ns (t / frame_indices) (good (pair_of (t / frame_indices)) (omega (arith, lr))) in
    let z : frame_indices * (t / frame_indices) + t % frame_indices ≡ t = omega arith in
    replaced_at ns l t (omega (arith, lr)) ∙ ap (λ (k : ℕ). get_or l (frame_indices * k + t % frame_indices) 0) e ∙ ap (λ (k : ℕ). get_or l k 0) z)

-- ---- refusals that damage can bring: 16 and 20
module _ (ch : Choices) (s : List ℕ) (m : ℕ) (few : m ≤ most_multiframes) (size : length s ≡ multiframe_octets * m) (syncs : (k : ℕ) → k < m → sync_in s k ≡ sync)
    (tables : Tables) (index report : List ℕ) (some : 0 < m) (lent : Lent m tables index report) where
  -- past 10 to 15 the settings decide
  settled_next : verdict ch s tables (length index) (length report)
      ≡ settled_verdict (length (row_of m)) (bad_pairs (received_notes s (row_of m) tables)) (pair_count (row_of m)) (length index) (length report) (settling ch (readings s (row_of m)))
  unfolding verdict whole_verdict
  settled_next =
      rw (right_passes tables lent.right_tables)
      (subst
      (λ (w : Cutting). end_verdict ch s tables (length index) (length report) w.places w.ending
      ≡ settled_verdict (length (row_of m)) (bad_pairs (received_notes s (row_of m) tables)) (pair_count (row_of m)) (length index) (length report) (settling ch (readings s (row_of m))))
      (sym (cut_is s m few size syncs)) (rw (ne_eqb (length (row_of m)) 0 (λ e. omega (arith, every_length 0 m)))))

  pub refuses_16 : settling ch (readings s (row_of m)) ≡ None → reading ch s tables index report ≡ outcome (Err Unsettled) index report
  unfolding reading settled_verdict
  refuses_16 e = rw (settled_next, e)

  pub refuses_20 : (c : ℕ) → settling ch (readings s (row_of m)) ≡ Some c → Usable c → bad_pairs (received_notes s (row_of m) tables) ≡ pair_count (row_of m)
      → reading ch s tables index report ≡ outcome (Err AllBad) index report
  unfolding reading settled_verdict room_verdict
  refuses_20 c e u b =
      let k = every_length 0 m in
      let i : index_octets * length (row_of m) ≤ length index = subst (λ (n : ℕ). index_octets * n ≤ length index) (sym k) lent.index_room in
      let r : report_octets * length (row_of m) ≤ length report = subst (λ (n : ℕ). report_octets * n ≤ length report) (sym k) lent.report_room in
      rw (
        settled_next,
        e,
        fit_is c u,
        le-ltb (length index) (index_octets * length (row_of m)) i,
        le-ltb (length report) (report_octets * length (row_of m)) r,
        eq-eqb (bad_pairs (received_notes s (row_of m) tables)) (pair_count (row_of m)) b,
      )
