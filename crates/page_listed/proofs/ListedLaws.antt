-- Two listings, octet for octet (01, "Reading"): what the reader's contract promises for received octets with damage in headers and packets.
-- The octets come from a program outside of Rattle, none from the definitions, and sizes stand as 01 prints them.
-- Assumes nothing.
use Rattle.std.specs.Prelude.{◌≡◌, refl, Bool, true, false, ℕ, ◌+◌, ◌*◌, ◌%◌, ◌≤◌, ◌<◌, eqb, take, drop, get_or, replicate, Some, None, Ok}
use Rattle.std.proofs.Common.{sym, ◌∙◌, arith, lit<, lit≤, eq-eqb, ne_eqb}
use Rattle.std.proofs.Math.Path.{ap, ap₂, subst}
use Rattle.std.proofs.Math.Bool.{xor}
use mathlib.Core.List.{List, [], ◌∷◌, ◌++◌}
use Rattle.std.specs.Int.Count.{ones, ones_in}
use Rattle.std.proofs.Math.ListN.{length}
use Rattle.std.proofs.lemmas.List.{get_or-replicate}
use Rattle.polynomials.specs.Light.{ones_in_lem}
use Rattle.lists.specs.Tests.{when}
use Rattle.lists.specs.Parts.{part, over}
use Rattle.lists.specs.Rows.{joined, each, each_at, same_each}
use Rattle.layout.specs.Layout.{index_octets, report_octets, first_pair, multiframe_pairs}
use Rattle.choices.specs.declared.Choices.{Choices}
use Rattle.tables.specs.Tables.{Tables, zero_tables}
use Rattle.tables.proofs.AdmittedLaws.{none_by_test, zero_right}
use Rattle.settings.specs.Settings.{settings}
use Rattle.frames.specs.Frames.{zero_frame}
use Rattle.bits.specs.Bits.{value, numbers, field, fields, total}
use Rattle.crc.specs.Crc.{after, crc, alike, right}
use Rattle.packet.specs.Packet.{apart}
use Rattle.header_code.specs.Code.{codeword}
use Rattle.header_code.specs.Code.Examples.{of_octets, three_from_zero}
use Rattle.message.specs.Message.{message, rate_of, count_of, common_bits}
use Rattle.message.specs.Message.Laws.{message_lt, rate_back, type_back, count_back, exp_back, common_rate, common_type, common_exp, common_message}
use Rattle.header.specs.Reading as H
use Rattle.header.proofs.Laws.{lost_at_three}
use Rattle.header.specs.Types.{Header}
use Rattle.cutting.specs.Cutting.{sync_met, last_met, piece_by, whole, Cutting, walk, cutting}
use Rattle.header_readings.specs.Readings.{readings}
use Rattle.settling.specs.Settling.{first_agreeing, settling}
use Rattle.header_notes.specs.HeaderNotes.{header_note}
use Rattle.settling.proofs.Laws.{all_agree}
use Rattle.unfit.specs.Laws.{Usable}
use Rattle.header_notes.specs.Laws.{note_lost}
use Rattle.consistency.specs.Consistency.{flagged, flags, inconsistent}
use Rattle.carrier.specs.Carrier.{received, pair_count}
use Rattle.notes.specs.Notes.{pair_fails, frames_of, all_frames, pair_inconsistent, pair_notes}
use Rattle.notes.specs.Laws.{length_notes, no_failed_crc}
use Rattle.bad_pairs.specs.BadPairs.{note_by, notes, bad_pairs}
use Rattle.replacing.specs.Replacing.{run_start, leading, source_by, source, replaced}
use Rattle.replacing.specs.Speech.{last_nonzero, speech_of, end_of}
use Rattle.deciding.specs.Deciding.{received_notes}
use Rattle.report.specs.Report.{report_part}
use Rattle.reader.specs.Reading.{answer_number, answer_values, summary, index_part, Outcome, outcome, finished, reading, received_frames}
use Rattle.deciding.specs.Laws.{Fitting}
use Rattle.reader.specs.ReadingLaws.{Accepted}
use Rattle.reader.proofs.ReadingLaws.{accepting}
use Rattle.deciding.specs.Types.{Verdict}
use Rattle.worked_examples.specs.Examples as E
use Rattle.demands_met.proofs.MetLaws.{zero_consistent}
use Rattle.demands.proofs.ReadsBackLaws.{zeros}
use Rattle.page_images.specs.Headers.{word_of, ReadsAs, clean, flips}
use Rattle.page_images.specs.Headers as Headers
use Rattle.page_images.specs.Images.{Right}
use Rattle.page_received.specs.Received.{Reads}
use Rattle.page_listed.specs.Listed.{Lists, Table, hurt, hurt_notes, plain_notes, standing, standing_plain, steep, strange, strange_notes}

-- the frames as they came. Of the first 31 the seventh index is the frame's number, from 1, but for bit 43 of pair 5
abbrev came : List ℕ
came =
    1 ∷ 0 ∷ 0 ∷ 0 ∷ 0 ∷ 0 ∷ 1 ∷ 0 ∷ 0 ∷ 0 ∷ 0 ∷ 0 ∷ 0 ∷ 2 ∷ 0 ∷ 0 ∷ 0 ∷ 0 ∷ 0 ∷ 0 ∷ 3 ∷ 1 ∷ 1 ∷ 0 ∷ 0 ∷ 0 ∷ 0 ∷ 4 ∷ 1 ∷ 1 ∷ 0 ∷ 0 ∷ 0 ∷ 0 ∷ 5 ∷
    0 ∷ 0 ∷ 0 ∷ 0 ∷ 0 ∷ 0 ∷ 6 ∷ 0 ∷ 0 ∷ 0 ∷ 0 ∷ 0 ∷ 0 ∷ 7 ∷ 0 ∷ 0 ∷ 0 ∷ 0 ∷ 0 ∷ 0 ∷ 8 ∷ 0 ∷ 0 ∷ 0 ∷ 0 ∷ 0 ∷ 0 ∷ 9 ∷ 2 ∷ 0 ∷ 0 ∷ 0 ∷ 0 ∷ 0 ∷ 10 ∷
    0 ∷ 0 ∷ 0 ∷ 0 ∷ 0 ∷ 0 ∷ 139 ∷ 0 ∷ 0 ∷ 0 ∷ 0 ∷ 0 ∷ 0 ∷ 12 ∷ 0 ∷ 0 ∷ 0 ∷ 0 ∷ 0 ∷ 0 ∷ 13 ∷ 0 ∷ 0 ∷ 0 ∷ 0 ∷ 0 ∷ 0 ∷ 14 ∷ 0 ∷ 0 ∷ 0 ∷ 0 ∷ 0 ∷ 0 ∷ 15 ∷
    1 ∷ 1 ∷ 0 ∷ 0 ∷ 0 ∷ 0 ∷ 16 ∷ 1 ∷ 1 ∷ 0 ∷ 0 ∷ 0 ∷ 0 ∷ 17 ∷ 0 ∷ 0 ∷ 0 ∷ 0 ∷ 0 ∷ 0 ∷ 18 ∷ 0 ∷ 0 ∷ 0 ∷ 0 ∷ 0 ∷ 0 ∷ 19 ∷ 0 ∷ 0 ∷ 0 ∷ 0 ∷ 0 ∷ 0 ∷ 20 ∷
    0 ∷ 0 ∷ 0 ∷ 0 ∷ 0 ∷ 0 ∷ 21 ∷ 1 ∷ 1 ∷ 0 ∷ 0 ∷ 0 ∷ 0 ∷ 22 ∷ 1 ∷ 1 ∷ 0 ∷ 0 ∷ 0 ∷ 0 ∷ 23 ∷ 0 ∷ 0 ∷ 0 ∷ 0 ∷ 0 ∷ 0 ∷ 24 ∷ 0 ∷ 0 ∷ 0 ∷ 0 ∷ 0 ∷ 0 ∷ 25 ∷
    0 ∷ 0 ∷ 0 ∷ 0 ∷ 0 ∷ 0 ∷ 26 ∷ 0 ∷ 1 ∷ 0 ∷ 0 ∷ 0 ∷ 0 ∷ 27 ∷ 1 ∷ 0 ∷ 0 ∷ 0 ∷ 0 ∷ 0 ∷ 28 ∷ 1 ∷ 1 ∷ 0 ∷ 0 ∷ 0 ∷ 0 ∷ 29 ∷ 0 ∷ 0 ∷ 0 ∷ 0 ∷ 0 ∷ 0 ∷ 30 ∷
    0 ∷ 0 ∷ 0 ∷ 0 ∷ 0 ∷ 0 ∷ 31 ∷ (replicate 112 0 ++ (1 ∷ replicate 6 0))

steep_right : Right steep
steep_right = (refl, refl, none_by_test steep tt)

zeros_right : Right zero_tables
zeros_right = (zero_right.0.0, zero_right.0.1, zero_right.1)

-- ---- from what was computed to a line
-- the settled settings of both
abbrev settled : ℕ
settled = common_bits (message (settings 0 0) 0 0)

is_usable : Usable settled
is_usable = record {
  rate = λ z. (let y : ◌≡◌ {A = ℕ} 0 2 = sym (common_rate (message (settings 0 0) 0 0) ∙ rate_back (settings 0 0) 0 0) ∙ z in omega arith);
  exp = common_exp (message (settings 0 0) 0 0) ∙ exp_back (settings 0 0) 0 0;
}

module _ (ch : Choices) (s ps : List ℕ) (cut : cutting s ≡ record { places = ps; ending = whole }) (some : length ps ≡ 0 → ⊥) (settles : settling ch (readings s ps) ≡ Some settled)
    (tables : Tables) (right : Right tables) (ns : List ℕ) (judged : received_notes s ps tables ≡ ns)
    (good : bad_pairs ns ≡ pair_count ps → ⊥) (index report : List ℕ) (hi : index_octets * length ps ≤ length index) (hr : report_octets * length ps ≤ length report) where
  is_read : reading ch s tables index report
      ≡ outcome (Ok (summary s ps ns settled)) (over index 0 (index_octets * length ps) (index_part s ps ns)) (over report 0 (report_octets * length ps) (report_part s ps ns settled))
  unfolding reading
  is_read =
      let pl : (cutting s).places ≡ ps = ap (λ (w : Cutting). w.places) cut in
      let fit : Fitting (length ps) (bad_pairs (received_notes s ps tables)) (pair_count ps) (length index) (length report) (settling ch (readings s ps)) settled =
      record {
        settles = settles;
        usable = is_usable;
        roomy = record { index_room = hi; report_room = hr; not_all = λ e. good (ap bad_pairs (sym judged) ∙ e) };
      } in
      let a : Accepted ch s tables (length index) (length report) settled =
      record {
        right_tables = ((right.0, right.1), right.2);
        uncut = ap (λ (w : Cutting). w.ending) cut;
        some = λ e. some (ap length (sym pl) ∙ e);
        fitting = subst
            (λ (q : List ℕ). Fitting (length q) (bad_pairs (received_notes s q tables)) (pair_count q) (length index) (length report) (settling ch (readings s q)) settled)
            (sym pl) fit;
      } in
      ap₂ (λ (q : List ℕ) (v : Verdict). finished s tables index report q v) pl
      (accepting ch s tables (length index) (length report) settled a)
      ∙ ap
      (λ (n : List ℕ).
      outcome (Ok (summary s ps n settled)) (over index 0 (index_octets * length ps) (index_part s ps n)) (over report 0 (report_octets * length ps) (report_part s ps n settled)))
      judged

  module _ (frames noted : List ℕ) (put : index_part s ps ns ≡ frames) (says : report_part s ps ns settled ≡ noted) (lf : length frames ≡ index_octets * length ps)
      (ln : length noted ≡ report_octets * length ps) where
    listed : Reads ch s tables index report (0 ∷ 0 ∷ length ps ∷ speech_of (length ps) frames ∷ bad_pairs ns ∷ end_of (length ps) frames ∷ []) frames noted
    listed =
        let x : 0 + 168 * length ps ≡ length frames = omega arith in
        let y : 0 + 13 * length ps ≡ length noted = omega arith in
        record {
          number_is = ap (λ (o : Outcome). answer_number o.answer) is_read;
          values_are = ap (λ (o : Outcome). answer_values o.answer) is_read
              ∙ ap₂ (λ (r t : ℕ). r ∷ t ∷ length ps ∷ speech_of (length ps) (index_part s ps ns) ∷ bad_pairs ns ∷ end_of (length ps) (index_part s ps ns) ∷ [])
              (common_rate (message (settings 0 0) 0 0) ∙ rate_back (settings 0 0) 0 0) (common_type (message (settings 0 0) 0 0) ∙ type_back (settings 0 0) 0 0)
              ∙ ap (λ (f : List ℕ). 0 ∷ 0 ∷ length ps ∷ speech_of (length ps) f ∷ bad_pairs ns ∷ end_of (length ps) f ∷ []) put;
          index_is = ap (λ (o : Outcome). o.index) is_read ∙ ap₂ (λ (f : List ℕ) (n : ℕ). f ++ drop n index) put x;
          report_is = ap (λ (o : Outcome). o.report) is_read ∙ ap₂ (λ (f : List ℕ) (n : ℕ). f ++ drop n report) says y;
        }

-- ---- header notes
one_flip : ones 0x80000000 ≡ 1
unfolding ones_in
one_flip = sym (ones_in_lem 32 0x80000000 (lit< tt))

two_flips : ones 0x4008 ≡ 2
unfolding ones_in
two_flips = sym (ones_in_lem 32 0x4008 (lit< tt))

read_1 : ReadsAs 0xEE0E0008 (message (settings 0 0) 1 0) 0
read_1 = clean (message (settings 0 0) 1 0) 0xEE0E0008 (message_lt (settings 0 0) 1 0) (of_octets (codeword (message (settings 0 0) 1 0)) 0x08 0x00 0x0E 0xEE (E.table).header_count_1)

read_2 : ReadsAs 0x8D1D0010 (message (settings 0 0) 2 0) 1
read_2 =
    flips (message (settings 0 0) 2 0) 0x0D1D0010 0x80000000 1 (message_lt (settings 0 0) 2 0) (of_octets (codeword (message (settings 0 0) 2 0)) 0x10 0x00 0x1D 0x0D (E.table).header_count_2) one_flip
    (lit≤ tt)

read_4 : ReadsAs 0xCB3B0021 (message (settings 1 0) 4 0) 0
read_4 = clean (message (settings 1 0) 4 0) 0xCB3B0021 (message_lt (settings 1 0) 4 0) (word_of 1 0 4 0x21 0x00 0x3B 0xCB (Headers.table).fourth_1_0)

read_5 : ReadsAs 0x3F0F4001 (message (settings 1 0) 1 0) 2
read_5 = flips (message (settings 1 0) 1 0) 0x3F0F0009 0x4008 2 (message_lt (settings 1 0) 1 0) (word_of 1 0 1 0x09 0x00 0x0F 0x3F (Headers.table).header_1_0) two_flips (lit≤ tt)

read_lost : H.reading 0x01010001 ≡ None
read_lost = lost_at_three 0x01010001 0 (lit< tt) three_from_zero

-- the note of a word that is read with these settings and this counter in place k
module _ (w count f k : ℕ) where
  note_by_lem : (rate : ℕ) (t : Bool) → ReadsAs w (message (settings rate 0) count 0) f → eqb (common_bits (message (settings rate 0) count 0)) settled ≡ t
      → header_note settled k (Some (H.decoded_as w (message (settings rate 0) count 0))) ≡ f + when (eqb (count % 16) ((k + 1) % 16)) 0 4 + when t 0 8
  unfolding header_note
  note_by_lem rate t r e =
      ap (λ (x : ℕ). x + when (eqb (count_of (message (settings rate 0) count 0)) ((k + 1) % 16)) 0 4 + when (eqb (common_bits (message (settings rate 0) count 0)) settled) 0 8) r.1
      ∙ ap₂ (λ (n : ℕ) (b : Bool). f + when (eqb n ((k + 1) % 16)) 0 4 + when b 0 8) (count_back (settings rate 0) count 0) e

  note_same : ReadsAs w (message (settings 0 0) count 0) f
      → header_note settled k (Some (H.decoded_as w (message (settings 0 0) count 0))) ≡ f + when (eqb (count % 16) ((k + 1) % 16)) 0 4 + 0
  note_same r = note_by_lem 0 true r (eq-eqb (common_bits (message (settings 0 0) count 0)) settled (common_message (settings 0 0) count 0))

  note_other : ReadsAs w (message (settings 1 0) count 0) f
      → header_note settled k (Some (H.decoded_as w (message (settings 1 0) count 0))) ≡ f + when (eqb (count % 16) ((k + 1) % 16)) 0 4 + 8
  note_other r =
      note_by_lem 1 false r (ne_eqb (common_bits (message (settings 1 0) count 0)) settled (λ e.
      let z : ◌≡◌ {A = ℕ} 1 0 =
      sym (common_rate (message (settings 1 0) count 0) ∙ rate_back (settings 1 0) count 0) ∙ ap rate_of e ∙ common_rate (message (settings 0 0) 0 0) ∙ rate_back (settings 0 0) 0 0 in
      omega arith))

-- ---- the first, computed
abbrev places : List ℕ
places = 2 ∷ 150 ∷ []

cut_hurt : cutting hurt ≡ record { places = places; ending = whole }
unfolding walk piece_by sync_met last_met
cut_hurt = refl

-- pair notes of a report of two multiframes
abbrev pairs_in : List ℕ → List ℕ
pairs_in report = part 1 12 report ++ part 14 12 report

fails_hurt : each (pair_fails (received hurt places)) 24 ≡ each (λ q. eqb (get_or (pairs_in plain_notes) q 0) 1) 24
unfolding pair_fails fields field right alike crc after xor
fails_hurt = refl

frames_hurt : received_frames hurt places ≡ came
unfolding all_frames frames_of apart numbers value fields field total
frames_hurt = refl

inconsistent_hurt : each (pair_inconsistent (received hurt places) steep) 24
    ≡ false ∷ true ∷ true ∷ false ∷ false ∷ false ∷ false ∷ true ∷ true ∷ false ∷ true ∷ true ∷ false ∷ true ∷ true ∷ replicate 9 false
unfolding pair_inconsistent frames_of apart numbers value fields field total inconsistent flags flagged
inconsistent_hurt = refl

inconsistent_plain : each (pair_inconsistent (received hurt places) zero_tables) 24 ≡ replicate 24 false
unfolding pair_inconsistent
inconsistent_plain =
    same_each (pair_inconsistent (received hurt places) zero_tables) (λ q. false) 24 (λ q h. zero_consistent (take 7 (frames_of (received hurt places) q)) (drop 7 (frames_of (received hurt places) q)))

judged_hurt : received_notes hurt places steep ≡ pairs_in hurt_notes
unfolding pair_notes note_by
judged_hurt = ap₂ notes fails_hurt inconsistent_hurt

judged_plain : received_notes hurt places zero_tables ≡ pairs_in plain_notes
unfolding pair_notes note_by
judged_plain = ap₂ notes fails_hurt inconsistent_plain

put_hurt : replaced (pairs_in hurt_notes) came ≡ standing
unfolding replaced source source_by run_start leading
put_hurt = refl

put_plain : replaced (pairs_in plain_notes) came ≡ standing_plain
unfolding replaced source source_by run_start leading
put_plain = refl

abbrev hurt_heads : List Header
hurt_heads = Some (H.decoded_as 0xEE0E0008 (message (settings 0 0) 1 0)) ∷ Some (H.decoded_as 0x8D1D0010 (message (settings 0 0) 2 0)) ∷ []

heads_hurt : readings hurt places ≡ hurt_heads
unfolding readings value fields field
heads_hurt = ap₂ (λ (g h : Header). g ∷ h ∷ []) read_1.0 read_2.0

settles_hurt : (ch : Choices) → settling ch (readings hurt places) ≡ Some settled
settles_hurt ch =
    ap (settling ch) heads_hurt
    ∙ all_agree ch hurt_heads settled (omega arith) (common_message (settings 0 0) 1 0, (common_message (settings 0 0) 2 0, tt))

says_hurt : (ns : List ℕ) → report_part hurt places ns settled ≡ (0 ∷ part 0 12 ns) ++ (1 ∷ part 12 12 ns)
unfolding report_part
says_hurt ns =
    ap (λ (hs : List Header). joined (λ k. header_note settled k (get_or hs k None) ∷ part (first_pair k) multiframe_pairs ns) 2) heads_hurt
    ∙ rw (note_same 0xEE0E0008 1 0 0 read_1, note_same 0x8D1D0010 2 1 1 read_2)

hurt_listed : (ch : Choices) → Lists ch hurt steep (0 ∷ 0 ∷ 2 ∷ 31 ∷ 9 ∷ 1 ∷ []) standing hurt_notes
unfolding last_nonzero zero_frame
hurt_listed ch index report hi hr =
    listed ch hurt places cut_hurt (λ e. omega arith) (settles_hurt ch) steep steep_right (pairs_in hurt_notes) judged_hurt (λ e. omega arith) index report hi hr standing hurt_notes
    (ap (replaced (pairs_in hurt_notes)) frames_hurt ∙ put_hurt) (says_hurt (pairs_in hurt_notes)) refl refl

plain_listed : (ch : Choices) → Lists ch hurt zero_tables (0 ∷ 0 ∷ 2 ∷ 31 ∷ 4 ∷ 1 ∷ []) standing_plain plain_notes
unfolding last_nonzero zero_frame
plain_listed ch index report hi hr =
    listed ch hurt places cut_hurt (λ e. omega arith) (settles_hurt ch) zero_tables zeros_right (pairs_in plain_notes) judged_plain (λ e. omega arith) index report hi hr standing_plain
    plain_notes (ap (replaced (pairs_in plain_notes)) frames_hurt ∙ put_plain) (says_hurt (pairs_in plain_notes)) refl refl

-- ---- the second, computed
abbrev row : List ℕ
row = 0 ∷ 144 ∷ 288 ∷ 432 ∷ 576 ∷ []

cut_strange : cutting strange ≡ record { places = row; ending = whole }
unfolding walk piece_by sync_met last_met
cut_strange = refl

fails_strange : each (pair_fails (received strange row)) 60 ≡ replicate 60 false
unfolding pair_fails fields field right alike crc after xor
fails_strange = refl

frames_strange : received_frames strange row ≡ replicate 840 0
unfolding all_frames frames_of apart numbers value fields field total
frames_strange = refl

put_strange : replaced (replicate 60 0) (replicate 840 0) ≡ replicate 840 0
unfolding replaced source
put_strange = refl

-- where no CRC fails no pair is bad, whatever the tables
judged_strange : (tables : Tables) → received_notes strange row tables ≡ replicate 60 0
judged_strange tables =
    let size = length_notes (received strange row) (pair_count row) tables in
    let right : (q : ℕ) → q < 60 → pair_fails (received strange row) q ≡ false =
    λ q h. sym (each_at (pair_fails (received strange row)) 60 q false h) ∙ ap (λ (l : List Bool). get_or l q false) fails_strange ∙ get_or-replicate 60 q false false h in
    zeros (received_notes strange row tables) (λ q h. no_failed_crc (received strange row) (pair_count row) tables right q (omega arith)) ∙ ap (λ (n : ℕ). replicate n 0) size

abbrev strange_heads : List Header
strange_heads =
    Some (H.decoded_as 0xEE0E0008 (message (settings 0 0) 1 0)) ∷ Some (H.decoded_as 0xEE0E0008 (message (settings 0 0) 1 0)) ∷ None
    ∷ Some (H.decoded_as 0xCB3B0021 (message (settings 1 0) 4 0)) ∷ Some (H.decoded_as 0x3F0F4001 (message (settings 1 0) 1 0)) ∷ []

heads_strange : readings strange row ≡ strange_heads
unfolding readings value fields field
heads_strange =
    let first = Some (H.decoded_as 0xEE0E0008 (message (settings 0 0) 1 0)) in
    ap₂ (λ (a b : Header). a ∷ a ∷ b ∷ H.reading 0xCB3B0021 ∷ H.reading 0x3F0F4001 ∷ []) read_1.0 read_lost
    ∙ ap₂ (λ (a b : Header). first ∷ first ∷ None ∷ a ∷ b ∷ []) read_4.0 read_5.0

settles_strange : (ch : Choices) → settling ch (readings strange row) ≡ Some settled
unfolding settling first_agreeing
settles_strange ch =
    ap (settling ch) heads_strange
    ∙ rw (eq-eqb (common_bits (message (settings 0 0) 1 0)) (common_bits (message (settings 0 0) 1 0)) refl) (ap Some (common_message (settings 0 0) 1 0))

says_strange : report_part strange row (replicate 60 0) settled ≡ strange_notes
unfolding report_part
says_strange =
    ap (λ (hs : List Header). joined (λ k. header_note settled k (get_or hs k None) ∷ part (first_pair k) multiframe_pairs (replicate 60 0)) 5) heads_strange
    ∙ rw (
      note_same 0xEE0E0008 1 0 0 read_1,
      note_same 0xEE0E0008 1 0 1 read_1,
      note_lost settled 2,
      note_other 0xCB3B0021 4 0 3 read_4,
      note_other 0x3F0F4001 1 2 4 read_5,
    )

strange_listed : (ch : Choices) (tables : Tables) → Right tables
    → Lists ch strange tables (0 ∷ 0 ∷ 5 ∷ 96 ∷ 0 ∷ 1 ∷ []) (replicate 840 0) strange_notes
unfolding last_nonzero zero_frame
strange_listed ch tables right index report hi hr =
    listed ch strange row cut_strange (λ e. omega arith) (settles_strange ch) tables right (replicate 60 0) (judged_strange tables) (λ e. omega arith) index report
    hi hr (replicate 840 0) strange_notes (ap (replaced (replicate 60 0)) frames_strange ∙ put_strange) says_strange refl refl

pub table : (ch : Choices) → Table ch
table ch = record { bad_pairs_lem = hurt_listed ch; bad_by_crc = plain_listed ch; header_notes = strange_listed ch }
