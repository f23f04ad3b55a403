-- WRITES AGAIN (demand 2) is so: octets that were read without a note are the image of the settings and frames read, so the writer gives them
-- again.
-- Assumes nothing.
use Rattle.std.proofs.Math.Path.{◌≡◌, refl, sym, ap}
use Rattle.std.proofs.Common.{ap₂, ◌∙◌, ext_get_or, get_or-take, get_or-drop}
use Rattle.std.proofs.Math.Bool.{Bool}
use Rattle.std.specs.Prelude.{true, false, ℕ, zero, suc, ◌+◌, ◌*◌, ◌/◌, ◌%◌, ◌≤◌, ◌<◌, length, take, drop, get_or, None, Ok, Err}
use mathlib.Core.List.{List}
use native.Mathlib.Omega.{arith}
use Rattle.std.proofs.lemmas.List.{take-append-le}
use Rattle.lists.specs.Tests.{not_false}
use Rattle.lists.specs.Parts.{over, length_part}
use Rattle.lists.specs.Rows.{each, length_each, each_at}
use Rattle.layout.specs.Layout.{widths, frame_indices, data_bits, packet_bits, multiframe_frames, multiframe_pairs, stream_octets, multiframe_octets, index_octets, report_octets, sync, sync_first, sync_second}
use Rattle.choices.specs.declared.Choices.{Choices}
use Rattle.tables.specs.Tables.{Tables}
use Rattle.bits.specs.Bits.{bits}
use Rattle.bits.proofs.Laws.{length_bits}
use Rattle.crc.specs.Crc.{Right, right}
use Rattle.crc.proofs.Laws.{right_true}
use Rattle.packet.specs.Packet.{apart, packet_of}
use Rattle.header_code.specs.Code.{codeword}
use Rattle.message.specs.Message.{message, settings_of}
use Rattle.header.specs.Reading as H
use Rattle.header.specs.Types.{Header}
use Rattle.cutting.specs.Cutting.{cutting}
use Rattle.cutting.proofs.Laws.{every_at, no_inverse, sound, place_stands}
use Rattle.header_readings.specs.Readings.{readings}
use Rattle.header_notes.specs.HeaderNotes.{header_note}
use Rattle.carrier.specs.Carrier.{received, pair_count}
use Rattle.notes.specs.Notes.{pair_fails, frames_of, pair_inconsistent, pair_notes}
use Rattle.notes.specs.Laws.{length_notes, length_all, frames_at}
use Rattle.bad_pairs.specs.BadPairs.{note_by, notes}
use Rattle.bad_pairs.specs.Laws.{bad_before, note_at, failed_is_1}
use Rattle.replacing.specs.Speech.{speech_of, end_of}
use Rattle.deciding.specs.Deciding.{received_notes}
use Rattle.reader.specs.Reading.{index_part, verdict, finished, Outcome, reading, received_frames}
use Rattle.reader.proofs.ReadingLaws.{accepted}
use Rattle.reader.specs.declared.Summary.{Summary}
use Rattle.refusals.specs.declared.Reading.{Reading as Refusal}
use Rattle.deciding.specs.Types.{Verdict}
use Rattle.reader.specs.Types.{Answer}
use Rattle.image.specs.Image.{image}
use Rattle.image.specs.Made.{sync_in, word_in, stream_in, packet_in}
use Rattle.wrong_frames.specs.WrongFrames.{frame_count}
use Rattle.writer.specs.Writing.{multiframes_for, writing}
use Rattle.writer.specs.Writing as W
use Rattle.writer.proofs.Utterance.{success}
use Rattle.demands.specs.Whole.{row_of, header_note_in, pair_note_in}
use Rattle.demands.proofs.WholeLaws.{readings_are, packet_at_lem, header_note_is, pair_note_is, nothing_replaced}
use Rattle.demands.specs.Noteless.{clean_header, is_image, spoken, multiframes_spoken, speech_lt, packet_spoken}
use Rattle.demands.specs.WritesAgain.{Premises, Again, WasRead}

module _ (ch : Choices) (s : List ℕ) (tables : Tables) (index report output : List ℕ) (given : Summary) where
  abbrev result : Outcome
  result = reading ch s tables index report

  abbrev again : W.Outcome
  again = writing given.settings (take (frame_indices * given.speech) result.index) output

  abbrev places : List ℕ
  places = (cutting s).places

  abbrev ns : List ℕ
  ns = received_notes s places tables

  -- the success answer of an answer
  answered : Summary → Answer → Summary
  answered d (Ok a) = a
  answered d (Err r) = d

  pub was_read : result.answer ≡ Ok given → WasRead ch s tables index report output given
  unfolding reading answered
  was_read e = by (verdict ch s tables (length index) (length report)) refl e
    where
      by : (v : Verdict) → verdict ch s tables (length index) (length report) ≡ v → (finished s tables index report places v).answer ≡ Ok given → WasRead ch s tables index report output given
      by (Err r) f e = absurd (refused r e)
        where
          refused : (r : Refusal) → Err r ≡ Ok given → ⊥
          refused r e = let z : ◌≡◌ {A = ℕ} 0 1 = cc in omega arith
      by (Ok c) f e =
          record {
            common = c;
            reader_accepts = accepted ch s tables (length index) (length report) c f;
            result_is = ap (finished s tables index report places) f;
            given_is = sym (ap (answered given) e);
          }

  module _ (p : Premises ch s tables index report output given) (w : WasRead ch s tables index report output given) where
    abbrev m : ℕ
    m = length places

    abbrev c : ℕ
    c = w.common

    abbrev all : List ℕ
    all = received_frames s places

    some : 0 < m
    some = by m w.reader_accepts.some
      where
        by : (k : ℕ) → (k ≡ 0 → ⊥) → 0 < k
        by k h = omega arith

    count : given.multiframes ≡ m
    count = ap (λ (g : Summary). g.multiframes) w.given_is

    size : length s ≡ multiframe_octets * m
    size = p.no_inverses ∙ ap (λ (k : ℕ). multiframe_octets * k) count

    row : places ≡ row_of m
    row = no_inverse s size

    place : (k : ℕ) → k < m → get_or places k 0 ≡ multiframe_octets * k
    place k h = ap (λ (l : List ℕ). get_or l k 0) row ∙ every_at 0 m k h ∙ omega arith

    -- its syncs
    syncs : (k : ℕ) → k < m → sync_in s k ≡ sync
    syncs k h =
        let l : length (sync_in s k) ≡ 2 = length_part s (multiframe_octets * k) 2 (omega (arith, size)) in
        ext_get_or 0 (sync_in s k) sync l (λ i j. at i (omega (arith, l)))
      where
        x : (0 + multiframe_octets * k ≤ get_or places k 0) × (get_or places k 0 + multiframe_octets ≤ length s) × (get_or s (get_or places k 0) 0 ≡ sync_first) × (get_or s (get_or places k 0 + 1) 0 ≡ sync_second)
        x = place_stands s 0 places (sound s).stand k h

        octet : (i : ℕ) → i < 2 → get_or (sync_in s k) i 0 ≡ get_or s (multiframe_octets * k + i) 0
        octet i b = get_or-take 2 (drop (multiframe_octets * k) s) i 0 b ∙ get_or-drop (multiframe_octets * k) s i 0

        at : (i : ℕ) → i < 2 → get_or (sync_in s k) i 0 ≡ get_or sync i 0
        at zero b =
            let z : multiframe_octets * k + 0 ≡ multiframe_octets * k = omega arith in
            octet 0 b ∙ ap (λ (j : ℕ). get_or s j 0) (z ∙ sym (place k h)) ∙ x.2
        at (suc zero) b = octet 1 b ∙ ap (λ (j : ℕ). get_or s (j + 1) 0) (sym (place k h)) ∙ x.3
        at (suc (suc i)) b = absurd (omega arith)

    notes_size : length ns ≡ pair_count places
    notes_size = length_notes (received s places) (pair_count places) tables

    -- its header words
    headers : (k : ℕ) → k < m → word_in s k ≡ codeword (message (settings_of c) (k + 1) 0)
    headers k h =
        let r : get_or (readings s places) k None ≡ H.reading (word_in s k) =
        ap (λ (l : List ℕ). get_or (readings s l) k None) row ∙ ap (λ (l : List Header). get_or l k None) (readings_are s m)
        ∙ each_at (λ k. H.reading (word_in s k)) m k None h in
        let z : header_note c k (get_or (readings s places) k None) ≡ 0 =
        sym (ap (λ (o : Outcome). header_note_in o.report k) w.result_is ∙ header_note_is s places ns report c (report_octets * m) notes_size k h)
        ∙ p.notes_0 (report_octets * k) (omega (arith, count)) in
        clean_header c k (word_in s k) w.reader_accepts.fitting.usable.exp (ap (header_note c k) (sym r) ∙ z)

    -- its pairs
    good : (q : ℕ) → q < length ns → get_or ns q 0 ≡ 0
    good q h =
        sym (ap (λ (o : Outcome). pair_note_in o.report q) w.result_is ∙ pair_note_is s places ns report c (report_octets * m) notes_size q (omega (arith, notes_size)))
        ∙ p.notes_0 (report_octets * (q / multiframe_pairs) + 1 + q % multiframe_pairs) (omega (arith, count, notes_size))

    pass : (q : ℕ) → q < multiframe_pairs * m → pair_fails (received s places) q ≡ false
    unfolding pair_notes
    pass q h = by (pair_fails (received s places) q) refl
      where
        fs : List Bool
        fs = each (pair_fails (received s places)) (pair_count places)

        os : List Bool
        os = each (pair_inconsistent (received s places) tables) (pair_count places)

        by : (t : Bool) → pair_fails (received s places) q ≡ t → pair_fails (received s places) q ≡ false
        by false e = e
        by true e =
            let lf : length fs ≡ pair_count places = length_each (pair_fails (received s places)) (pair_count places) in
            let b = bad_before false (notes fs os) q in
            let z : get_or (notes fs os) q 0 ≡ 1 =
            note_at false fs os q (omega (arith, lf))
            ∙ ap (λ (x : Bool). note_by b x (get_or os q false) (get_or fs (suc q) false)) (each_at (pair_fails (received s places)) (pair_count places) q false h ∙ e)
            ∙ failed_is_1 b (get_or os q false) (get_or fs (suc q) false) in
            let y : ◌≡◌ {A = ℕ} 0 1 = sym (good q (omega (arith, notes_size))) ∙ z in
            absurd (omega arith)

    got : (q : ℕ) → q < multiframe_pairs * m → received s places q ≡ packet_in s q
    got q h = ap (λ (l : List ℕ). received s l q) row ∙ packet_at_lem s m q h

    is_right : (q : ℕ) → q < multiframe_pairs * m → Right data_bits (packet_in s q)
    unfolding pair_fails
    is_right q h =
        (right_true data_bits (packet_in s q)).0
        (ap (right data_bits) (sym (got q h)) ∙ not_false (right data_bits (received s places q)) (pass q h))

    packet_size : (q : ℕ) → q < multiframe_pairs * m → length (packet_in s q) ≡ packet_bits
    packet_size q h =
        let l = stream_in s (q / multiframe_pairs) in
        let ll : length l ≡ stream_octets = length_part s (multiframe_octets * (q / multiframe_pairs) + 2 + 4) stream_octets (omega (arith, size)) in
        length_part (bits l) (packet_bits * (q % multiframe_pairs)) packet_bits (omega (arith, length_bits l))

    -- its frames
    index_is : index_part s places ns ≡ all
    index_is = nothing_replaced ns all good (length_all (received s places) (pair_count places) ∙ omega (arith, notes_size))

    all_size : length all ≡ frame_indices * (multiframe_frames * m)
    all_size = length_all (received s places) (pair_count places) ∙ omega arith

    ended : end_of m all ≡ 1
    ended = sym (ap (λ (g : Summary). g.end) w.given_is ∙ ap (end_of m) index_is) ∙ p.ended

    speech_is : given.speech ≡ speech_of m all
    speech_is = ap (λ (g : Summary). g.speech) w.given_is ∙ ap (speech_of m) index_is

    abbrev idx : List ℕ
    idx = spoken all m some all_size

    idx_is : take (frame_indices * given.speech) result.index ≡ idx
    idx_is =
        ap₂ (λ (k : ℕ) (o : Outcome). take (frame_indices * k) o.index) speech_is w.result_is
        ∙ ap (λ (l : List ℕ). take (frame_indices * speech_of m all) (over index 0 (index_octets * m) l)) index_is
        ∙ take-append-le (frame_indices * speech_of m all) all (drop (0 + index_octets * m) index) (omega (arith, all_size, speech_lt all m some all_size ended))

    packets : (q : ℕ) → q < multiframe_pairs * m → packet_of idx q ≡ packet_in s q
    unfolding frames_of
    packets q h =
        packet_spoken all m some all_size q (packet_in s q) h (packet_size q h) (is_right q h) (frames_at (received s places) (pair_count places) q h ∙ ap (apart widths) (got q h))

    octets_are : image (settings_of c) idx m ≡ s
    octets_are = is_image s m size p.small syncs (settings_of c) idx headers packets

    -- ---- written again
    again_is : again ≡ writing (settings_of c) idx output
    again_is =
        ap (λ (g : Summary). writing g.settings (take (frame_indices * given.speech) result.index) output) w.given_is
        ∙ ap (λ (l : List ℕ). writing (settings_of c) l output) idx_is

    proof : Again ch s tables index report output given p
    proof =
        let x = success (settings_of c) idx output p.octets (ap (λ (o : W.Outcome). o.answer) (sym again_is) ∙ p.accepts) in
        let k : multiframes_for (frame_count idx) ≡ m = multiframes_spoken all m some all_size ended in
        let n : p.octets ≡ length s = x.0 ∙ ap (λ (j : ℕ). multiframe_octets * j) k ∙ sym size in
        record {
          same_length = n;
          same_octets = ap (λ (o : W.Outcome). o.output) again_is ∙ x.1
              ∙ ap₂ (λ (j : ℕ) (l : List ℕ). over output 0 j l) n (ap (image (settings_of c) idx) k ∙ octets_are);
        }

pub writes_again : (ch : Choices) (s : List ℕ) (tables : Tables) (index report output : List ℕ) (given : Summary)
    (p : Premises ch s tables index report output given) → Again ch s tables index report output given p
writes_again ch s tables index report output given p =
    proof ch s tables index report output given p (was_read ch s tables index report output given p.succeeds)
