-- CUT OFF AND DAMAGED, examples: the premises of specs/CutDamaged.antt are met, and the note is needed, since a damaged last pair can hide a cut.
-- Assumes nothing.
use Rattle.std.specs.Prelude.{◌≡◌, refl, Bool, false, ℕ, ◌-◌, ◌*◌, ◌≤◌, ◌<◌, length, take, drop, get_or, Ok}
use Rattle.std.proofs.Common.{sym, ◌∙◌, inr, inl, arith}
use Rattle.std.proofs.Math.Path.{ap}
use Rattle.std.proofs.Math.Bool.{true, not}
use mathlib.Core.List.{List}
use Rattle.lists.specs.Tests.{when}
use Rattle.lists.specs.Parts.{part, over}
use Rattle.layout.specs.Layout.{data_bits, multiframe_pairs, index_octets, report_octets, frame_indices}
use Rattle.choices.specs.Choices.{by_one_header}
use Rattle.tables.specs.Tables.{zero_tables}
use Rattle.frames.specs.Frames.{zero_frame, all_zero}
use Rattle.crc.specs.Crc.{right}
use Rattle.packet.specs.Packet.{packet_of}
use Rattle.packet.proofs.Laws.{packet_of_good}
use Rattle.carrier.specs.Carrier.{received, pair_count}
use Rattle.notes.specs.Notes.{pair_fails, frames_of, pair_inconsistent}
use Rattle.notes.specs.Laws.{length_notes, length_all}
use Rattle.bad_pairs.specs.Laws.{Good}
use Rattle.replacing.specs.Laws.{Run}
use Rattle.replacing.proofs.Laws.{at_the_end, frame_replaced}
use Rattle.deciding.specs.Deciding.{received_notes}
use Rattle.report.specs.Report.{report_part}
use Rattle.reader.specs.Reading.{index_part, summary, Outcome, outcome, received_frames}
use Rattle.reader.specs.declared.Summary.{Summary}
use Rattle.image.specs.Made.{packet_in}
use Rattle.writer.specs.Utterance.{Utterance, multiframes_of, pairs_of}
use Rattle.damage.specs.Damage.{Fate, whole, hit, fate, not_touched}
use Rattle.demands.specs.Whole.{row_of, pair_note_in}
use Rattle.demands.proofs.WholeLaws.{pair_note_is}
use Rattle.demands.specs.Headers.{sent_common}
use Rattle.demands_met.specs.Met.{index_for, report_for}
use Rattle.demands_met.proofs.MetLaws.{lent_zeros, zero_consistent}
use Rattle.recordings.specs.First as F
use Rattle.recordings.specs.Said.{ones24, gap24, zero_22}
use Rattle.recordings.specs.Hit.{hit_image, hits, is_hit, not_hit, clean_header}
use Rattle.recordings.specs.CutDamaged.{cut_off_told_damaged, rest, rest_read, Rest}

abbrev rest_notes : Utterance → ℕ → List ℕ
rest_notes u p = received_notes (rest u p) (row_of 1) zero_tables

abbrev rest_given : Utterance → ℕ → Summary
rest_given u p = summary (rest u p) (row_of 1) (rest_notes u p) (sent_common u)

module _ (u : Utterance) (two : 2 ≤ multiframes_of u) (p : ℕ) (inside : p < multiframe_pairs) where
  abbrev s : List ℕ
  s = hit_image u p

  in_all : (q : ℕ) → q < multiframe_pairs → q < pairs_of u
  in_all q h = omega arith

  got : (q : ℕ) → q < multiframe_pairs → received (rest u p) (row_of 1) q ≡ packet_in s q
  got q h = F.packet_first u s (hits u p) 1 (omega arith) q (omega arith)

  hit_fails : pair_fails (received (rest u p) (row_of 1)) p ≡ true
  unfolding pair_fails
  hit_fails = ap (λ (x : List Bool). not (right data_bits x)) (got p inside) ∙ by (fate u s (hits u p) p (in_all p inside))
    where
      by : Fate u (hit_image u p) (hits u p) p (in_all p inside) → not (right data_bits (packet_in (hit_image u p) p)) ≡ true
      by (whole e r) = absurd (not_touched u s (hits u p) p (in_all p inside) e (is_hit u p (in_all p inside)))
      by (hit t r) = ap not r

  else_sent : (q : ℕ) → q < multiframe_pairs → (q ≡ p → ⊥) → packet_in s q ≡ packet_of u.indices q
  else_sent q h n = by (fate u s (hits u p) q (in_all q h))
    where
      by : Fate u (hit_image u p) (hits u p) q (in_all q h) → packet_in (hit_image u p) q ≡ packet_of u.indices q
      by (whole e r) = e
      by (hit t r) = absurd (not_hit u p q (in_all q h) n t)

  else_passes : (q : ℕ) → q < multiframe_pairs → (q ≡ p → ⊥) → pair_fails (received (rest u p) (row_of 1)) q ≡ false
  unfolding pair_fails
  else_passes q h n = ap (λ (x : List Bool). not (right data_bits x)) (got q h ∙ else_sent q h n) ∙ ap not (packet_of_good u.indices q)

  -- its note is 1, and the others have 0
  hit_one : get_or (rest_notes u p) p 0 ≡ 1
  hit_one = F.failed_note (rest u p) (row_of 1) zero_tables p (omega arith) hit_fails

  else_zero : (q : ℕ) → q < multiframe_pairs → (q ≡ p → ⊥) → get_or (rest_notes u p) q 0 ≡ 0
  unfolding pair_inconsistent
  else_zero q h n =
      F.consistent_note (rest u p) (row_of 1) zero_tables q (omega arith) (else_passes q h n)
      (zero_consistent (take frame_indices (frames_of (received (rest u p) (row_of 1)) q)) (drop frame_indices (frames_of (received (rest u p) (row_of 1)) q)))

  notes_12 : length (rest_notes u p) ≡ multiframe_pairs
  notes_12 = length_notes (received (rest u p) (row_of 1)) (pair_count (row_of 1)) zero_tables

  -- with a good pair besides it is read
  module _ (g : ℕ) (other : g < multiframe_pairs) (differs : g ≡ p → ⊥) where
    one_good : Good (rest_notes u p)
    one_good = record { pair = g; within = omega (arith, notes_12); good = else_zero g other differs }

    outcome_is : rest_read u p
        ≡ outcome (Ok (rest_given u p)) (over (index_for 1) 0 (index_octets * length (row_of 1)) (index_part (rest u p) (row_of 1) (rest_notes u p)))
        (over (report_for 1) 0 (report_octets * length (row_of 1)) (report_part (rest u p) (row_of 1) (rest_notes u p) (sent_common u)))
    outcome_is =
        F.read_first u s (hits u p) 1 (omega arith) zero_tables by_one_header (index_for 1) (report_for 1) (omega arith) (inr (refl, clean_header u p 0 (omega arith))) one_good (lent_zeros 1)

    noted : (q : ℕ) → q < multiframe_pairs → pair_note_in (rest_read u p).report q ≡ get_or (rest_notes u p) q 0
    noted q h =
        ap (λ (o : Outcome). pair_note_in o.report q) outcome_is
        ∙ pair_note_is (rest u p) (row_of 1) (rest_notes u p) (report_for 1) (sent_common u) (report_octets * length (row_of 1)) notes_12 q (omega arith)

    make_rest : (last end : ℕ) → get_or (rest_notes u p) (multiframe_pairs - 1) 0 ≡ last → (rest_given u p).end ≡ end → Rest u p 1 last end
    make_rest last end l e = record {
      damage = hits u p;
      cut_off = two;
      given = rest_given u p;
      is_read = ap (λ (o : Outcome). o.answer) outcome_is;
      note_p = noted p inside ∙ hit_one;
      note_last = noted (multiframe_pairs - 1) (omega arith) ∙ l;
      end_is = e;
    }

-- THE PREMISES ARE MET: of 24 frames of ones the fourth pair is damaged. The last pair has note 0, and end is 0
pub told : Rest ones24 3 1 0 0
told =
    let two : 2 ≤ multiframes_of ones24 = omega arith in
    let in12 : 3 < multiframe_pairs = omega arith in
    let other : 0 < multiframe_pairs = omega arith in
    let apart : ◌≡◌ {A = ℕ} 0 3 → ⊥ = λ e. omega arith in
    let z : get_or (rest_notes ones24 3) 11 0 ≡ 0 = else_zero ones24 two 3 in12 11 (omega arith) (λ e. omega arith) in
    make_rest ones24 two 3 in12 0 other apart 0 0 z
    (cut_off_told_damaged by_one_header ones24 (hit_image ones24 3) (hits ones24 3) 1 (omega arith) zero_tables (index_for 1) (report_for 1) (rest_given ones24 3)
    (ap (λ (o : Outcome). o.answer) (outcome_is ones24 two 3 in12 0 other apart)) (noted ones24 two 3 in12 0 other apart 11 (omega arith) ∙ z))

-- THE NOTE IS NEEDED: of 24 frames of ones, but frame 22 of zeros, the twelfth pair is damaged, which is the last that came. Frames 23 and 24 are replaced by
-- frame 22, and end is 1, though the second multiframe never came. The pair's note tells
gap_last : zero_frame (index_part (rest gap24 11) (row_of 1) (rest_notes gap24 11)) 23 ≡ true
unfolding zero_frame
gap_last =
    let two : 2 ≤ multiframes_of gap24 = omega arith in
    let in12 : 11 < multiframe_pairs = omega arith in
    let ns = rest_notes gap24 11 in
    let all = received_frames (rest gap24 11) (row_of 1) in
    let size : length ns ≡ 12 = notes_12 gap24 two 11 in12 in
    let zero : (q : ℕ) → q < 11 → get_or ns q 0 ≡ 0 = λ q h. else_zero gap24 two 11 in12 q (omega arith) (λ e. omega arith) in
    let run : Run ns 11 12 =
    record {
      some = omega arith;
      within = omega arith;
      bad = λ q h l z. let e : q ≡ 11 = omega arith in let y : ◌≡◌ {A = ℕ} 0 1 = sym z ∙ ap (λ (i : ℕ). get_or ns i 0) e ∙ hit_one gap24 two 11 in12 in omega arith;
      start = inr (zero 10 (omega arith));
      stop = inl (sym size);
    } in
    ap all_zero
    (frame_replaced ns (one_good gap24 two 11 in12 0 (omega arith) (λ e. omega arith)) all 23 (omega (arith, length_all (received (rest gap24 11) (row_of 1)) (pair_count (row_of 1)))) (omega arith)
    ∙ ap (λ (i : ℕ). part (frame_indices * i) frame_indices all) (at_the_end ns 11 12 run 23 (omega arith) (sym size) (omega arith) (omega arith))
    ∙ F.frame_first gap24 (hit_image gap24 11) (hits gap24 11) 1 (omega arith) 21 (omega arith) (else_sent gap24 two 11 in12 10 (omega arith) (λ e. omega arith)) ∙ zero_22)

pub hidden : Rest gap24 11 1 1 1
hidden =
    let two : 2 ≤ multiframes_of gap24 = omega arith in
    let in12 : 11 < multiframe_pairs = omega arith in
    make_rest gap24 two 11 in12 0 (omega arith) (λ e. omega arith) 1 1 (hit_one gap24 two 11 in12) (ap (λ (t : Bool). when t 1 0) gap_last)
