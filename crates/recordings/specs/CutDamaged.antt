-- CUT OFF AND DAMAGED. The first k multiframes of a damaged image, fewer than all: if they are read, and the last pair that came has note 0, `end` is 0.
-- The note is needed: the frames of a damaged last pair are replaced, and can be zero.
-- Examples of both: proofs/Rests.antt. Assumes nothing.
use Rattle.std.specs.Prelude.{◌≡◌, false, ℕ, ◌-◌, ◌*◌, ◌/◌, ◌≤◌, ◌<◌, length, take, get_or, Ok}
use Rattle.std.proofs.Common.{sym, ◌∙◌, subst, arith}
use Rattle.std.proofs.Math.Path.{ap}
use Rattle.std.proofs.Math.Bool.{true}
use mathlib.Core.List.{List, []}
use Rattle.lists.specs.Tests.{true_false, not_false}
use Rattle.layout.specs.Layout.{data_bits, multiframe_pairs, multiframe_frames, multiframe_octets, report_octets}
use Rattle.choices.specs.Choices.{by_one_header}
use Rattle.choices.specs.declared.Choices.{Choices}
use Rattle.tables.specs.Tables.{Tables, zero_tables}
use Rattle.frames.specs.Frames.{zero_frame}
use Rattle.crc.specs.Crc.{right}
use Rattle.packet.specs.Packet.{packet_of}
use Rattle.cutting.specs.Cutting.{Cutting, cutting}
use Rattle.carrier.specs.Carrier.{received, pair_count}
use Rattle.notes.specs.Notes.{pair_fails}
use Rattle.notes.specs.Laws.{length_notes, length_all}
use Rattle.replacing.specs.Replacing.{replaced}
use Rattle.replacing.proofs.Laws.{good_kept}
use Rattle.replacing.specs.Speech.{end_of}
use Rattle.deciding.specs.Deciding.{received_notes}
use Rattle.reader.specs.Reading.{index_part, Outcome, reading, received_frames}
use Rattle.reader.specs.declared.Summary.{Summary}
use Rattle.image.specs.Made.{packet_in}
use Rattle.writer.specs.Utterance.{Utterance, multiframes_of, pairs_of, image_of}
use Rattle.damage.specs.Damage.{Damage, Fate, whole, hit, fate}
use Rattle.demands.specs.Whole.{row_of, pair_note_in}
use Rattle.demands.proofs.WholeLaws.{pair_note_is}
use Rattle.demands_met.specs.Met.{index_for, report_for}
use Rattle.demands.specs.WritesAgain as A
use Rattle.demands.proofs.WritesAgainLaws as AL
use Rattle.recordings.specs.First as F
use Rattle.recordings.specs.Hit.{hit_image}

-- ---- they are read, and the last pair that came, q, has note 0
module _ (ch : Choices) (u : Utterance) (s : List ℕ) (d : Damage (multiframes_of u) (image_of u) s) (k : ℕ) (less : k < multiframes_of u) (tables : Tables) (index report : List ℕ)
    (given : Summary) (e : (reading ch (take (multiframe_octets * k) s) tables index report).answer ≡ Ok given)
    (note : pair_note_in (reading ch (take (multiframe_octets * k) s) tables index report).report (multiframe_pairs * k - 1) ≡ 0) where
  within : k ≤ multiframes_of u
  within = omega arith

  abbrev came : List ℕ
  came = take (multiframe_octets * k) s

  w : A.WasRead ch came tables index report [] given
  w = AL.was_read ch came tables index report [] given e

  cut : (cutting came).places ≡ row_of k
  cut = ap (λ (x : Cutting). x.places) (F.cut_first u s d k within)

  rows : length (row_of k) ≡ k
  rows = F.rows u s d k within

  abbrev ns : List ℕ
  ns = received_notes came (row_of k) tables

  size : length ns ≡ pair_count (row_of k)
  size = length_notes (received came (row_of k)) (pair_count (row_of k)) tables

  some : 0 < k
  some = by k (λ z. w.reader_accepts.some (ap length cut ∙ rows ∙ z))
    where
      by : (n : ℕ) → (n ≡ 0 → ⊥) → 0 < n
      by n h = omega arith

  abbrev q : ℕ
  q = multiframe_pairs * k - 1

  in_first : q < multiframe_pairs * k
  in_first = omega (arith, some)

  in_image : q < pairs_of u
  in_image = omega (arith, some)

  last_note : get_or ns q 0 ≡ 0
  last_note =
      ap (λ (l : List ℕ). get_or (received_notes came l tables) q 0) (sym cut)
      ∙ sym (ap (λ (o : Outcome). pair_note_in o.report q) w.result_is
      ∙ pair_note_is came (cutting came).places (received_notes came (cutting came).places tables) report w.common (report_octets * length (cutting came).places)
      (length_notes (received came (cutting came).places) (pair_count (cutting came).places) tables) q (omega (arith, ap length cut, rows, in_first)))
      ∙ note

  -- so it is not damaged
  last_sent : packet_in s q ≡ packet_of u.indices q
  unfolding pair_fails
  last_sent = by (fate u s d q in_image)
    where
      passed : right data_bits (packet_in s q) ≡ true
      passed =
          ap (right data_bits) (sym (F.packet_first u s d k within q in_first))
          ∙ not_false (right data_bits (received came (row_of k) q)) (F.zero_passed came (row_of k) tables q (omega (arith, rows, in_first)) last_note)

      by : Fate u s d q in_image → packet_in s q ≡ packet_of u.indices q
      by (whole x r) = x
      by (hit x r) = absurd (true_false (sym passed ∙ r))

  speaks : zero_frame (index_part came (row_of k) ns) (multiframe_frames * k - 1) ≡ false
  speaks =
      let all = received_frames came (row_of k) in
      let some : 0 < k = some in
      let p : (multiframe_frames * k - 1) / 2 ≡ q = omega arith in
      F.frame_speaks u.indices (replaced ns all) (multiframe_frames * k - 1) (F.border_speaks u k some less)
      (good_kept ns (record { pair = q; within = omega (arith, size, rows); good = last_note }) all (multiframe_frames * k - 1) (omega (arith, size, length_all (received came (row_of k)) (pair_count (row_of k))))
      (omega (arith, size, rows)) (ap (λ (i : ℕ). get_or ns i 0) p ∙ last_note)
      ∙ F.frame_first u s d k within (multiframe_frames * k - 1) (omega arith) (subst (λ (i : ℕ). packet_in s i ≡ packet_of u.indices i) (sym p) last_sent))

  ends : given.end ≡ 0
  ends =
      ap (λ (g : Summary). g.end) w.given_is
      ∙ ap (λ (l : List ℕ). end_of (length l) (index_part came l (received_notes came l tables))) cut ∙ ap (λ (n : ℕ). end_of n (index_part came (row_of k) ns)) rows
      ∙ rw speaks

-- THE LAST PAIR'S NOTE DECIDES: if the first k multiframes are read, and the last of their pairs has note 0, end is 0
pub cut_off_told_damaged : (ch : Choices) (u : Utterance) (s : List ℕ) → Damage (multiframes_of u) (image_of u) s → (k : ℕ) → k < multiframes_of u
    → (tables : Tables) (index report : List ℕ) (given : Summary) → (reading ch (take (multiframe_octets * k) s) tables index report).answer ≡ Ok given
    → pair_note_in (reading ch (take (multiframe_octets * k) s) tables index report).report (multiframe_pairs * k - 1) ≡ 0 → given.end ≡ 0
cut_off_told_damaged ch u s d k less tables index report given e note = ends ch u s d k less tables index report given e note

-- ---- examples: pair p of the first multiframe is damaged, and that multiframe alone came; tables of zeros, and the caller asks for the old rule
abbrev pub rest : Utterance → ℕ → List ℕ
rest u p = take multiframe_octets (hit_image u p)

abbrev pub rest_read : Utterance → ℕ → Outcome
rest_read u p = reading by_one_header (rest u p) zero_tables (index_for 1) (report_for 1)

-- there are more, it is read, and the notes of pair p and of the last pair that came, and the end, are these
pub record Rest (u : Utterance) (p named last end : ℕ) : Type 0 where
  pub damage : Damage (multiframes_of u) (image_of u) (hit_image u p)
  pub cut_off : 1 < multiframes_of u
  pub given : Summary
  pub is_read : (rest_read u p).answer ≡ Ok given
  pub note_p : pair_note_in (rest_read u p).report p ≡ named
  pub note_last : pair_note_in (rest_read u p).report (multiframe_pairs - 1) ≡ last
  pub end_is : given.end ≡ end
