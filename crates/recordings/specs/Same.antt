-- OCTETS THAT HOLD THE SAME MULTIFRAMES ARE READ THE SAME, wherever these stand in them.
-- Assumes nothing.
use Rattle.std.specs.Prelude.{◌≡◌, Bool, ℕ, ◌+◌, ◌*◌, ◌/◌, ◌≤◌, ◌<◌, length, take, drop, get_or, None, Ok, Err}
use Rattle.std.proofs.Math.Path.{refl, ap, ap₂}
use Rattle.std.proofs.Common.{sym, ◌∙◌, arith}
use Rattle.std.proofs.Math.Bool.{not}
use mathlib.Core.List.{List, ◌∷◌}
use borrow.Author.Tests.{ne_eqb}
use Rattle.lists.specs.Parts.{part, over}
use Rattle.lists.specs.Rows.{each, joined, same_each, same_joined}
use Rattle.layout.specs.Layout.{widths, frame_indices, data_bits, multiframe_pairs, stream_octets, multiframe_octets, index_octets, report_octets, first_pair}
use Rattle.choices.specs.declared.Choices.{Choices}
use Rattle.tables.specs.Tables.{Tables, admission, if_admitted}
use Rattle.bits.specs.Bits.{value, bits}
use Rattle.crc.specs.Crc.{right}
use Rattle.packet.specs.Packet.{apart}
use Rattle.consistency.specs.Consistency.{inconsistent}
use Rattle.cutting.specs.Cutting.{whole, cutting}
use Rattle.header.specs.Reading as H
use Rattle.message.specs.Message.{settings_of}
use Rattle.header.specs.Types.{Header}
use Rattle.header_readings.specs.Readings.{readings}
use Rattle.settling.specs.Settling.{settling}
use Rattle.header_notes.specs.HeaderNotes.{header_note}
use Rattle.carrier.specs.Carrier.{stream_packet, word_at, stream_at, in_places, received, pair_count}
use Rattle.notes.specs.Notes.{pair_fails, frames_of, all_frames, pair_inconsistent, pair_notes}
use Rattle.bad_pairs.specs.BadPairs.{notes, bad_pairs}
use Rattle.replacing.specs.Replacing.{replaced}
use Rattle.replacing.specs.Speech.{speech_of, end_of}
use Rattle.deciding.specs.Deciding.{settled_verdict, whole_verdict, received_notes}
use Rattle.report.specs.Report.{report_part}
use Rattle.reader.specs.Reading.{verdict, finished, Outcome, outcome, reading, received_frames}
use Rattle.deciding.specs.Types.{Verdict}
use Rattle.image.specs.Made.{part_within}

-- two lists of octets, each with the places of as many multiframes, the k-th of the one the same as the k-th of the other
module _ (ch : Choices) (o₁ p₁ o₂ p₂ : List ℕ) (count : length p₁ ≡ length p₂)
    (same : (k : ℕ) → k < length p₁ → part (get_or p₁ k 0) multiframe_octets o₁ ≡ part (get_or p₂ k 0) multiframe_octets o₂)
    (room₁ : (k : ℕ) → k < length p₁ → get_or p₁ k 0 + multiframe_octets ≤ length o₁) (room₂ : (k : ℕ) → k < length p₂ → get_or p₂ k 0 + multiframe_octets ≤ length o₂) where
  piece : (k a v : ℕ) → k < length p₁ → a + v ≤ multiframe_octets → part (get_or p₁ k 0 + a) v o₁ ≡ part (get_or p₂ k 0 + a) v o₂
  piece k a v h l =
      part_within o₁ (get_or p₁ k 0) multiframe_octets a v (room₁ k h) l ∙ ap (part a v) (same k h)
      ∙ sym (part_within o₂ (get_or p₂ k 0) multiframe_octets a v (room₂ k (omega arith)) l)

  headers_same : readings o₁ p₁ ≡ readings o₂ p₂
  unfolding readings
  headers_same =
      same_each (λ k. H.reading (word_at o₁ (in_places p₁) k)) (λ k. H.reading (word_at o₂ (in_places p₂) k)) (length p₁)
      (λ k h. ap (λ (l : List ℕ). H.reading (value (bits l))) (piece k 2 4 h (omega arith)))
      ∙ ap (each (λ k. H.reading (word_at o₂ (in_places p₂) k))) count

  stream_same : (k : ℕ) → k < length p₁ → stream_at o₁ (in_places p₁) k ≡ stream_at o₂ (in_places p₂) k
  stream_same k h =
      let a : get_or p₁ k 0 + 2 + 4 ≡ get_or p₁ k 0 + 6 = omega arith in
      let b : get_or p₂ k 0 + 6 ≡ get_or p₂ k 0 + 2 + 4 = omega arith in
      ap (λ (i : ℕ). part i stream_octets o₁) a ∙ piece k 6 stream_octets h (omega arith) ∙ ap (λ (i : ℕ). part i stream_octets o₂) b

  packet_same : (q : ℕ) → q < multiframe_pairs * length p₁ → received o₁ p₁ q ≡ received o₂ p₂ q
  packet_same q h = ap (λ (l : List ℕ). stream_packet (bits l) q) (stream_same (q / multiframe_pairs) (omega arith))

  pairs_count : pair_count p₁ ≡ pair_count p₂
  pairs_count = ap (λ (n : ℕ). multiframe_pairs * n) count

  frames_same : received_frames o₁ p₁ ≡ received_frames o₂ p₂
  unfolding all_frames frames_of
  frames_same =
      same_joined (frames_of (received o₁ p₁)) (frames_of (received o₂ p₂)) (pair_count p₁) (λ q h. ap (apart widths) (packet_same q h)) ∙ ap (joined (frames_of (received o₂ p₂))) pairs_count

  module _ (tables : Tables) where
    notes_same : received_notes o₁ p₁ tables ≡ received_notes o₂ p₂ tables
    unfolding pair_notes pair_fails pair_inconsistent frames_of
    notes_same =
        ap₂ notes
        (same_each (pair_fails (received o₁ p₁)) (pair_fails (received o₂ p₂)) (pair_count p₁) (λ q h. ap (λ (l : List Bool). not (right data_bits l)) (packet_same q h)) ∙ ap (each (pair_fails (received o₂ p₂))) pairs_count)
        (same_each (pair_inconsistent (received o₁ p₁) tables) (pair_inconsistent (received o₂ p₂) tables) (pair_count p₁)
        (λ q h. ap (λ (l : List Bool). inconsistent tables (take frame_indices (apart widths l)) (drop frame_indices (apart widths l))) (packet_same q h))
        ∙ ap (each (pair_inconsistent (received o₂ p₂) tables)) pairs_count)

    module _ (index report : List ℕ) where
      -- what success gives depends on the headers, the frames, the notes and the count alone
      given : ℕ → List Header → List ℕ → List ℕ → ℕ → Outcome
      given m hs fs ns c = outcome
          (Ok (record {
            settings = settings_of c;
            multiframes = m;
            speech = speech_of m (replaced ns fs);
            bad = bad_pairs ns;
            end = end_of m (replaced ns fs);
          }))
          (over index 0 (index_octets * m) (replaced ns fs))
          (over report 0 (report_octets * m) (joined (λ k. header_note c k (get_or hs k None) ∷ part (first_pair k) multiframe_pairs ns) m))

      finished_same : (v : Verdict) → finished o₁ tables index report p₁ v ≡ finished o₂ tables index report p₂ v
      unfolding report_part given
      finished_same (Err r) = refl
      finished_same (Ok c) =
          ap₂ (λ (m : ℕ) (hs : List Header). given m hs (received_frames o₁ p₁) (received_notes o₁ p₁ tables) c) count headers_same
          ∙ ap₂ (λ (fs ns : List ℕ). given (length p₂) (readings o₂ p₂) fs ns c) frames_same notes_same

      verdict_same : 0 < length p₁ → whole_verdict ch o₁ tables (length index) (length report) p₁ ≡ whole_verdict ch o₂ tables (length index) (length report) p₂
      unfolding whole_verdict
      verdict_same h =
          rw (ne_eqb (length p₁) 0 (λ e. omega arith), ne_eqb (length p₂) 0 (λ e. omega arith))
          (ap₂ (λ (m : ℕ) (ns : List ℕ). settled_verdict m (bad_pairs ns) (multiframe_pairs * m) (length index) (length report) (settling ch (readings o₁ p₁))) count notes_same
          ∙ ap (λ (hs : List Header). settled_verdict (length p₂) (bad_pairs (received_notes o₂ p₂ tables)) (pair_count p₂) (length index) (length report) (settling ch hs))
          headers_same)

      -- the verdict, if the tables are right
      abbrev tabled : Verdict → Verdict
      tabled v = if_admitted (admission tables) Err v

      -- if these are what cutting finds, and there is one, the whole outcome is the same
      pub same_read : cutting o₁ ≡ record { places = p₁; ending = whole } → cutting o₂ ≡ record { places = p₂; ending = whole } → 0 < length p₁
          → reading ch o₁ tables index report ≡ reading ch o₂ tables index report
      unfolding reading verdict
      same_read c₁ c₂ h =
          rw (c₁, c₂)
          (finished_same (tabled (whole_verdict ch o₁ tables (length index) (length report) p₁))
          ∙ ap (λ (v : Verdict). finished o₂ tables index report p₂ (tabled v)) (verdict_same h))
