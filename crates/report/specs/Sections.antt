-- How the code goes about a report, from headers as `read_headers` stores them and notes in arrays: what its contracts cite, and the law that
-- this is the report. Nothing that 01 says stands here.
-- Assumes nothing.
use Rattle.std.specs.Prelude.{ℕ, ◌*◌, ◌≤◌, ◌<◌, ◌≡◌, List, ◌∷◌, length, get_or, None}
use Rattle.std.proofs.Math.Path.{ap, sym}
use Rattle.std.proofs.Common.{subst, ◌∙◌, arith}
use Rattle.lists.specs.Parts.{part}
use Rattle.lists.specs.Rows.{joined, each_at, length_each, same_joined}
use Rattle.layout.specs.Layout.{multiframe_pairs, most_multiframes, report_octets, first_pair}
use Rattle.header.specs.Reading.{reading as readHeader}
use Rattle.header.specs.Types.{Header}
use Rattle.header_readings.specs.Readings.{readings}
use Rattle.header_notes.specs.HeaderNotes.{header_note}
use Rattle.header_readings.specs.Stored.{opened, pack_all, packed, Mended, mended, opened_packed}
use Rattle.carrier.specs.Carrier.{word_at, in_places}
use Rattle.report.specs.Report.{report_part}

-- at most 255 headers, twelve notes for each, and room for their report
abbrev pub Reportable : List ℕ → List ℕ → List ℕ → Type 0
Reportable headers ns report =
    (length headers ≤ most_multiframes) × (length ns ≡ multiframe_pairs * length headers) × (report_octets * length headers ≤ length report)

unfoldable pub section : List ℕ → List ℕ → ℕ → ℕ → List ℕ
section headers ns c k = header_note c k (opened (get_or headers k 0)) ∷ part (first_pair k) multiframe_pairs ns

abbrev pub sections : List ℕ → List ℕ → ℕ → ℕ → List ℕ
sections headers ns c n = joined (section headers ns c) n

-- ---- the headers that read_headers stored
module _ (octets places headers : List ℕ) (e : headers ≡ pack_all octets places (length places)) where
  pub stored_size : length headers ≡ length places
  stored_size = ap length e ∙ length_each (λ k. packed (readHeader (word_at octets (in_places places) k))) (length places)

  pub stored_at : (k : ℕ) → k < length places → opened (get_or headers k 0) ≡ readHeader (word_at octets (in_places places) k)
  stored_at k h =
      ap (λ (l : List ℕ). opened (get_or l k 0)) e ∙ ap opened (each_at (λ k. packed (readHeader (word_at octets (in_places places) k))) (length places) k 0 h)
      ∙ opened_packed (readHeader (word_at octets (in_places places) k)) (mended (word_at octets (in_places places) k))

  pub stored_mended : (k : ℕ) → k < length headers → Mended (opened (get_or headers k 0))
  stored_mended k h = subst Mended (sym (stored_at k (omega (arith, stored_size)))) (mended (word_at octets (in_places places) k))

  pub sections_are : (ns : List ℕ) (c : ℕ) → sections headers ns c (length headers) ≡ report_part octets places ns c
  unfolding section report_part readings
  sections_are ns c =
      ap (sections headers ns c) stored_size
      ∙ same_joined (section headers ns c) (λ k. header_note c k (get_or (readings octets places) k None) ∷ part (first_pair k) multiframe_pairs ns) (length places) (λ k h.
      ap (λ (x : Header). header_note c k x ∷ part (first_pair k) multiframe_pairs ns)
      (stored_at k h ∙ sym (each_at (λ k. readHeader (word_at octets (in_places places) k)) (length places) k None h)))
