-- The report of a reading (01, "Reading"), of multiframes at places of the octets; ns are the notes of all pairs, c the settled common bits.
-- Assumes nothing.
use Prim.Native.Nat.{ℕ, suc, ◌*◌, ◌<◌}
use Rattle.std.specs.Prelude.{◌≡◌, List, ◌∷◌, length, get_or, None}
use Rattle.std.proofs.Math.Path.{ap}
use Rattle.std.proofs.Common.{arith}
use Rattle.lists.specs.Parts.{part, length_part}
use Rattle.lists.specs.Rows.{joined, length_joined, joined_part}
use Rattle.layout.specs.Layout.{multiframe_pairs, report_octets, first_pair}
use Rattle.header_readings.specs.Readings.{readings}
use Rattle.header_notes.specs.HeaderNotes.{header_note}
use Rattle.carrier.specs.Carrier.{pair_count}

-- the report's part: 13 octets a multiframe, a header note and then twelve pair notes
unfoldable pub report_part : List ℕ → List ℕ → List ℕ → ℕ → List ℕ
report_part octets places ns c =
    joined (λ k. header_note c k (get_or (readings octets places) k None) ∷ part (first_pair k) multiframe_pairs ns) (length places)

-- ---- its size, and where a multiframe's octets stand
module _ (octets places ns : List ℕ) where
  -- 13 octets for each multiframe
  pub length_report : (c : ℕ) → length ns ≡ pair_count places → length (report_part octets places ns c) ≡ report_octets * length places
  unfolding report_part
  length_report c e =
      length_joined (λ k. header_note c k (get_or (readings octets places) k None) ∷ part (first_pair k) multiframe_pairs ns)
      report_octets (length places) (λ k h. ap suc (length_part ns (first_pair k) multiframe_pairs (omega arith)))

  -- multiframe k's thirteen octets: its header note, and then its twelve pair notes
  pub report_at : (c k : ℕ) → length ns ≡ pair_count places → k < length places
      → part (report_octets * k) report_octets (report_part octets places ns c) ≡ header_note c k (get_or (readings octets places) k None) ∷ part (first_pair k) multiframe_pairs ns
  unfolding report_part
  report_at c k e h =
      joined_part (λ k. header_note c k (get_or (readings octets places) k None) ∷ part (first_pair k) multiframe_pairs ns)
      report_octets (length places) k (λ k h. ap suc (length_part ns (first_pair k) multiframe_pairs (omega arith))) h
