-- What a reader of 01 would ask of the pairs' notes and frames.
-- Assumes nothing.
use Rattle.std.specs.Prelude.{ℕ, ◌+◌, ◌*◌, ◌<◌, ◌≡◌, List, ◌++◌, Bool, length, get_or, drop}
use Rattle.std.proofs.Common.{ap, ◌∙◌, append-nil, length-append, arith}
use Rattle.std.proofs.Math.Bool.{false}
use Rattle.std.proofs.Math.ListN.{get_or-eq_default}
use Rattle.std.proofs.Math.Seq.{drop-length}
use Rattle.std.proofs.Math.Decide.{dec_lt}
use Rattle.lists.specs.Parts.{part, over}
use Rattle.lists.specs.Rows.{each, length_each, each_at, length_joined, joined_part}
use Rattle.layout.specs.Layout.{widths, pair_indices}
use Rattle.tables.specs.Tables.{Tables}
use Rattle.bits.specs.Bits.{total}
use Rattle.bits.proofs.Laws.{length_numbers}
use Rattle.packet.specs.Packet.{apart}
use Rattle.bad_pairs.specs.Laws.{notes_length, no_failed_no_bad}
use Rattle.notes.specs.Notes.{pair_fails, frames_of, all_frames, pair_inconsistent, pair_notes}

-- ---- sizes
pub length_frames : (packets : ℕ → List Bool) (q : ℕ) → length (frames_of packets q) ≡ pair_indices
unfolding frames_of apart
length_frames packets q =
    let p = packets q in
    rw (length-append, length_numbers widths p, length_numbers widths (drop (total widths) p))

module _ (packets : ℕ → List Bool) (n : ℕ) where
  -- fourteen octets for each pair
  pub length_all : length (all_frames packets n) ≡ pair_indices * n
  unfolding all_frames
  length_all = length_joined (frames_of packets) pair_indices n (λ k h. length_frames packets k)

  -- pair q's frames stand at their place
  pub frames_at : (q : ℕ) → q < n → part (pair_indices * q) pair_indices (all_frames packets n) ≡ frames_of packets q
  unfolding all_frames
  frames_at q h = joined_part (frames_of packets) pair_indices n q (λ k i. length_frames packets k) h

  module _ (tables : Tables) where
    -- a note for each pair
    pub length_notes : length (pair_notes packets n tables) ≡ n
    unfolding pair_notes
    length_notes =
        notes_length false (each (pair_fails packets) n) (each (pair_inconsistent packets tables) n) ∙ length_each (pair_fails packets) n

    -- where no CRC failed no pair is bad
    pub no_failed_crc : ((q : ℕ) → q < n → pair_fails packets q ≡ false)
        → (q : ℕ) → q < n → get_or (pair_notes packets n tables) q 0 ≡ 0
    unfolding pair_notes
    no_failed_crc ok q h =
        let fs = each (pair_fails packets) n in
        let size = length_each (pair_fails packets) n in
        no_failed_no_bad fs (each (pair_inconsistent packets tables) n) (λ k. elim (dec_lt k n) [
          | yes y ↦ each_at (pair_fails packets) n k false y ∙ ok k y
          | no y ↦ get_or-eq_default fs false (omega (arith, size))
        ]) q (omega (arith, size))

-- ---- a pair taken apart
pub over_all : {A : Type 0} (l f : List A) (n : ℕ) → length l ≡ n → over l 0 n f ≡ f
over_all {A} l f n e =
    let z : 0 + n ≡ length l = omega arith in
    ap (λ (x : List A). f ++ x) (ap (λ (k : ℕ). drop k l) z ∙ drop-length l) ∙ append-nil f
