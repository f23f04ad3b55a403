-- DEMAND 3 AT THE ENTRIES, and what the yards are told: each clause of names-the-damage, never-misled, trusted, heard-whole and last-heard, said
-- in the numbers, octets and buffers that a caller of dsr_read has. A report's octets are counted by multiframe and pair, frames by octet.
-- Assumes nothing.
use Rattle.std.specs.Prelude.{◌≡◌, List, [], ◌∷◌, ◌↔◌, ℕ, ◌+◌, ◌*◌, ◌/◌, ◌%◌, ◌≤◌, ◌<◌, length, drop, get_or, Some}
use Rattle.lists.specs.Parts.{over}
use Rattle.layout.specs.Layout.{frame_indices, pair_frames, multiframe_pairs, multiframe_frames, index_octets, report_octets}
use Rattle.choices.specs.declared.Choices.{Choices}
use Rattle.tables.specs.Tables.{Tables}
use Rattle.wrong_frames.specs.WrongFrames.{frame_count}
use Rattle.writer.specs.Utterance.{Utterance, multiframes_of, pairs_of, image_of}
use Rattle.entries.specs.Entries.{answer_numbers, Returned, dsr_read}
use Rattle.damage.specs.Damage.{Touched, header_flips}
use Rattle.demands.specs.Received.{ByRule, BadPair, Count}

-- ---- where a caller finds what
-- the header note of multiframe k, the note of pair j of it, and the note of the pair that frame f is in
abbrev pub header_note_at : List ℕ → ℕ → ℕ
header_note_at report k = get_or report (report_octets * k) 0

abbrev pub pair_note_at : List ℕ → ℕ → ℕ → ℕ
pair_note_at report k j = get_or report (report_octets * k + 1 + j) 0

abbrev pub frame_note_at : List ℕ → ℕ → ℕ
frame_note_at report f = pair_note_at report (f / multiframe_frames) (f / pair_frames % multiframe_pairs)

-- ---- what a caller is told of a damaged image s of an utterance
pub record Tells (u : Utterance) (s : List ℕ) (tables : Tables) (number : ℕ) (answer index report : List ℕ) : Type 0 where
  pub success : number ≡ 0
  pub rate : get_or answer 0 0 ≡ u.settings.rate
  pub kind : get_or answer 1 0 ≡ u.settings.kind
  pub multiframes : get_or answer 2 0 ≡ multiframes_of u
  pub bad : Count (BadPair u s tables) (pairs_of u) (get_or answer 4 0)
  pub damaged : (k j : ℕ) → k < multiframes_of u → j < multiframe_pairs → (pair_note_at report k j ≡ 1) ↔ Touched (image_of u) s (multiframe_pairs * k + j)
  pub others : (k j : ℕ) → k < multiframes_of u → j < multiframe_pairs → (Touched (image_of u) s (multiframe_pairs * k + j) → ⊥)
      → (pair_note_at report k j ≡ 0 → ⊥) ↔ ByRule u s tables (multiframe_pairs * k + j)
  pub ruled : (k j : ℕ) → k < multiframes_of u → j < multiframe_pairs → (Touched (image_of u) s (multiframe_pairs * k + j) → ⊥)
      → ByRule u s tables (multiframe_pairs * k + j) → pair_note_at report k j ≡ 2
  pub flips : (k : ℕ) → k < multiframes_of u → header_note_at report k ≡ header_flips (image_of u) s k
  pub frames : (f i : ℕ) → f < frame_count u.indices → i < frame_indices → frame_note_at report f ≡ 0 → get_or index (frame_indices * f + i) 0 ≡ get_or u.indices (frame_indices * f + i) 0
  pub padding : (f i : ℕ) → frame_count u.indices ≤ f → f < multiframe_frames * multiframes_of u → i < frame_indices → frame_note_at report f ≡ 0 → get_or index (frame_indices * f + i) 0 ≡ 0

-- ---- dsr_read
module _ (ch : Choices) (s : List ℕ) (tables : Tables) (index report answer : List ℕ) (place : ℕ) where
  abbrev pub got : Returned
  got = dsr_read s (Some ch) tables index report answer place

  -- octets beyond both parts, numbers beyond the six and the place are as they came
  pub record Stays : Type 0 where
    pub index_beyond : drop (index_octets * get_or got.answer 2 0) got.index ≡ drop (index_octets * get_or got.answer 2 0) index
    pub report_beyond : drop (report_octets * get_or got.answer 2 0) got.report ≡ drop (report_octets * get_or got.answer 2 0) report
    pub answer_beyond : drop answer_numbers got.answer ≡ drop answer_numbers answer
    pub place_stays : got.place ≡ place

module _ (ch : Choices) (u : Utterance) (s : List ℕ) (tables : Tables) (index report answer : List ℕ) (place : ℕ) where
  abbrev c : Returned
  c = dsr_read s (Some ch) tables index report answer place

  -- what a caller hears of all of an utterance: its six numbers, every frame octet for octet and zeros after them
  pub record HearsAll : Type 0 where
    pub success : c.number ≡ 0
    pub numbers : c.answer ≡ over answer 0 answer_numbers (u.settings.rate ∷ u.settings.kind ∷ multiframes_of u ∷ frame_count u.indices ∷ 0 ∷ 1 ∷ [])
    pub frames : (i : ℕ) → i < length u.indices → get_or c.index i 0 ≡ get_or u.indices i 0
    pub padding : (i : ℕ) → length u.indices ≤ i → i < index_octets * multiframes_of u → get_or c.index i 0 ≡ 0
