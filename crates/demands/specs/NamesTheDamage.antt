-- NAMES THE DAMAGE (demand 3). "For every accepted utterance and every such damage, with two multiframes or more, or (where the caller asks for
-- the old rule, 02, C-20) an only header that is untouched, and one pair not bad, with 01's tables and room: the reader succeeds, gives the settings sent and m; the note of every damaged pair
-- is 1; a pair that is not damaged has a note other than 0 exactly if 01's consistency rule makes it bad; each header note is the number of bits
-- flipped there; and each frame of the pairs with note 0 stands at its place in the index buffer as it was written, zeros where it was padding."
-- More is true, and is said here: note 1 is of the damaged pairs alone, an undamaged pair that the rule makes bad has note 2, and `bad` is the
-- number of both; and all of it holds where headers have up to three flips, if two of them have at most two (`Wider`).
-- Assumes nothing.
use Rattle.std.specs.Prelude.{◌≡◌, List, ◌↔◌, ℕ, ◌*◌, ◌≤◌, ◌<◌, replicate, Ok}
use Rattle.lists.specs.Parts.{part}
use Rattle.layout.specs.Layout.{frame_indices, multiframe_frames, pair_of}
use Rattle.choices.specs.declared.Choices.{Choices}
use Rattle.tables.specs.Tables.{Tables}
use Rattle.reader.specs.Reading.{Outcome, reading}
use Rattle.reader.specs.declared.Summary.{Summary}
use Rattle.wrong_frames.specs.WrongFrames.{frame_count}
use Rattle.writer.specs.Utterance.{Utterance, multiframes_of, pairs_of, image_of}
use Rattle.damage.specs.Damage.{DamageUpTo, Damage, Touched, header_flips}
use Rattle.demands.specs.Whole.{Lent, header_note_in, pair_note_in}
use Rattle.demands.specs.Headers.{Settling, CanSettle}
use Rattle.demands.specs.Received.{BadPair, ByRule, Count}

-- what a success answer and both buffers have to say of a damaged image s
pub record Names (u : Utterance) (s : List ℕ) (tables : Tables) (given : Summary) (index report : List ℕ) : Type 0 where
  -- "gives the settings sent and m"
  pub settings : given.settings ≡ u.settings
  pub multiframes : given.multiframes ≡ multiframes_of u
  -- "the note of every damaged pair is 1", and of no other
  pub damaged : (q : ℕ) → q < pairs_of u → (pair_note_in report q ≡ 1) ↔ Touched (image_of u) s q
  -- "a pair that is not damaged has a note other than 0 exactly if 01's consistency rule makes it bad"
  pub others : (q : ℕ) → q < pairs_of u → (Touched (image_of u) s q → ⊥) → (pair_note_in report q ≡ 0 → ⊥) ↔ ByRule u s tables q
  -- and that note is 2
  pub ruled : (q : ℕ) → q < pairs_of u → (Touched (image_of u) s q → ⊥) → ByRule u s tables q → pair_note_in report q ≡ 2
  -- `bad` is the number of these pairs
  pub counted : Count (BadPair u s tables) (pairs_of u) given.bad
  -- "each header note is the number of bits flipped there"
  pub flips : (k : ℕ) → k < multiframes_of u → header_note_in report k ≡ header_flips (image_of u) s k
  -- "and each frame of the pairs with note 0 stands at its place in the index buffer as it was written"
  pub frames : (k : ℕ) → k < frame_count u.indices → pair_note_in report (pair_of k) ≡ 0
      → part (frame_indices * k) frame_indices index ≡ part (frame_indices * k) frame_indices u.indices
  -- "zeros where it was padding"
  pub padding : (k : ℕ) → frame_count u.indices ≤ k → k < multiframe_frames * multiframes_of u → pair_note_in report (pair_of k) ≡ 0
      → part (frame_indices * k) frame_indices index ≡ replicate frame_indices 0

module _ (ch : Choices) (u : Utterance) (s : List ℕ) (tables : Tables) (index report : List ℕ) where
  pub record Premises : Type 0 where
    -- "every such damage"
    pub damage : Damage (multiframes_of u) (image_of u) s
    -- "with two multiframes or more, or an only header that is untouched" where the caller asks for the old rule (02, C-20)
    pub headers : CanSettle ch (multiframes_of u) (header_flips (image_of u) s 0)
    -- "and one pair not bad"
    pub pair : ℕ
    pub within : pair < pairs_of u
    pub not_bad : BadPair u s tables pair → ⊥  -- neither damaged nor bad by 01's rule
    -- "with 01's tables and room"
    pub lent : Lent (multiframes_of u) tables index report

  -- the same with up to three flips in a header: two headers have at most two, or an only header is untouched and the caller asks for it
  pub record Wider : Type 0 where
    pub damage : DamageUpTo 3 (multiframes_of u) (image_of u) s
    pub headers : Settling ch u s
    pub pair : ℕ
    pub within : pair < pairs_of u
    pub not_bad : BadPair u s tables pair → ⊥
    pub lent : Lent (multiframes_of u) tables index report

  abbrev pub result : Outcome
  result = reading ch s tables index report

  pub record Named : Type 0 where
    -- "the reader succeeds"
    pub given : Summary
    pub succeeds : result.answer ≡ Ok given
    pub names : Names u s tables given result.index result.report
