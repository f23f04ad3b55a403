-- READS BACK (demand 2). "For every accepted utterance, with 01's tables (any codebook of 1,280 and any 14 thresholds) and room": if it has two
-- multiframes or more, or the caller asks for the old rule (02, C-20), "reading the written image succeeds with the same settings, m, speech equal to n, no bad pair, end 1, all notes 0, and the index buffer holds the frames as
-- written and zeros after them." Octets beyond both parts stay. The same holds where only headers were damaged and still settle the
-- settings, but for their notes.
-- Assumes nothing.
use Rattle.std.specs.Prelude.{◌≡◌, List, ◌∷◌, ◌++◌, take, Ok}
use Prim.Native.Nat.{ℕ, ◌-◌, ◌*◌, ◌≤◌}
use Rattle.std.proofs.Math.ListN.{length, replicate}
use Rattle.lists.specs.Parts.{over}
use Rattle.lists.specs.Rows.{joined}
use Rattle.layout.specs.Layout.{multiframe_pairs, index_octets, report_octets}
use Rattle.choices.specs.declared.Choices.{Choices}
use Rattle.tables.specs.Tables.{Tables}
use Rattle.settling.specs.Laws.{Enough}
use Rattle.reader.specs.Reading.{Outcome, reading}
use Rattle.reader.specs.declared.Summary.{Summary}
use Rattle.wrong_frames.specs.WrongFrames.{frame_count}
use Rattle.writer.specs.Writing.{needed, writing}
use Rattle.writer.specs.Writing as W
use Rattle.writer.specs.Utterance.{Utterance, multiframes_of, image_of}
use Rattle.damage.specs.Damage.{header_flips}
use Rattle.demands.specs.Whole.{Lent}

-- the success answer: the same settings, m, speech equal to n, no bad pair, end 1
abbrev pub spoken : Utterance → Summary
spoken u = record { settings = u.settings; multiframes = multiframes_of u; speech = frame_count u.indices; bad = 0; end = 1 }

-- the frames as written and zeros after them
abbrev pub padded : Utterance → List ℕ
padded u = u.indices ++ replicate (index_octets * multiframes_of u - length u.indices) 0

-- the report where only headers were mended: each header's flips, and no pair named
abbrev pub mended_report : Utterance → List ℕ → List ℕ
mended_report u s = joined (λ k. header_flips (image_of u) s k ∷ replicate multiframe_pairs 0) (multiframes_of u)

-- ---- the theorem, over what the writer leaves in an output
module _ (ch : Choices) (u : Utterance) (tables : Tables) (output index report : List ℕ) where
  pub record Premises : Type 0 where
    -- "Under the new default demand 2's reading back [..] need[s] two multiframes or more" (02, C-20)
    pub headers : Enough ch (multiframes_of u)
    -- "with 01's tables and room"
    pub output_room : needed u.indices ≤ length output
    pub lent : Lent (multiframes_of u) tables index report

  abbrev pub written : W.Outcome
  written = writing u.settings u.indices output

  -- "reading the written image"
  abbrev pub result : Outcome
  result = reading ch (take (needed u.indices) written.output) tables index report

  pub record Back : Type 0 where
    pub accepted : written.answer ≡ Ok (needed u.indices)
    -- "succeeds with the same settings, m, speech equal to n, no bad pair, end 1"
    pub succeeds : result.answer ≡ Ok (spoken u)
    -- "all notes 0"
    pub notes : result.report ≡ over report 0 (report_octets * multiframes_of u) (replicate (report_octets * multiframes_of u) 0)
    -- "and the index buffer holds the frames as written and zeros after them"
    pub frames : result.index ≡ over index 0 (index_octets * multiframes_of u) (padded u)
