-- NO PAIR NAMED. "No pair named, headers perhaps mended: frames, then zeros, speech = n, end = 1. And: the last multiframe wholly unnamed gives
-- speech and end as sent." Headers may be lost too, if two are readable.
-- Its terms stand here; the theorems, in proofs/Heard.antt. Assumes nothing.
use Rattle.std.specs.Prelude.{◌≡◌, List, ℕ, ◌-◌, ◌≤◌, ◌<◌}
use Rattle.layout.specs.Layout.{first_pair}
use Rattle.choices.specs.declared.Choices.{Choices}
use Rattle.tables.specs.Tables.{Tables}
use Rattle.reader.specs.Reading.{reading}
use Rattle.writer.specs.Utterance.{Utterance, multiframes_of, pairs_of}
use Rattle.demands.specs.Whole.{pair_note_in}
use Rattle.demands.specs.NamesTheDamage as N

module _ (ch : Choices) (u : Utterance) (s : List ℕ) (tables : Tables) (index report : List ℕ) (p : N.Wider ch u s tables index report) where
  -- ---- "the last multiframe wholly unnamed"
  abbrev pub LastUnnamed : Type 0
  LastUnnamed = (q : ℕ) → first_pair (multiframes_of u - 1) ≤ q → q < pairs_of u → pair_note_in (reading ch s tables index report).report q ≡ 0
