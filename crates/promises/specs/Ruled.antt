-- PAIRS THAT THE CONSISTENCY RULE MAKES BAD (01, "Bad pairs"), where one pair is damaged: the inconsistent pair before it, and the inconsistent pairs behind
-- it, one after the other, up to the first consistent one. The premises of `names_the_damage` are met with such pairs, of one multiframe (by the old rule, 02, C-20) and of two, and a
-- pair that is only undamaged is not enough for them. The tables are not zero, and no threshold is negative.
-- What is claimed stands here, and is proved in proofs/Ruled.antt. Assumes nothing.
use Rattle.std.specs.Prelude.{◌≡◌, List, Ok}
use Prim.Native.Nat.{ℕ, suc, ◌+◌, ◌-◌, ◌≤◌, ◌<◌}
use Rattle.choices.specs.Choices.{by_one_header}
use Rattle.choices.specs.declared.Choices.{Choices}
use Rattle.tables.specs.Tables.{Tables}
use Rattle.reader.specs.Reading.{reading}
use Rattle.reader.specs.declared.Summary.{Summary}
use Rattle.writer.specs.Utterance.{Utterance, pairs_of, image_of}
use Rattle.damage.specs.Damage.{Touched}
use Rattle.demands.specs.Whole.{pair_note_in}
use Rattle.demands.specs.Received.{ByRule, BadPair}
use Rattle.demands_met.specs.Met.{index_for, report_for}
use Rattle.demands.specs.NamesTheDamage as N
use Rattle.recordings.specs.Hit.{hit_image}
use Rattle.recordings.specs.Said.{rises7, stairs}

-- ---- THE CHAIN, READ: every pair is inconsistent, and pair p alone is damaged
pub record Chain (ch : Choices) (u : Utterance) (p : ℕ) (tables : Tables) (index report : List ℕ) : Type 0 where
  pub alone : (q : ℕ) → q < pairs_of u → (q ≡ p → ⊥) → Touched (image_of u) (hit_image u p) q → ⊥
  pub premises : N.Premises ch u (hit_image u p) tables index report
  pub given : Summary
  pub is_read : (reading ch (hit_image u p) tables index report).answer ≡ Ok given
  -- the note of the damaged pair is 1
  pub hit : pair_note_in (reading ch (hit_image u p) tables index report).report p ≡ 1
  -- that of the pair before it and of each pair behind it is 2: they are bad by the rule alone
  pub before : (q : ℕ) → suc q ≡ p → pair_note_in (reading ch (hit_image u p) tables index report).report q ≡ 2
  pub behind : (q : ℕ) → p < q → q < pairs_of u → pair_note_in (reading ch (hit_image u p) tables index report).report q ≡ 2
  -- and that of every pair before those is 0: inconsistent too, and good
  pub earlier : (q : ℕ) → suc q < p → pair_note_in (reading ch (hit_image u p) tables index report).report q ≡ 0
  -- `bad` counts the damaged pair, the one before it and all behind it
  pub count : p - 1 + given.bad ≡ pairs_of u

-- and a chain that stops: of 7 frames the first pair is damaged, the three behind it are bad by the rule, and the padding behind them is good
pub record Stops : Type 0 where
  pub premises : N.Premises by_one_header rises7 (hit_image rises7 0) stairs (index_for 1) (report_for 1)
  pub hit : Touched (image_of rises7) (hit_image rises7 0) 0
  pub ruled : (q : ℕ) → 0 < q → q < 4 → ByRule rises7 (hit_image rises7 0) stairs q
  pub good : (q : ℕ) → 4 ≤ q → q < 12 → BadPair rises7 (hit_image rises7 0) stairs q → ⊥
