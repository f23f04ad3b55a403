-- Why the premises of HUNTS BACK are there: with all the others met, this is what happens where one is not (proofs/Needed); and the examples of it.
-- Assumes nothing.
use Rattle.std.specs.Prelude.{ℕ, zero, suc, ◌≡◌, List, [], Bool, Err}
use Rattle.std.specs.Int.Bits.{bit_xor}
use Rattle.layout.specs.Layout.{multiframe_pairs, multiframe_octets}
use Rattle.choices.specs.declared.Choices.{Choices}
use Rattle.tables.specs.Tables.{Tables}
use Rattle.crc.specs.Crc.{flip}
use Rattle.packet.specs.Packet.{stream}
use Rattle.header_code.specs.Code.{codeword}
use Rattle.hunt.specs.Hunt.{sync}
use Rattle.hunting.specs.Hunting.{outcome, hunting_reading}
use Rattle.refusals.specs.declared.Hunting.{Hunting as Refusal}
use Rattle.writer.specs.Utterance.{Utterance}
use Rattle.damage.specs.Damage.{sent_message}
use Rattle.demands.specs.Whole.{pair_note_in}
use Rattle.damage.specs.Instances.{lone, says1}
use Rattle.demands_met.specs.Needed.{says1_at11}
use Rattle.hunting_demands.specs.Laid.{laid_multiframe}
use Rattle.hunting_demands.specs.HuntsBack.{heard, Premise, Holds}
use Rattle.hunting_demands.specs.Hurt as H
use Rattle.hunting_demands.specs.Met.{worst_sync}

-- all others hold, this one does not, and the reading is refused, and both buffers stay
pub record Needed (ch : Choices) (missing : Premise) (u : Utterance) (s : List ℕ) (from at least : ℕ) (tables : Tables) (index report : List ℕ) (r : Refusal) : Type 0 where
  pub others : (p : Premise) → (p ≡ missing → ⊥) → Holds ch u s from at least tables index report p
  pub fails : Holds ch u s from at least tables index report missing → ⊥
  pub instead : hunting_reading ch s from least tables index report ≡ outcome (Err r) index report

-- or the reading succeeds, and the first pair's note is 1, where HUNTS BACK has 0, whatever notes the headers get
pub record NeededForNotes (ch : Choices) (missing : Premise) (u : Utterance) (s : List ℕ) (from at least : ℕ) (tables : Tables) (index report : List ℕ) : Type 0 where
  pub others : (p : Premise) → (p ≡ missing → ⊥) → Holds ch u s from at least tables index report p
  pub fails : Holds ch u s from at least tables index report missing → ⊥
  pub instead : pair_note_in (hunting_reading ch s from least tables index report).report 0 ≡ 1
  pub not_heard : (notes : ℕ → ℕ) → hunting_reading ch s from least tables index report ≡ heard ch u s from at least tables index report notes → ⊥

-- ---- syncs and flips
-- the sync with five bits flipped
abbrev pub five_sync : List Bool
five_sync = flip worst_sync 1

-- ---- the examples: the utterance 1 at 8 kHz, its one multiframe alone in 144 octets; its sync with five flips; its header with none and one
-- no flip in the header behind the sync with five
abbrev pub untouched : ℕ → ℕ
untouched k = 0

abbrev pub five_flips : List ℕ
five_flips = H.hurt says1 [] (λ k. five_sync) untouched [] 0

abbrev pub clean1 : List ℕ
clean1 = H.hurt says1 [] (λ k. sync) (λ k. 0) [] 0

abbrev pub mended1 : List ℕ
mended1 = H.hurt says1 [] (λ k. sync) (λ k. 1) [] 0

-- six octets that look like a multiframe's first, and then the image
abbrev pub flipped_word : ℕ
flipped_word = bit_xor (codeword (sent_message says1 0)) 1

abbrev pub false_start : List Bool
false_start = laid_multiframe sync flipped_word []

abbrev pub swallowed : List ℕ
swallowed = H.hurt says1 false_start (λ k. sync) (λ k. 0) [] 6

-- the image, and then a multiframe at 11 kHz
abbrev pub other_word : ℕ
other_word = bit_xor (codeword (sent_message says1_at11 0)) 0

abbrev pub other : List Bool
other = laid_multiframe sync other_word (stream (lone 1) 0 multiframe_pairs)

abbrev pub followed : List ℕ
followed = H.hurt says1 [] (λ k. sync) (λ k. 0) other multiframe_octets

-- two multiframes, one flip in the first header and three in the second
abbrev pub one_then_three : ℕ → ℕ
one_then_three zero = 1
one_then_three (suc k) = 7

abbrev pub half_lost : Utterance → List ℕ
half_lost u = H.hurt u [] (λ k. sync) one_then_three [] 0
