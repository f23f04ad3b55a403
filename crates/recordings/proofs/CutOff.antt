-- What follows from specs/CutOff.antt: an image as it was written, cut inside a multiframe, before the first or anywhere; and examples.
-- Assumes nothing.
use Rattle.std.specs.Prelude.{◌≡◌, refl, ℕ, ◌+◌, ◌*◌, ◌/◌, ◌%◌, ◌<◌, length, take, Ok, Err}
use Rattle.std.proofs.Common.{sym, ◌∙◌, inr, arith}
use Rattle.std.proofs.Math.Path.{ap}
use mathlib.Core.List.{List, []}
use Rattle.std.proofs.Math.Decide.{ℕ_discrete}
use Rattle.layout.specs.Layout.{multiframe_octets}
use Rattle.choices.specs.Choices.{by_one_header}
use Rattle.choices.specs.declared.Choices.{Choices}
use Rattle.tables.specs.Tables.{Tables, RightTables, zero_tables}
use Rattle.settings.specs.Settings.{settings}
use Rattle.reader.specs.Reading.{Outcome, reading}
use Rattle.reader.specs.declared.Summary.{Summary}
use Rattle.image.proofs.Laws.{length_image}
use Rattle.writer.specs.Utterance.{Utterance, multiframes_of, image_of}
use Rattle.damage.proofs.Damages.{unharmed}
use Rattle.demands_met.specs.Met.{index_for, report_for}
use Rattle.demands_met.proofs.MetLaws.{lent_zeros}
use Rattle.demands.proofs.WritesAgainLaws as A
use Rattle.recordings.specs.Chunks.{Refuses}
use Rattle.recordings.proofs.Spaced.{nothing_14}
use Rattle.recordings.specs.Said.{ones24}
use Rattle.recordings.specs.CutOff.{cut_off_reads, cut_off_answer, cut_inside_damaged}

-- and of the image as it was written
pub cut_inside : (ch : Choices) (u : Utterance) (k j : ℕ) → k < multiframes_of u → 0 < j → j < multiframe_octets → (tables : Tables) (index report : List ℕ) → RightTables tables
    → Refuses (reading ch (take (multiframe_octets * k + j) (image_of u)) tables index report) index report 13 (multiframe_octets * k)
cut_inside ch u = cut_inside_damaged ch u (image_of u) (unharmed u)

-- and nothing at all is 14, at place 0
pub nothing_refused : (ch : Choices) (u : Utterance) (tables : Tables) (index report : List ℕ) → RightTables tables
    → Refuses (reading ch (take 0 (image_of u)) tables index report) index report 14 0
nothing_refused ch u tables index report sized = nothing_14 ch tables index report sized

-- ---- CUT OFF ANYWHERE: whatever is read of fewer octets than the image's is whole multiframes, with end 0
pub cut_anywhere : (ch : Choices) (u : Utterance) (n : ℕ) → n < length (image_of u) → (tables : Tables) (index report : List ℕ) (given : Summary)
    → (reading ch (take n (image_of u)) tables index report).answer ≡ Ok given → (n ≡ multiframe_octets * given.multiframes) × (given.end ≡ 0)
cut_anywhere ch u n short tables index report given e =
    elim (ℕ_discrete (n % multiframe_octets) 0) [
      | yes z ↦
          let w : n ≡ multiframe_octets * (n / multiframe_octets) = omega arith in
          let g = cut_off_answer ch u (n / multiframe_octets) less tables index report given
          (ap (λ (i : ℕ). (reading ch (take i (image_of u)) tables index report).answer) (sym w) ∙ e) in
          (w ∙ ap (λ (g : Summary). multiframe_octets * g.multiframes) (sym g), ap (λ (g : Summary). g.end) g)
      | no z ↦
          let w : multiframe_octets * (n / multiframe_octets) + n % multiframe_octets ≡ n = omega arith in
          let r = cut_inside ch u (n / multiframe_octets) (n % multiframe_octets) less (omega arith) (omega arith) tables index report sized in
          let x : Err r.refusal ≡ Ok given =
          sym (ap (λ (o : Outcome). o.answer) r.is_refused) ∙ ap (λ (i : ℕ). (reading ch (take i (image_of u)) tables index report).answer) w ∙ e in
          let y : ◌≡◌ {A = ℕ} 0 1 = cc in
          absurd (omega arith)
    ]
  where
    less : n / multiframe_octets < multiframes_of u
    less = omega (arith, length_image u.settings u.indices (multiframes_of u))

    sized : RightTables tables
    sized =
        let a = (A.was_read ch (take n (image_of u)) tables index report [] given e).reader_accepts in
        a.right_tables

-- ---- the premises are met
-- of 24 frames of ones the first multiframe alone is read where the caller asks for the old rule: rate 0, one multiframe, 24 frames of speech, end 0
pub first_of_24 : (reading by_one_header (take multiframe_octets (image_of ones24)) zero_tables (index_for 1) (report_for 1)).answer
    ≡ Ok (record { settings = settings 0 0; multiframes = 1; speech = 24; bad = 0; end = 0 })
first_of_24 = ap (λ (o : Outcome). o.answer) (cut_off_reads by_one_header ones24 1 (omega arith) (omega arith) (inr refl) zero_tables (index_for 1) (report_for 1) (lent_zeros 1))

-- 01's example: 143 octets that open with a sync are 13
pub received_143 : (ch : Choices) (u : Utterance) (tables : Tables) (index report : List ℕ) → RightTables tables
    → Refuses (reading ch (take 143 (image_of u)) tables index report) index report 13 0
received_143 ch u = cut_inside ch u 0 143 (omega arith) (omega arith) (omega arith)

-- one octet more than the first multiframe is 13 at the second
pub received_145 : (ch : Choices) (tables : Tables) (index report : List ℕ) → RightTables tables
    → Refuses (reading ch (take 145 (image_of ones24)) tables index report) index report 13 144
received_145 ch = cut_inside ch ones24 1 1 (omega arith) (omega arith) (omega arith)
