-- CUT OFF AND SPACED OUT AT dsr_read: inverse syncs change nothing that a caller gets, and what came of an utterance that was cut off tells so.
-- Assumes nothing.
use Rattle.std.specs.Prelude.{◌≡◌, List, [], ◌∷◌, ◌++◌, ℕ, ◌+◌, ◌-◌, ◌*◌, ◌/◌, ◌%◌, ◌≤◌, ◌<◌, length, take, get_or, Some}
use Rattle.std.proofs.Common.{sym, ap, ap₂, ◌∙◌, arith}
use Rattle.lists.specs.Parts.{over}
use Rattle.layout.specs.Layout.{multiframe_pairs, multiframe_frames, multiframe_octets, most_multiframes, report_octets, inverse_first, inverse_second}
use Rattle.choices.specs.declared.Choices.{Choices}
use Rattle.tables.specs.Tables.{Tables, RightTables}
use Rattle.cutting.specs.Cutting.{cutting, whole}
use Rattle.refusals.specs.Refusals.{reading_number, reading_place}
use Rattle.reader.specs.Reading.{Outcome, reading}
use Rattle.reader.specs.declared.Summary.{Summary}
use Rattle.writer.specs.Utterance.{Utterance, multiframes_of, image_of}
use Rattle.entries.specs.Entries.{answer_numbers, Returned, returned, returning, given_of, dsr_read}
use Rattle.damage.specs.Damage.{Damage}
use Rattle.demands.specs.Whole.{pair_note_in}
use Rattle.recordings.specs.Chunks.{Refuses}
use Rattle.recordings.specs.Inverse.{found, spaced}
use Rattle.recordings.proofs.Spaced.{spaced_image}
use Rattle.recordings.proofs.Inverse.{one_inverse}
use Rattle.recordings.specs.CutOff.{cut_off_answer, cut_inside_damaged}
use Rattle.recordings.specs.CutDamaged.{cut_off_told_damaged}
use Rattle.dsr_demands.specs.Calls.{told_refused, read_zero}
use Rattle.dsr_demands.specs.Named.{pair_note_at}
use Rattle.dsr_demands.proofs.Named.{got_is, at}

-- a refusal, with room for six numbers, is its number and its place, and all else as it came
refused_is : (a : List ℕ) (q : ℕ) (i r : List ℕ) (o : Outcome) (n p : ℕ) → answer_numbers ≤ length a → Refuses o i r n p
    → returning answer_numbers a q i r (given_of o) ≡ returned n i r a p
refused_is a q i r o n p h x =
    told_refused answer_numbers a q i r (given_of o) h (reading_number x.refusal) (reading_place x.refusal) (ap given_of x.is_refused)
    ∙ ap₂ (λ (m k : ℕ). returned m i r a k) x.number_is x.place_is

module _ (ch : Choices) (tables : Tables) (index report answer : List ℕ) (place : ℕ) where
  abbrev c : List ℕ → Returned
  c s = dsr_read s (Some ch) tables index report answer place

  -- INVERSE SYNCS CHANGE NOTHING: one of them between octets that are each cut to their end
  pub c_one_inverse : (a b : List ℕ) → (cutting a).ending ≡ whole → (cutting b).ending ≡ whole → 0 < found a + found b → found a + found b ≤ most_multiframes
      → c (a ++ (inverse_first ∷ inverse_second ∷ b)) ≡ c (a ++ b)
  c_one_inverse a b ca cb some few = ap (λ (o : Outcome). returning answer_numbers answer place index report (given_of o)) (one_inverse ch a b ca cb some few tables index report)

  -- and any number of them, before, between and behind the multiframes of a damaged image
  pub c_spaced : (u : Utterance) (s : List ℕ) → Damage (multiframes_of u) (image_of u) s → (g : ℕ → ℕ) → c (spaced g s (multiframes_of u)) ≡ c s
  c_spaced u s d g = ap (λ (o : Outcome). returning answer_numbers answer place index report (given_of o)) (spaced_image ch u s d g tables index report)

  -- A CUT BETWEEN MULTIFRAMES TELLS: of the first k of an image, if dsr_read answers 0, the settings are those sent, all frames are speech, no pair is bad
  -- and end is 0
  pub c_cut_off : (u : Utterance) (k : ℕ) → k < multiframes_of u → (c (take (multiframe_octets * k) (image_of u))).number ≡ 0
      → (c (take (multiframe_octets * k) (image_of u))).answer ≡ over answer 0 answer_numbers (u.settings.rate ∷ u.settings.kind ∷ k ∷ multiframe_frames * k ∷ 0 ∷ 0 ∷ [])
  c_cut_off u k less zero =
      let s = take (multiframe_octets * k) (image_of u) in
      let z = read_zero answer place index report (reading ch s tables index report) zero in
      let g = cut_off_answer ch u k less tables index report z.1.0 z.1.1 in
      ap (λ (x : Returned). x.answer) (got_is ch s tables index report answer place z.0 z.1.0 z.1.1)
      ∙ ap (λ (x : Summary). over answer 0 answer_numbers (x.settings.rate ∷ x.settings.kind ∷ x.multiframes ∷ x.speech ∷ x.bad ∷ x.end ∷ [])) g

  -- of a damaged one, if the last pair that came has no note
  pub c_cut_off_damaged : (u : Utterance) (s : List ℕ) → Damage (multiframes_of u) (image_of u) s → (k : ℕ) → 0 < k → k < multiframes_of u
      → (c (take (multiframe_octets * k) s)).number ≡ 0 → pair_note_at (c (take (multiframe_octets * k) s)).report (k - 1) (multiframe_pairs - 1) ≡ 0
      → get_or (c (take (multiframe_octets * k) s)).answer 5 0 ≡ 0
  c_cut_off_damaged u s d k some less zero note =
      let t = take (multiframe_octets * k) s in
      let z = read_zero answer place index report (reading ch t tables index report) zero in
      let q = got_is ch t tables index report answer place z.0 z.1.0 z.1.1 in
      let p : report_octets * ((multiframe_pairs * k - 1) / multiframe_pairs) + 1 + (multiframe_pairs * k - 1) % multiframe_pairs ≡ report_octets * (k - 1) + 1 + 11 = omega arith in
      at ch t tables index report answer place z.0 z.1.0 z.1.1 5
      ∙ cut_off_told_damaged ch u s d k less tables index report z.1.0 z.1.1
      (ap (λ (x : Returned). pair_note_in x.report (multiframe_pairs * k - 1)) (sym q) ∙ ap (λ (i : ℕ). get_or (c t).report i 0) p ∙ note)

  -- A CUT INSIDE A MULTIFRAME IS 13, with the place of that multiframe, and both buffers and the answer as they came
  pub c_cut_inside : (u : Utterance) (s : List ℕ) → Damage (multiframes_of u) (image_of u) s → (k j : ℕ) → k < multiframes_of u → 0 < j → j < multiframe_octets
      → RightTables tables → answer_numbers ≤ length answer
      → c (take (multiframe_octets * k + j) s) ≡ returned 13 index report answer (multiframe_octets * k)
  c_cut_inside u s d k j less some few sized room =
      refused_is answer place index report (reading ch (take (multiframe_octets * k + j) s) tables index report) 13 (multiframe_octets * k) room
      (cut_inside_damaged ch u s d k j less some few tables index report sized)
