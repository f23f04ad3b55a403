-- The reader's rules, case by case (01, "Headers", "Settings", "Bad pairs" with 02, C-12, "Replacing", and the success answer): numbers, places and bounds as 01
-- prints them, which no theorem would notice if definition, laws and code were changed alike. The numbers stand bare here, as they do there.
-- Assumes nothing.
use Rattle.std.specs.Prelude.{◌≡◌, refl, true, [], ◌∷◌, ℕ, replicate, None}
use Rattle.std.proofs.Common.{sym, ap, ◌∙◌, arith, eq-eqb, ne_eqb}
use Rattle.choices.specs.declared.Choices.{Choices}
use Rattle.settings.specs.Settings.{settings as set}
use Rattle.frames.specs.Frames.{zero_frame}
use Rattle.message.specs.Message.{message, rate_of, common_bits}
use Rattle.message.specs.Message.Laws.{rate_back, count_back, common_rate, common_message, message_counts, message_rate_1}
use Rattle.settling.specs.Settling.{first_agreeing, only_one, settling}
use Rattle.header_notes.specs.HeaderNotes.{header_note}
use Rattle.settling.proofs.Laws.{two_or_more, only_mended}
use Rattle.consistency.specs.Consistency.{flagged, flags, inconsistent}
use Rattle.replacing.specs.Replacing.{source, source_by, run_start, leading}
use Rattle.replacing.specs.Speech.{last_nonzero}
use Rattle.tables.specs.Tables.{tables_of}
use Rattle.consistency.proofs.Laws.{inconsistent_turned}
use Rattle.page_received.specs.Rules.{Consistency, Notes, Replacing, Settings, Speech, all14, crossed, nine_at, numbers_from, one_at, pairs14, read_with, up_to}

pub consistency : Consistency
unfolding numbers_from up_to nine_at all14 crossed pairs14 flagged flags inconsistent
consistency = record {
  codebook_1 = refl;
  entry_1_first = refl;
  entry_1_second = refl;
  seventh = refl;
  last_number = refl;
  not_before_last = refl;
  codebook_1_falls = refl;
  last_number_falls = refl;
  threshold_6 = refl;
  past_threshold_6 = refl;
  past_threshold_7 = refl;
  threshold_11 = refl;
  past_threshold_11 = refl;
  fall_threshold_6 = refl;
  fall_past_threshold_6 = refl;
  fall_threshold_11 = refl;
  fall_past_threshold_11 = refl;
  two_not_two = refl;
  two_past_one = refl;
  fall_not_two = refl;
  fall_past_one = refl;
  fall_past_zero = refl;
  still = refl;
  rise_past_minus_1 = refl;
  fall_past_minus_1 = refl;
  still_past_minus_1 = refl;
  through_zero = refl;
  fall_through_zero = refl;
  through_zero_not_two = refl;
  exact_rise = refl;
  exact_fall = refl;
  largest_rise = refl;
  one_larger_rise = refl;
  largest_fall = refl;
  one_larger_fall = refl;
  first_element = refl;
  second_element = refl;
  neither = refl;
  first_element_falls = refl;
  second_element_falls = refl;
  rises_and_falls = refl;
  falls_and_rises = refl;
  two_flagged = refl;
  one_flagged = refl;
  last_two_flagged = refl;
  two_fallen = refl;
  middle_two_fallen = refl;
  last_two_fallen = refl;
  one_fallen = refl;
  one_of_each = refl;
}

-- what falls is what rises turned round, by the law
pub fallen_is_risen : inconsistent (tables_of (up_to 1280) (all14 1)) (0 ∷ 0 ∷ 0 ∷ 0 ∷ 0 ∷ 1 ∷ 1 ∷ []) (replicate 7 0) ≡ true
fallen_is_risen = inconsistent_turned (tables_of (up_to 1280) (all14 1)) (0 ∷ 0 ∷ 0 ∷ 0 ∷ 0 ∷ 1 ∷ 1 ∷ []) (replicate 7 0) ∙ consistency.last_two_flagged

pub replacing : Replacing
unfolding source source_by run_start leading
replacing = record { start_of_two = refl; start_of_one = refl; end_of_two = refl; two_runs = refl; run_of_three = refl }

pub speech : Speech
unfolding one_at zero_frame last_nonzero
speech = record {
  none_in_the_last = refl;
  only_in_the_first = refl;
  first_of_the_last = refl;
  seventh_of_the_last = refl;
  last_of_the_last = refl;
  ends = refl;
  ends_not = refl;
}

-- 8 kHz and 11 kHz differ in their common bits
other_rate : common_bits (message (set 1 0) 1 0) ≡ common_bits (message (set 0 0) 0 0) → ⊥
other_rate e =
    let a : rate_of (common_bits (message (set 1 0) 1 0)) ≡ 1 = common_rate (message (set 1 0) 1 0) ∙ rate_back (set 1 0) 1 0 in
    let b : rate_of (common_bits (message (set 0 0) 0 0)) ≡ 0 = common_rate (message (set 0 0) 0 0) ∙ rate_back (set 0 0) 0 0 in
    let z : ◌≡◌ {A = ℕ} 1 0 = sym a ∙ ap rate_of e ∙ b in
    omega arith

pub notes : Notes
unfolding header_note
notes =
    let c = common_message (set 0 0) 1 0 in
    let same = eq-eqb (common_bits (message (set 0 0) 1 0)) (common_bits (message (set 0 0) 0 0)) c in
    let same-0 = eq-eqb (common_bits (message (set 0 0) 0 0)) (common_bits (message (set 0 0) 0 0)) refl in
    let other = ne_eqb (common_bits (message (set 1 0) 1 0)) (common_bits (message (set 0 0) 0 0)) other_rate in
    let one = count_back (set 0 0) 1 0 in
    let none = count_back (set 0 0) 0 0 in
    let one-11 = count_back (set 1 0) 1 0 in
    record {
      clean = rw (one, same);
      mended = rw (one, same);
      lost = refl;
      out_of_step = rw (one, same);
      sixteenth = rw (none, same-0);
      seventeenth = rw (one, same);
      other_settings = rw (one-11, other);
      both_added = rw (one-11, other);
    }

-- 8 is 8 kHz with counter 1, and 1 is 11 kHz with counter 0
eight_is : 8 ≡ message (set 0 0) 1 0
eight_is = sym message_counts.0

one_is : 1 ≡ message (set 1 0) 0 0
one_is = sym message_rate_1

apart : common_bits 1 ≡ common_bits 8 → ⊥
apart e =
    let a : rate_of (common_bits 1) ≡ 1 = common_rate 1 ∙ ap rate_of one_is ∙ rate_back (set 1 0) 0 0 in
    let b : rate_of (common_bits 8) ≡ 0 = common_rate 8 ∙ ap rate_of eight_is ∙ rate_back (set 0 0) 1 0 in
    let z : ◌≡◌ {A = ℕ} 1 0 = sym a ∙ ap rate_of e ∙ b in
    omega arith

pub settings : (ch : Choices) → Settings ch
unfolding settling first_agreeing only_one
settings ch =
    let x = ne_eqb (common_bits 1) (common_bits 8) apart in
    let y = ne_eqb (common_bits 8) (common_bits 1) (λ e. apart (sym e)) in
    let s = eq-eqb (common_bits 8) (common_bits 8) refl in
    let t = eq-eqb (common_bits 1) (common_bits 1) refl in
    record {
      around_another = rw (x, y, s);
      around_a_lost_one = rw s;
      first_to_agree = rw (x, t);
      none_agrees = two_or_more ch (read_with 8 0 ∷ read_with 1 0 ∷ []) (omega arith) ∙ rw x;
      one_is_lost = two_or_more ch (read_with 8 0 ∷ None ∷ []) (omega arith);
      only_clean = refl;
      only_by_default = refl;
      only_mended = only_mended ch (record { message = 8; flips = 1 }) (λ e. omega arith);
    }
