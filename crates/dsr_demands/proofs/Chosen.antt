-- WHAT A CALLER CHOOSES at dsr_read and dsr_read_bits, by the number that is handed over (02, C-20): 0 and 1 are choices, and every other number is
-- refused with 96. By default, with 0, an only multiframe is refused with 16, whatever its header is; 1 asks for the old rule; and two multiframes
-- or more are read alike by both.
-- Assumes nothing.
use Rattle.std.specs.Prelude.{◌≡◌, List, Bool, ℕ, ◌≤◌, ◌<◌, ltb, length, Some, None}
use Rattle.std.proofs.Math.Path.{refl, ap, subst}
use Rattle.std.proofs.Common.{sym, ◌∙◌, inr, lit≤, ne_eqb, le-ltb, lt-ltb}
use Rattle.std.proofs.Math.Bool.{true, false}
use native.Mathlib.Omega.{arith}
use Rattle.std.proofs.Math.ListN.{get_or}
use Rattle.lists.specs.Tests.{when}
use Rattle.choices.specs.Choices.{by_default, by_one_header, asked, choice_number}
use Rattle.choices.proofs.ChoicesLaws.{asked_for}
use Rattle.choices.specs.declared.Choices.{Choices}
use Rattle.choices.specs.Types.{Asked}
use Rattle.layout.specs.Layout.{most_multiframes}
use Rattle.tables.specs.Tables.{Tables, RightTables, zero_tables}
use Rattle.bits.specs.Bits.{bits}
use Rattle.hunt.specs.Hunt.{in_range}
use Rattle.gathering.specs.Gathering.{whole, gathering}
use Rattle.cutting.specs.Cutting.{cutting}
use Rattle.refusals.specs.Refusals.{no_such_choice, no_room}
use Rattle.refusals.specs.declared.Reading.TheVariants.{Unsettled}
use Rattle.refusals.specs.declared.Hunting.TheVariants.{Octets}
use Rattle.reader.specs.Reading as R
use Rattle.reader.specs.RefusalLaws.{CutUp}
use Rattle.reader.proofs.Chosen.{two_alike, one_refused, default_two}
use Rattle.hunting.specs.Hunting as G
use Rattle.hunting.proofs.Chosen.{found_alike, found_refused, found_two}
use Rattle.entries.specs.Entries.{answer_numbers, Returned, returned, unchosen, given_of, dsr_read}
use Rattle.entries.specs.Entries as E
use Rattle.entries.specs.Bits.{counted_numbers, bits_given, dsr_read_bits}
use Rattle.writer.specs.Utterance.{image_of}
use Rattle.damage.specs.Instances.{says1}
use Rattle.demands_met.specs.Met.{index_for, report_for}
use Rattle.demands_met.proofs.MetLaws.{lent_zeros}
use Rattle.demands_met.proofs.NeededLaws.{default_1}
use Rattle.demands.specs.ReadsBack.{spoken}
use Rattle.demands.proofs.ReadsBackLaws.{reads_image}
use Rattle.hunting_demands.specs.Met as H
use Rattle.hunting_demands.proofs.MetLaws as HL
use Rattle.hunting_demands.proofs.HuntsBack.{one_shifted_refused}
use Rattle.dsr_demands.specs.Calls.{read_keeps, read_refused, read_success, read_zero, bits_kept, bits_refused, bits_success, bits_zero}
use Rattle.dsr_demands.specs.Met.{six, eight}
use Rattle.dsr_demands.specs.Chosen.{Numbers, OneMultiframe}

pub numbers : Numbers
unfolding asked
numbers = record {
  number_0 = refl;
  number_1 = refl;
  number_2 = refl;
  number_3 = refl;
  number_256 = refl;
  number_257 = refl;
  above_32_bits = refl;
  above_32_bits_and_1 = refl;
  largest = refl;
}

-- and no other is a choice
pub no_other : (n : ℕ) → 2 ≤ n → asked n ≡ None
unfolding asked
no_other n h = rw (ne_eqb n 0 (λ e. omega arith), ne_eqb n 1 (λ e. omega arith))

-- ---- a number that is no choice: with room for the answer it is 96, without 99, and all stays, the place too
module _ (octets : List ℕ) (tables : Tables) (index report answer : List ℕ) (place : ℕ) where
  pub c_no_such_choice : answer_numbers ≤ length answer → dsr_read octets None tables index report answer place ≡ returned no_such_choice index report answer place
  unfolding unchosen
  c_no_such_choice h = rw (le-ltb (length answer) answer_numbers h)

  pub c_no_room_first : length answer < answer_numbers → dsr_read octets None tables index report answer place ≡ returned no_room index report answer place
  unfolding unchosen
  c_no_room_first h = rw (lt-ltb (length answer) answer_numbers h)

  pub c_bits_no_such_choice : (from least : ℕ) → counted_numbers ≤ length answer
      → dsr_read_bits octets from least None tables index report answer place ≡ returned no_such_choice index report answer place
  unfolding unchosen
  c_bits_no_such_choice from least h = rw (le-ltb (length answer) counted_numbers h)

  pub c_bits_no_room_first : (from least : ℕ) → length answer < counted_numbers
      → dsr_read_bits octets from least None tables index report answer place ≡ returned no_room index report answer place
  unfolding unchosen
  c_bits_no_room_first from least h = rw (lt-ltb (length answer) counted_numbers h)

  -- either way neither buffer nor the answer is touched
  kept : (w : ℕ) → ((unchosen w answer place index report).index ≡ index)
      × (((unchosen w answer place index report).report ≡ report) × ((unchosen w answer place index report).answer ≡ answer))
  unfolding unchosen
  kept w = by (ltb (length answer) w)
    where
      by : (t : Bool) → ((when t (returned no_room index report answer place) (returned no_such_choice index report answer place)).index ≡ index)
          × (((when t (returned no_room index report answer place) (returned no_such_choice index report answer place)).report ≡ report)
          × ((when t (returned no_room index report answer place) (returned no_such_choice index report answer place)).answer ≡ answer))
      by true = (refl, (refl, refl))
      by false = (refl, (refl, refl))

  -- SO WHATEVER IS ASKED FOR, any other number than 0 leaves both buffers and the answer as they came
  pub c_keeps : (q : Asked) → ((dsr_read octets q tables index report answer place).number ≡ 0 → ⊥)
      → ((dsr_read octets q tables index report answer place).index ≡ index)
      × (((dsr_read octets q tables index report answer place).report ≡ report) × ((dsr_read octets q tables index report answer place).answer ≡ answer))
  c_keeps (Some ch) n = read_keeps ch octets tables index report answer place n
  c_keeps None n = kept answer_numbers

  pub c_bits_keep : (from least : ℕ) (q : Asked) → ((dsr_read_bits octets from least q tables index report answer place).number ≡ 0 → ⊥)
      → ((dsr_read_bits octets from least q tables index report answer place).index ≡ index)
      × (((dsr_read_bits octets from least q tables index report answer place).report ≡ report) × ((dsr_read_bits octets from least q tables index report answer place).answer ≡ answer))
  c_bits_keep from least (Some ch) n = bits_kept ch octets from least tables index report answer place n
  c_bits_keep from least None n = kept counted_numbers

  -- and 0 is of a choice only
  never_0 : (w : ℕ) → (unchosen w answer place index report).number ≡ 0 → ⊥
  unfolding unchosen
  never_0 w = by (ltb (length answer) w)
    where
      by : (t : Bool) → (when t (returned no_room index report answer place) (returned no_such_choice index report answer place)).number ≡ 0 → ⊥
      by true e = omega arith
      by false e = omega arith

  pub c_zero_chose : (q : Asked) → (dsr_read octets q tables index report answer place).number ≡ 0 → (ch : Choices) × (q ≡ Some ch)
  c_zero_chose (Some ch) e = (ch, refl)
  c_zero_chose None e = absurd (never_0 answer_numbers e)

  pub c_bits_zero_chose : (from least : ℕ) (q : Asked) → (dsr_read_bits octets from least q tables index report answer place).number ≡ 0 → (ch : Choices) × (q ≡ Some ch)
  c_bits_zero_chose from least (Some ch) e = (ch, refl)
  c_bits_zero_chose from least None e = absurd (never_0 counted_numbers e)

  -- ---- BY DEFAULT AN ONLY MULTIFRAME IS REFUSED: 16, place 0, and all else stays, whatever its header is, where none of 10 to 15 comes before
  pub c_one_refused : answer_numbers ≤ length answer → CutUp octets tables → length (cutting octets).places ≡ 1
      → dsr_read octets (asked 0) tables index report answer place ≡ returned 16 index report answer 0
  unfolding asked
  c_one_refused room cut one =
      read_refused by_default octets tables index report answer place Unsettled room (ap (λ (o : R.Outcome). o.answer) (one_refused octets tables index report by_default refl cut one))

  -- ---- TWO MULTIFRAMES OR MORE are read alike by both choices
  pub c_two_alike : 2 ≤ length (cutting octets).places
      → dsr_read octets (asked 0) tables index report answer place ≡ dsr_read octets (asked 1) tables index report answer place
  unfolding asked
  c_two_alike two =
      ap (λ (o : R.Outcome). E.returning answer_numbers answer place index report (given_of o)) (two_alike octets tables index report by_default by_one_header two)

  -- ---- and at dsr_read_bits, of the multiframes found
  pub c_bits_one_refused : (from least : ℕ) → counted_numbers ≤ length answer → RightTables tables → in_range least ≡ true
      → (gathering (bits octets) least most_multiframes from).ending ≡ whole → length (gathering (bits octets) least most_multiframes from).places ≡ 1
      → dsr_read_bits octets from least (asked 0) tables index report answer place ≡ returned 16 index report answer 0
  unfolding asked
  c_bits_one_refused from least room right range ends one =
      bits_refused by_default octets from least tables index report answer place (Octets Unsettled) room
      (ap (λ (o : G.Outcome). o.answer) (found_refused octets from least tables index report by_default refl right range ends one))

  pub c_bits_two_alike : (from least : ℕ) → 2 ≤ length (gathering (bits octets) least most_multiframes from).places
      → dsr_read_bits octets from least (asked 0) tables index report answer place ≡ dsr_read_bits octets from least (asked 1) tables index report answer place
  unfolding asked
  c_bits_two_alike from least two =
      ap (λ (o : G.Outcome). E.returning counted_numbers answer place index report (bits_given o)) (found_alike octets from least tables index report by_default by_one_header two)

  -- WHAT IS READ BY DEFAULT has two multiframes or more: a call that answers 0 says so in its third number
  pub c_default_two : (dsr_read octets (asked 0) tables index report answer place).number ≡ 0 → 2 ≤ get_or (dsr_read octets (asked 0) tables index report answer place).answer 2 0
  unfolding asked
  c_default_two zero =
      let o = R.reading by_default octets tables index report in
      let z = read_zero answer place index report o zero in
      let e = read_success answer place index report o z.0 z.1.0 z.1.1 in
      subst (λ (n : ℕ). 2 ≤ n) (sym (ap (λ (x : Returned). get_or x.answer 2 0) e)) (default_two octets tables index report by_default refl z.1.0 z.1.1)

  pub c_bits_default_two : (from least : ℕ) → (dsr_read_bits octets from least (asked 0) tables index report answer place).number ≡ 0
      → 2 ≤ get_or (dsr_read_bits octets from least (asked 0) tables index report answer place).answer 2 0
  unfolding asked
  c_bits_default_two from least zero =
      let o = G.hunting_reading by_default octets from least tables index report in
      let z = bits_zero answer place index report o zero in
      let e = bits_success answer place index report o z.0 z.1.0 z.1.1 in
      subst (λ (n : ℕ). 2 ≤ n) (sym (ap (λ (x : Returned). get_or x.answer 2 0) e)) (found_two octets from least tables index report by_default refl z.1.0 z.1.1)

  -- ---- THE NUMBER ITSELF: that of a choice is the choice, and every other is refused with 96
  pub c_by_number : (ch : Choices) → dsr_read octets (asked (choice_number ch)) tables index report answer place ≡ dsr_read octets (Some ch) tables index report answer place
  c_by_number ch = ap (λ (q : Asked). dsr_read octets q tables index report answer place) (asked_for ch)

  pub c_bits_by_number : (from least : ℕ) (ch : Choices)
      → dsr_read_bits octets from least (asked (choice_number ch)) tables index report answer place ≡ dsr_read_bits octets from least (Some ch) tables index report answer place
  c_bits_by_number from least ch = ap (λ (q : Asked). dsr_read_bits octets from least q tables index report answer place) (asked_for ch)

  pub c_other_number : (n : ℕ) → 2 ≤ n → answer_numbers ≤ length answer → dsr_read octets (asked n) tables index report answer place ≡ returned 96 index report answer place
  c_other_number n h room = ap (λ (q : Asked). dsr_read octets q tables index report answer place) (no_other n h) ∙ c_no_such_choice room

  pub c_bits_other_number : (from least n : ℕ) → 2 ≤ n → counted_numbers ≤ length answer
      → dsr_read_bits octets from least (asked n) tables index report answer place ≡ returned 96 index report answer place
  c_bits_other_number from least n h room =
      ap (λ (q : Asked). dsr_read_bits octets from least q tables index report answer place) (no_other n h) ∙ c_bits_no_such_choice from least room

pub one_multiframe : OneMultiframe
unfolding asked
one_multiframe =
    let i = index_for 1 in
    let r = report_for 1 in
    let e = read_success six 0 i r (R.reading by_one_header (image_of says1) zero_tables i r) (lit≤ tt) (spoken says1)
    (ap (λ (o : R.Outcome). o.answer) (reads_image by_one_header says1 (inr refl) zero_tables i r (lent_zeros 1))) in
    let o = G.hunting_reading by_one_header (H.shifted_octets says1) 0 16 zero_tables i r in
    let f = bits_success eight 0 i r o (lit≤ tt) (record { summary = spoken says1; outside = 8; tested = 4 })
    (ap (λ (x : G.Outcome). x.answer) (HL.one_shifted says1 by_one_header refl refl 16 (lit≤ tt) (lit≤ tt) zero_tables i r (lent_zeros 1))) in
    record {
      by_default_lem = read_refused by_default (image_of says1) zero_tables i r six 0 Unsettled (lit≤ tt) (ap (λ (o : R.Outcome). o.answer) default_1);
      asked_for_number = ap (λ (x : Returned). x.number) e;
      asked_for = ap (λ (x : Returned). x.answer) e;
      asked_for_index = ap (λ (x : Returned). x.index) e ∙ ap (λ (o : R.Outcome). o.index) (reads_image by_one_header says1 (inr refl) zero_tables i r (lent_zeros 1));
      bits_by_default = bits_refused by_default (H.shifted_octets says1) 0 16 zero_tables i r eight 0 (Octets Unsettled) (lit≤ tt)
          (ap (λ (x : G.Outcome). x.answer)
          (one_shifted_refused by_one_header says1 (H.shifted_octets says1) 0 16 H.three_zeros H.five_zeros (HL.shifted_met says1 by_one_header 16 (lit≤ tt)) (inr refl) zero_tables i r (lit≤ tt) (lit≤ tt)
          (lent_zeros 1) by_default refl refl));
      bits_asked_for = ap (λ (x : Returned). x.answer) f;
    }
