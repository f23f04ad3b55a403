-- Why the premises of HUNTS BACK are there: with all the others met, this is what happens where one is not.
-- Assumes nothing.
use Rattle.std.specs.Prelude.{ℕ, zero, suc, ◌+◌, ◌*◌, ◌^◌, ◌≤◌, ◌<◌, ◌≡◌, refl, List, [], ◌∷◌, ◌++◌, Bool, true, false, get_or, replicate, Some, None, Err}
use Rattle.std.proofs.Common.{sym, ap, ap₂, ◌∙◌, append-nil, inl, inr, ⊎_elim, le_of_eq, arith, lit<, length-append, take_at, get_or-take}
use Rattle.std.proofs.Math.Path.{subst}
use Rattle.std.specs.Int.Bits.{bit_xor}
use Rattle.std.proofs.lemmas.Nat.{xor_lt}
use Rattle.std.specs.Int.Count.{ones, ones_in}
use Rattle.std.proofs.Math.Dec.{lit≤}
use Rattle.std.proofs.Math.ListN.{length}
use borrow.Author.Tests.{ne_eqb, lt-ltb}
use Rattle.polynomials.specs.Light.{ones_in_lem}
use Rattle.lists.specs.Tests.{true_false}
use Rattle.lists.specs.Rows.{each, joined, length_joined, joined_part}
use Rattle.layout.specs.Layout.{packet_bits, multiframe_pairs, multiframe_octets, most_multiframes, index_octets, report_octets, sync_first, sync_second}
use Rattle.choices.specs.Choices.{one_settles, by_default, by_one_header}
use Rattle.choices.specs.declared.Choices.{Choices}
use Rattle.tables.specs.Tables.{Tables, RightTables, zero_tables}
use Rattle.tables.proofs.AdmittedLaws.{right_passes}
use Rattle.settings.specs.Settings.{settings}
use Rattle.bits.specs.Bits.{field, fields, value, bits}
use Rattle.bits.proofs.Laws.{length_field, length_bits}
use Rattle.carrier.specs.Carrier.{stream_packet}
use Rattle.cutting.proofs.Laws.{every_length}
use Rattle.crc.specs.Crc.{flip}
use Rattle.crc.proofs.Damage.{length_flip, flips_burst}
use Rattle.packet.specs.Packet.{packet_of, stream}
use Rattle.packet.proofs.Laws.{length_packet_of, length_stream}
use Rattle.header_code.specs.Code.{codeword}
use Rattle.header_code.specs.Code.Distance.{codeword_lt}
use Rattle.message.specs.Message.{message, rate_of, common_bits}
use Rattle.message.specs.Message.Laws.{message_lt, rate_back, common_rate}
use Rattle.header.specs.Reading.{decoded_as, reading}
use Rattle.header.proofs.Laws.{mended}
use Rattle.header.specs.declared.Decoded.{Decoded}
use Rattle.header.specs.Types.{Header}
use Rattle.header_readings.specs.Readings.{readings}
use Rattle.settling.specs.Settling.{settling, first_agreeing}
use Rattle.header_readings.specs.Laws.{length_readings}
use Rattle.settling.proofs.Laws.{one_default, two_or_more, only_clean, only_mended}
use Rattle.unfit.specs.Laws.{Usable, fit_is}
use Rattle.hunt.specs.Hunt.{sync_bits, header_bits, multiframe_bits, fewest_matches, in_range, sync, matches, passes, searched, places_left}
use Rattle.hunt.proofs.Laws.{searched_all, in_range_lem}
use Rattle.deciding.specs.Deciding.{room_verdict, settled_verdict, whole_verdict}
use Rattle.reader.specs.Reading as R
use Rattle.refusals.specs.declared.Reading.TheVariants.{Unsettled, IndexShort}
use Rattle.gathering.specs.Gathering.{image_of as foundImage, outside_of}
use Rattle.hunting.specs.Hunting.{counted, Outcome, outcome, hunting_reading}
use Rattle.hunting.proofs.Says.{nowhere_exactly}
use Rattle.refusals.specs.declared.Hunting.TheVariants.{Octets, MatchRange, Nowhere}
use Rattle.image.specs.Made.{sync_in, word_in, packet_in, made_packet}
use Rattle.image.proofs.Laws.{image_packet}
use Rattle.writer.proofs.Laws.{few_multiframes}
use Rattle.writer.specs.Utterance.{Utterance, multiframes_of, image_of}
use Rattle.writer.proofs.Utterance.{is_accepted, rate_not_2}
use Rattle.damage.specs.Damage.{Touched, sent_message, differs}
use Rattle.demands.specs.Whole.{Lent, row_of, pair_note_in}
use Rattle.demands.proofs.WholeLaws.{readings_are, cut_is, front_at, refuses_16}
use Rattle.demands.specs.Headers.{CanSettle, sent_common}
use Rattle.demands.proofs.HeadersLaws.{common_sent, rate_sent, exp_sent}
use Rattle.damage.specs.Instances.{lone, says1}
use Rattle.demands_met.specs.Met.{index_for, report_for, distance, burst_at, double_at, hurt_word, hurt_stream, hurt_image, says24, two_multiframes}
use Rattle.demands_met.proofs.MetLaws.{lent_zeros, hurts, names_met}
use Rattle.demands_met.specs.Needed.{says1_at11}
use Rattle.hunting_demands.specs.Standing.{place_in_row, row, stream_bits, sync_at, word_at, all_match, passes_there, unlike_fails, lost_fails, InARow, tested_in_row, reads_in_a_row, image_size, image_sync, image_word}
use Rattle.hunting_demands.specs.AsRead as A
use Rattle.hunting_demands.specs.AsRead.{Multiframes, Stands, shifted_syncs, shifted_stands, damaged_cut}
use Rattle.hunting_demands.specs.Laid.{sync_in_lem, word_in_lem}
use Rattle.hunting_demands.specs.HuntsBack.{heard, Premise, Begins, Inside, Syncs, Headers, Streams, NoneBefore, NoneBehind, Low, Settled, TablesAndRoom, Holds}
use Rattle.hunting_demands.specs.Hurt as H
use Rattle.hunting_demands.specs.Met.{index24, report24}
use Rattle.hunting_demands.proofs.MetLaws.{sync_size}
use Rattle.hunting_demands.specs.Needed.{Needed, NeededForNotes, five_sync, untouched, five_flips, clean1, mended1, flipped_word, false_start, swallowed, other_word, other, followed, one_then_three, half_lost}

-- Below, each premise but `Inside`: octets that are too short for it break `Streams` too, and else it speaks only of octets from the 2^61st on.

-- ---- the premises but one, of an utterance with other syncs and flips in its headers
module _ (ch : Choices) (u : Utterance) (front : List Bool) (y : ℕ → List Bool) (flips : ℕ → ℕ) (behind : List Bool) (n : ℕ) (f : H.Fits u front y flips behind n)
    (from least : ℕ) (tables : Tables) (index report : List ℕ) (missing : Premise) where
  abbrev s : List ℕ
  s = H.hurt u front y flips behind n

  abbrev HoldsUnlessMissing : Premise → Type 0
  HoldsUnlessMissing p = (p ≡ missing → ⊥) → Holds ch u s from (length front) least tables index report p

  hurt_others : HoldsUnlessMissing Begins → ((Syncs ≡ missing → ⊥) → (k : ℕ) → least ≤ matches (y k) sync)
      → ((Headers ≡ missing → ⊥) → (k : ℕ) → ones (flips k) ≤ 2) → HoldsUnlessMissing NoneBefore → HoldsUnlessMissing NoneBehind → HoldsUnlessMissing Low
      → ((Settled ≡ missing → ⊥) → CanSettle ch (multiframes_of u) (ones (flips 0))) → HoldsUnlessMissing TablesAndRoom
      → (p : Premise) → (p ≡ missing → ⊥) → Holds ch u s from (length front) least tables index report p
  hurt_others begins match few before after low settled lent Begins other = begins other
  hurt_others begins match few before after low settled lent Inside other = H.inside_there u front y flips behind n f
  hurt_others begins match few before after low settled lent Syncs other = λ k h. H.match_there u front y flips behind n f k h least (match other k)
  hurt_others begins match few before after low settled lent Headers other = λ k h.
      subst (λ (i : ℕ). i ≤ 2) (sym (H.flips_there u front y flips behind n f k h)) (few other k)
  hurt_others begins match few before after low settled lent Streams other = H.stream_there u front y flips behind n f
  hurt_others begins match few before after low settled lent NoneBefore other = before other
  hurt_others begins match few before after low settled lent NoneBehind other = after other
  hurt_others begins match few before after low settled lent Low other = low other
  hurt_others begins match few before after low settled lent Settled other =
      ⊎_elim inl (λ e. inr (e.0, H.flips_there u front y flips behind n f 0 (omega arith) ∙ e.1)) (settled other)
  hurt_others begins match few before after low settled lent TablesAndRoom other = lent other

-- ---- where the headers found settle nothing, the hunting reader gives the octet reader's 16
-- two headers with different common bits settle nothing
unlike : (ch : Choices) (a b : Decoded) → (common_bits b.message ≡ common_bits a.message → ⊥) → settling ch (Some a ∷ Some b ∷ []) ≡ None
unfolding first_agreeing
unlike ch a b differ = two_or_more ch (Some a ∷ Some b ∷ []) (lit≤ tt) ∙ rw (ne_eqb (common_bits b.message) (common_bits a.message) differ)

module _ (ch : Choices) (s : List ℕ) (from at least m : ℕ) (r : InARow (bits s) from at least m) (some : 0 < m) (few : m ≤ most_multiframes)
    (low : fewest_matches ≤ least) (high : least ≤ sync_bits) (tables : Tables) (index report : List ℕ) (lent : Lent m tables index report) where
  abbrev got : List ℕ
  got = foundImage s (row at m)

  unsettled : settling ch (readings got (row_of m)) ≡ None → hunting_reading ch s from least tables index report ≡ outcome (Err (Octets Unsettled)) index report
  unsettled e =
      reads_in_a_row ch s from least tables index report low high lent.right_tables at m r some few
      ∙ ap (λ (o : R.Outcome). counted o (outside_of (bits s) from m) (tested_in_row (bits s) from at m))
      (refuses_16 ch got m few (image_size s at m r.inside) (image_sync s at m r.inside) tables index report some lent e)

  header_found : (k : ℕ) → k < m → reading (word_in got k) ≡ reading (word_at (bits s) (place_in_row at k))
  header_found k h = ap reading (image_word s at m r.inside k h)

  -- so with an only header that was mended
  mended_alone : (d : Decoded) → m ≡ 1 → reading (word_at (bits s) (place_in_row at 0)) ≡ Some d → (d.flips ≡ 0 → ⊥)
      → hunting_reading ch s from least tables index report ≡ outcome (Err (Octets Unsettled)) index report
  mended_alone d one e touched =
      unsettled (ap (settling ch) (readings_are got m ∙ ap (each (λ k. reading (word_in got k))) one) ∙ ap (λ (h : Header). settling ch (h ∷ [])) (header_found 0 some ∙ e)
      ∙ only_mended ch d touched)

  -- and with two of different common bits
  two_differ : (a b : Decoded) → m ≡ 2 → reading (word_at (bits s) (place_in_row at 0)) ≡ Some a → reading (word_at (bits s) (place_in_row at 1)) ≡ Some b
      → (common_bits b.message ≡ common_bits a.message → ⊥) → hunting_reading ch s from least tables index report ≡ outcome (Err (Octets Unsettled)) index report
  two_differ a b two ea eb differ =
      unsettled (ap (settling ch) (readings_are got m ∙ ap (each (λ k. reading (word_in got k))) two)
      ∙ ap₂ (λ (h i : Header). settling ch (h ∷ i ∷ [])) (header_found 0 some ∙ ea) (header_found 1 (omega arith) ∙ eb) ∙ unlike ch a b differ)

-- ---- where the settings are settled and the index buffer is too short, the octet reader gives 18
module _ (ch : Choices) (s : List ℕ) (m : ℕ) (some : 0 < m) (few : m ≤ most_multiframes) (size : length s ≡ multiframe_octets * m)
    (syncs : (k : ℕ) → k < m → sync_in s k ≡ sync_first ∷ sync_second ∷ []) (tables : Tables) (index report : List ℕ)
    (right : RightTables tables) where
  refuses_18 : (c : ℕ) → settling ch (readings s (row_of m)) ≡ Some c → Usable c → length index < index_octets * m
      → R.reading ch s tables index report ≡ R.outcome (Err (IndexShort (index_octets * m))) index report
  unfolding R.reading R.verdict whole_verdict settled_verdict room_verdict
  refuses_18 c e u short =
      let k = every_length 0 m in
      let i : length index < index_octets * length (row_of m) = subst (λ (n : ℕ). length index < index_octets * n) (sym k) short in
      rw (
        right_passes tables right,
        cut_is s m few size syncs,
        ne_eqb (length (row_of m)) 0 (λ z. omega arith),
        e,
        fit_is c u,
        lt-ltb (length index) (index_octets * length (row_of m)) i,
      )
      (ap (λ (n : ℕ). R.outcome (Err (IndexShort (index_octets * n))) index report) k)

five_size : length five_sync ≡ sync_bits
unfolding fields field
five_size = refl

sync_enough : (least : ℕ) → least ≤ sync_bits → least ≤ matches sync sync
sync_enough least = subst (λ (n : ℕ). least ≤ n) (sym all_match)

five_match : matches five_sync sync < fewest_matches
unfolding matches fields field
five_match = lit< tt

no_ones : ones 0 ≡ 0
unfolding ones_in
no_ones = sym (ones_in_lem 1 0 (lit< tt))

one_one : ones 1 ≡ 1
unfolding ones_in
one_one = sym (ones_in_lem 1 1 (lit< tt))

none_few : ones 0 ≤ 2
none_few = omega (arith, no_ones)

one_few : ones 1 ≤ 2
one_few = omega (arith, one_one)

three_ones : ones 7 ≡ 3
unfolding ones_in
three_ones = sym (ones_in_lem 3 7 (lit< tt))

-- ---- the first multiframe is taken alone: it passes, and no place behind it does
first_alone : (s : List ℕ) (least : ℕ) → multiframe_bits ≤ searched (bits s) → passes least (bits s) 0 ≡ true
    → ((t : ℕ) → multiframe_bits ≤ t → t + multiframe_bits ≤ searched (bits s) → passes least (bits s) t ≡ false) → InARow (bits s) 0 0 least 1
first_alone s least room e none = record {
  begins = lit≤ tt;
  inside = room;
  stand = first;
  none_before = λ t a h. absurd (omega arith);
  none_behind = none;
}
  where
    first : (k : ℕ) → k < 1 → passes least (bits s) (place_in_row 0 k) ≡ true
    first zero h = e
    first (suc k) h = absurd (omega arith)

-- each fits
five_fits : H.Fits says1 [] (λ k. five_sync) untouched [] 0
five_fits = record { syncs = λ k. five_size; headers = λ k. lit< tt; around = refl; few = lit≤ tt }

clean_fits : H.Fits says1 [] (λ k. sync) (λ k. 0) [] 0
clean_fits = record { syncs = λ k. sync_size; headers = λ k. lit< tt; around = refl; few = lit≤ tt }

mended_fits : H.Fits says1 [] (λ k. sync) (λ k. 1) [] 0
mended_fits = record { syncs = λ k. sync_size; headers = λ k. lit< tt; around = refl; few = lit≤ tt }

flipped_lt : flipped_word < 2 ^ header_bits
flipped_lt = xor_lt header_bits (codeword (sent_message says1 0)) 1 (codeword_lt (sent_message says1 0) (message_lt (settings 0 0) 1 0)) (lit< tt)

start_size : length false_start ≡ sync_bits + header_bits
start_size = length-append sync (field header_bits flipped_word ++ []) ∙ omega (arith, length-append (field header_bits flipped_word) [], length_field header_bits flipped_word, sync_size)

start_fits : H.Fits says1 false_start (λ k. sync) (λ k. 0) [] 6
start_fits = record { syncs = λ k. sync_size; headers = λ k. lit< tt; around = omega (arith, start_size); few = lit≤ tt }

other_lt : other_word < 2 ^ header_bits
other_lt = xor_lt header_bits (codeword (sent_message says1_at11 0)) 0 (codeword_lt (sent_message says1_at11 0) (message_lt (settings 1 0) 1 0)) (lit< tt)

other_size : length other ≡ multiframe_bits
other_size =
    length-append sync (field header_bits other_word ++ stream (lone 1) 0 multiframe_pairs)
    ∙ omega (arith, length-append (field header_bits other_word) (stream (lone 1) 0 multiframe_pairs), length_field header_bits other_word, sync_size, length_stream (lone 1) 0 multiframe_pairs)

other_fits : H.Fits says1 [] (λ k. sync) (λ k. 0) other multiframe_octets
other_fits = record { syncs = λ k. sync_size; headers = λ k. lit< tt; around = omega (arith, other_size); few = lit≤ tt }

other_rate : common_bits (sent_message says1_at11 0) ≡ common_bits (sent_message says1 0) → ⊥
other_rate e =
    let z : ◌≡◌ {A = ℕ} 1 0 =
    sym (common_rate (message (settings 1 0) 1 0) ∙ rate_back (settings 1 0) 1 0) ∙ ap rate_of e ∙ common_rate (message (settings 0 0) 1 0) ∙ rate_back (settings 0 0) 1 0 in
    omega arith

both_of : (P : ℕ → Type 0) → P 0 → P 1 → (k : ℕ) → k < 2 → P k
both_of P p q zero h = p
both_of P p q (suc zero) h = q
both_of P p q (suc (suc k)) h = absurd (omega arith)

half_fits : (u : Utterance) → H.Fits u [] (λ k. sync) one_then_three [] 0
half_fits u = record { syncs = λ k. sync_size; headers = small; around = refl; few = lit≤ tt }
  where
    small : (k : ℕ) → one_then_three k < 2 ^ header_bits
    small zero = lit< tt
    small (suc k) = lit< tt

-- room for many is room for fewer
fewer : (m k : ℕ) → k ≤ m → (tables : Tables) (index report : List ℕ) → Lent m tables index report → Lent k tables index report
fewer m k h tables index report lent = record {
  right_tables = lent.right_tables;
  index_room = omega (arith, lent.index_room);
  report_room = omega (arith, lent.report_room);
}

module _ (ch : Choices) (tables : Tables) (index report : List ℕ) where
  -- with nothing around the multiframes no place is before them or behind
  alone_others : (u : Utterance) (y : ℕ → List Bool) (flips : ℕ → ℕ) → H.Fits u [] y flips [] 0 → (from least : ℕ) (missing : Premise)
      → ((Begins ≡ missing → ⊥) → from ≤ 0) → ((Syncs ≡ missing → ⊥) → (k : ℕ) → least ≤ matches (y k) sync)
      → ((Headers ≡ missing → ⊥) → (k : ℕ) → ones (flips k) ≤ 2) → ((Low ≡ missing → ⊥) → fewest_matches ≤ least)
      → ((Settled ≡ missing → ⊥) → CanSettle ch (multiframes_of u) (ones (flips 0)))
      → ((TablesAndRoom ≡ missing → ⊥) → Lent (multiframes_of u) tables index report)
      → (p : Premise) → (p ≡ missing → ⊥) → Holds ch u (H.hurt u [] y flips [] 0) from 0 least tables index report p
  alone_others u y flips f from least missing begins match few low settled lent =
      hurt_others ch u [] y flips [] 0 f from least tables index report missing begins match few (λ other t a h. absurd (omega arith))
      (λ other t a h. absurd (omega (arith, H.searched_are u [] y flips [] 0 f))) low settled lent

  -- the clean image of one multiframe is found
  clean_row : (least : ℕ) → least ≤ sync_bits → InARow (bits clean1) 0 0 least 1
  clean_row least high =
      let size : searched (bits clean1) ≡ multiframe_bits = H.searched_are says1 [] (λ k. sync) (λ k. 0) [] 0 clean_fits in
      first_alone clean1 least (omega arith)
      (H.passes_hurt says1 [] (λ k. sync) (λ k. 0) [] 0 clean_fits 0 (lit< tt) least (sync_enough least high) none_few) (λ t a h. absurd (omega arith))

  -- SETTLED, by default: it is found, and its header alone settles nothing: 16 (02, C-20)
  pub default_needed : one_settles ch ≡ false → (least : ℕ) → fewest_matches ≤ least → least ≤ sync_bits → Lent 1 tables index report
      → Needed ch Settled says1 clean1 0 0 least tables index report (Octets Unsettled)
  default_needed default least low high lent = record {
    others = alone_others says1 (λ k. sync) (λ k. 0) clean_fits 0 least Settled (λ other. lit≤ tt) (λ other k. sync_enough least high) (λ other k. none_few)
        (λ other. low) (λ other. absurd (other refl)) (λ other. lent);
    fails = ⊎_elim (λ h. omega arith) (λ e. true_false (sym e.0 ∙ default));
    instead = unsettled ch clean1 0 0 least 1 (clean_row least high) (lit< tt) (lit≤ tt) low high tables index report lent
        (one_default ch (readings (foundImage clean1 (row 0 1)) (row_of 1)) default (length_readings (foundImage clean1 (row 0 1)) (row_of 1)));
  }

  -- SETTLED: with one flip in the only header the multiframe is found, and nothing settles, whatever the caller chose: 16
  pub settled_needed : (least : ℕ) → fewest_matches ≤ least → least ≤ sync_bits → Lent 1 tables index report → Needed ch Settled says1 mended1 0 0 least tables index report (Octets Unsettled)
  settled_needed least low high lent =
      let f = mended_fits in
      let size : searched (bits mended1) ≡ multiframe_bits = H.searched_are says1 [] (λ k. sync) (λ k. 1) [] 0 f in
      record {
        others = alone_others says1 (λ k. sync) (λ k. 1) f 0 least Settled (λ other. lit≤ tt) (λ other k. sync_enough least high) (λ other k. one_few)
            (λ other. low) (λ other. absurd (other refl)) (λ other. lent);
        fails = ⊎_elim (λ h. omega arith) (λ e. omega (arith, e.1, H.flips_there says1 [] (λ k. sync) (λ k. 1) [] 0 f 0 (lit< tt), one_one));
        instead = mended_alone ch mended1 0 0 least 1
            (first_alone mended1 least (omega arith) (H.passes_hurt says1 [] (λ k. sync) (λ k. 1) [] 0 f 0 (lit< tt) least (sync_enough least high) one_few) (λ t a h. absurd (omega arith)))
            (lit< tt) (lit≤ tt) low high tables index report lent _ refl
            (H.mended_there says1 [] (λ k. sync) (λ k. 1) [] 0 f 0 (lit< tt) one_few)
            (λ e. omega (arith, sym (H.near_there says1 [] (λ k. sync) (λ k. 1) [] 0 f 0 (lit< tt)) ∙ e, one_one));
      }

  -- ---- of one multiframe, where the caller asks for the old rule
  module _ (asked : one_settles ch ≡ true) where
    -- SYNCS: a fifth flip in the only sync at T = 12, and nothing is found: 22
    pub syncs_needed : Lent 1 tables index report → Needed ch Syncs says1 five_flips 0 0 fewest_matches tables index report (Nowhere 0 1)
    syncs_needed lent =
        let few : matches (sync_at (bits five_flips) 0) sync < fewest_matches =
        subst (λ (x : List Bool). matches x sync < fewest_matches) (sym (H.sync_there says1 [] (λ k. five_sync) untouched [] 0 five_fits 0 (lit< tt))) five_match in
        let size : searched (bits five_flips) ≡ multiframe_bits = H.searched_are says1 [] (λ k. five_sync) untouched [] 0 five_fits in
        let one : places_left (bits five_flips) 0 ≡ 1 = omega arith in
        record {
          others = alone_others says1 (λ k. five_sync) untouched five_fits 0 fewest_matches Syncs (λ other. lit≤ tt) (λ other. absurd (other refl))
              (λ other k. none_few) (λ other. lit≤ tt) (λ other. inr (asked, no_ones)) (λ other. lent);
          fails = λ h. omega (arith, h 0 (lit< tt));
          instead = (nowhere_exactly ch five_flips 0 fewest_matches tables index report lent.right_tables (in_range_lem fewest_matches (lit≤ tt) (lit≤ tt))).1
              (λ t a h. let z : t ≡ 0 = omega arith in ap (passes fewest_matches (bits five_flips)) z ∙ unlike_fails fewest_matches (bits five_flips) 0 few)
              ∙ ap (λ (n : ℕ). outcome (Err (Nowhere 0 n)) index report) one;
        }

    -- of the clean image
    clean_others : (from least : ℕ) → least ≤ sync_bits → (missing : Premise) → ((Begins ≡ missing → ⊥) → from ≤ 0)
        → ((Low ≡ missing → ⊥) → fewest_matches ≤ least) → ((TablesAndRoom ≡ missing → ⊥) → Lent 1 tables index report)
        → (p : Premise) → (p ≡ missing → ⊥) → Holds ch says1 clean1 from 0 least tables index report p
    clean_others from least high missing begins low lent =
        alone_others says1 (λ k. sync) (λ k. 0) clean_fits from least missing begins (λ other k. sync_enough least high) (λ other k. none_few) low
        (λ other. inr (asked, no_ones)) lent

    -- LOW: at T = 11 the clean image itself is refused: 21
    pub low_needed : Lent 1 tables index report → Needed ch Low says1 clean1 0 0 11 tables index report (MatchRange 11)
    unfolding hunting_reading in_range
    low_needed lent = record {
      others = clean_others 0 11 (lit≤ tt) Low (λ other. lit≤ tt) (λ other. absurd (other refl)) (λ other. lent);
      fails = λ h. omega arith;
      instead = rw (right_passes tables lent.right_tables);
    }

    module _ (least : ℕ) (low : fewest_matches ≤ least) (high : least ≤ sync_bits) where
      -- TABLES AND ROOM: with an index buffer that is too short the clean image is found, and refused: 18
      pub room_needed : RightTables tables → length index < index_octets
          → Needed ch TablesAndRoom says1 clean1 0 0 least tables index report (Octets (IndexShort index_octets))
      room_needed right short = record {
        others = clean_others 0 least high TablesAndRoom (λ other. lit≤ tt) (λ other. low) (λ other. absurd (other refl));
        fails = λ h. omega (arith, h.index_room);
        instead = reads_in_a_row ch clean1 0 least tables index report low high right 0 1 (clean_row least high) (lit< tt) (lit≤ tt)
            ∙ ap (λ (o : R.Outcome). counted o (outside_of (bits clean1) 0 1) (tested_in_row (bits clean1) 0 0 1))
            (refuses_18 ch (foundImage clean1 (row 0 1)) 1 (lit< tt) (lit≤ tt) (image_size clean1 0 1 (clean_row least high).inside) (image_sync clean1 0 1 (clean_row least high).inside) tables
            index report right (sent_common says1)
            (ap (settling ch) (readings_are (foundImage clean1 (row 0 1)) 1) ∙ ap (λ (h : Header). settling ch (h ∷ []))
            (ap reading (image_word clean1 0 1 (clean_row least high).inside 0 (lit< tt)) ∙ H.mended_there says1 [] (λ k. sync) (λ k. 0) [] 0 clean_fits 0 (lit< tt) none_few)
            ∙ only_clean ch (decoded_as (word_at (bits clean1) 0) (sent_message says1 0)) asked (H.near_there says1 [] (λ k. sync) (λ k. 0) [] 0 clean_fits 0 (lit< tt) ∙ no_ones) ∙ ap Some (common_sent says1 0))
            (record { rate = λ e. rate_not_2 says1 (sym (rate_sent says1) ∙ e); exp = exp_sent says1 }) short);
      }

      module _ (lent : Lent 1 tables index report) where
        -- BEGINS: from bit 1 on no place has a multiframe's bits left: 22
        pub begins_needed : Needed ch Begins says1 clean1 1 0 least tables index report (Nowhere 1 0)
        begins_needed =
            let size : searched (bits clean1) ≡ multiframe_bits = H.searched_are says1 [] (λ k. sync) (λ k. 0) [] 0 clean_fits in
            let none : places_left (bits clean1) 1 ≡ 0 = omega arith in
            record {
              others = clean_others 1 least high Begins (λ other. absurd (other refl)) (λ other. low) (λ other. lent);
              fails = λ h. omega arith;
              instead = (nowhere_exactly ch clean1 1 least tables index report lent.right_tables (in_range_lem least low high)).1
                  (λ t a h. absurd (omega arith))
                  ∙ ap (λ (n : ℕ). outcome (Err (Nowhere 1 n)) index report) none;
            }

        -- NONE BEFORE: a sync and a header with one flip in front of the image are taken for a multiframe, which swallows the true one: 16
        pub none_before_needed : Needed ch NoneBefore says1 swallowed 0 (sync_bits + header_bits) least tables index report (Octets Unsettled)
        none_before_needed =
            let f = start_fits in
            let size = H.searched_are says1 false_start (λ k. sync) (λ k. 0) [] 6 f in
            let e : reading (word_at (bits swallowed) 0) ≡ Some (decoded_as flipped_word (sent_message says1 0)) =
            ap (λ (x : List Bool). reading (value x)) (H.front_there says1 false_start (λ k. sync) (λ k. 0) [] 6 f sync_bits header_bits (omega (arith, start_size)))
            ∙ ap reading (word_in_lem sync flipped_word [] sync_size flipped_lt) ∙ (mended (sent_message says1 0) 1 (message_lt (settings 0 0) 1 0) one_few).0 in
            let match : least ≤ matches (sync_at (bits swallowed) 0) sync =
            subst (λ (x : List Bool). least ≤ matches x sync)
            (sym (H.front_there says1 false_start (λ k. sync) (λ k. 0) [] 6 f 0 sync_bits (omega (arith, start_size)) ∙ sync_in_lem sync flipped_word [] sync_size)) (sync_enough least high) in
            let taken : passes least (bits swallowed) 0 ≡ true = passes_there least (bits swallowed) 0 match e in
            subst (λ (at : ℕ). Needed ch NoneBefore says1 swallowed 0 at least tables index report (Octets Unsettled)) start_size
            (record {
              others = hurt_others ch says1 false_start (λ k. sync) (λ k. 0) [] 6 f 0 least tables index report NoneBefore (λ other. omega arith)
                  (λ other k. sync_enough least high) (λ other k. none_few) (λ other. absurd (other refl)) (λ other t a h. absurd (omega (arith, start_size)))
                  (λ other. low) (λ other. inr (asked, no_ones)) (λ other. lent);
              fails = λ h. true_false (sym taken ∙ h 0 (lit≤ tt) (omega (arith, start_size)));
              instead = mended_alone ch swallowed 0 0 least 1 (first_alone swallowed least (omega arith) taken (λ t a h. absurd (omega arith)))
                  (lit< tt) (lit≤ tt) low high tables index report lent (decoded_as flipped_word (sent_message says1 0)) refl e (λ q. omega (arith, sym (mended (sent_message says1 0) 1 (message_lt (settings 0 0) 1 0) one_few).1 ∙ q, one_one));
            })

    -- NONE BEHIND: where a multiframe at 11 kHz follows the image, both are found, and nothing settles: 16
    pub none_behind_needed : (least : ℕ) → fewest_matches ≤ least → least ≤ sync_bits → Lent 2 tables index report
        → Needed ch NoneBehind says1 followed 0 0 least tables index report (Octets Unsettled)
    none_behind_needed least low high lent =
        let f = other_fits in
        let size = H.searched_are says1 [] (λ k. sync) (λ k. 0) other multiframe_octets f in
        let first = H.mended_there says1 [] (λ k. sync) (λ k. 0) other multiframe_octets f 0 (lit< tt) none_few in
        let second : reading (word_at (bits followed) multiframe_bits) ≡ Some (decoded_as other_word (sent_message says1_at11 0)) =
        ap (λ (x : List Bool). reading (value x)) (H.behind_there says1 [] (λ k. sync) (λ k. 0) other multiframe_octets f (multiframe_bits + sync_bits) header_bits (lit≤ tt))
        ∙ ap reading (word_in_lem sync other_word (stream (lone 1) 0 multiframe_pairs) sync_size other_lt) ∙ (mended (sent_message says1_at11 0) 0 (message_lt (settings 1 0) 1 0) none_few).0 in
        let match : least ≤ matches (sync_at (bits followed) multiframe_bits) sync =
        subst (λ (x : List Bool). least ≤ matches x sync)
        (sym (H.behind_there says1 [] (λ k. sync) (λ k. 0) other multiframe_octets f multiframe_bits sync_bits (lit≤ tt) ∙ sync_in_lem sync other_word (stream (lone 1) 0 multiframe_pairs) sync_size)) (sync_enough least high) in
        let taken : passes least (bits followed) multiframe_bits ≡ true = passes_there least (bits followed) multiframe_bits match second in
        record {
          others = hurt_others ch says1 [] (λ k. sync) (λ k. 0) other multiframe_octets f 0 least tables index report NoneBehind (λ o. lit≤ tt)
              (λ o k. sync_enough least high) (λ o k. none_few) (λ o t a h. absurd (omega arith)) (λ o. absurd (o refl)) (λ o. low) (λ o. inr (asked, no_ones))
              (λ o. fewer 2 1 (lit≤ tt) tables index report lent);
          fails = λ h. true_false (sym taken ∙ h multiframe_bits (lit≤ tt) (omega arith));
          instead = two_differ ch followed 0 0 least 2
              (record {
                begins = lit≤ tt;
                inside = omega arith;
                stand = both_of (λ (k : ℕ). passes least (bits followed) (place_in_row 0 k) ≡ true)
                    (H.passes_hurt says1 [] (λ k. sync) (λ k. 0) other multiframe_octets f 0 (lit< tt) least (sync_enough least high) none_few) taken;
                none_before = λ t a h. absurd (omega arith);
                none_behind = λ t a h. absurd (omega arith);
              })
              (lit< tt) (lit≤ tt) low high tables index report lent _ (decoded_as other_word (sent_message says1_at11 0)) refl first second other_rate;
        }

  -- HEADERS, of any utterance of two multiframes: one flip in the first header and three in the second, so that only the first is found, and
  -- nothing settles: 16
  module _ (u : Utterance) (two : multiframes_of u ≡ 2) (least : ℕ) (low : fewest_matches ≤ least) (high : least ≤ sync_bits)
      (lent : Lent (multiframes_of u) tables index report) where
    pub headers_needed : Needed ch Headers u (half_lost u) 0 0 least tables index report (Octets Unsettled)
    headers_needed =
        let s = half_lost u in
        let f = half_fits u in
        let size = H.searched_are u [] (λ k. sync) one_then_three [] 0 f in
        let second : passes least (bits s) multiframe_bits ≡ false =
        lost_fails least (bits s) multiframe_bits (H.lost_there u [] (λ k. sync) one_then_three [] 0 f 1 (omega arith) three_ones) in
        record {
          others = alone_others u (λ k. sync) one_then_three f 0 least Headers (λ other. lit≤ tt) (λ other k. sync_enough least high) (λ other. absurd (other refl))
              (λ other. low) (λ other. inl (le_of_eq (sym two))) (λ other. lent);
          fails = λ h. omega (arith, h 1 (omega arith), H.flips_there u [] (λ k. sync) one_then_three [] 0 f 1 (omega arith), three_ones);
          instead = mended_alone ch s 0 0 least 1
              (first_alone s least (omega arith) (H.passes_hurt u [] (λ k. sync) one_then_three [] 0 f 0 (omega arith) least (sync_enough least high) one_few)
              (λ t a h. let z : t ≡ multiframe_bits = omega arith in ap (passes least (bits s)) z ∙ second))
              (lit< tt) (lit≤ tt) low high tables index report (fewer (multiframes_of u) 1 (omega arith) tables index report lent) _ refl
              (H.mended_there u [] (λ k. sync) one_then_three [] 0 f 0 (omega arith) one_few)
              (λ q. omega (arith, sym (H.near_there u [] (λ k. sync) one_then_three [] 0 f 0 (omega arith)) ∙ q, one_one));
        }

pub room_needed_empty : Needed by_one_header TablesAndRoom says1 clean1 0 0 fewest_matches zero_tables [] (report_for 1) (Octets (IndexShort index_octets))
room_needed_empty =
    room_needed by_one_header zero_tables [] (report_for 1) refl fewest_matches (lit≤ tt) (lit≤ tt) (lent_zeros 1).right_tables (lit< tt)

pub headers_needed_24 : (ch : Choices) → Needed ch Headers says24 (half_lost says24) 0 0 fewest_matches zero_tables index24 report24 (Octets Unsettled)
headers_needed_24 ch = headers_needed ch zero_tables index24 report24 says24 two_multiframes fewest_matches (lit≤ tt) (lit≤ tt) (lent_zeros (multiframes_of says24))

pub default_needed_1 : Needed by_default Settled says1 clean1 0 0 fewest_matches zero_tables (index_for 1) (report_for 1) (Octets Unsettled)
default_needed_1 = default_needed by_default zero_tables (index_for 1) (report_for 1) refl fewest_matches (lit≤ tt) (lit≤ tt) (lent_zeros 1)

-- ---- an image of two multiframes or more, damaged as demand 3 allows, its first packet too, and alone in its octets
-- the first pair's note in what HUNTS BACK says
heard_0 : (ch : Choices) (u : Utterance) (s : List ℕ) (from at least : ℕ) (tables : Tables) (index report : List ℕ) (notes : ℕ → ℕ)
    → pair_note_in (heard ch u s from at least tables index report notes).report 0 ≡ 0
heard_0 ch u s from at least tables index report notes =
    let m = multiframes_of u in
    let g : ℕ → List ℕ = λ k. notes k ∷ replicate multiframe_pairs 0 in
    front_at report (joined g m) (report_octets * m) 1 (omega (arith, length_joined g report_octets m (λ k h. refl)))
    ∙ sym (get_or-take report_octets (joined g m) 1 0 (lit< tt)) ∙ ap (λ (l : List ℕ). get_or l 1 0) (joined_part g report_octets m 0 (λ k h. refl) (omega arith))

module _ (ch : Choices) (u : Utterance) (two : 2 ≤ multiframes_of u) (least : ℕ) (low : fewest_matches ≤ least) (high : least ≤ sync_bits) where
  abbrev m : ℕ
  m = multiframes_of u

  abbrev img : List ℕ
  img = hurt_image u

  cut : Multiframes img m
  cut = damaged_cut u img (hurts u)

  itself : bits img ≡ [] ++ (bits img ++ [])
  itself = sym (append-nil (bits img))

  there : Stands img m img 0
  there = shifted_stands img m cut img [] [] itself

  searched_img : searched (bits img) ≡ multiframe_bits * m
  searched_img =
      let few : m ≤ most_multiframes = few_multiframes u.settings u.indices (is_accepted u).sizes in
      searched_all (bits img) (omega (arith, length_bits img, cut.size)) ∙ omega (arith, length_bits img, cut.size)

  whole_syncs : (k : ℕ) → k < m → least ≤ matches (sync_at (bits img) (place_in_row 0 k)) sync
  whole_syncs k h = subst (λ (x : List Bool). least ≤ matches x sync) (sym (shifted_syncs img m cut img [] [] itself k h)) (sync_enough least high)

  first_touched : Touched (image_of u) img 0
  first_touched e =
      let p = packet_of u.indices 0 in
      let d = double_at u 0 in
      let r = stream u.indices 2 10 in
      let lp : length p ≡ packet_bits = length_packet_of u.indices 0 in
      let lb : length (burst_at u 0) ≡ packet_bits = length_flip (flip p 0) 2 ∙ length_flip p 0 ∙ lp in
      let ld : length d ≡ packet_bits = length_flip (flip (packet_of u.indices 1) 0) distance ∙ length_flip (packet_of u.indices 1) 0 ∙ length_packet_of u.indices 1 in
      let size : length (hurt_stream u 0) ≡ stream_bits = length-append (burst_at u 0) (d ++ r) ∙ omega (arith, length-append d r, length_stream u.indices 2 10) in
      let first : packet_in img 0 ≡ burst_at u 0 = made_packet (hurt_word u) (hurt_stream u) m 0 (omega arith) size ∙ take_at (burst_at u 0) (d ++ r) packet_bits lb in
      differs p (burst_at u 0) (inl (flips_burst p 0 2 (lit< tt) (lit< tt) (omega arith)))
      (sym first ∙ e ∙ image_packet u.settings u.indices m 0 (omega arith))

  named : A.Premises ch u img img 0 0 least zero_tables (index_for m) (report_for m)
  named = record {
    of_image = names_met u ch two;
    there = there;
    begins = lit≤ tt;
    inside = omega (arith, searched_img);
    syncs = whole_syncs;
    none_before = λ t a h. absurd (omega arith);
    none_behind = λ t a h. absurd (omega (arith, searched_img));
    low = low;
  }

  noted : pair_note_in (hunting_reading ch img 0 least zero_tables (index_for m) (report_for m)).report 0 ≡ 1
  noted = ((A.names_at_any_bit ch u img img 0 0 least zero_tables (index_for m) (report_for m) named).names.damaged 0 (omega arith)).1 first_touched

  named_others : (p : Premise) → (p ≡ Streams → ⊥) → Holds ch u img 0 0 least zero_tables (index_for m) (report_for m) p
  named_others Begins other = lit≤ tt
  named_others Inside other = named.inside
  named_others Syncs other = whole_syncs
  named_others Headers other = λ k h.
      subst (λ (n : ℕ). n ≤ 2) (sym (ap (λ (x : ℕ). ones (bit_xor x (word_in (image_of u) k))) (there.words k h))) ((hurts u).headers k h)
  named_others Streams other = absurd (other refl)
  named_others NoneBefore other = named.none_before
  named_others NoneBehind other = named.none_behind
  named_others Low other = low
  named_others Settled other = inl two
  named_others TablesAndRoom other = lent_zeros m

  -- STREAMS: with the first packet damaged the image is read, and the first pair's note is 1
  pub streams_needed : NeededForNotes ch Streams u (hurt_image u) 0 0 least zero_tables (index_for (multiframes_of u)) (report_for (multiframes_of u))
  streams_needed = record {
    others = named_others;
    fails = λ h. first_touched (ap (λ (l : List Bool). stream_packet l 0) (sym (there.streams 0 (omega arith)) ∙ h 0 (omega arith)));
    instead = noted;
    not_heard = λ notes e.
        let z : ◌≡◌ {A = ℕ} 0 1 =
        sym (heard_0 ch u img 0 0 least zero_tables (index_for m) (report_for m) notes) ∙ ap (λ (o : Outcome). pair_note_in o.report 0) (sym e) ∙ noted in
        omega arith;
  }

pub streams_needed_24 : (ch : Choices) → NeededForNotes ch Streams says24 (hurt_image says24) 0 0 fewest_matches zero_tables index24 report24
streams_needed_24 ch = streams_needed ch says24 (le_of_eq (sym two_multiframes)) fewest_matches (lit≤ tt) (lit≤ tt)
