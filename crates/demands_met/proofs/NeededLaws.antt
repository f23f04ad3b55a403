-- Why premises are there: what happens instead of one multiframe by default (02, C-20), where a single header was mended, where every pair is bad, where two flips are 15 apart, where a
-- header has three flips, and where an image has no end or an inverse sync. Sizes, tables and room are refusals by definition and stand in `page_written` and `page_received`.
-- Assumes nothing.
use Rattle.std.specs.Prelude.{◌≡◌, refl, Bool, true, false, List, [], ◌∷◌, ◌++◌, ℕ, suc, ◌+◌, ◌*◌, ◌/◌, ◌%◌, ◌^◌, ◌≤◌, ◌<◌, length, get_or, replicate, take, drop, Ok, Err}
use Rattle.std.proofs.Math.Path.{sym, ap}
use Rattle.std.proofs.Common.{ap₂, ◌∙◌, subst, inl, inr, arith, lit<, ne_eqb}
use Rattle.std.proofs.Math.Bool.{xor}
use Rattle.std.specs.Int.Bits.{bit_xor, xor_self}
use Rattle.std.proofs.lemmas.Nat.{xor_lt}
use Rattle.std.specs.Int.Count.{ones, ones_in}
use Rattle.std.proofs.lemmas.List.{take-append-le}
use Rattle.cutting.specs.Cutting.{cutting}
use Rattle.replacing.specs.Speech.{speech_of, end_of}
use Rattle.deciding.specs.Deciding.{received_notes}
use Rattle.reader.specs.Reading.{index_part, Outcome}
use Rattle.reader.proofs.ReadingLaws.{length_index}
use Rattle.reader.specs.declared.Summary.{Summary}
use Rattle.image.specs.Image.{image}
use Rattle.image.specs.Made.{sync_in, word_in, packet_in, made_sync, made_word, made_packet}
use Rattle.image.proofs.Laws.{length_image, image_made, image_sync, image_word, image_packet}
use Rattle.writer.proofs.Utterance.{success}
use Rattle.demands.specs.Noteless.{spoken, count_spoken, speech_lt, speech_le, speech_full}
use Rattle.demands.specs.WritesAgain as A
use Rattle.demands.proofs.WritesAgainLaws as AL
use Rattle.polynomials.specs.Light.{ones_in_lem}
use Rattle.polynomials.specs.Xor.{xor_swap}
use Rattle.lists.specs.Tests.{true_false}
use Rattle.lists.specs.Rows.{length_joined, joined_part}
use Rattle.layout.specs.Layout.{frame_indices, multiframe_frames, index_octets, packet_bits, multiframe_pairs, multiframe_octets, most_multiframes, stream_octets, first_pair, multiframe_of, sync}
use Rattle.choices.specs.Choices.{one_settles, by_default, by_one_header}
use Rattle.choices.specs.declared.Choices.{Choices}
use Rattle.tables.specs.Tables.{Tables, zero_tables}
use Rattle.settings.specs.declared.Settings.{Settings}
use Rattle.settings.specs.Settings.{settings}
use Rattle.bits.specs.Bits.{field, laid}
use Rattle.crc.specs.Crc.{crc, after, flip, Damaged}
use Rattle.crc.proofs.Damage.{length_flip, flip_burst}
use Rattle.packet.specs.Packet.{packet, guarded, row, packet_of, stream}
use Rattle.packet.proofs.Laws.{length_packet_of, length_stream}
use Rattle.header_code.specs.Code.{codeword, flips_to}
use Rattle.header_code.specs.Code.Distance.{codeword_lt}
use Rattle.header_code.specs.Code.Syndrome.{codeword_xor}
use Rattle.header_code.proofs.Examples.{three_from_rate_1}
use Rattle.message.specs.Message.{message, settings_of}
use Rattle.message.specs.Message.Laws.{message_lt, message_back, message_counts, rate_masked, type_masked, count_masked, exp_shifted}
use Rattle.header.proofs.Laws.{flips_of}
use Rattle.carrier.specs.Carrier.{stream_packet, received, pair_count}
use Rattle.notes.specs.Laws.{length_notes}
use Rattle.cutting.proofs.Laws.{every_length}
use Rattle.bad_pairs.specs.BadPairs.{bad, bad_pairs}
use Rattle.reader.specs.Reading.{outcome, reading}
use Rattle.refusals.specs.declared.Reading.TheVariants.{Unsettled, AllBad}
use Rattle.writer.specs.Writing.{writing}
use Rattle.writer.proofs.Laws.{few_multiframes}
use Rattle.writer.specs.Utterance.{Utterance, multiframes_of, pairs_of, image_of}
use Rattle.writer.proofs.Utterance.{is_accepted, rate_not_2}
use Rattle.damage.specs.Damage.{Damage, loosened, header_flips, sent_message, header_near, differs}
use Rattle.damage.proofs.Damages.{damage_made, unharmed}
use Rattle.damage.specs.Instances.{lone, says1}
use Rattle.damage.proofs.Instances.{past_packet}
use Rattle.demands_met.specs.Met.{index_for, report_for, hurt_word, hurt_stream, hurt_image}
use Rattle.demands_met.proofs.MetLaws.{lent_zeros, hurts}
use Rattle.demands.specs.Whole.{row_of, Lent}
use Rattle.demands.proofs.WholeLaws.{refuses_16, refuses_20}
use Rattle.demands.specs.Headers.{CanSettle, sent_common}
use Rattle.demands.proofs.HeadersLaws.{enough, settles, touched_unsettles, default_unsettles, rate_sent, exp_sent}
use Rattle.demands.specs.Received.{BadPair, Tells, is_so, not_so}
use Rattle.demands.proofs.ReceivedLaws.{tells_bad}
use Rattle.demands_met.specs.Needed.{Confuses, Passes15, all_hit, all_hurt, confused, eighth, halfway, halfway_word, sent_word}

-- ---- A SINGLE MENDED HEADER UNSETTLES: of one multiframe, a header that is touched at all is refusal 16, and both buffers stay
module _ (ch : Choices) (u : Utterance) (s : List ℕ) (d : Damage (multiframes_of u) (image_of u) s) (tables : Tables) (index report : List ℕ)
    (lent : Lent (multiframes_of u) tables index report) where
  abbrev m : ℕ
  m = multiframes_of u

  few : m ≤ most_multiframes
  few = few_multiframes u.settings u.indices (is_accepted u).sizes

  size : length s ≡ multiframe_octets * m
  size = d.size ∙ length_image u.settings u.indices m

  syncs : (k : ℕ) → k < m → sync_in s k ≡ sync
  syncs k h = d.syncs k h ∙ image_sync u.settings u.indices m k h

  pub mended_unsettles : m ≡ 1 → (header_flips (image_of u) s 0 ≡ 0 → ⊥) → reading ch s tables index report ≡ outcome (Err Unsettled) index report
  mended_unsettles one touched =
      refuses_16 ch s m few size syncs tables index report (omega arith) lent (touched_unsettles u s (loosened (lit< tt) d).headers ch one touched)

  -- ---- BY DEFAULT ONE MULTIFRAME UNSETTLES (02, C-20): touched or not it is refusal 16, and both buffers stay
  pub default_unsettled : one_settles ch ≡ false → m ≡ 1 → reading ch s tables index report ≡ outcome (Err Unsettled) index report
  default_unsettled default one = refuses_16 ch s m few size syncs tables index report (omega arith) lent (default_unsettles ch u s default one)

  -- ---- ALL PAIRS BAD REFUSES: refusal 20, and both buffers stay
  all_counted : (l : List ℕ) → ((k : ℕ) → k < length l → bad (get_or l k 0) ≡ true) → bad_pairs l ≡ length l
  all_counted [] h = refl
  all_counted (x ∷ l) h =
      rw (ne_eqb x 0 (λ e. true_false (sym (h 0 (omega arith)) ∙ ap bad e))) (ap suc (all_counted l (λ k j. h (suc k) (omega arith))))

  pub all_bad_refuses : CanSettle ch m (header_flips (image_of u) s 0) → ((q : ℕ) → q < pairs_of u → BadPair u s tables q)
      → reading ch s tables index report ≡ outcome (Err AllBad) index report
  all_bad_refuses heads every =
      let ns = received_notes s (row_of m) tables in
      let ln : length ns ≡ pair_count (row_of m) = length_notes (received s (row_of m)) (pair_count (row_of m)) tables in
      refuses_20 ch s m few size syncs tables index report (omega arith) lent (sent_common u) (settles u s (loosened (lit< tt) d).headers ch (enough ch u s d heads))
      (record { rate = λ e. rate_not_2 u (sym (rate_sent u) ∙ e); exp = exp_sent u })
      (all_counted ns (λ k h. note k (omega (arith, ln, every_length 0 m))) ∙ ln)
    where
      note : (q : ℕ) → q < pairs_of u → bad (get_or (received_notes s (row_of m) tables) q 0) ≡ true
      note q h = by (tells_bad u s d tables q h)
        where
          by : Tells (BadPair u s tables q) (bad (get_or (received_notes s (row_of m) tables) q 0))
              → bad (get_or (received_notes s (row_of m) tables) q 0) ≡ true
          by (is_so x e) = e
          by (not_so n e) = absurd (n (every q h))

module _ (u : Utterance) where
  flip_size : (q : ℕ) → length (flip (packet_of u.indices q) 0) ≡ packet_bits
  flip_size q = length_flip (packet_of u.indices q) 0 ∙ length_packet_of u.indices q

  hit_size : (k : ℕ) → length (all_hit u k) ≡ 8 * stream_octets
  hit_size k = length_joined (λ r. flip (packet_of u.indices (first_pair k + r)) 0) packet_bits multiframe_pairs (λ r h. flip_size (first_pair k + r))

  one_flip : (q : ℕ) → Damaged (packet_of u.indices q) (flip (packet_of u.indices q) 0)
  one_flip q = inl (flip_burst (packet_of u.indices q) 0 (omega (arith, length_packet_of u.indices q)))

  hit_part : (q : ℕ) → stream_packet (all_hit u (multiframe_of q)) q ≡ flip (packet_of u.indices q) 0
  hit_part q =
      let e : multiframe_pairs * (q / multiframe_pairs) + q % multiframe_pairs ≡ q = omega arith in
      joined_part (λ r. flip (packet_of u.indices (first_pair (q / multiframe_pairs) + r)) 0) packet_bits multiframe_pairs (q % multiframe_pairs) (λ r h. flip_size (first_pair (q / multiframe_pairs) + r)) (omega arith)
      ∙ ap (λ (p : ℕ). flip (packet_of u.indices p) 0) e

  none_wrong : (k : ℕ) → flips_to (sent_word u k) (sent_message u k) ≡ 0
  unfolding flips_to ones_in
  none_wrong k = ap ones (xor_self (codeword (sent_message u k))) ∙ sym (ones_in_lem 1 0 (lit< tt))

  pub all_hurts : Damage (multiframes_of u) (image_of u) (all_hurt u)
  all_hurts =
      damage_made u (sent_word u) (all_hit u)
      record {
        words = λ k h. codeword_lt (sent_message u k) (message_lt u.settings (k + 1) 0);
        near_words = λ k h. omega (arith, none_wrong k);
        sizes = λ k h. hit_size k;
        each = λ q h. inr (subst (Damaged (packet_of u.indices q)) (sym (hit_part q)) (one_flip q));
      }

  pub all_bad_lem : (tables : Tables) (q : ℕ) → q < pairs_of u → BadPair u (all_hurt u) tables q
  all_bad_lem tables q h =
      inl (λ e. differs (packet_of u.indices q) (flip (packet_of u.indices q) 0) (one_flip q)
      (sym (made_packet (sent_word u) (all_hit u) (multiframes_of u) q h (hit_size (q / multiframe_pairs)) ∙ hit_part q) ∙ e
      ∙ image_packet u.settings u.indices (multiframes_of u) q h))

packet_1 : packet_of (lone 1) 0 ≡ true ∷ (replicate 89 false ++ (true ∷ false ∷ []))
unfolding packet_of packet guarded crc after row laid field xor
packet_1 = refl

packet_eighth : packet_of eighth 0 ≡ replicate 15 false ++ (true ∷ (replicate 74 false ++ (true ∷ false ∷ [])))
unfolding packet_of packet guarded crc after row laid field xor
packet_eighth = refl

pub passes_15 : Passes15
passes_15 = record {
  syncs = λ k h. image_sync (settings 0 0) eighth 1 k h ∙ sym (image_sync (settings 0 0) (lone 1) 1 k h);
  headers = λ k h. image_word (settings 0 0) eighth 1 k h ∙ sym (image_word (settings 0 0) (lone 1) 1 k h);
  first = image_packet (settings 0 0) eighth 1 0 (omega arith) ∙ packet_eighth
      ∙ sym (ap (λ (p : List Bool). flip (flip p 0) 15) (image_packet (settings 0 0) (lone 1) 1 0 (omega arith) ∙ packet_1));
  others = λ q h l.
      image_packet (settings 0 0) eighth 1 q (omega arith) ∙ past_packet eighth (lone 1) q (omega arith) (omega arith) ∙ sym (image_packet (settings 0 0) (lone 1) 1 q (omega arith));
  different = λ e. true_false (sym (ap (λ (p : List Bool). get_or p 0 false) (sym packet_eighth ∙ e ∙ packet_1)));
}

message_9 : message (settings 1 0) 1 0 ≡ 9
message_9 =
    ap₂ (λ (a b : ℕ). message (settings a b) 1 0) (rate_masked 9) (type_masked 9) ∙ ap₂ (message (settings_of 9)) (count_masked 9) (exp_shifted 9 (lit< tt))
    ∙ message_back 9 (lit< tt)

-- the codewords of 8 kHz and 11 kHz differ by that of SampRate 1 alone
codeword_9 : codeword 9 ≡ bit_xor (codeword 8) (codeword 1)
codeword_9 = codeword_xor 8 1 (lit< tt) (lit< tt)

three_8 : flips_to (bit_xor (codeword 8) halfway) 8 ≡ 3
unfolding ones_in
three_8 = let e : ones halfway ≡ 3 = sym (ones_in_lem 32 halfway (lit< tt)) in flips_of 8 halfway ∙ e

three_11 : flips_to (bit_xor (codeword 8) halfway) 9 ≡ 3
unfolding flips_to
three_11 =
    ap (λ (x : ℕ). ones (bit_xor (bit_xor (codeword 8) halfway) x)) codeword_9
    ∙ ap ones (xor_swap (codeword 8) halfway (codeword 8) (codeword 1) ∙ ap (λ (x : ℕ). bit_xor x (bit_xor halfway (codeword 1))) (xor_self (codeword 8)))
    ∙ three_from_rate_1

word_lt : bit_xor (codeword 8) halfway < 2 ^ 32
word_lt = xor_lt 32 (codeword 8) halfway (codeword_lt 8 (lit< tt)) (lit< tt)

pub three_confuse : Confuses
unfolding flips_to
three_confuse = record {
  three_of_8 = ap₂ (λ (a b : ℕ). ones (bit_xor a b)) word (image_word (settings 0 0) (lone 1) 1 0 (lit< tt) ∙ ap codeword message_counts.0) ∙ three_8;
  three_of_11 = ap₂ (λ (a b : ℕ). ones (bit_xor a b)) word (image_word (settings 1 0) (lone 1) 1 0 (lit< tt) ∙ ap codeword message_9) ∙ three_11;
  whole_of_8 = λ q h. packets (settings 0 0) q h;
  whole_of_11 = λ q h. packets (settings 1 0) q h;
  syncs_of_8 = made_sync halfway_word streams 1 0 (lit< tt) ∙ sym (image_sync (settings 0 0) (lone 1) 1 0 (lit< tt));
  syncs_of_11 = made_sync halfway_word streams 1 0 (lit< tt) ∙ sym (image_sync (settings 1 0) (lone 1) 1 0 (lit< tt));
}
  where
    streams : ℕ → List Bool
    streams k = stream (lone 1) (first_pair k) multiframe_pairs

    word : word_in confused 0 ≡ bit_xor (codeword 8) halfway
    word = made_word halfway_word streams 1 0 (lit< tt) word_lt

    packets : (x : Settings) (q : ℕ) → q < multiframe_pairs → packet_in confused q ≡ packet_in (image x (lone 1) 1) q
    packets x q h =
        sym (ap (λ (s : List ℕ). packet_in s q) (image_made x (lone 1) 1)
        ∙ made_packet (λ k. codeword (message x (k + 1) 0)) streams 1 q (omega arith) (length_stream (lone 1) (first_pair (q / multiframe_pairs)) multiframe_pairs)
        ∙ sym (made_packet halfway_word streams 1 q (omega arith) (length_stream (lone 1) (first_pair (q / multiframe_pairs)) multiframe_pairs)))

-- ---- both refusals, of the utterance 1 at 8 kHz
mended_1 : header_flips (image_of says1) (hurt_image says1) 0 ≡ 2
unfolding ones_in
mended_1 =
    let w = codeword (sent_message says1 0) in
    let l : bit_xor w 3 < 2 ^ 32 = xor_lt 32 w 3 (codeword_lt (sent_message says1 0) (message_lt (settings 0 0) 1 0)) (lit< tt) in
    let e : ones 3 ≡ 2 = sym (ones_in_lem 2 3 (lit< tt)) in
    sym (header_near says1 (hurt_image says1) 0 (lit< tt))
    ∙ ap (λ (x : ℕ). flips_to x (sent_message says1 0)) (made_word (hurt_word says1) (hurt_stream says1) 1 0 (lit< tt) l) ∙ flips_of (sent_message says1 0) 3 ∙ e

pub unsettled_1 : (ch : Choices) → reading ch (hurt_image says1) zero_tables (index_for 1) (report_for 1) ≡ outcome (Err Unsettled) (index_for 1) (report_for 1)
unsettled_1 ch =
    mended_unsettles ch says1 (hurt_image says1) (hurts says1) zero_tables (index_for 1) (report_for 1) (lent_zeros 1) refl
    (λ e. let z : ◌≡◌ {A = ℕ} 2 0 = sym mended_1 ∙ e in omega arith)

-- AND THE IMAGE OF ONE MULTIFRAME as it was written, by default: demand 2's reading back and demand 3 need two multiframes there
pub default_1 : reading by_default (image_of says1) zero_tables (index_for 1) (report_for 1) ≡ outcome (Err Unsettled) (index_for 1) (report_for 1)
default_1 = default_unsettled by_default says1 (image_of says1) (unharmed says1) zero_tables (index_for 1) (report_for 1) (lent_zeros 1) refl refl

untouched_1 : header_flips (image_of says1) (all_hurt says1) 0 ≡ 0
untouched_1 =
    sym (header_near says1 (all_hurt says1) 0 (lit< tt))
    ∙ ap (λ (x : ℕ). flips_to x (sent_message says1 0))
    (made_word (sent_word says1) (all_hit says1) 1 0 (lit< tt) (codeword_lt (sent_message says1 0) (message_lt (settings 0 0) 1 0))) ∙ none_wrong says1 0

pub all_bad_1 : reading by_one_header (all_hurt says1) zero_tables (index_for 1) (report_for 1) ≡ outcome (Err AllBad) (index_for 1) (report_for 1)
all_bad_1 =
    all_bad_refuses by_one_header says1 (all_hurt says1) (all_hurts says1) zero_tables (index_for 1) (report_for 1) (lent_zeros 1) (inr (refl, untouched_1))
    (all_bad_lem says1 zero_tables)

-- ---- WRITES AGAIN NEEDS AN END AND NO INVERSE SYNC: of what was read and is accepted, the writer writes as many multiframes as were read if the
-- end is 1, so whatever stood between them is gone, and one more if it is 0
module _ (ch : Choices) (s : List ℕ) (tables : Tables) (index report output : List ℕ) (given : Summary)
    (succeeds : (A.result ch s tables index report output given).answer ≡ Ok given) (octets : ℕ)
    (accepts : (A.again ch s tables index report output given).answer ≡ Ok octets) where
  w : A.WasRead ch s tables index report output given
  w = AL.was_read ch s tables index report output given succeeds

  abbrev places : List ℕ
  places = (cutting s).places

  abbrev all : List ℕ
  all = index_part s places (received_notes s places tables)

  read_size : length all ≡ frame_indices * (multiframe_frames * length places)
  read_size = length_index s places (received_notes s places tables) (length_notes (received s places) (pair_count places) tables) ∙ omega arith

  some : 0 < length places
  some = by (length places) w.reader_accepts.some
    where
      by : (k : ℕ) → (k ≡ 0 → ⊥) → 0 < k
      by k h = omega arith

  count : given.multiframes ≡ length places
  count = ap (λ (g : Summary). g.multiframes) w.given_is

  end_is : given.end ≡ end_of (length places) all
  end_is = ap (λ (g : Summary). g.end) w.given_is

  frames_are : take (frame_indices * given.speech) (A.result ch s tables index report output given).index ≡ spoken all (length places) some read_size
  frames_are =
      let n = speech_of (length places) all in
      ap₂ (λ (k : ℕ) (o : Outcome). take (frame_indices * k) o.index) (ap (λ (g : Summary). g.speech) w.given_is) w.result_is
      ∙ take-append-le (frame_indices * n) all (drop (0 + index_octets * length places) index) (omega (arith, read_size, speech_le all (length places) some read_size))

  octets_are : octets ≡ multiframe_octets * (speech_of (length places) all / multiframe_frames + 1)
  octets_are =
      let x = spoken all (length places) some read_size in
      (success given.settings x output octets (ap (λ (l : List ℕ). (writing given.settings l output).answer) (sym frames_are) ∙ accepts)).0
      ∙ ap (λ (k : ℕ). multiframe_octets * (k / multiframe_frames + 1)) (count_spoken all (length places) some read_size)

  pub with_end : given.end ≡ 1 → octets ≡ multiframe_octets * given.multiframes
  with_end e =
      let l = speech_lt all (length places) some read_size (sym end_is ∙ e) in
      octets_are ∙ omega (arith, count)

  pub without_end : given.end ≡ 0 → octets ≡ multiframe_octets * (given.multiframes + 1)
  without_end e =
      let l = speech_full all (length places) some read_size (sym end_is ∙ e) in
      octets_are ∙ omega (arith, count)
