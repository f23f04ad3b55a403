-- WHY EVERY HEADER MAY HAVE AT MOST TWO FLIPS at the hunting reader. Of two multiframes the first header has three flips, so that its multiframe is
-- not found, and the second has eight and is a codeword of another rate; all else is as it was sent. Where the caller asks for the old rule (02, C-20),
-- the reading succeeds and every note is 0, yet rate, count and speech are not those sent: only the bits outside and the places tested tell. By default
-- the same bits are refused with 16. The octet reader refuses the same octets by either choice.
-- Assumes nothing.
use Rattle.std.specs.Prelude.{ℕ, zero, suc, ◌+◌, ◌*◌, ◌/◌, ◌^◌, ◌≤◌, ◌<◌, ◌≡◌, refl, List, [], ◌∷◌, ◌++◌, Bool, true, false, T, ltb, length, get_or, replicate, Some, None, Ok, Err}
use Rattle.std.proofs.Common.{sym, ap, ap₂, ◌∙◌, subst, append-nil, inl, inr, le_of_eq, arith, lit<, lit≤, get_or-append-add, ltb-true}
use Rattle.std.proofs.Math.Bool.{xor}
use Rattle.std.specs.Int.Bits.{bit_xor}
use Rattle.std.specs.Int.Count.{ones, ones_in}
use Rattle.std.proofs.lemmas.List.{length-replicate, replicate-append-replicate}
use Rattle.polynomials.specs.Light.{ones_in_lem}
use Rattle.lists.specs.Tests.{all_holds}
use Rattle.lists.specs.Parts.{part, over}
use Rattle.layout.specs.Layout.{widths, frame_indices, multiframe_pairs, stream_octets, index_octets, report_octets}
use Rattle.choices.specs.Choices.{one_settles}
use Rattle.choices.specs.declared.Choices.{Choices}
use Rattle.tables.specs.Tables.{Tables}
use Rattle.settings.specs.Settings.{settings}
use Rattle.bits.specs.Bits.{field, fields, value, laid, numbers, bits, octets}
use Rattle.bits.proofs.Laws.{length_bits}
use Rattle.carrier.specs.Carrier.{stream_packet}
use Rattle.crc.specs.Crc.{after, crc}
use Rattle.packet.specs.Packet.{guarded, packet, row, packet_of, stream}
use Rattle.header_code.specs.Code.{codeword, flips_to}
use Rattle.header_code.specs.Code.Distance.{itself_near}
use Rattle.header_code.specs.Code.Syndrome.{codeword_xor}
use Rattle.header_code.specs.Code.Examples as E
use Rattle.message.specs.Message.{message}
use Rattle.message.specs.Message.Laws.{message_lt, message_counts, packed}
use Rattle.header.specs.Reading.{decoded_as, reading}
use Rattle.header.proofs.Laws.{near}
use Rattle.header.specs.declared.Decoded.{Decoded}
use Rattle.header.specs.Types.{Header}
use Rattle.header_readings.specs.Readings.{readings}
use Rattle.settling.specs.Settling.{settling, first_agreeing}
use Rattle.hunt.specs.Hunt.{sync_bits, header_bits, multiframe_bits, fewest_matches, sync, matches, passes, searched}
use Rattle.hunt.proofs.Laws.{searched_all}
use Rattle.reader.specs.Reading as R
use Rattle.refusals.specs.declared.Reading.TheVariants.{Unsettled}
use Rattle.gathering.specs.Gathering.{outside_of}
use Rattle.hunting.specs.Hunting.{counted, outcome, hunting_reading}
use Rattle.refusals.specs.declared.Hunting.TheVariants.{Octets}
use Rattle.damage.proofs.Damages.{unharmed}
use Rattle.demands_met.proofs.NeededLaws.{default_unsettled}
use Rattle.image.specs.Made.{sync_in, word_in, stream_in, packet_in, length_made, small_made, made_sync, made_word, made_stream}
use Rattle.image.proofs.Laws.{length_image, image_small, image_sync, image_word, image_stream}
use Rattle.settling.proofs.Laws.{two_or_more}
use Rattle.writer.specs.Utterance.{multiframes_of, pairs_of, image_of}
use Rattle.damage.specs.Damage.{any_header, header_flips, header_lost}
use Rattle.demands.specs.Whole.{Lent, row_of}
use Rattle.demands.proofs.WholeLaws.{readings_are, refuses_16}
use Rattle.demands.specs.ReadsBack.{spoken, padded}
use Rattle.demands.proofs.ReadsBackLaws.{reads_image}
use Rattle.hunting_demands.specs.Standing.{place_in_row, sync_at, word_at, stream_at, all_match, passes_there, unlike_fails, lost_fails, InARow, tested_in_row}
use Rattle.hunting_demands.specs.AsRead.{Multiframes, Stands, as_read, shifted_syncs, shifted_stands}
use Rattle.hunting_demands.specs.HuntsBack.{Premise, Begins, Inside, Syncs, Headers, Streams, NoneBefore, NoneBehind, Low, Settled, TablesAndRoom, Holds}
use Rattle.hunting_missed.specs.Missed.{small_fours, written_25, written_1, sent, heard, words, streams, garbled}
use Rattle.hunting_missed.specs.Missed as Stated

-- ---- the words of the three headers
first_word : codeword (message (settings 0 0) 1 0) ≡ 0xEE0E0008
first_word = ap codeword message_counts.0 ∙ E.of_octets (codeword 8) 0x08 0x00 0x0E 0xEE E.count_1

second_word : codeword (message (settings 0 0) 2 0) ≡ 0x0D1D0010
second_word = ap codeword message_counts.1 ∙ E.of_octets (codeword 16) 0x10 0x00 0x1D 0x0D E.count_2

-- the sum of two codewords is one
heard_word : codeword (message (settings 1 0) 1 0) ≡ 0x3F0F0009
heard_word =
    let m : message (settings 1 0) 1 0 ≡ 9 = sym (packed (settings 1 0) 1 0) in
    ap codeword m ∙ codeword_xor 8 1 (lit< tt) (lit< tt) ∙ ap₂ bit_xor (E.of_octets (codeword 8) 0x08 0x00 0x0E 0xEE E.count_1) E.codeword_1

-- ---- no place from bit 1 to bit 1,151 has twelve matches
is_true : (b : Bool) → T b → b ≡ true
is_true true t = refl
is_true false t = absurd t

few_match : (j : ℕ) → j < 1151 → matches (part (suc j) sync_bits (bits garbled)) sync < fewest_matches
unfolding matches fields field value numbers stream packet_of packet guarded row laid crc after xor
few_match j h =
    ltb-true (matches (part (suc j) sync_bits (bits garbled)) sync) fewest_matches
    (is_true (ltb (matches (part (suc j) sync_bits (bits garbled)) sync) fewest_matches)
    (all_holds (λ i. ltb (matches (part (suc i) sync_bits (bits garbled)) sync) fewest_matches) 1151 tt j h))

-- ---- the second stream is that of what is heard: it holds what stands behind the first multiframe's frames
row_on : (a b : List ℕ) (at n i : ℕ) → i ≡ length a + at → row (a ++ b) i n ≡ row b at n
unfolding row
row_on a b at zero i e = refl
row_on a b at (suc n) i e =
    let z : i + n ≡ length a + (at + n) = omega arith in
    ap₂ (λ (l : List ℕ) (x : ℕ). l ++ (x ∷ [])) (row_on a b at n i e) (ap (λ (j : ℕ). get_or (a ++ b) j 0) z ∙ get_or-append-add a b (at + n) 0)

packet_on : (a b : List ℕ) (q : ℕ) → length a ≡ index_octets → packet_of (a ++ b) (multiframe_pairs + q) ≡ packet_of b q
unfolding packet_of
packet_on a b q e = ap₂ (packet widths) (row_on a b (frame_indices * (2 * q)) frame_indices (frame_indices * (2 * (multiframe_pairs + q))) (omega arith)) (row_on a b (frame_indices * (2 * q + 1)) frame_indices (frame_indices * (2 * (multiframe_pairs + q) + 1)) (omega arith))

stream_on : (a b : List ℕ) (n : ℕ) → length a ≡ index_octets → stream (a ++ b) multiframe_pairs n ≡ stream b 0 n
unfolding stream
stream_on a b zero e = refl
stream_on a b (suc n) e =
    let z : n ≡ 0 + n = omega arith in
    ap₂ (λ (x y : List Bool). x ++ y) (stream_on a b n e) (packet_on a b n e ∙ ap (packet_of b) z)

same_stream : streams 1 ≡ stream heard.indices 0 multiframe_pairs
same_stream =
    ap (λ (l : List ℕ). stream l multiframe_pairs multiframe_pairs) (sym (replicate-append-replicate 168 7 4))
    ∙ stream_on (replicate 168 4) (replicate 7 4) multiframe_pairs (length-replicate {A = ℕ} 168 4)

-- ---- what stands in them
abbrev m : ℕ
m = multiframes_of sent

word_small : (k : ℕ) → words k < 2 ^ header_bits
word_small zero = lit< tt
word_small (suc k) = lit< tt

cut : Multiframes garbled 2
cut = record { size = length_made words streams 2; small = small_made words streams 2; syncs = made_sync words streams 2 }

itself : bits garbled ≡ [] ++ (bits garbled ++ [])
itself = sym (append-nil (bits garbled))

stands : Stands garbled 2 garbled 0
stands = shifted_stands garbled 2 cut garbled [] [] itself

word_came : (k : ℕ) → k < 2 → word_in garbled k ≡ words k
word_came k h = made_word words streams 2 k h (word_small k)

stream_came : (k : ℕ) → k < 2 → stream_in garbled k ≡ stream_in (image_of sent) k
stream_came k h = made_stream words streams 2 k h ∙ sym (image_stream sent.settings sent.indices m k h)

searched_are : searched (bits garbled) ≡ 2304
searched_are = searched_all (bits garbled) (omega (arith, length_bits garbled, cut.size)) ∙ omega (arith, length_bits garbled, cut.size)

-- three flips in the first header, eight in the second
first_flips : header_flips (image_of sent) garbled 0 ≡ 3
unfolding ones_in
first_flips =
    ap₂ (λ (a b : ℕ). ones (bit_xor a b)) (word_came 0 (lit< tt)) (image_word sent.settings sent.indices m 0 (lit< tt) ∙ first_word)
    ∙ sym (ones_in_lem header_bits 0x000E0000 (lit< tt))

second_flips : header_flips (image_of sent) garbled 1 ≡ 8
unfolding ones_in
second_flips =
    ap₂ (λ (a b : ℕ). ones (bit_xor a b)) (word_came 1 (lit< tt)) (image_word sent.settings sent.indices m 1 (lit< tt) ∙ second_word)
    ∙ sym (ones_in_lem header_bits 0x32120019 (lit< tt))

-- so the first is lost, and the second is read as a codeword of 11 kHz without a flip
first_lost : reading (word_in garbled 0) ≡ None
first_lost = header_lost sent garbled 0 (lit< tt) first_flips

second_clean : flips_to (word_in garbled 1) (message (settings 1 0) 1 0) ≡ 0
second_clean = itself_near (word_in garbled 1) (message (settings 1 0) 1 0) (heard_word ∙ sym (word_came 1 (lit< tt)))

second_read : reading (word_in garbled 1) ≡ Some (decoded_as (word_in garbled 1) (message (settings 1 0) 1 0))
second_read = near (word_in garbled 1) (message (settings 1 0) 1 0) (message_lt (settings 1 0) 1 0) (omega (arith, second_clean))

-- ---- what the hunting reader finds: the second multiframe alone
module _ (least : ℕ) (low : fewest_matches ≤ least) (high : least ≤ sync_bits) where
  syncs_match : (k : ℕ) → k < 2 → least ≤ matches (sync_at (bits garbled) (place_in_row 0 k)) sync
  syncs_match k h = subst (λ (x : List Bool). least ≤ matches x sync) (sym (shifted_syncs garbled 2 cut garbled [] [] itself k h)) (omega (arith, all_match))

  not_before : (t : ℕ) → t < multiframe_bits → passes least (bits garbled) t ≡ false
  not_before zero h = lost_fails least (bits garbled) 0 (ap reading (stands.words 0 (lit< tt)) ∙ first_lost)
  not_before (suc j) h = unlike_fails least (bits garbled) (suc j) (omega (arith, few_match j (omega arith)))

  second_passes : passes least (bits garbled) multiframe_bits ≡ true
  second_passes = passes_there least (bits garbled) multiframe_bits (syncs_match 1 (lit< tt)) (ap reading (stands.words 1 (lit< tt)) ∙ second_read)

  second_alone : InARow (bits garbled) 0 multiframe_bits least 1
  second_alone = record {
    begins = lit≤ tt;
    inside = omega (arith, searched_are);
    stand = λ k h. let z : multiframe_bits ≡ multiframe_bits + multiframe_bits * k = omega arith in ap (passes least (bits garbled)) (sym z) ∙ second_passes;
    none_before = λ t a h. not_before t h;
    none_behind = λ t a h. absurd (omega (arith, searched_are));
  }

-- and that is what is heard
heard_cut : Multiframes (image_of heard) 1
heard_cut = record {
  size = length_image (settings 1 0) heard.indices 1;
  small = image_small (settings 1 0) heard.indices 1;
  syncs = image_sync (settings 1 0) heard.indices 1;
}

heard_stands : Stands (image_of heard) 1 garbled multiframe_bits
heard_stands = record { words = word; streams = body }
  where
    word : (k : ℕ) → k < 1 → word_at (bits garbled) (place_in_row multiframe_bits k) ≡ word_in (image_of heard) k
    word zero h = stands.words 1 (lit< tt) ∙ word_came 1 (lit< tt) ∙ sym (image_word (settings 1 0) heard.indices 1 0 h ∙ heard_word)
    word (suc k) h = absurd (omega arith)

    body : (k : ℕ) → k < 1 → stream_at (bits garbled) (place_in_row multiframe_bits k) ≡ bits (stream_in (image_of heard) k)
    body zero h =
        stands.streams 1 (lit< tt)
        ∙ ap bits (made_stream words streams 2 1 (lit< tt) ∙ ap (octets stream_octets) same_stream ∙ sym (image_stream (settings 1 0) heard.indices 1 0 h))
    body (suc k) h = absurd (omega arith)

-- ---- what the octet reader says: one header is lost, so no two agree
unsettled : (ch : Choices) (d : Decoded) → settling ch (None ∷ Some d ∷ []) ≡ None
unfolding first_agreeing
unsettled ch d = two_or_more ch (None ∷ Some d ∷ []) (lit≤ tt)

nothing_settles : (ch : Choices) → settling ch (readings garbled (row_of 2)) ≡ None
nothing_settles ch = ap (settling ch) (readings_are garbled 2) ∙ ap₂ (λ (x y : Header). settling ch (x ∷ y ∷ [])) first_lost second_read ∙ unsettled ch (decoded_as (word_in garbled 1) (message (settings 1 0) 1 0))

module _ (ch : Choices) (least : ℕ) (tables : Tables) (index report : List ℕ) where
  abbrev Misses : Type 0
  Misses = Stated.Misses ch least tables index report

  module _ (low : fewest_matches ≤ least) (high : least ≤ sync_bits) (lent : Lent 2 tables index report) where
    -- the second multiframe alone is read
    found_alone : hunting_reading ch garbled 0 least tables index report ≡ counted (R.reading ch (image_of heard) tables index report) multiframe_bits (suc multiframe_bits)
    found_alone =
        let out : outside_of (bits garbled) 0 1 ≡ multiframe_bits = omega (arith, searched_are) in
        let tested : tested_in_row (bits garbled) 0 multiframe_bits 1 ≡ 1153 = omega (arith, searched_are) in
        as_read (image_of heard) 1 heard_cut garbled multiframe_bits heard_stands ch 0 least tables index report low high lent.right_tables
        (second_alone least low high) (lit< tt) (lit≤ tt)
        ∙ ap₂ (λ (a b : ℕ). counted (R.reading ch (image_of heard) tables index report) a b) out tested

    size_came : length garbled ≡ length (image_of sent)
    size_came = cut.size ∙ sym (length_image (settings 0 0) sent.indices 2)

    syncs_came : (k : ℕ) → k < m → sync_in garbled k ≡ sync_in (image_of sent) k
    syncs_came k h = cut.syncs k h ∙ sym (image_sync (settings 0 0) sent.indices 2 k h)

    packets_came : (q : ℕ) → q < pairs_of sent → packet_in garbled q ≡ packet_in (image_of sent) q
    packets_came q h = ap (λ (x : List ℕ). stream_packet (bits x) q) (stream_came (q / multiframe_pairs) (omega arith))

    -- the first header is the only one but the second
    first_only : (k : ℕ) → k < m → (k ≡ 1 → ⊥) → header_flips (image_of sent) garbled k ≤ 3
    first_only zero h d = le_of_eq first_flips
    first_only (suc k) h d = absurd (d (omega arith))

    but_headers : (p : Premise) → (p ≡ Headers → ⊥) → Holds ch sent garbled 0 0 least tables index report p
    but_headers Begins other = lit≤ tt
    but_headers Inside other = omega (arith, searched_are)
    but_headers Syncs other = syncs_match least low high
    but_headers Headers other = absurd (other refl)
    but_headers Streams other = λ k h. stands.streams k h ∙ ap bits (stream_came k h)
    but_headers NoneBefore other = λ t a h. absurd (omega arith)
    but_headers NoneBehind other = λ t a h. absurd (omega (arith, searched_are))
    but_headers Low other = low
    but_headers Settled other = inl (lit≤ tt)
    but_headers TablesAndRoom other = lent

    lent_1 : Lent 1 tables index report
    lent_1 = record {
      right_tables = lent.right_tables;
      index_room = omega (arith, lent.index_room);
      report_room = omega (arith, lent.report_room);
    }

    -- BY DEFAULT IT MISLEADS NOBODY: one header alone settles nothing, 16 (02, C-20)
    pub not_missed : one_settles ch ≡ false → hunting_reading ch garbled 0 least tables index report ≡ outcome (Err (Octets Unsettled)) index report
    not_missed default =
        found_alone
        ∙ ap (λ (o : R.Outcome). counted o multiframe_bits (suc multiframe_bits)) (default_unsettled ch heard (image_of heard) (unharmed heard) tables index report lent_1 default refl)

    answered : one_settles ch ≡ true → hunting_reading ch garbled 0 least tables index report
        ≡ outcome (Ok (record { summary = spoken heard; outside = multiframe_bits; tested = suc multiframe_bits })) (over index 0 index_octets (padded heard))
        (over report 0 report_octets (replicate report_octets 0))
    answered asked = found_alone ∙ ap (λ (o : R.Outcome). counted o multiframe_bits (suc multiframe_bits)) (reads_image ch heard (inr asked) tables index report lent_1)

    pub missed : one_settles ch ≡ true → Misses
    missed asked = record {
      sent_rate = refl;
      sent_multiframes = refl;
      sent_frames = refl;
      size = size_came;
      syncs = syncs_came;
      packets = packets_came;
      first_header = first_flips;
      second_header = second_flips;
      never_misled_met = record { size = size_came; syncs = syncs_came; headers = inl (record { two = lit≤ tt; but = 1; others = first_only }) };
      trusted_met = record {
        damage = record {
          size = size_came;
          small = cut.small;
          syncs = syncs_came;
          headers = λ k h. any_header (image_of sent) garbled k;
          packets = λ q h. inl (packets_came q h);
        };
        header = 0;
        within = lit< tt;
        five = omega (arith, first_flips);
      };
      others = but_headers;
      answers = answered asked;
      refuses = refuses_16 ch garbled 2 (lit≤ tt) cut.size cut.syncs tables index report (lit< tt) lent (nothing_settles ch);
    }
