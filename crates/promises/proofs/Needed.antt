-- What happens without a premise of what the yards are told, for the premises tried here; Inverse, CutOff and CutDamaged have their own.
-- Assumes nothing.
use Rattle.std.specs.Prelude.{◌≡◌, refl, Bool, true, false, List, [], ◌∷◌, ◌⊎◌, ℕ, zero, suc, ◌+◌, ◌-◌, ◌*◌, ◌^◌, ◌≤◌, ◌<◌, eqb, leb, take, length, get_or, Some, None, Ok, Err}
use Rattle.std.proofs.Common.{sym, ap₂, ◌∙◌, subst, inl, inr, le_of_eq, lit<, lit≤, eq-eqb, ne_eqb, le-leb, length-append}
use Rattle.std.proofs.Math.Path.{ap}
use Rattle.std.proofs.Math.Decide.{ℕ_discrete, dec_lt}
use native.Mathlib.Omega.{arith}
use Rattle.std.specs.Int.Bits.{bit_xor, xor_self}
use Rattle.std.proofs.lemmas.Nat.{xor_comm}
use Rattle.std.specs.Int.Count.{ones, ones_in}
use Rattle.std.proofs.lemmas.Bool.{lt-leb}
use Rattle.polynomials.specs.Light.{ones_in_lem}
use Rattle.polynomials.specs.Xor.{xor_twice}
use Rattle.lists.specs.Tests.{when, by_test, true_false}
use Rattle.lists.specs.Parts.{part, part_left, part_right}
use Rattle.lists.specs.Rows.{each}
use Rattle.layout.specs.Layout.{frame_indices, data_bits, multiframe_frames, multiframe_pairs, multiframe_octets, sync_octets, header_octets, pair_of, first_frame, second_frame}
use Rattle.choices.specs.Choices.{by_default, by_one_header}
use Rattle.choices.specs.declared.Choices.{Choices}
use Rattle.tables.specs.Tables.{Tables, zero_tables}
use Rattle.settings.specs.Settings.{settings}
use Rattle.settings.specs.declared.Settings.{Settings}
use Rattle.frames.specs.Frames.{all_zero, zero_frame, all_zero_at, Nonzero}
use Rattle.bits.specs.Bits.{value, bits}
use Rattle.crc.specs.Crc.{right}
use Rattle.packet.specs.Packet.{frame_at, packet_of}
use Rattle.packet.proofs.Laws.{get_or_row, row_past, packet_of_good}
use Rattle.cutting.specs.Cutting.{Cutting, cutting}
use Rattle.cutting.proofs.Laws.{every_length}
use Rattle.header_code.specs.Code.{codeword}
use Rattle.message.specs.Message.{message}
use Rattle.header.specs.Reading.{decoded_as}
use Rattle.header.specs.declared.Decoded.{Decoded}
use Rattle.header.specs.Types.{Header}
use Rattle.header_readings.specs.Readings.{readings}
use Rattle.settling.specs.Settling.{settling, first_agreeing}
use Rattle.settling.specs.Laws.{Enough}
use Rattle.settling.proofs.Laws.{two_or_more}
use Rattle.carrier.specs.Carrier.{received, pair_count}
use Rattle.notes.specs.Laws.{length_notes, length_all}
use Rattle.bad_pairs.specs.Laws.{Good}
use Rattle.replacing.specs.Replacing.{frame_before, frame_after, source}
use Rattle.replacing.specs.Laws.{Run}
use Rattle.replacing.proofs.Laws.{at_the_end, first_half, second_half, frame_replaced}
use Rattle.replacing.specs.Speech.{last_nonzero, speech_of, end_of, place_le, zero_behind, nonzero_at, place_stop}
use Rattle.reader.specs.Reading.{index_part, summary, Outcome, outcome, reading, received_frames}
use Rattle.reader.specs.declared.Summary.{Summary}
use Rattle.refusals.specs.declared.Reading.TheVariants.{Unsettled}
use Rattle.image.specs.Made.{sync_in, word_in, packet_in}
use Rattle.image.proofs.Laws.{length_image, image_sync, image_word, image_packet, image_small}
use Rattle.wrong_frames.specs.WrongFrames.{frame_count}
use Rattle.writer.specs.Writing.{needed}
use Rattle.writer.proofs.Laws.{few_multiframes}
use Rattle.writer.specs.Utterance.{Utterance, multiframes_of, pairs_of, image_of}
use Rattle.writer.proofs.Utterance.{is_accepted, whole_frames}
use Rattle.writer.proofs.Accepted.{last_speaks}
use Rattle.damage.specs.Damage.{DamageUpTo, header_bits, loosened, header_flips, sent_message, header_near}
use Rattle.demands.specs.Whole.{row_of, Lent}
use Rattle.demands.proofs.WholeLaws.{refuses_16}
use Rattle.demands.specs.Headers.{sent_common, heard_as}
use Rattle.demands.proofs.HeadersLaws.{heard_read, heard_lost, headers_read}
use Rattle.demands.proofs.ReceivedLaws.{touched_note}
use Rattle.demands.specs.NamesTheDamage as N
use Rattle.demands.proofs.NamesTheDamageLaws as NL
use Rattle.demands.specs.ReadsBack.{spoken}
use Rattle.demands.proofs.ReadsBackLaws.{reads_image, reads_mended}
use Rattle.damage.specs.Instances.{lone, says1}
use Rattle.demands_met.specs.Met.{index_for, report_for, says24, two_multiframes, settings_24, frames_24}
use Rattle.demands_met.proofs.MetLaws.{lent_zeros}
use Rattle.damage.proofs.Damages.{unharmed}
use Rattle.recordings.specs.First as F
use Rattle.recordings.specs.CutOff as C
use Rattle.recordings.specs.Inverse.{inverses}
use Rattle.recordings.proofs.Spaced.{inverses_length, inverses_behind}
use Rattle.demands_met.specs.Needed.{eighth, says_eighth, Passes15, halfway}
use Rattle.demands_met.proofs.NeededLaws.{default_unsettled, passes_15}
use Rattle.promises.specs.Misled as M
use Rattle.promises.proofs.Misled.{never_misled}
use Rattle.promises.specs.Flipped.{flipped, flipped_size, flipped_syncs, flips_are, flipped_damage, sent_whole, sent_damage, at11, rate_bits, none_flipped}
use Rattle.promises.specs.Flipped.{two_flipped, three_flipped, six_flipped, word_11, seen_at_11, flips_at_11, hit, length_hit, hit_fates, told_touched, untold_whole}
use Rattle.promises.specs.Flipped.{zero_read, zero_notes, right_good, zero_not_bad, zero_unnamed}
use Rattle.promises.specs.Met.{says48, three_multiframes, rate_48, lost_one, in_second, Harmless}
use Rattle.promises.proofs.MetLaws.{without_warning, heard_met, none_named, heard, in_second_lt, flips_in_second, flips_in_others, harmless}
use Rattle.promises.specs.Needed.{Misleads, four_bits, four_off, Lengthens, Mistrusted, Unlooked, one_readable, other_lost, Unsettles, Misnotes, second_four, Confused, last_first, end_hurt, OneMore, end_gone, NoEnd, overwritten, Miscounts}

pub four_flipped : ones four_bits ≡ 4
unfolding ones_in
four_flipped = sym (ones_in_lem 32 four_bits (lit< tt))

pub four_to_11 : ones (bit_xor four_bits rate_bits) ≡ 2
unfolding ones_in
four_to_11 = sym (ones_in_lem 32 0xC0000000 (lit< tt))

module _ (ch : Choices) (u : Utterance) (eight : u.settings.rate ≡ 0) where
  -- what is then read as 11 kHz is not as sent
  not_sent : (s : List ℕ) → M.AsSent u s (spoken (at11 u)) → ⊥
  not_sent s x = let z : ◌≡◌ {A = ℕ} 1 0 = ap (λ (s : Settings). s.rate) x.settings ∙ eight in omega arith

  module _ (tables : Tables) (index report : List ℕ) (lent : Lent (multiframes_of u) tables index report) where
    four_read : 2 ≤ multiframes_of u → (reading ch (four_off u) tables index report).answer ≡ Ok (spoken (at11 u))
    four_read two =
        let e : ℕ → ℕ = λ k. bit_xor four_bits rate_bits in
        let lt : (k : ℕ) → e k < 2 ^ 32 = λ k. lit< tt in
        ap (λ (s : List ℕ). (reading ch s tables index report).answer) (seen_at_11 u eight (λ k. four_bits) (packet_of u.indices))
        ∙ ap (λ (o : Outcome). o.answer)
        (reads_mended ch (at11 u) (flipped (at11 u) e (packet_of u.indices)) (sent_damage (at11 u) e lt 2 (λ k h. le_of_eq four_to_11)) (sent_whole (at11 u) e lt) (inl two)
        tables index report lent)

    -- HEADERS OF FOUR FLIPS MISLEAD: two multiframes or more
    pub four_mislead : 2 ≤ multiframes_of u → Misleads ch u (four_off u) 4 tables index report
    four_mislead two =
        let size = flipped_size u (λ k. four_bits) (packet_of u.indices) in
        let syncs = flipped_syncs u (λ k. four_bits) (packet_of u.indices) in
        record {
          size = size;
          syncs = syncs;
          packets = sent_whole u (λ k. four_bits) (λ k. lit< tt);
          each_header = λ k h. flips_are u (λ k. four_bits) (packet_of u.indices) (λ k. lit< tt) k h ∙ four_flipped;
          unmet = λ x.
              not_sent (four_off u)
              (never_misled ch u (four_off u) (record { size = size; syncs = syncs; headers = x }) tables index report (spoken (at11 u)) (four_read two));
          succeeds = four_read two;
          misled = not_sent (four_off u);
        }

    six_read : Enough ch (multiframes_of u) → (reading ch (image_of (at11 u)) tables index report).answer ≡ Ok (spoken (at11 u))
    six_read sent = ap (λ (o : Outcome). o.answer) (reads_image ch (at11 u) sent tables index report lent)

    six_each : (k : ℕ) → k < multiframes_of u → header_flips (image_of u) (image_of (at11 u)) k ≡ 6
    six_each k h =
        let a = codeword (sent_message u k) in
        ap₂ (λ (x y : ℕ). ones (bit_xor x y)) (image_word (at11 u).settings u.indices (multiframes_of u) k h ∙ word_11 u eight k)
        (image_word u.settings u.indices (multiframes_of u) k h)
        ∙ ap ones (ap (λ (x : ℕ). bit_xor x a) (xor_comm a rate_bits) ∙ xor_twice rate_bits a) ∙ six_flipped

    -- HEADERS OF SIX FLIPS MISLEAD: the image of 11 kHz itself, six flips from that of 8 kHz in each header and else the same
    pub six_mislead : Enough ch (multiframes_of u) → Misleads ch u (image_of (at11 u)) 6 tables index report
    six_mislead sent =
        let m = multiframes_of u in
        let idx = u.indices in
        let size = length_image (at11 u).settings idx m ∙ sym (length_image u.settings idx m) in
        let syncs : (k : ℕ) → k < m → sync_in (image_of (at11 u)) k ≡ sync_in (image_of u) k =
        λ k h. image_sync (at11 u).settings idx m k h ∙ sym (image_sync u.settings idx m k h) in
        record {
          size = size;
          syncs = syncs;
          packets = λ q h. image_packet (at11 u).settings idx m q h ∙ sym (image_packet u.settings idx m q h);
          each_header = six_each;
          unmet = λ x.
              not_sent (image_of (at11 u))
              (never_misled ch u (image_of (at11 u)) (record { size = size; syncs = syncs; headers = x }) tables index report (spoken (at11 u)) (six_read sent));
          succeeds = six_read sent;
          misled = not_sent (image_of (at11 u));
        }

-- so two headers of four flips do, of two multiframes
pub two_of_four : (ch : Choices) → Misleads ch says24 (four_off says24) 4 zero_tables (index_for (multiframes_of says24)) (report_for (multiframes_of says24))
two_of_four ch =
    four_mislead ch says24 (ap (λ (s : Settings). s.rate) settings_24) zero_tables (index_for (multiframes_of says24)) (report_for (multiframes_of says24)) (lent_zeros (multiframes_of says24)) (le_of_eq (sym two_multiframes))

-- and, where the caller asks for the old rule, an only header of six
pub one_of_six : Misleads by_one_header says1 (image_of (at11 says1)) 6 zero_tables (index_for 1) (report_for 1)
one_of_six = six_mislead by_one_header says1 refl zero_tables (index_for 1) (report_for 1) (lent_zeros 1) (inr refl)

-- which by default misleads nobody: "a codeword can be the wrong codeword" (02, C-20)
pub six_refused : reading by_default (image_of (at11 says1)) zero_tables (index_for 1) (report_for 1) ≡ outcome (Err Unsettled) (index_for 1) (report_for 1)
six_refused = default_unsettled by_default (at11 says1) (image_of (at11 says1)) (unharmed (at11 says1)) zero_tables (index_for 1) (report_for 1) (lent_zeros 1) refl refl

module _ (ch : Choices) (u v : Utterance) (same : u.settings ≡ v.settings) (longer : multiframes_of u < multiframes_of v) (tables : Tables) (index report : List ℕ)
    (lent : Lent (multiframes_of v) tables index report) where
  same_headers : (k : ℕ) → k < multiframes_of u → header_flips (image_of u) (image_of v) k ≡ 0
  same_headers k h =
      ap₂ (λ (a b : ℕ). ones (bit_xor a b)) (image_word v.settings v.indices (multiframes_of v) k (omega arith))
      (image_word u.settings u.indices (multiframes_of u) k h ∙ ap (λ (a : Settings). codeword (message a (k + 1) 0)) same)
      ∙ ap ones (xor_self (codeword (sent_message v k))) ∙ none_flipped

  near_headers : Dec (multiframes_of u < 2) → M.AllButOne u (image_of v) ⊎ M.OnlyFive u (image_of v)
  near_headers (yes l) = inr (record { single = omega arith; five = omega (arith, same_headers 0 (omega arith)) })
  near_headers (no n) = inl (record { two = omega arith; but = 0; others = λ k h d. omega (arith, same_headers k h) })

  pub length_misleads : Lengthens ch u v tables index report
  length_misleads = record {
    syncs = λ k h. image_sync v.settings v.indices (multiframes_of v) k (omega arith) ∙ sym (image_sync u.settings u.indices (multiframes_of u) k h);
    headers = near_headers (dec_lt (multiframes_of u) 2);
    succeeds = ap (λ (o : Outcome). o.answer) (reads_image ch v (inl (omega arith)) tables index report lent);
    misled = λ x. let e = x.multiframes in omega arith;
  }

-- so one multiframe is taken for two
pub longer_24 : (ch : Choices) → Lengthens ch says1 says24 zero_tables (index_for (multiframes_of says24)) (report_for (multiframes_of says24))
longer_24 ch =
    length_misleads ch says1 says24 (sym settings_24) (omega (arith, two_multiframes)) zero_tables (index_for (multiframes_of says24)) (report_for (multiframes_of says24))
    (lent_zeros (multiframes_of says24))

-- FIVE: with six flips in each header, and no other damage
pub six_mistrusted : (ch : Choices) (u : Utterance) → Enough ch (multiframes_of u) → u.settings.rate ≡ 0
    → DamageUpTo 6 (multiframes_of u) (image_of u) (image_of (at11 u)) × Mistrusted ch u (image_of (at11 u)) (spoken (at11 u))
six_mistrusted ch u sent eight =
    let m = multiframes_of u in
    let x = six_mislead ch u eight zero_tables (index_for m) (report_for m) (lent_zeros m) sent in (
      record {
        size = x.size;
        small = image_small (at11 u).settings u.indices m;
        syncs = x.syncs;
        headers = λ k h. le_of_eq (x.each_header k h);
        packets = λ q h. inl (x.packets q h);
      },
      record {
        warned_of_nothing = without_warning ch (at11 u) sent zero_tables (index_for m) (report_for m) (lent_zeros m);
        not_written = λ w. let z : ◌≡◌ {A = ℕ} 1 0 = ap (λ (g : Summary). g.settings.rate) w.sent ∙ eight in omega arith;
      },
    )

-- DEMAND 3'S DAMAGE TO PAIRS: with two flips at distance 15 in one packet, and no other damage, of one multiframe by the old rule
pub fifteen_mistrusted : Passes15 × Mistrusted by_one_header says1 (image_of says_eighth) (spoken says_eighth)
fifteen_mistrusted = (
  passes_15,
  record {
    warned_of_nothing = without_warning by_one_header says_eighth (inr refl) zero_tables (index_for 1) (report_for 1) (lent_zeros 1);
    not_written = λ w.
        passes_15.different
        (sym (image_packet (settings 0 0) eighth 1 0 (lit< tt)) ∙ ap (λ (s : List ℕ). packet_in s 0) w.image ∙ image_packet (settings 0 0) (lone 1) 1 0 (lit< tt));
  },
)

pub headers_unlooked : (ch : Choices) (u : Utterance) → 3 ≤ multiframes_of u → Unlooked ch u
headers_unlooked ch u three =
    let m = multiframes_of u in
    let wider = heard_met ch u three zero_tables (index_for m) (report_for m) (lent_zeros m) in
    let note = heard ch u three zero_tables (index_for m) (report_for m) (lent_zeros m) in
    let flips = (NL.names_wider ch u (lost_one u) zero_tables (index_for m) (report_for m) wider).names.flips 0 (omega arith) in
    record {
      premises = record { damage = loosened (lit< tt) wider.damage; header = 0; within = omega arith; five = let l = wider.damage.headers 0 (omega arith) in omega arith };
      succeeds = note.succeeds;
      pair_notes_lem = none_named ch u three zero_tables (index_for m) (report_for m) (lent_zeros m);
      not_written = λ w.
          let z : ◌≡◌ {A = ℕ} 2 0 =
          sym (sym flips ∙ note.first) ∙ ap (λ (s : List ℕ). header_flips (image_of u) s 0) w.image ∙ ap ones (xor_self (word_in (image_of u) 0)) ∙ none_flipped in
          omega arith;
    }

one_lt : (k : ℕ) → one_readable k < 2 ^ 32
one_lt k = by_test (λ (n : ℕ). n < 2 ^ 32) (eqb k 0) (λ t. lit< tt) (λ t. lit< tt)

one_three : (k : ℕ) → ones (one_readable k) ≤ 3
one_three k = by_test (λ (n : ℕ). ones n ≤ 3) (eqb k 0) (λ t. omega (arith, two_flipped)) (λ t. omega (arith, three_flipped))

one_settles_nothing : (ch : Choices) (d : Decoded) → settling ch (Some d ∷ None ∷ []) ≡ None
unfolding first_agreeing
one_settles_nothing ch d = two_or_more ch (Some d ∷ None ∷ []) (omega arith)

module _ (ch : Choices) (u : Utterance) (two : multiframes_of u ≡ 2) where
  abbrev s : List ℕ
  s = other_lost u

  abbrev m : ℕ
  m = multiframes_of u

  damaged : DamageUpTo 3 m (image_of u) s
  damaged = sent_damage u one_readable one_lt 3 (λ k h. one_three k)

  flips : (k : ℕ) → k < m → header_flips (image_of u) s k ≡ ones (one_readable k)
  flips k h = flips_are u one_readable (packet_of u.indices) one_lt k h

  two_heard : heard_as (word_in s 0) (sent_message u 0) ≡ Some (decoded_as (word_in s 0) (sent_message u 0))
  two_heard = heard_read (word_in s 0) (sent_message u 0) (omega (arith, header_near u s 0 (omega arith), flips 0 (omega arith), two_flipped))

  three_heard : heard_as (word_in s 1) (sent_message u 1) ≡ None
  three_heard = heard_lost (word_in s 1) (sent_message u 1) (omega (arith, header_near u s 1 (omega arith), flips 1 (omega arith), three_flipped))

  unsettled : settling ch (readings s (row_of m)) ≡ None
  unsettled =
      ap (settling ch) (headers_read u s damaged.headers)
      ∙ ap (λ (n : ℕ). settling ch (each (λ k. heard_as (word_in s k) (sent_message u k)) n)) two
      ∙ ap₂ (λ (a b : Header). settling ch (a ∷ b ∷ [])) two_heard three_heard ∙ one_settles_nothing ch (decoded_as (word_in s 0) (sent_message u 0))

  refused : zero_read ch u s ≡ outcome (Err Unsettled) (index_for m) (report_for m)
  refused =
      refuses_16 ch s m (few_multiframes u.settings u.indices (is_accepted u).sizes) (damaged.size ∙ length_image u.settings u.indices m)
      (λ k h. damaged.syncs k h ∙ image_sync u.settings u.indices m k h) zero_tables (index_for m) (report_for m) (omega arith) (lent_zeros m) unsettled

  pub one_readable_unsettles : Unsettles ch u (other_lost u)
  one_readable_unsettles = record {
    damage = damaged;
    first = flips 0 (omega arith) ∙ two_flipped;
    second = flips 1 (omega arith) ∙ three_flipped;
    none_bad = λ q h. zero_not_bad u s q (sent_whole u one_readable one_lt q h);
    refused = refused;
    not_named = λ x. not_read x.given (sym (ap (λ (o : Outcome). o.answer) refused) ∙ x.succeeds);
  }
    where
      not_read : (g : Summary) → Err Unsettled ≡ Ok g → ⊥
      not_read g e = let z : ◌≡◌ {A = ℕ} 0 1 = cc in omega arith

-- so of 24 frames
pub unsettled_24 : (ch : Choices) → Unsettles ch says24 (other_lost says24)
unsettled_24 ch = one_readable_unsettles ch says24 two_multiframes

module _ (ch : Choices) (u : Utterance) (eight : u.settings.rate ≡ 0) (three : 3 ≤ multiframes_of u) where
  lt : (k : ℕ) → in_second four_bits 0 k < 2 ^ 32
  lt = in_second_lt four_bits 0 (lit< tt) (lit< tt)

  not_hurt : (q : ℕ) → q < pairs_of u → packet_in (second_four u) q ≡ packet_in (image_of u) q
  not_hurt = sent_whole u (in_second four_bits 0) lt

  harmless_four : Harmless ch u (second_four u) 2
  harmless_four =
      harmless ch u four_bits 0 (lit< tt) (lit< tt) (packet_of u.indices) eight three (omega (arith, none_flipped)) 2 four_to_11 (omega arith) 0 (omega arith)
      (ap (right data_bits) (not_hurt 0 (omega arith) ∙ image_packet u.settings u.indices (multiframes_of u) 0 (omega arith)) ∙ packet_of_good u.indices 0)

  none : (k : ℕ) → k < multiframes_of u → (k ≡ 1 → ⊥) → header_flips (image_of u) (second_four u) k ≡ 0
  none k h n = flips_in_others u four_bits 0 (lit< tt) (lit< tt) (packet_of u.indices) k h n ∙ none_flipped

  four_there : header_flips (image_of u) (second_four u) 1 ≡ 4
  four_there = flips_in_second u four_bits 0 (lit< tt) (lit< tt) (packet_of u.indices) (omega arith) ∙ four_flipped

  pub four_misnotes : Misnotes ch u (second_four u)
  four_misnotes = record {
    damage = sent_damage u (in_second four_bits 0) lt 4 (λ k h. by_test (λ (n : ℕ). ones n ≤ 4) (eqb k 1) (λ t. le_of_eq four_flipped) (λ t. omega (arith, none_flipped)));
    headers = record {
      one = 0;
      two = 2;
      order = lit< tt;
      within = omega arith;
      few_of_one = omega (arith, none 0 (omega arith) (λ e. omega arith));
      few_of_two = omega (arith, none 2 (omega arith) (λ e. omega arith));
    };
    none_bad = λ q h. zero_not_bad u (second_four u) q (not_hurt q h);
    four = four_there;
    note_is_10 = harmless_four.noted;
    given = harmless_four.given;
    succeeds = harmless_four.succeeds;
    sent = harmless_four.sent;
    not_named = λ x. let z : ◌≡◌ {A = ℕ} 10 4 = sym harmless_four.noted ∙ x.names.flips 1 (omega arith) ∙ four_there in omega arith;
  }

-- so of 48 frames
pub misnoted_48 : (ch : Choices) → Misnotes ch says48 (second_four says48)
misnoted_48 ch = four_misnotes ch says48 rate_48 (le_of_eq (sym three_multiframes))

half_8 : ones halfway ≡ 3
unfolding ones_in
half_8 = sym (ones_in_lem 32 halfway (lit< tt))

half_11 : ones (bit_xor halfway rate_bits) ≡ 3
unfolding ones_in
half_11 = sym (ones_in_lem 32 0xD0000000 (lit< tt))

pub six_confuse : (u : Utterance) → u.settings.rate ≡ 0 → Confused u (flipped u (λ k. halfway) (packet_of u.indices))
six_confuse u eight =
    let f = packet_of u.indices in
    let s = flipped u (λ k. halfway) f in
    let e : ℕ → ℕ = λ k. bit_xor halfway rate_bits in
    record {
      one = sent_damage u (λ k. halfway) (λ k. lit< tt) header_bits (λ k h. omega (arith, half_8));
      other = subst (DamageUpTo header_bits (multiframes_of u) (image_of (at11 u))) (sym (seen_at_11 u eight (λ k. halfway) f))
          (sent_damage (at11 u) e (λ k. lit< tt) header_bits (λ k h. omega (arith, half_11)));
      six = λ k h. omega (arith, flips_are u (λ k. halfway) f (λ k. lit< tt) k h, half_8, flips_at_11 u eight (λ k. halfway) f (λ k. lit< tt) k h, half_11);
      not_alike = λ a. let z : ◌≡◌ {A = ℕ} 0 1 = sym eight ∙ ap (λ (s : Settings). s.rate) a.settings in omega arith;
    }

-- ---- LAST HEARD NEEDS THE LAST MULTIFRAME UNNAMED: the frames fill all multiframes but the last, which is padding, and of that the pairs up to b
-- are damaged. All headers are whole, and tables of zeros make no other pair bad
only_first : (l : List ℕ) (i n : ℕ) → 0 < n → zero_frame l (i + 0) ≡ false → ((k : ℕ) → 0 < k → k < n → zero_frame l (i + k) ≡ true) → last_nonzero l i n ≡ 1
only_first l i n some first others = by (last_nonzero l i n) refl
  where
    by : (x : ℕ) → last_nonzero l i n ≡ x → last_nonzero l i n ≡ 1
    by zero e = absurd (true_false (sym (zero_behind l i n 0 (omega arith) some) ∙ first))
    by (suc zero) e = e
    by (suc (suc k)) e =
        let h = place_le l i n in
        absurd (true_false (sym (others (suc k) (omega arith) (omega arith)) ∙ nonzero_at l i n (suc k) e))

-- a frame that speaks is not zero
speaks : (u : Utterance) (k : ℕ) → k + 1 ≡ frame_count u.indices → all_zero (frame_at u.indices k) ≡ false
speaks u k e = by (all_zero (frame_at u.indices k)) refl
  where
    x : Nonzero u.indices k
    x = last_speaks u.settings u.indices (needed u.indices) (needed u.indices) (is_accepted u) k e

    by : (t : Bool) → all_zero (frame_at u.indices k) ≡ t → all_zero (frame_at u.indices k) ≡ false
    by true z = absurd (x.nonzero (sym (get_or_row u.indices (frame_indices * k) frame_indices x.place x.within) ∙ all_zero_at (frame_at u.indices k) x.place z))
    by false z = z

module _ (ch : Choices) (u : Utterance) (two : 2 ≤ multiframes_of u) (full : frame_count u.indices ≡ multiframe_frames * (multiframes_of u - 1)) (t : ℕ → Bool) (b : ℕ)
    (some : last_first u < b) (most : b ≤ pairs_of u) (inside : (q : ℕ) → last_first u ≤ q → q < b → t q ≡ true) (before : (q : ℕ) → q < last_first u → t q ≡ false)
    (behind : (q : ℕ) → b ≤ q → q < pairs_of u → t q ≡ false) where
  abbrev got : List ℕ
  got = flipped u (λ k. 0) (hit u t)

  abbrev ms : ℕ
  ms = multiframes_of u

  abbrev r : ℕ
  r = last_first u

  abbrev ns : List ℕ
  ns = zero_notes u got

  abbrev all : List ℕ
  all = index_part got (row_of ms) ns

  still : (k : ℕ) → k < ms → header_flips (image_of u) got k ≡ 0
  still k h = flips_are u (λ k. 0) (hit u t) (λ k. lit< tt) k h ∙ none_flipped

  as_sent : (q : ℕ) → q < pairs_of u → t q ≡ false → packet_in got q ≡ packet_in (image_of u) q
  as_sent = untold_whole u t (λ k. 0) (λ k. lit< tt)

  wide : N.Wider ch u (flipped u (λ k. 0) (hit u t)) zero_tables (index_for (multiframes_of u)) (report_for (multiframes_of u))
  wide = record {
    damage = flipped_damage u (λ k. 0) (hit u t) (λ k. lit< tt) (length_hit u t) 3 (λ k h. omega (arith, none_flipped)) (λ q h. hit_fates u t q);
    headers = inl (record {
      one = 0;
      two = 1;
      order = lit< tt;
      within = omega arith;
      few_of_one = omega (arith, still 0 (omega arith));
      few_of_two = omega (arith, still 1 (omega arith));
    });
    pair = 0;
    within = omega arith;
    not_bad = zero_not_bad u got 0 (as_sent 0 (omega arith) (before 0 (omega arith)));
    lent = lent_zeros (multiframes_of u);
  }

  notes_size : length ns ≡ pairs_of u
  notes_size = length_notes (received got (row_of ms)) (pair_count (row_of ms)) zero_tables ∙ ap (λ (n : ℕ). multiframe_pairs * n) (every_length 0 ms)

  good_at : (q : ℕ) → q < pairs_of u → t q ≡ false → get_or ns q 0 ≡ 0
  good_at q h e =
      right_good got ms q h (ap (right data_bits) (as_sent q h e ∙ image_packet u.settings u.indices ms q h) ∙ packet_of_good u.indices q)

  bad_at : (q : ℕ) → q < pairs_of u → t q ≡ true → get_or ns q 0 ≡ 1
  bad_at q h e = touched_note u got wide.damage zero_tables q h (told_touched u t (λ k. 0) (λ k. lit< tt) q h e)

  run : Run ns r b
  run = record {
    some = some;
    within = omega (arith, notes_size);
    bad = λ q h l z. let e : ◌≡◌ {A = ℕ} 0 1 = sym z ∙ bad_at q (omega arith) (inside q h l) in omega arith;
    start = inr (good_at (r - 1) (omega arith) (before (r - 1) (omega arith)));
    stop = elim (ℕ_discrete b (pairs_of u)) [ yes e ↦ inl (e ∙ sym notes_size) | no n ↦ inr (good_at b (omega arith) (behind b (omega arith) (omega arith))) ];
  }

  some_good : Good ns
  some_good = record { pair = 0; within = omega (arith, notes_size); good = good_at 0 (omega arith) (before 0 (omega arith)) }

  -- each frame is the one that stands in for it
  frame_is : (i : ℕ) → i < multiframe_frames * ms → part (frame_indices * i) frame_indices all ≡ part (frame_indices * source ns i) frame_indices (received_frames got (row_of ms))
  frame_is i h =
      frame_replaced ns some_good (received_frames got (row_of ms)) i (omega (arith, notes_size, length_all (received got (row_of ms)) (pair_count (row_of ms)), every_length 0 ms)) (omega (arith, notes_size))

  -- which is the last frame sent, where it is taken from before
  from_before : (i : ℕ) → i < multiframe_frames * ms → source ns i ≡ frame_before r → zero_frame all i ≡ false
  unfolding zero_frame
  from_before i h e =
      let z : frame_before r ≡ second_frame (r - 1) = omega arith in
      ap all_zero
      (frame_is i h ∙ ap (λ (k : ℕ). part (frame_indices * k) frame_indices (received_frames got (row_of ms))) (e ∙ z)
      ∙ (NL.frame_in_pair ch u got zero_tables (index_for ms) (report_for ms) wide (r - 1) (omega arith) (good_at (r - 1) (omega arith) (before (r - 1) (omega arith)))).1)
      ∙ speaks u (second_frame (r - 1)) (omega arith)

  -- and zero where it is taken from behind, or is a good pair's
  from_behind : (i : ℕ) → i < multiframe_frames * ms → source ns i ≡ frame_after b → b < pairs_of u → zero_frame all i ≡ true
  unfolding zero_frame
  from_behind i h e l =
      ap all_zero
      (frame_is i h ∙ ap (λ (k : ℕ). part (frame_indices * k) frame_indices (received_frames got (row_of ms))) e
      ∙ (NL.frame_in_pair ch u got zero_tables (index_for ms) (report_for ms) wide b l (good_at b l (behind b (omega arith) l))).0
      ∙ row_past u.indices (frame_indices * first_frame b) frame_indices (omega (arith, whole_frames u)))

  good_silent : (i : ℕ) → first_frame b ≤ i → i < multiframe_frames * ms → zero_frame all i ≡ true
  unfolding zero_frame
  good_silent i l h =
      ap all_zero
      (NL.index_frame ch u got zero_tables (index_for ms) (report_for ms) wide i h (good_at (pair_of i) (omega arith) (behind (pair_of i) (omega arith) (omega arith)))
      ∙ row_past u.indices (frame_indices * i) frame_indices (omega (arith, whole_frames u)))

  given_is : (zero_read ch u got).answer ≡ Ok (summary got (row_of ms) ns (sent_common u))
  given_is = ap (λ (o : Outcome). o.answer) (NL.read_is ch u got zero_tables (index_for ms) (report_for ms) wide)

  speech_is : (n : ℕ) → last_nonzero all (multiframe_frames * (ms - 1)) multiframe_frames ≡ n → (summary got (row_of ms) ns (sent_common u)).speech ≡ frame_count u.indices + n
  speech_is n e =
      ap (λ (k : ℕ). speech_of k all) (every_length 0 ms) ∙ ap₂ ◌+◌ (sym full) e

  end_is : (x : Bool) → zero_frame all (multiframe_frames * ms - 1) ≡ x → (summary got (row_of ms) ns (sent_common u)).end ≡ when x 1 0
  end_is x e = ap (λ (k : ℕ). end_of k all) (every_length 0 ms) ∙ ap (λ (y : Bool). when {A = ℕ} y 1 0) e

  -- a run of one pair: its first frame becomes the last one sent, its second stays silent
  one_heard : b ≡ last_first u + 1 → last_nonzero all (multiframe_frames * (ms - 1)) multiframe_frames ≡ 1
  one_heard e = only_first all (multiframe_frames * (ms - 1)) multiframe_frames (lit< tt) first (λ k l h. others k l h (ℕ_discrete k 1))
    where
      first : zero_frame all (multiframe_frames * (ms - 1) + 0) ≡ false
      first =
          let i = multiframe_frames * (ms - 1) + 0 in
          from_before i (omega arith) (first_half ns r b run i (omega arith) (omega (arith, notes_size)) (omega arith) (omega arith))

      others : (k : ℕ) → 0 < k → k < multiframe_frames → Dec (k ≡ 1) → zero_frame all (multiframe_frames * (ms - 1) + k) ≡ true
      others k l h (yes z) =
          let i = multiframe_frames * (ms - 1) + k in
          from_behind i (omega arith) (second_half ns r b run i (omega arith) (omega (arith, notes_size)) (omega arith) (omega arith)) (omega arith)
      others k l h (no n) = good_silent (multiframe_frames * (ms - 1) + k) (omega arith) (omega arith)

  -- a run to the end: every frame becomes the last one sent
  all_heard : b ≡ pairs_of u → (i : ℕ) → first_frame (last_first u) ≤ i → i < multiframe_frames * multiframes_of u → zero_frame all i ≡ false
  all_heard e i l h = from_before i h (at_the_end ns r b run i (omega arith) (e ∙ sym notes_size) l (omega arith))

module _ (ch : Choices) (u : Utterance) (two : 2 ≤ multiframes_of u) (full : frame_count u.indices ≡ multiframe_frames * (multiframes_of u - 1)) where
  -- ONE FRAME MORE IS HEARD
  pub one_more : OneMore ch u
  one_more = record {
    wider = w;
    named = ((NL.names_wider ch u (end_hurt u) zero_tables (index_for (multiframes_of u)) (report_for (multiframes_of u)) w).names.damaged (last_first u) (omega arith)).1
        (told_touched u is (λ k. 0) (λ k. lit< tt) (last_first u) (omega arith) (eq-eqb (last_first u) (last_first u) refl));
    others = λ q h n. zero_unnamed u (end_hurt u) q (untold_whole u is (λ k. 0) (λ k. lit< tt) q h (ne_eqb q (last_first u) n)) ch h w;
    given = summary (end_hurt u) (row_of (multiframes_of u)) (zero_notes u (end_hurt u)) (sent_common u);
    succeeds = given_is ch u two full is b some most inside before behind;
    speech = speech_is ch u two full is b some most inside before behind 1 (one_heard ch u two full is b some most inside before behind refl);
  }
    where
      is : ℕ → Bool
      is q = eqb q (last_first u)

      b : ℕ
      b = last_first u + 1

      some : last_first u < b
      some = omega arith

      most : b ≤ pairs_of u
      most = omega arith

      inside : (q : ℕ) → last_first u ≤ q → q < b → is q ≡ true
      inside q h l = eq-eqb q (last_first u) (omega arith)

      before : (q : ℕ) → q < last_first u → is q ≡ false
      before q h = ne_eqb q (last_first u) (λ e. omega arith)

      behind : (q : ℕ) → b ≤ q → q < pairs_of u → is q ≡ false
      behind q h l = ne_eqb q (last_first u) (λ e. omega arith)

      w : N.Wider ch u (end_hurt u) zero_tables (index_for (multiframes_of u)) (report_for (multiframes_of u))
      w = wide ch u two full is b some most inside before behind

-- so of 24 frames 25 are heard
filled_24 : frame_count says24.indices ≡ multiframe_frames * (multiframes_of says24 - 1)
filled_24 = frames_24 ∙ ap (λ (m : ℕ). multiframe_frames * (m - 1)) (sym two_multiframes)

pub more_24 : (ch : Choices) → OneMore ch says24
more_24 ch = one_more ch says24 (le_of_eq (sym two_multiframes)) filled_24

pub heard_25 : (ch : Choices) → (more_24 ch).given.speech ≡ 25
heard_25 ch = (more_24 ch).speech ∙ ap (λ (n : ℕ). n + 1) frames_24

module _ (ch : Choices) (u : Utterance) (two : 2 ≤ multiframes_of u) (full : frame_count u.indices ≡ multiframe_frames * (multiframes_of u - 1)) where
  -- THE END IS NOT HEARD
  pub no_end : NoEnd ch u
  no_end = record {
    wider = w;
    others = λ q h. zero_unnamed u (end_gone u) q (untold_whole u is (λ k. 0) (λ k. lit< tt) q (omega arith) (before q h)) ch (omega arith) w;
    given = summary (end_gone u) (row_of (multiframes_of u)) (zero_notes u (end_gone u)) (sent_common u);
    succeeds = given_is ch u two full is b some most inside before behind;
    speech = speech_is ch u two full is b some most inside before behind multiframe_frames
        (place_stop (index_part (end_gone u) (row_of (multiframes_of u)) (zero_notes u (end_gone u))) (multiframe_frames * (multiframes_of u - 1)) multiframe_frames (lit< tt)
        (last (multiframe_frames * (multiframes_of u - 1) + (multiframe_frames - 1)) (omega arith) (omega arith)));
    end = end_is ch u two full is b some most inside before behind false (last (multiframe_frames * multiframes_of u - 1) (omega arith) (omega arith));
  }
    where
      is : ℕ → Bool
      is q = leb (last_first u) q

      b : ℕ
      b = pairs_of u

      some : last_first u < b
      some = omega arith

      most : b ≤ pairs_of u
      most = omega arith

      inside : (q : ℕ) → last_first u ≤ q → q < b → is q ≡ true
      inside q h l = le-leb (last_first u) q h

      before : (q : ℕ) → q < last_first u → is q ≡ false
      before q h = lt-leb (last_first u) q h

      behind : (q : ℕ) → b ≤ q → q < pairs_of u → is q ≡ false
      behind q h l = absurd (omega arith)

      last : (i : ℕ) → first_frame (last_first u) ≤ i → i < multiframe_frames * multiframes_of u
          → zero_frame (index_part (end_gone u) (row_of (multiframes_of u)) (zero_notes u (end_gone u))) i ≡ false
      last = all_heard ch u two full is b some most inside before behind refl

      w : N.Wider ch u (end_gone u) zero_tables (index_for (multiframes_of u)) (report_for (multiframes_of u))
      w = wide ch u two full is b some most inside before behind

-- so of 24 frames 48 are heard, and no end
pub gone_24 : (ch : Choices) → NoEnd ch says24
gone_24 ch = no_end ch says24 (le_of_eq (sym two_multiframes)) filled_24

module _ (ch : Choices) (u : Utterance) (k : ℕ) (some : 0 < k) (last : multiframes_of u ≡ k + 1) (enough : Enough ch k) where
  abbrev front : List ℕ
  front = take (multiframe_octets * k) (image_of u)

  abbrev gone : List ℕ
  gone = overwritten u k

  within : k ≤ multiframes_of u
  within = omega arith

  front_size : length front ≡ multiframe_octets * k
  front_size = F.size_first u (image_of u) (unharmed u) k within

  front_part : (a v : ℕ) → a + v ≤ multiframe_octets * k → part a v gone ≡ part a v (image_of u)
  front_part a v h = part_left front (inverses 72) a v (omega (arith, front_size)) ∙ F.part_first u (image_of u) (unharmed u) k within a v h

  no_flip : (i : ℕ) → i < k → header_flips (image_of u) gone i ≡ 0
  no_flip i h =
      ap (λ (l : List ℕ). ones (bit_xor (value (bits l)) (word_in (image_of u) i))) (front_part (multiframe_octets * i + sync_octets) header_octets (omega arith))
      ∙ ap ones (xor_self (word_in (image_of u) i)) ∙ none_flipped

  -- it is read as the first k multiframes alone are
  read_gone : (zero_read ch u gone).answer ≡ Ok (C.heard u k)
  read_gone =
      let i = index_for (multiframes_of u) in
      let r = report_for (multiframes_of u) in
      let c = F.cut_first u (image_of u) (unharmed u) k within in
      let n : length (cutting front).places ≡ k = ap (λ (w : Cutting). length w.places) c ∙ every_length 0 k in
      let lent = lent_zeros (multiframes_of u) in
      ap (λ (o : Outcome). o.answer)
      (inverses_behind ch front (ap (λ (w : Cutting). w.ending) c) (omega (arith, n)) (omega (arith, n, F.few u (image_of u) (unharmed u) k within)) 72 zero_tables i r
      ∙ C.cut_off_reads ch u k some (omega arith) enough zero_tables i r
      (record {
        right_tables = lent.right_tables;
        index_room = omega (arith, lent.index_room);
        report_room = omega (arith, lent.report_room);
      }))

  pub syncs_miscount : Miscounts ch u k (overwritten u k)
  syncs_miscount = record {
    size = length-append front (inverses 72) ∙ omega (arith, front_size, inverses_length 72, length_image u.settings u.indices (multiframes_of u));
    headers = record {
      two = omega arith;
      but = k;
      others = λ i h n. omega (arith, no_flip i (omega arith));
    };
    syncs = λ i h. front_part (multiframe_octets * i) sync_octets (omega arith);
    last_sync = part_right front (inverses 72) (multiframe_octets * k) sync_octets front_size;
    given = C.heard u k;
    succeeds = read_gone;
    count = refl;
    misled = λ x. let e : k ≡ multiframes_of u = x.multiframes in omega arith;
  }

-- so of 24 frames, where the caller asks for the old rule, and of 48 by either choice
pub miscounted_24 : Miscounts by_one_header says24 1 (overwritten says24 1)
miscounted_24 = syncs_miscount by_one_header says24 1 (lit< tt) two_multiframes (inr refl)

pub miscounted_48 : (ch : Choices) → Miscounts ch says48 2 (overwritten says48 2)
miscounted_48 ch = syncs_miscount ch says48 2 (lit< tt) three_multiframes (inl (lit≤ tt))
