-- The premises of what the yards are told are met, and not only by images as they were written.
-- Assumes nothing.
use Rattle.std.specs.Prelude.{◌≡◌, refl, Bool, true, false, List, [], ◌∷◌, ◌++◌, ◌⊎◌, ℕ, zero, suc, ◌+◌, ◌-◌, ◌*◌, ◌%◌, ◌^◌, ◌≤◌, ◌<◌, eqb, take, length, get_or, replicate, Some, None, Ok}
use Rattle.std.proofs.Common.{sym, ap, ap₂, ◌∙◌, subst, inl, inr, le_of_eq, arith, lit<, lit≤, ne_eqb, lt-ltb, le-ltb}
use Rattle.std.proofs.Math.Bool.{xor}
use Rattle.std.proofs.Math.Decide.{ℕ_discrete}
use Rattle.std.specs.Int.Bits.{bit_xor}
use Rattle.std.specs.Int.Count.{ones}
use Rattle.std.proofs.lemmas.List.{length-replicate}
use Rattle.lists.specs.Tests.{by_test}
use Rattle.lists.specs.Parts.{over}
use Rattle.lists.specs.Rows.{same_joined}
use Rattle.layout.specs.Layout.{multiframe_octets, widths, frame_indices, data_bits, packet_bits, multiframe_pairs, index_octets, report_octets, first_frame, second_frame, first_pair}
use Rattle.choices.specs.declared.Choices.{Choices}
use Rattle.tables.specs.Tables.{Tables, zero_tables}
use Rattle.settings.specs.declared.Settings.{Settings}
use Rattle.bits.specs.Bits.{field, laid}
use Rattle.crc.specs.Crc.{crc, after, right, flip, Damaged}
use Rattle.crc.proofs.Damage.{length_flip, flips_burst, flips_double}
use Rattle.packet.specs.Packet.{guarded, packet, row, packet_of}
use Rattle.packet.proofs.Laws.{length_packet_of, packet_of_good}
use Rattle.cutting.proofs.Laws.{every_length}
use Rattle.header_code.specs.Code.{codeword}
use Rattle.message.specs.Message.{message}
use Rattle.header.specs.Reading.{decoded_as}
use Rattle.header_readings.specs.Readings.{readings}
use Rattle.settling.specs.Settling.{settling}
use Rattle.header_notes.specs.HeaderNotes.{header_note}
use Rattle.settling.specs.Laws.{Enough}
use Rattle.settling.proofs.Laws.{two_settle}
use Rattle.carrier.specs.Carrier.{received, pair_count}
use Rattle.notes.specs.Laws.{length_notes}
use Rattle.report.specs.Report.{report_part}
use Rattle.reader.specs.Reading.{index_part, summary, Outcome, outcome, reading}
use Rattle.image.specs.Made.{word_in, packet_in, framed, made}
use Rattle.image.proofs.Laws.{image_packet}
use Rattle.writer.specs.Utterance.{Utterance, multiframes_of, pairs_of, image_of}
use Rattle.recordings.specs.CutOff as C
use Rattle.damage.specs.Damage.{DamageUpTo, Damage, header_bits, Touched, differs, header_flips, sent_message, header_near, header_read_lem}
use Rattle.damage.proofs.Damages.{unharmed}
use Rattle.demands.specs.Headers.{sent_common, TwoReadable}
use Rattle.demands.proofs.HeadersLaws.{others_sent}
use Rattle.demands.specs.Received.{BadPair}
use Rattle.demands.specs.ReadsBack.{spoken}
use Rattle.demands.proofs.ReadsBackLaws.{no_more, never_bad, reads_image}
use Rattle.demands.specs.NamesTheDamage as N
use Rattle.demands.proofs.NamesTheDamageLaws as NL
use Rattle.demands.specs.Whole.{row_of, Lent, header_note_in, pair_note_in}
use Rattle.demands.proofs.WholeLaws.{front_at, header_note_is}
use Rattle.damage.specs.ToldApart.{Near}
use Rattle.damage.specs.Instances.{says1}
use Rattle.demands_met.specs.Met.{index_for, report_for, distance, says24, two_multiframes}
use Rattle.demands_met.proofs.MetLaws.{lent_zeros}
use Rattle.promises.specs.Misled as M
use Rattle.promises.proofs.Misled.{never_misled}
use Rattle.promises.specs.Trusted as T
use Rattle.promises.specs.Heard as S
use Rattle.promises.proofs.Heard.{heard_whole, last_heard}
use Rattle.promises.specs.Flipped.{packed, flipped_word, flipped, flipped_size, flipped_syncs, flips_are, packets_are, flipped_damage, zero_not_bad, zero_unnamed}
use Rattle.promises.specs.Flipped.{sent_whole, sent_damage, but_one, there, elsewhere, length_but_one, hit, length_hit, hit_fates, told_touched, untold_whole, at11}
use Rattle.promises.specs.Flipped.{rate_bits, none_flipped, one_flipped, two_flipped, three_flipped, five_flipped, six_flipped, seven_flipped, flips_at_11, noted_11}
use Rattle.promises.specs.Flipped.{header_at, has_common_lem, usable, reads_settled, good_pair, zero_read, zero_notes}
use Rattle.promises.specs.Met.{says48, three_multiframes, rate_48, in_second, Incident, Harmless, five_else, lost_second, lost_one, Heard, burst, double, hurt_packet, all_hurt, Hurt, earlier, earlier_hurt, LastHeard, far_others, first_as, headed, one24, two24, hurt_first, Near24}

pub in_second_lt : (b c : ℕ) → b < 2 ^ 32 → c < 2 ^ 32 → (k : ℕ) → in_second b c k < 2 ^ 32
in_second_lt b c h l k = by_test (λ (n : ℕ). n < 2 ^ 32) (eqb k 1) (λ t. h) (λ t. l)

module _ (u : Utterance) (b c : ℕ) (lb : b < 2 ^ 32) (lc : c < 2 ^ 32) (f : ℕ → List Bool) where
  pub flips_in_second : 1 < multiframes_of u → header_flips (image_of u) (flipped u (in_second b c) f) 1 ≡ ones b
  flips_in_second h = flips_are u (in_second b c) f (in_second_lt b c lb lc) 1 h

  pub flips_in_others : (k : ℕ) → k < multiframes_of u → (k ≡ 1 → ⊥) → header_flips (image_of u) (flipped u (in_second b c) f) k ≡ ones c
  flips_in_others k h n =
      let e : in_second b c k ≡ c = rw (ne_eqb k 1 n) in
      flips_are u (in_second b c) f (in_second_lt b c lb lc) k h ∙ ap ones e

  pub misled_met : ones c ≤ 3 → 2 ≤ multiframes_of u → M.Premises u (flipped u (in_second b c) f)
  misled_met few two = record {
    size = flipped_size u (in_second b c) f;
    syncs = flipped_syncs u (in_second b c) f;
    headers = inl (record { two = two; but = 1; others = λ k h n. subst (λ (i : ℕ). i ≤ 3) (sym (flips_in_others k h n)) few });
  }

pub incident : (u : Utterance) (f : ℕ → List Bool) → 2 ≤ multiframes_of u → Incident u f
incident u f two = record {
  premises = misled_met u rate_bits 7 (lit< tt) (lit< tt) f (le_of_eq three_flipped) two;
  second = flips_in_second u rate_bits 7 (lit< tt) (lit< tt) f (omega arith) ∙ six_flipped;
  others = λ k h n. flips_in_others u rate_bits 7 (lit< tt) (lit< tt) f k h n ∙ three_flipped;
}

-- of three multiframes or more, with at most two flips in the other headers, tables of zeros and one packet that is right
module _ (ch : Choices) (u : Utterance) (b c : ℕ) (lb : b < 2 ^ 32) (lc : c < 2 ^ 32) (f : ℕ → List Bool) (eight : u.settings.rate ≡ 0) (three : 3 ≤ multiframes_of u) (few : ones c ≤ 2)
    (n : ℕ) (near : ones (bit_xor b rate_bits) ≡ n) (mended : n ≤ 2) (q : ℕ) (within : q < pairs_of u) (whole : right data_bits (packet_in (flipped u (in_second b c) f) q) ≡ true) where
  abbrev s : List ℕ
  s = flipped u (in_second b c) f

  abbrev m : ℕ
  m = multiframes_of u

  others : (k : ℕ) → k < m → (k ≡ 1 → ⊥) → header_flips (image_of u) s k ≤ 2
  others k h n = omega (arith, flips_in_others u b c lb lc f k h n)

  -- the first header and the third settle the settings
  settled : settling ch (readings s (row_of m)) ≡ Some (sent_common u)
  settled =
      two_settle (readings s (row_of m)) (sent_common u) 1 (others_sent u s 1 (λ k h n. omega (arith, others k h n))) ch 0 2 (lit< tt)
      (has_common_lem u s 0 (omega arith) (others 0 (omega arith) (λ e. omega arith))) (has_common_lem u s 2 (omega arith) (others 2 (omega arith) (λ e. omega arith)))

  -- the second is read as one of 11 kHz
  far_11 : header_flips (image_of (at11 u)) s 1 ≡ n
  far_11 = flips_at_11 u eight (in_second b c) f (in_second_lt b c lb lc) 1 (omega arith) ∙ near

  second : get_or (readings s (row_of m)) 1 None ≡ Some (decoded_as (word_in s 1) (sent_message (at11 u) 1))
  second = header_at s m 1 (omega arith) ∙ header_read_lem (at11 u) s 1 (omega arith) (omega (arith, far_11))

  read_is : zero_read ch u s
      ≡ outcome (Ok (summary s (row_of m) (zero_notes u s) (sent_common u))) (over (index_for m) 0 (index_octets * length (row_of m)) (index_part s (row_of m) (zero_notes u s)))
      (over (report_for m) 0 (report_octets * length (row_of m)) (report_part s (row_of m) (zero_notes u s) (sent_common u)))
  read_is =
      reads_settled ch u s (flipped_size u (in_second b c) f) (flipped_syncs u (in_second b c) f) zero_tables (index_for m) (report_for m) (lent_zeros m) (sent_common u)
      settled (usable u) (good_pair s m q within whole)

  pub harmless : Harmless ch u (flipped u (in_second b c) f) n
  harmless = record {
    given = summary s (row_of m) (zero_notes u s) (sent_common u);
    succeeds = ap (λ (o : Outcome). o.answer) read_is;
    sent = never_misled ch u s (misled_met u b c lb lc f (omega arith) (omega arith)) zero_tables (index_for m) (report_for m)
        (summary s (row_of m) (zero_notes u s) (sent_common u)) (ap (λ (o : Outcome). o.answer) read_is);
    noted = ap (λ (o : Outcome). header_note_in o.report 1) read_is
        ∙ header_note_is s (row_of m) (zero_notes u s) (report_for m) (sent_common u) (report_octets * length (row_of m)) (length_notes (received s (row_of m)) (pair_count (row_of m)) zero_tables) 1
        (omega (arith, every_length 0 m))
        ∙ ap (header_note (sent_common u) 1) second ∙ noted_11 u eight 1 (word_in s 1) ∙ ap (λ (x : ℕ). x + 8) (header_near (at11 u) s 1 (omega arith) ∙ far_11);
  }

-- so the incident's header: 48 frames, two flips in each other header, any bits for the first packet, and all other packets as they were sent
pub incident_48 : (ch : Choices) (p : List Bool) → length p ≡ packet_bits → Harmless ch says48 (flipped says48 (in_second rate_bits 3) (but_one says48 0 p)) 0
incident_48 ch p size =
    let f = but_one says48 0 p in
    let h : 1 < pairs_of says48 = omega (arith, three_multiframes) in
    harmless ch says48 rate_bits 3 (lit< tt) (lit< tt) f rate_48 (omega (arith, three_multiframes)) (le_of_eq two_flipped) 0 none_flipped (omega arith) 1 h
    (ap (right data_bits) (packets_are says48 (in_second rate_bits 3) f (in_second_lt rate_bits 3 (lit< tt) (lit< tt)) (length_but_one says48 0 p size) 1 h ∙ elsewhere says48 0 p 1 (λ e. omega arith))
    ∙ packet_of_good says48.indices 1)

-- an only header with up to five flips, and any packets
module _ (u : Utterance) (single : multiframes_of u ≡ 1) (e : ℕ) (small : e < 2 ^ 32) (f : ℕ → List Bool) where
  pub only_met : ones e ≤ 5 → M.Premises u (flipped u (λ k. e) f)
  only_met five = record {
    size = flipped_size u (λ k. e) f;
    syncs = flipped_syncs u (λ k. e) f;
    headers = inr (record { single = single; five = subst (λ (n : ℕ). n ≤ 5) (sym (flips_are u (λ k. e) f (λ k. small) 0 (omega arith))) five });
  }

-- so five, of one frame. A header that is one to five flips from the one sent is no codeword, so such a reading is refused
pub only_five : (f : ℕ → List Bool) → M.Premises says1 (flipped says1 (λ k. 31) f) × (header_flips (image_of says1) (flipped says1 (λ k. 31) f) 0 ≡ 5)
only_five f = (only_met says1 refl 31 (lit< tt) f (le_of_eq five_flipped), flips_are says1 (λ k. 31) f (λ k. lit< tt) 0 (lit< tt) ∙ five_flipped)

-- ---- TRUSTED: every image as it was written, of two multiframes or more or by the old rule, is read without a warning, whatever the tables; the
-- theorem says that no other damaged image is
module _ (ch : Choices) (u : Utterance) (sent : Enough ch (multiframes_of u)) (tables : Tables) (index report : List ℕ) (lent : Lent (multiframes_of u) tables index report) where
  pub without_warning : T.WithoutWarning ch (image_of u) tables index report (spoken u)
  without_warning =
      let n = report_octets * multiframes_of u in
      let r = reads_image ch u sent tables index report lent in
      record {
        succeeds = ap (λ (o : Outcome). o.answer) r;
        notes_0 = λ i h.
            ap (λ (o : Outcome). get_or o.report i 0) r ∙ front_at report (replicate n 0) n i (subst (λ (k : ℕ). i < k) (sym (length-replicate n 0)) h) ∙ no_more n i;
      }

-- both premises, with tables of zeros
pub trusted_met : (ch : Choices) (u : Utterance) → Enough ch (multiframes_of u) → Damage (multiframes_of u) (image_of u) (image_of u)
    × T.WithoutWarning ch (image_of u) zero_tables (index_for (multiframes_of u)) (report_for (multiframes_of u)) (spoken u)
trusted_met ch u sent = (unharmed u, without_warning ch u sent zero_tables (index_for (multiframes_of u)) (report_for (multiframes_of u)) (lent_zeros (multiframes_of u)))

five_lt : (k : ℕ) → five_else k < 2 ^ 32
five_lt k = by_test (λ (n : ℕ). n < 2 ^ 32) (eqb k 0) (λ t. lit< tt) (λ t. lit< tt)

five_bits_lem : (k : ℕ) → ones (five_else k) ≤ header_bits
five_bits_lem k = by_test (λ (n : ℕ). ones n ≤ header_bits) (eqb k 0) (λ t. omega (arith, five_flipped)) (λ t. omega (arith, seven_flipped))

pub by_one_met : (u : Utterance) → T.Premises u (flipped u five_else (hit u (λ q. true)))
by_one_met u = record {
  damage = flipped_damage u five_else (hit u (λ q. true)) five_lt (length_hit u (λ q. true)) header_bits (λ k h. five_bits_lem k) (λ q h. hit_fates u (λ q. true) q);
  header = 0;
  within = omega arith;
  five = omega (arith, flips_are u five_else (hit u (λ q. true)) five_lt 0 (omega arith), five_flipped);
}

lost_lt : (k : ℕ) → lost_second k < 2 ^ 32
lost_lt k = by_test (λ (n : ℕ). n < 2 ^ 32) (eqb k 0) (λ t. lit< tt) (λ t. by_test (λ (n : ℕ). n < 2 ^ 32) (eqb k 1) (λ t. lit< tt) (λ t. lit< tt))

lost_three : (k : ℕ) → ones (lost_second k) ≤ 3
lost_three k =
    by_test (λ (n : ℕ). ones n ≤ 3) (eqb k 0) (λ t. omega (arith, two_flipped)) (λ t.
    by_test (λ (n : ℕ). ones n ≤ 3) (eqb k 1) (λ t. omega (arith, three_flipped)) (λ t. omega (arith, one_flipped)))

module _ (u : Utterance) (three : 3 ≤ multiframes_of u) (f : ℕ → List Bool) where
  lost_flips : (k : ℕ) → k < multiframes_of u → header_flips (image_of u) (flipped u lost_second f) k ≡ ones (lost_second k)
  lost_flips k h = flips_are u lost_second f lost_lt k h

  -- the first and the third settle the settings
  two_readable : TwoReadable u (flipped u lost_second f)
  two_readable = record {
    one = 0;
    two = 2;
    order = lit< tt;
    within = omega arith;
    few_of_one = omega (arith, lost_flips 0 (omega arith), two_flipped);
    few_of_two = omega (arith, lost_flips 2 (omega arith), one_flipped);
  }

-- whatever the tables
module _ (ch : Choices) (u : Utterance) (three : 3 ≤ multiframes_of u) (tables : Tables) (index report : List ℕ) (lent : Lent (multiframes_of u) tables index report) where
  damage_3 : DamageUpTo 3 (multiframes_of u) (image_of u) (lost_one u)
  damage_3 = sent_damage u lost_second lost_lt 3 (λ k h. lost_three k)

  not_one_bad : (q : ℕ) → q < pairs_of u → BadPair u (lost_one u) tables q → ⊥
  not_one_bad = never_bad ch u (lost_one u) damage_3 (sent_whole u lost_second lost_lt) (inl (two_readable u three (packet_of u.indices))) tables index report lent

  pub heard_met : N.Wider ch u (lost_one u) tables index report
  heard_met = record {
    damage = damage_3;
    headers = inl (two_readable u three (packet_of u.indices));
    pair = 0;
    within = omega arith;
    not_bad = not_one_bad 0 (omega arith);
    lent = lent;
  }

  named : N.Named ch u (lost_one u) tables index report
  named = NL.names_wider ch u (lost_one u) tables index report heard_met

  pub none_named : (q : ℕ) → q < pairs_of u → pair_note_in (reading ch (lost_one u) tables index report).report q ≡ 0
  none_named q h =
      elim (ℕ_discrete (pair_note_in (reading ch (lost_one u) tables index report).report q) 0) [
        | yes y ↦ y
        | no n ↦ absurd (not_one_bad q h (inr ((named.names.others q h (λ t. t (sent_whole u lost_second lost_lt q h))).0 n)))
      ]

  pub heard : Heard ch u tables index report
  heard =
      let r = heard_whole ch u (lost_one u) tables index report heard_met none_named in
      let note = named.names.flips in
      let flips = lost_flips u three (packet_of u.indices) in
      record {
        succeeds = ap (λ (o : Outcome). o.answer) r;
        frames = ap (λ (o : Outcome). o.index) r;
        first = note 0 (omega arith) ∙ flips 0 (omega arith) ∙ two_flipped;
        second = note 1 (omega arith) ∙ flips 1 (omega arith) ∙ three_flipped;
        third = note 2 (omega arith) ∙ flips 2 (omega arith) ∙ one_flipped;
      }

-- so of 48 frames
pub heard_48 : (ch : Choices) → Heard ch says48 zero_tables (index_for (multiframes_of says48)) (report_for (multiframes_of says48))
heard_48 ch = heard ch says48 (le_of_eq (sym three_multiframes)) zero_tables (index_for (multiframes_of says48)) (report_for (multiframes_of says48)) (lent_zeros (multiframes_of says48))

module _ (u : Utterance) (q : ℕ) where
  length_flips : (i j : ℕ) → length (flip (flip (packet_of u.indices q) i) j) ≡ packet_bits
  length_flips i j =
      length_flip (flip (packet_of u.indices q) i) j ∙ length_flip (packet_of u.indices q) i ∙ length_packet_of u.indices q

  length_hurt : length (hurt_packet u q) ≡ packet_bits
  length_hurt =
      by_test (λ (l : List Bool). length l ≡ packet_bits) (eqb (q % multiframe_pairs) 0) (λ t. length_flips 0 2) (λ t.
      by_test (λ (l : List Bool). length l ≡ packet_bits) (eqb (q % multiframe_pairs) 1) (λ t. length_flips 0 distance) (λ t. length_packet_of u.indices q))

  burst_hurts : Damaged (packet_of u.indices q) (burst u q)
  burst_hurts = inl (flips_burst (packet_of u.indices q) 0 2 (lit< tt) (lit< tt) (omega (arith, length_packet_of u.indices q)))

  double_hurts : Damaged (packet_of u.indices q) (double u q)
  double_hurts = inr (flips_double (packet_of u.indices q) 0 distance (lit< tt) (omega (arith, length_packet_of u.indices q)) (λ e. omega arith))

  abbrev SentOr : List Bool → Type 0
  SentOr l = (l ≡ packet_of u.indices q) ⊎ Damaged (packet_of u.indices q) l

  fates : (hurt_packet u q ≡ packet_of u.indices q) ⊎ Damaged (packet_of u.indices q) (hurt_packet u q)
  fates =
      by_test SentOr (eqb (q % multiframe_pairs) 0) (λ t. inr burst_hurts) (λ t.
      by_test SentOr (eqb (q % multiframe_pairs) 1) (λ t. inr double_hurts) (λ t. inl refl))

module _ (ch : Choices) (u : Utterance) (three : 3 ≤ multiframes_of u) where
  packet_is : (q : ℕ) → q < pairs_of u → packet_in (all_hurt u) q ≡ hurt_packet u q
  packet_is q h = packets_are u lost_second (hurt_packet u) lost_lt (length_hurt u) q h

  sent : (q : ℕ) → q < pairs_of u → packet_in (image_of u) q ≡ packet_of u.indices q
  sent q h = image_packet u.settings u.indices (multiframes_of u) q h

  third_whole : packet_in (all_hurt u) 2 ≡ packet_in (image_of u) 2
  third_whole = packet_is 2 (omega arith) ∙ sym (sent 2 (omega arith))

  touched : (q : ℕ) → q < pairs_of u → Damaged (packet_of u.indices q) (hurt_packet u q) → Touched (image_of u) (all_hurt u) q
  touched q h d e = differs (packet_of u.indices q) (hurt_packet u q) d (sym (packet_is q h) ∙ e ∙ sent q h)

  pub wider_met : N.Wider ch u (all_hurt u) zero_tables (index_for (multiframes_of u)) (report_for (multiframes_of u))
  wider_met = record {
    damage = flipped_damage u lost_second (hurt_packet u) lost_lt (length_hurt u) 3 (λ k h. lost_three k) (λ q h. fates u q);
    headers = inl (two_readable u three (hurt_packet u));
    pair = 2;
    within = omega arith;
    not_bad = zero_not_bad u (all_hurt u) 2 third_whole;
    lent = lent_zeros (multiframes_of u);
  }

  pub hurt : Hurt ch u
  hurt =
      let names = (NL.names_wider ch u (all_hurt u) zero_tables (index_for (multiframes_of u)) (report_for (multiframes_of u)) wider_met).names in
      record {
        lost = names.flips 1 (omega arith) ∙ lost_flips u three (hurt_packet u) 1 (omega arith) ∙ three_flipped;
        first = (names.damaged 0 (omega arith)).1 (touched 0 (omega arith) (burst_hurts u 0));
        second = (names.damaged 1 (omega arith)).1 (touched 1 (omega arith) (double_hurts u 1));
        third = zero_unnamed u (all_hurt u) 2 third_whole ch (omega arith) wider_met;
      }

-- so of 48 frames
pub hurt_48 : (ch : Choices) → Hurt ch says48
hurt_48 ch = hurt ch says48 (le_of_eq (sym three_multiframes))

module _ (ch : Choices) (u : Utterance) (two : 2 ≤ multiframes_of u) where
  last_whole : (q : ℕ) → first_pair (multiframes_of u - 1) ≤ q → q < pairs_of u → packet_in (earlier_hurt u) q ≡ packet_in (image_of u) q
  last_whole q l h = untold_whole u (earlier u) (λ k. 3) (λ k. lit< tt) q h (le-ltb q (first_pair (multiframes_of u - 1)) l)

  flips : (k : ℕ) → k < multiframes_of u → header_flips (image_of u) (earlier_hurt u) k ≡ 2
  flips k h = flips_are u (λ k. 3) (hit u (earlier u)) (λ k. lit< tt) k h ∙ two_flipped

  pub last_met_lem : N.Wider ch u (earlier_hurt u) zero_tables (index_for (multiframes_of u)) (report_for (multiframes_of u))
  last_met_lem = record {
    damage = flipped_damage u (λ k. 3) (hit u (earlier u)) (λ k. lit< tt) (length_hit u (earlier u)) 3 (λ k h. omega (arith, two_flipped)) (λ q h. hit_fates u (earlier u) q);
    headers = inl (record {
      one = 0;
      two = 1;
      order = lit< tt;
      within = omega arith;
      few_of_one = le_of_eq (flips 0 (omega arith));
      few_of_two = le_of_eq (flips 1 (omega arith));
    });
    pair = first_pair (multiframes_of u - 1);
    within = omega arith;
    not_bad = zero_not_bad u (earlier_hurt u) (first_pair (multiframes_of u - 1)) (last_whole (first_pair (multiframes_of u - 1)) (omega arith) (omega arith));
    lent = lent_zeros (multiframes_of u);
  }

  pub last_unnamed : S.LastUnnamed ch u (earlier_hurt u) zero_tables (index_for (multiframes_of u)) (report_for (multiframes_of u)) last_met_lem
  last_unnamed q l h = zero_unnamed u (earlier_hurt u) q (last_whole q l h) ch h last_met_lem

  pub last_is_heard : LastHeard ch u
  last_is_heard =
      let x = NL.names_wider ch u (earlier_hurt u) zero_tables (index_for (multiframes_of u)) (report_for (multiframes_of u)) last_met_lem in
      let s = last_heard ch u (earlier_hurt u) zero_tables (index_for (multiframes_of u)) (report_for (multiframes_of u)) last_met_lem last_unnamed x.given x.succeeds in
      record {
        named = λ q h.
            (x.names.damaged q (omega arith)).1 (told_touched u (earlier u) (λ k. 3) (λ k. lit< tt) q (omega arith) (lt-ltb q (first_pair (multiframes_of u - 1)) h));
        given = x.given;
        succeeds = x.succeeds;
        speech = s.0;
        end = s.1;
      }

-- so of 24 frames
pub last_24 : (ch : Choices) → LastHeard ch says24
last_24 ch = last_is_heard ch says24 (le_of_eq (sym two_multiframes))

far_lt : (k : ℕ) → far_others k < 2 ^ 32
far_lt k = by_test (λ (n : ℕ). n < 2 ^ 32) (eqb k 0) (λ t. lit< tt) (λ t. lit< tt)

far_bits : (k : ℕ) → ones (far_others k) ≤ header_bits
far_bits k = by_test (λ (n : ℕ). ones n ≤ 32) (eqb k 0) (λ t. omega (arith, two_flipped)) (λ t. omega (arith, seven_flipped))

module _ (u : Utterance) (p : List Bool) (size : length p ≡ packet_bits) where
  far_damage : Damaged (packet_of u.indices 0) p → DamageUpTo header_bits (multiframes_of u) (image_of u) (first_as u p)
  far_damage d = flipped_damage u far_others (but_one u 0 p) far_lt (length_but_one u 0 p size) header_bits (λ k h. far_bits k) (λ q h. by_one q)
    where
      by_one : (q : ℕ) → (but_one u 0 p q ≡ packet_of u.indices q) ⊎ Damaged (packet_of u.indices q) (but_one u 0 p q)
      by_one zero = inr (subst (Damaged (packet_of u.indices 0)) (sym (there u 0 p)) d)
      by_one (suc q) = inl (elsewhere u 0 p (suc q) (λ e. omega arith))

  two_of_first : header_flips (image_of u) (first_as u p) 0 ≡ 2
  two_of_first = flips_are u far_others (but_one u 0 p) far_lt 0 (omega arith) ∙ two_flipped

  pub seven_of_others : (k : ℕ) → 0 < k → k < multiframes_of u → header_flips (image_of u) (first_as u p) k ≡ 7
  seven_of_others k n h =
      let e : far_others k ≡ 127 = rw (ne_eqb k 0 (λ z. omega arith)) in
      flips_are u far_others (but_one u 0 p) far_lt k h ∙ ap ones e ∙ seven_flipped

module _ (u v : Utterance) (same : u.settings ≡ v.settings) (counts : multiframes_of u ≡ multiframes_of v)
    (rest : (q : ℕ) → (q ≡ 0 → ⊥) → packet_of u.indices q ≡ packet_of v.indices q) (p : List Bool) (size : length p ≡ packet_bits) where
  same_packets : (q : ℕ) → but_one u 0 p q ≡ but_one v 0 p q
  same_packets zero = there u 0 p ∙ sym (there v 0 p)
  same_packets (suc q) = elsewhere u 0 p (suc q) (λ e. omega arith) ∙ rest (suc q) (λ e. omega arith) ∙ sym (elsewhere v 0 p (suc q) (λ e. omega arith))

  same_image : first_as u p ≡ first_as v p
  same_image =
      same_joined (λ k. framed (flipped_word u far_others (but_one u 0 p) k) (packed (but_one u 0 p) k)) (λ k. framed (flipped_word v far_others (but_one v 0 p) k) (packed (but_one v 0 p) k))
      (multiframes_of u) (λ k h.
      ap₂ framed (ap (λ (a : Settings). bit_xor (codeword (message a (k + 1) 0)) (far_others k)) same)
      (same_joined (λ r. but_one u 0 p (first_pair k + r)) (λ r. but_one v 0 p (first_pair k + r)) multiframe_pairs (λ r i. same_packets (first_pair k + r))))
      ∙ ap (λ (m : ℕ). made (flipped_word v far_others (but_one v 0 p)) (packed (but_one v 0 p)) m) counts

  pub near_met : Damaged (packet_of u.indices 0) p → Damaged (packet_of v.indices 0) p → Near u v (first_as u p) (first_as v p)
  near_met du dv = record {
    one = far_damage u p size du;
    other = far_damage v p size dv;
    equal = same_image;
    header = 0;
    within = omega arith;
    flips = omega (arith, two_of_first u p size, two_of_first v p size);
  }

-- both first packets, bit by bit: all but the first index and the CRC are the same
abbrev one6 : List Bool
one6 = true ∷ replicate 5 false

abbrev one8 : List Bool
one8 = true ∷ replicate 7 false

abbrev onwards : List Bool
onwards = replicate 4 false ++ (one6 ++ (one6 ++ (one6 ++ (one6 ++ (one6 ++ (one8 ++ (one6 ++ (one6 ++ (one6 ++ (one6 ++ (one6 ++ (one6 ++ one8))))))))))))

first_one : packet_of (headed 1) 0 ≡ true ∷ false ∷ (onwards ++ (true ∷ true ∷ true ∷ true ∷ []))
unfolding packet_of packet guarded crc after row laid field xor
first_one = refl

first_two : packet_of (headed 2) 0 ≡ false ∷ true ∷ (onwards ++ (true ∷ true ∷ false ∷ false ∷ []))
unfolding packet_of packet guarded crc after row laid field xor
first_two = refl

-- the one with its bits 0 and 1 flipped is the other with its CRC's bits 90 and 91 flipped
same_hurt : flip (flip (packet_of (headed 1) 0) 0) 1 ≡ flip (flip (packet_of (headed 2) 0) 90) 91
same_hurt = ap (λ (p : List Bool). flip (flip p 0) 1) first_one ∙ sym (ap (λ (p : List Bool). flip (flip p 90) 91) first_two)

-- behind the first index they are the same
same_row : (a b : List ℕ) (at n : ℕ) → ((i : ℕ) → at ≤ i → get_or a i 0 ≡ get_or b i 0) → row a at n ≡ row b at n
unfolding row
same_row a b at zero h = refl
same_row a b at (suc n) h = ap₂ (λ (l : List ℕ) (x : ℕ). l ++ (x ∷ [])) (same_row a b at n h) (h (at + n) (omega arith))

same_behind : (x y i : ℕ) → 0 < i → get_or (headed x) i 0 ≡ get_or (headed y) i 0
same_behind x y zero h = absurd (omega arith)
same_behind x y (suc i) h = refl

same_packet : (q : ℕ) → (q ≡ 0 → ⊥) → packet_of (headed 1) q ≡ packet_of (headed 2) q
unfolding packet_of
same_packet q n =
    ap₂ (packet widths) (same_row (headed 1) (headed 2) (frame_indices * first_frame q) frame_indices (λ i h. same_behind 1 2 i (omega arith)))
    (same_row (headed 1) (headed 2) (frame_indices * second_frame q) frame_indices (λ i h. same_behind 1 2 i (omega arith)))

hurt_size : length hurt_first ≡ packet_bits
hurt_size = length_flip (flip (packet_of (headed 1) 0) 0) 1 ∙ length_flip (packet_of (headed 1) 0) 0 ∙ length_packet_of (headed 1) 0

hurt_of_one : Damaged (packet_of (headed 1) 0) hurt_first
hurt_of_one = inl (flips_burst (packet_of (headed 1) 0) 0 1 (lit< tt) (lit< tt) (omega (arith, length_packet_of (headed 1) 0)))

hurt_of_two : Damaged (packet_of (headed 2) 0) hurt_first
hurt_of_two = subst (Damaged (packet_of (headed 2) 0)) (sym same_hurt) (inl (flips_burst (packet_of (headed 2) 0) 90 91 (lit< tt) (lit< tt) (omega (arith, length_packet_of (headed 2) 0))))

pub near_24 : Near24
unfolding one24 two24
near_24 = record {
  near = near_met one24 two24 refl refl same_packet hurt_first hurt_size hurt_of_one hurt_of_two;
  first = two_of_first one24 hurt_first hurt_size;
  second = seven_of_others one24 hurt_first hurt_size 1 (lit< tt) (lit< tt);
  different = λ e. let z : ◌≡◌ {A = ℕ} 1 2 = ap (λ (l : List ℕ). get_or l 0 0) e in omega arith;
}

-- ---- CUT OFF: of 48 frames, which are three multiframes, the first two came. They are read by either choice, with no end
pub first_two_of_48 : (ch : Choices) → (reading ch (take (multiframe_octets * 2) (image_of says48)) zero_tables (index_for 2) (report_for 2)).answer ≡ Ok (C.heard says48 2)
first_two_of_48 ch = ap (λ (o : Outcome). o.answer) (C.cut_off_reads ch says48 2 (lit< tt) (omega (arith, three_multiframes)) (inl (lit≤ tt)) zero_tables (index_for 2) (report_for 2) (lent_zeros 2))

pub no_end_of_48 : (ch : Choices) → (C.heard says48 2).end ≡ 0
no_end_of_48 ch = C.cut_off_told ch says48 2 (omega (arith, three_multiframes)) zero_tables (index_for 2) (report_for 2) (C.heard says48 2) (first_two_of_48 ch)
