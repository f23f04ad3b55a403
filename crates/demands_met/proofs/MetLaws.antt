-- The premises of the theorems are met: by every utterance where they can be, and by one of two multiframes where damage must leave a good pair.
-- Assumes nothing.
use Rattle.std.specs.Prelude.{◌≡◌, false, List, ◌++◌, ◌⊎◌, pos, length, take, drop, get_or, replicate}
use Rattle.std.proofs.Math.Path.{refl, sym}
use Rattle.std.proofs.Common.{ap, ap₂, ◌∙◌, subst, append_assoc, inl, inr, ⊎_elim, arith, lit<, length-append, take_at, drop_at}
use Prim.Native.Nat.{ℕ, zero, suc, ◌+◌, ◌-◌, ◌*◌, ◌/◌, ◌%◌, ◌≤◌, ◌<◌}
use Rattle.std.proofs.Math.Nat.{le_of_eq}
use Rattle.std.proofs.lemmas.Nat.{xor_lt}
use Rattle.std.specs.Int.Count.{ones, ones_in}
use Rattle.std.proofs.lemmas.List.{length-replicate}
use Rattle.std.proofs.Math.Seq.{drop-append-add}
use Rattle.polynomials.specs.Light.{ones_in_lem}
use Rattle.lists.specs.Tests.{true_false}
use Rattle.lists.specs.Parts.{part, over}
use Rattle.layout.specs.Layout.{frame_indices, packet_bits, multiframe_pairs, stream_octets, index_octets, report_octets, threshold_numbers, first_pair}
use Rattle.choices.specs.declared.Choices.{Choices}
use Rattle.tables.specs.Tables.{at, zero_tables}
use Rattle.tables.proofs.AdmittedLaws.{zero_right}
use Rattle.carrier.specs.Carrier.{stream_packet}
use Rattle.crc.specs.Crc.{flip, Damaged}
use Rattle.crc.proofs.Damage.{length_flip, flips_burst, flips_double}
use Rattle.packet.specs.Packet.{frame_at, packet_of, stream}
use Rattle.packet.proofs.Laws.{length_packet_of, length_stream, stream_part}
use Rattle.consistency.specs.Consistency.{element_exceeds, flagged, flags, inconsistent}
use Rattle.header_code.specs.Code.{codeword, flips_to}
use Rattle.header_code.specs.Code.Distance.{codeword_lt}
use Rattle.message.specs.Message.Laws.{message_lt}
use Rattle.header.proofs.Laws.{flips_of}
use Rattle.reader.specs.Reading.{Outcome, reading}
use Rattle.image.specs.Made.{made_packet}
use Rattle.image.proofs.Laws.{length_image, image_small, image_packet}
use Rattle.settling.specs.Laws.{Enough}
use Rattle.wrong_frames.specs.WrongFrames.{frame_count}
use Rattle.writer.specs.Writing.{verdict, room_answer, needed, writing}
use Rattle.writer.specs.Writing as W
use Rattle.writer.specs.Utterance.{Utterance, multiframes_of, image_of}
use Rattle.writer.proofs.Utterance.{whole_frames, writes}
use Rattle.damage.specs.Damage.{Damage, sent_message}
use Rattle.damage.proofs.Damages.{damage_made}
use Rattle.demands.specs.Whole.{Lent}
use Rattle.demands.proofs.WholeLaws.{front_at}
use Rattle.demands.specs.Received.{BadPair}
use Rattle.demands.specs.ReadsBack.{spoken, padded}
use Rattle.demands.proofs.ReadsBackLaws.{no_more, reads_image}
use Rattle.demands.specs.ReadsBack as R
use Rattle.demands.specs.WritesAgain as A
use Rattle.demands.specs.NamesTheDamage as N
use Rattle.demands_met.specs.Met.{index_for, report_for, distance, burst_at, double_at, hurt_word, hurt_stream, hurt_image, says24, two_multiframes}

-- ---- tables of zeros, and just enough room
pub lent_zeros : (m : ℕ) → Lent m zero_tables (index_for m) (report_for m)
lent_zeros m = record {
  right_tables = zero_right;
  index_room = le_of_eq (sym (length-replicate (index_octets * m) 0));
  report_room = le_of_eq (sym (length-replicate (report_octets * m) 0));
}

-- with tables of zeros no pair is inconsistent
zero_at : (n i : ℕ) → at (replicate n (pos 0)) i ≡ pos 0
zero_at zero i = refl
zero_at (suc n) zero = refl
zero_at (suc n) (suc i) = zero_at n i

module _ (f g : List ℕ) where
  not_exceeded : (c i j e : ℕ) → element_exceeds zero_tables c i j e ≡ false
  not_exceeded c i j e = rw (zero_at threshold_numbers (2 * c + e), zero_at 1280 (128 * c + 2 * i + e), zero_at 1280 (128 * c + 2 * j + e))

  not_flagged : (c i j : ℕ) → flagged zero_tables c i j ≡ false
  unfolding flagged
  not_flagged c i j = rw (not_exceeded c i j 0, not_exceeded c i j 1)

  no_flags : (c : ℕ) → flags zero_tables f g c ≡ 0
  unfolding flags
  no_flags zero = refl
  no_flags (suc c) = rw (not_flagged c (get_or f c 0) (get_or g c 0)) (no_flags c)

  pub zero_consistent : inconsistent zero_tables f g ≡ false
  unfolding inconsistent
  zero_consistent = rw (no_flags frame_indices)

-- ---- READS BACK: every utterance of two multiframes or more meets its premises, and by the old rule every utterance
pub reads_back_met : (ch : Choices) (u : Utterance) → Enough ch (multiframes_of u)
    → R.Premises ch u zero_tables (replicate (needed u.indices) 0) (index_for (multiframes_of u)) (report_for (multiframes_of u))
reads_back_met ch u sent = record { headers = sent; output_room = le_of_eq (sym (length-replicate (needed u.indices) 0)); lent = lent_zeros (multiframes_of u) }

-- ---- WRITES AGAIN: every written image that is read meets its premises
module _ (ch : Choices) (u : Utterance) (sent : Enough ch (multiframes_of u)) where
  abbrev m : ℕ
  m = multiframes_of u

  abbrev output : List ℕ
  output = replicate (needed u.indices) 0

  abbrev image_read : Outcome
  image_read = reading ch (image_of u) zero_tables (index_for m) (report_for m)

  index_is : image_read.index ≡ over (index_for m) 0 (index_octets * m) (padded u)
  index_is = ap (λ (o : Outcome). o.index) (reads_image ch u sent zero_tables (index_for m) (report_for m) (lent_zeros m))

  report_is : image_read.report ≡ over (report_for m) 0 (report_octets * m) (replicate (report_octets * m) 0)
  report_is = ap (λ (o : Outcome). o.report) (reads_image ch u sent zero_tables (index_for m) (report_for m) (lent_zeros m))

  -- the first n frames of the index buffer are those that were written
  frames_are : take (frame_indices * frame_count u.indices) image_read.index ≡ u.indices
  frames_are =
      let z : List ℕ = replicate (index_octets * m - length u.indices) 0 in
      let r = drop (0 + index_octets * m) (index_for m) in
      ap (take (frame_indices * frame_count u.indices)) (index_is ∙ append_assoc u.indices z r)
      ∙ take_at u.indices (z ++ r) (frame_indices * frame_count u.indices) (whole_frames u)

  pub writes_again_met : A.Premises ch (image_of u) zero_tables (index_for m) (report_for m) output (spoken u)
  writes_again_met = record {
    small = image_small u.settings u.indices m;
    succeeds = ap (λ (o : Outcome). o.answer) (reads_image ch u sent zero_tables (index_for m) (report_for m) (lent_zeros m));
    notes_0 = λ i h.
        ap (λ (l : List ℕ). get_or l i 0) report_is
        ∙ front_at (report_for m) (replicate (report_octets * m) 0) (report_octets * m) i (subst (λ (k : ℕ). i < k) (sym (length-replicate (report_octets * m) 0)) h) ∙ no_more (report_octets * m) i;
    ended = refl;
    no_inverses = length_image u.settings u.indices m;
    octets = needed u.indices;
    accepts = ap (λ (l : List ℕ). (writing u.settings l output).answer) frames_are
        ∙ ap (λ (o : W.Outcome). o.answer) (writes u output (le_of_eq (sym (length-replicate (needed u.indices) 0))));
  }

module _ (u : Utterance) where
  length_flips : (q i j : ℕ) → length (flip (flip (packet_of u.indices q) i) j) ≡ packet_bits
  length_flips q i j =
      length_flip (flip (packet_of u.indices q) i) j ∙ length_flip (packet_of u.indices q) i ∙ length_packet_of u.indices q

  pub length_hurt : (k : ℕ) → length (hurt_stream u k) ≡ 8 * stream_octets
  length_hurt k =
      length-append (burst_at u k) (double_at u k ++ stream u.indices (first_pair k + 2) 10)
      ∙ ap₂ ◌+◌ (length_flips (first_pair k) 0 2)
      (length-append (double_at u k) (stream u.indices (first_pair k + 2) 10) ∙ ap₂ ◌+◌ (length_flips (first_pair k + 1) 0 distance) (length_stream u.indices (first_pair k + 2) 10))

  -- packet r of multiframe k: the first two are damaged, the others are as they were sent
  pub part_0 : (k : ℕ) → part 0 packet_bits (hurt_stream u k) ≡ burst_at u k
  part_0 k = take_at (burst_at u k) (double_at u k ++ stream u.indices (first_pair k + 2) 10) packet_bits (length_flips (first_pair k) 0 2)

  pub part_1 : (k : ℕ) → part packet_bits packet_bits (hurt_stream u k) ≡ double_at u k
  part_1 k =
      ap (take packet_bits) (drop_at (burst_at u k) (double_at u k ++ stream u.indices (first_pair k + 2) 10) packet_bits (length_flips (first_pair k) 0 2))
      ∙ take_at (double_at u k) (stream u.indices (first_pair k + 2) 10) packet_bits (length_flips (first_pair k + 1) 0 distance)

  pub part_on : (k j : ℕ) → j < 10 → part (packet_bits * suc (suc j)) packet_bits (hurt_stream u k) ≡ packet_of u.indices (first_pair k + suc (suc j))
  part_on k j h =
      let b = burst_at u k in
      let d = double_at u k in
      let r = stream u.indices (multiframe_pairs * k + 2) 10 in
      let lb : length b ≡ packet_bits = length_flips (multiframe_pairs * k) 0 2 in
      let ld : length d ≡ packet_bits = length_flips (multiframe_pairs * k + 1) 0 distance in
      let x : packet_bits * suc (suc j) ≡ length b + (length d + packet_bits * j) = omega arith in
      let y : multiframe_pairs * k + 2 + j ≡ multiframe_pairs * k + suc (suc j) = omega arith in
      ap (λ (n : ℕ). take packet_bits (drop n (hurt_stream u k))) x ∙ ap (take packet_bits) (drop-append-add b (d ++ r) (length d + packet_bits * j) ∙ drop-append-add d r (packet_bits * j))
      ∙ stream_part u.indices (multiframe_pairs * k + 2) 10 j h ∙ ap (packet_of u.indices) y

  packet_of_lem : (k r : ℕ) → r < multiframe_pairs
      → (part (packet_bits * r) packet_bits (hurt_stream u k) ≡ packet_of u.indices (first_pair k + r)) ⊎ Damaged (packet_of u.indices (first_pair k + r)) (part (packet_bits * r) packet_bits (hurt_stream u k))
  packet_of_lem k zero h =
      let z : multiframe_pairs * k ≡ multiframe_pairs * k + 0 = omega arith in
      let d : Damaged (packet_of u.indices (multiframe_pairs * k)) (burst_at u k) =
      inl (flips_burst (packet_of u.indices (multiframe_pairs * k)) 0 2 (lit< tt) (lit< tt) (omega (arith, length_packet_of u.indices (multiframe_pairs * k)))) in
      inr (subst (λ (q : ℕ). Damaged (packet_of u.indices q) (part 0 packet_bits (hurt_stream u k))) z (subst (Damaged (packet_of u.indices (multiframe_pairs * k))) (sym (part_0 k)) d))
  packet_of_lem k (suc zero) h =
      let d : Damaged (packet_of u.indices (multiframe_pairs * k + 1)) (double_at u k) =
      inr (flips_double (packet_of u.indices (multiframe_pairs * k + 1)) 0 distance (lit< tt) (omega (arith, length_packet_of u.indices (multiframe_pairs * k + 1))) (λ e. omega arith)) in
      inr (subst (Damaged (packet_of u.indices (multiframe_pairs * k + 1))) (sym (part_1 k)) d)
  packet_of_lem k (suc (suc j)) h = inl (part_on k j (omega arith))

  two_flips : (k : ℕ) → flips_to (hurt_word u k) (sent_message u k) ≤ 2
  unfolding ones_in
  two_flips k = let e : ones 3 ≡ 2 = sym (ones_in_lem 2 3 (lit< tt)) in le_of_eq (flips_of (sent_message u k) 3 ∙ e)

  pub hurts : Damage (multiframes_of u) (image_of u) (hurt_image u)
  hurts =
      damage_made u (hurt_word u) (hurt_stream u)
      record {
        words = λ k h. xor_lt 32 (codeword (sent_message u k)) 3 (codeword_lt (sent_message u k) (message_lt u.settings (k + 1) 0)) (lit< tt);
        near_words = λ k h. two_flips k;
        sizes = λ k h. length_hurt k;
        each = λ q h.
            let e : multiframe_pairs * (q / multiframe_pairs) + q % multiframe_pairs ≡ q = omega arith in
            subst
            (λ (p : ℕ). (stream_packet (hurt_stream u (q / multiframe_pairs)) q ≡ packet_of u.indices p) ⊎ Damaged (packet_of u.indices p) (stream_packet (hurt_stream u (q / multiframe_pairs)) q))
            e (packet_of_lem (q / multiframe_pairs) (q % multiframe_pairs) (omega arith));
      }

  -- with tables of zeros its third pair is good
  third_good : BadPair u (hurt_image u) zero_tables 2 → ⊥
  third_good b =
      ⊎_elim
      (λ t. t (made_packet (hurt_word u) (hurt_stream u) (multiframes_of u) 2 (omega arith) (length_hurt 0) ∙ part_on 0 0 (omega arith)
      ∙ sym (image_packet u.settings u.indices (multiframes_of u) 2 (omega arith))))
      (λ r. true_false (sym r.0 ∙ zero_consistent (frame_at u.indices 4) (frame_at u.indices 5))) b

  -- ---- NAMES THE DAMAGE: every utterance of two multiframes or more meets its premises
  pub names_met : (ch : Choices) → 2 ≤ multiframes_of u → N.Premises ch u (hurt_image u) zero_tables (index_for (multiframes_of u)) (report_for (multiframes_of u))
  names_met ch two = record { damage = hurts; headers = inl two; pair = 2; within = omega arith; not_bad = third_good; lent = lent_zeros (multiframes_of u) }

pub names_says24 : (ch : Choices) → N.Premises ch says24 (hurt_image says24) zero_tables (index_for (multiframes_of says24)) (report_for (multiframes_of says24))
names_says24 ch = names_met says24 ch (le_of_eq (sym two_multiframes))
