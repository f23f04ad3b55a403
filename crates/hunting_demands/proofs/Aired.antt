-- The premises of NAMES THE DAMAGE ON AIR are met: by every utterance of two multiframes or more, at bit 3, with four flips in every sync, two in
-- every header, a burst in the first packet of every multiframe and two flips at distance 14 in the second.
-- Assumes nothing.
use Rattle.std.specs.Prelude.{ℕ, ◌+◌, ◌-◌, ◌*◌, ◌/◌, ◌≤◌, ◌<◌, ◌≡◌, refl, List, ◌++◌, Bool, false, length, take, replicate}
use Rattle.std.proofs.Common.{sym, ◌∙◌, subst, inl, inr, ⊎_elim, le_of_eq, arith, lit<, lit≤, take-add}
use Rattle.std.proofs.Math.Path.{ap, ap₂}
use Rattle.std.specs.Int.Bits.{bit_xor, xor_lt}
use Rattle.std.specs.Int.Count.{ones}
use Rattle.std.proofs.lemmas.List.{length-replicate}
use Rattle.lists.specs.Tests.{true_false}
use Rattle.lists.specs.Parts.{part_left}
use Rattle.lists.specs.Rows.{joined}
use Rattle.layout.specs.Layout.{multiframe_pairs, most_multiframes}
use Rattle.choices.specs.declared.Choices.{Choices}
use Rattle.bits.specs.Bits.{field, fields, bits}
use Rattle.carrier.specs.Carrier.{stream_packet}
use Rattle.crc.specs.Crc.{Damaged}
use Rattle.packet.specs.Packet.{frame_at}
use Rattle.header_code.specs.Code.{codeword, flips_to}
use Rattle.header_code.specs.Code.Distance.{codeword_lt}
use Rattle.message.specs.Message.Laws.{message_lt}
use Rattle.header.proofs.Laws.{flips_of}
use Rattle.hunt.specs.Hunt.{sync_bits, header_bits, multiframe_bits, fewest_matches, sync, matches, passes, searched}
use Rattle.hunt.proofs.Laws.{searched_all}
use Rattle.image.specs.Made.{packet_in, made_packet}
use Rattle.image.proofs.Laws.{image_word, image_packet}
use Rattle.writer.proofs.Laws.{few_multiframes}
use Rattle.writer.specs.Utterance.{Utterance, multiframes_of, pairs_of, image_of}
use Rattle.writer.proofs.Utterance.{is_accepted}
use Rattle.damage.specs.Damage.{sent_message}
use Rattle.demands.specs.Received.{BadPair}
use Rattle.demands_met.specs.Met.{index_for, report_for, hurt_word, hurt_stream, hurt_image, says24, two_multiframes}
use Rattle.demands_met.proofs.MetLaws.{zero_consistent, lent_zeros, length_hurt, part_on, hurts}
use Rattle.hunting_demands.specs.Standing.{sync_at, unlike_fails}
use Rattle.hunting_demands.specs.Laid.{laid_multiframe, Sizes, bits_laid, size_laid, laid_behind, laid_sync, laid_word, laid_stream}
use Rattle.hunting_demands.specs.HuntsBack.{received_flips}
use Rattle.hunting_demands.specs.Met.{worst_sync, three_zeros, many_zeros}
use Rattle.hunting_demands.proofs.MetLaws.{worst_matches, earlier, fails_before, zeros_match, zeros_part, two_ones}
use Rattle.hunting_demands.specs.Radio.{received_packet, together, Caught, OnAir, Premises}
use Rattle.hunting_demands.proofs.Radio.{packet_there}
use Rattle.tables.specs.Tables.{zero_tables}
use Rattle.hunting_demands.specs.Aired as Stated

module _ (u : Utterance) where
  abbrev aired : List ℕ
  aired = Stated.aired u

  abbrev m : ℕ
  m = multiframes_of u

  abbrev l : List Bool
  l = bits aired

  sizes : Sizes three_zeros (λ k. worst_sync) (hurt_word u) (hurt_stream u) m many_zeros 151
  unfolding fields field
  sizes = record {
    syncs = λ k. refl;
    words = λ k. xor_lt header_bits (codeword (sent_message u k)) 3 (codeword_lt (sent_message u k) (message_lt u.settings (k + 1) 0)) (lit< tt);
    streams = length_hurt u;
    around = ap (λ (n : ℕ). 3 + n) (length-replicate 1205 false);
  }

  searched_are : searched l ≡ 8 * 151 + multiframe_bits * m
  searched_are =
      let size : length l ≡ 8 * 151 + multiframe_bits * m = size_laid three_zeros (λ k. worst_sync) (hurt_word u) (hurt_stream u) m many_zeros 151 sizes in
      let few : m ≤ most_multiframes = few_multiframes u.settings u.indices (is_accepted u).sizes in
      searched_all l (omega arith) ∙ size

  head_is : take 19 l ≡ three_zeros ++ worst_sync
  head_is =
      take-add 3 sync_bits l
      ∙ ap₂ (λ (x y : List Bool). x ++ y)
      (ap (take 3) (bits_laid three_zeros (λ k. worst_sync) (hurt_word u) (hurt_stream u) m many_zeros 151 sizes)
      ∙ part_left three_zeros (joined (λ k. laid_multiframe worst_sync (hurt_word u k) (hurt_stream u k)) m ++ many_zeros) 0 3 (lit≤ tt))
      (laid_sync three_zeros (λ k. worst_sync) (hurt_word u) (hurt_stream u) m many_zeros 151 sizes 0 (omega arith))

  not_behind : (t : ℕ) → 3 + multiframe_bits * m ≤ t → t + multiframe_bits ≤ searched l → passes fewest_matches l t ≡ false
  not_behind t h r =
      let n = searched_are in
      let e : sync_at l t ≡ replicate sync_bits false =
      laid_behind three_zeros (λ k. worst_sync) (hurt_word u) (hurt_stream u) m many_zeros 151 sizes t sync_bits h ∙ zeros_part 1205 (t - (3 + multiframe_bits * m)) (omega arith) in
      unlike_fails fewest_matches l t (subst (λ (x : List Bool). matches x sync < fewest_matches) (sym e) zeros_match)

  -- two flips in every header
  pub aired_flips : (k : ℕ) → k < multiframes_of u → received_flips u aired 3 k ≡ 2
  unfolding flips_to
  aired_flips k h =
      ap₂ (λ (a b : ℕ). ones (bit_xor a b)) (laid_word three_zeros (λ k. worst_sync) (hurt_word u) (hurt_stream u) m many_zeros 151 sizes k h)
      (image_word u.settings u.indices m k h)
      ∙ flips_of (sent_message u k) 3 ∙ two_ones

  -- and the packets of the damaged image
  packet_is : (q : ℕ) → q < pairs_of u → received_packet aired 3 q ≡ packet_in (hurt_image u) q
  packet_is q h =
      ap (λ (l : List Bool). stream_packet l q) (laid_stream three_zeros (λ k. worst_sync) (hurt_word u) (hurt_stream u) m many_zeros 151 sizes (q / multiframe_pairs) (omega arith))
      ∙ sym (made_packet (hurt_word u) (hurt_stream u) m q h (length_hurt u (q / multiframe_pairs)))

  aired_caught : Caught u aired 0 3 fewest_matches
  aired_caught = record {
    low = lit≤ tt;
    begins = lit≤ tt;
    inside = omega (arith, searched_are);
    syncs = λ k h.
        subst (λ (x : List Bool). fewest_matches ≤ matches x sync) (sym (laid_sync three_zeros (λ k. worst_sync) (hurt_word u) (hurt_stream u) m many_zeros 151 sizes k h)) (le_of_eq (sym worst_matches));
    headers = λ k h. le_of_eq (aired_flips k h);
    none_before = fails_before l worst_sync fewest_matches head_is (sizes.syncs 0) (lit≤ tt) earlier;
    none_behind = not_behind;
  }

  pub aired_on_air : OnAir u aired 0 3 fewest_matches
  aired_on_air = record {
    caught = aired_caught;
    packets = λ q h.
        let e = packet_is q h in
        ⊎_elim (λ x. inl (e ∙ x)) (λ x. inr (subst (Damaged (packet_in (image_of u) q)) (sym e) x)) ((hurts u).packets q h);
  }

  -- with tables of zeros the third pair is good
  third_good : BadPair u (together u aired 3) zero_tables 2 → ⊥
  third_good b =
      ⊎_elim
      (λ t. t (packet_there u aired 0 3 fewest_matches aired_caught 2 (omega arith) ∙ packet_is 2 (omega arith)
      ∙ made_packet (hurt_word u) (hurt_stream u) m 2 (omega arith) (length_hurt u 0) ∙ part_on u 0 0 (omega arith)
      ∙ sym (image_packet u.settings u.indices m 2 (omega arith))))
      (λ r. true_false (sym r.0 ∙ zero_consistent (frame_at u.indices 4) (frame_at u.indices 5))) b

  pub names_aired : (ch : Choices) → 2 ≤ multiframes_of u
      → Premises ch u aired 0 3 fewest_matches aired_on_air zero_tables (index_for (multiframes_of u)) (report_for (multiframes_of u))
  names_aired ch two = record { settled = inl two; pair = 2; within = omega arith; not_bad = third_good; lent = lent_zeros (multiframes_of u) }

pub names_aired_24 : (ch : Choices) → Premises ch says24 (aired says24) 0 3 fewest_matches (aired_on_air says24) zero_tables (index_for (multiframes_of says24)) (report_for (multiframes_of says24))
names_aired_24 ch = names_aired says24 ch (le_of_eq (sym two_multiframes))
