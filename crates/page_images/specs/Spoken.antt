-- Accepted utterances of every length, up to the 6,119 frames that make 255 multiframes (01, "Writing"): frames of ones, of all settings.
-- With them the theorems on reading back and on named damage speak of utterances as long as 01 allows.
-- Assumes nothing.
use Rattle.std.specs.Prelude.{◌≡◌, Bool, true, false, List, ltb, length, get_or, replicate, Ok}
use Rattle.std.proofs.Math.Path.{refl, sym, ap, subst}
use Rattle.std.proofs.Common.{ap₂, ◌∙◌, inl, inr, ⊎_elim, lit<, lit≤}
use Prim.Native.Nat.{ℕ, zero, suc, ◌+◌, ◌-◌, ◌*◌, ◌/◌, ◌%◌, ◌^◌, ◌≤◌, ◌<◌}
use Rattle.std.proofs.Math.Decide.{ℕ_discrete}
use native.Mathlib.Omega.{arith}
use Rattle.std.specs.Int.Bits.{xor_lt}
use Rattle.std.specs.Int.Count.{ones_in}
use Rattle.std.specs.Int.Count as Count
use Rattle.std.proofs.lemmas.List.{length-replicate, get_or-replicate}
use Rattle.polynomials.specs.Light.{ones_in_lem}
use Rattle.lists.specs.Tests.{when, true_false}
use Rattle.lists.specs.Parts.{part}
use Rattle.lists.specs.Search.{nowhere, is_found, says_is}
use Rattle.layout.specs.Layout.{packet_bits, frame_indices, first_frame, second_frame, first_pair, multiframe_pairs, multiframe_frames, multiframe_octets, most_frames}
use Rattle.choices.specs.declared.Choices.{Choices}
use Rattle.settings.specs.declared.Settings.{Settings}
use Rattle.settings.specs.Settings.{settings, settings_right}
use Rattle.frames.specs.Frames.{zero_frame, speaks}
use Rattle.crc.proofs.Damage.{flips_burst, flips_double}
use Rattle.packet.specs.Packet.{frame_at, packet_of}
use Rattle.packet.proofs.Laws.{length_packet_of}
use Rattle.header_code.specs.Code.{codeword, flips_to}
use Rattle.header_code.specs.Code.Distance.{codeword_lt}
use Rattle.message.specs.Message.Laws.{message_lt}
use Rattle.header.proofs.Laws.{flips_of}
use Rattle.image.specs.Made.{packet_in, made_word, made_packet}
use Rattle.image.proofs.Laws.{image_packet}
use Rattle.wrong_frames.specs.WrongFrames.{frame_count, is_wide, must_speak, ends_early}
use Rattle.writer.specs.Writing.{needed, verdict, Outcome, writing}
use Rattle.writer.specs.Laws.{Sized}
use Rattle.writer.proofs.Laws.{accepts}
use Rattle.writer.specs.Utterance.{Utterance, multiframes_of, pairs_of, image_of}
use Rattle.writer.proofs.Utterance.{writes}
use Rattle.damage.specs.Damage.{header_flips, Touched, sent_message, differs, header_near}
use Rattle.demands.specs.Received.{BadPair, Count}
use Rattle.demands.proofs.ReceivedLaws.{count_once, count_one, count_none}
use Rattle.demands_met.specs.Met.{index_for, report_for, burst_at, double_at, distance, hurt_word, hurt_stream, hurt_image, small_ones}
use Rattle.demands_met.proofs.MetLaws.{length_hurt, part_0, part_1, part_on, zero_consistent, reads_back_met, names_met}
use Rattle.demands.specs.Whole.{header_note_in, pair_note_in}
use Rattle.demands.specs.ReadsBack as R
use Rattle.demands.proofs.ReadsBackLaws as RL
use Rattle.demands.specs.NamesTheDamage as N
use Rattle.demands.proofs.NamesTheDamageLaws as NL
use Rattle.tables.specs.Tables.{zero_tables}

-- n frames of ones
abbrev pub ones : ℕ → List ℕ
ones n = replicate (frame_indices * n) 1

pub count_ones : (n : ℕ) → frame_count (ones n) ≡ n
count_ones n = ap (λ (l : ℕ). l / frame_indices) (length-replicate (frame_indices * n) 1) ∙ omega arith

-- ---- every search finds nothing
module _ (n k : ℕ) (h : k < n) where
  one_at : (j : ℕ) → j < 7 * n → get_or (ones n) j 0 ≡ 1
  one_at j l = get_or-replicate (7 * n) j 1 0 l

  not_wide : is_wide (ones n) k ≡ false
  not_wide = ap is_found (says_is (λ j. ltb 63 (get_or (ones n) j 0)) (7 * k) 6 nowhere (λ i a b. ap (ltb 63) (one_at i (omega arith))))

  not_zero : zero_frame (ones n) k ≡ false
  not_zero = speaks (ones n) k (record { place = 0; within = omega arith; nonzero = λ z. omega (arith, z, one_at (7 * k + 0) (omega arith)) })

  not_early : ends_early (ones n) k ≡ false
  not_early = ap (λ (z : Bool). when (must_speak (frame_count (ones n)) k) z false) not_zero ∙ either (must_speak (frame_count (ones n)) k)
    where
      either : (b : Bool) → when b false false ≡ false
      either true = refl
      either false = refl

module _ (spoken : Settings) (n : ℕ) (right : settings_right spoken ≡ true) (few : n ≤ most_frames) where
  sized : Sized spoken (ones n)
  sized = record {
    right = right;
    whole = ap (λ (l : ℕ). l % frame_indices) (length-replicate (frame_indices * n) 1) ∙ omega arith;
    few = omega (arith, count_ones n);
  }

  written : verdict spoken (ones n) (needed (ones n)) ≡ Ok (needed (ones n))
  written =
      accepts spoken (ones n) (needed (ones n)) sized (says_is (is_wide (ones n)) 0 (frame_count (ones n)) nowhere (λ i a b. not_wide n i (omega (arith, count_ones n))))
      (says_is (ends_early (ones n)) 0 (frame_count (ones n)) nowhere (λ i a b. not_early n i (omega (arith, count_ones n)))) (omega arith)

  -- AN ACCEPTED UTTERANCE OF ANY SETTINGS AND OF EVERY LENGTH THAT 01 ALLOWS
  pub says_ones : Utterance
  says_ones = record { settings = spoken; indices = ones n; small = small_ones (frame_indices * n); written = written }

  pub says_ones_lem : (says_ones.settings ≡ spoken) × (says_ones.indices ≡ ones n)
  unfolding says_ones
  says_ones_lem = (refl, refl)

  -- "m = n div 24 + 1"
  pub multiframes_ones : multiframes_of says_ones ≡ n / multiframe_frames + 1
  unfolding says_ones
  multiframes_ones = ap (λ (k : ℕ). k / multiframe_frames + 1) (count_ones n)

  -- "Success (0) gives 144m"
  pub written_ones : (out : List ℕ) → multiframe_octets * (n / multiframe_frames + 1) ≤ length out
      → (writing spoken (ones n) out).answer ≡ Ok (multiframe_octets * (n / multiframe_frames + 1))
  unfolding says_ones
  written_ones out room =
      let e : needed (ones n) ≡ multiframe_octets * (n / multiframe_frames + 1) = ap (λ (k : ℕ). multiframe_octets * k) multiframes_ones in
      ap (λ (o : Outcome). o.answer) (writes says_ones out (omega arith)) ∙ ap Ok e

-- ---- 6,119 frames are the most, and 255 multiframes
pub says6119 : Utterance
says6119 = says_ones (settings 0 0) 6119 refl (lit≤ tt)

pub record Longest : Type 0 where
  pub settings : says6119.settings ≡ settings 0 0
  pub indices : says6119.indices ≡ replicate 42833 1
  pub multiframes : multiframes_of says6119 ≡ 255
  pub octets : needed says6119.indices ≡ 36720

pub longest : Longest
unfolding says6119
longest =
    let s = says_ones_lem (settings 0 0) 6119 refl (lit≤ tt) in
    let m = multiframes_ones (settings 0 0) 6119 refl (lit≤ tt) in
    record { settings = s.0; indices = s.1; multiframes = m; octets = ap (λ (k : ℕ). multiframe_octets * k) m }

-- READS BACK and NAMES THE DAMAGE speak of it
pub back6119 : (ch : Choices) → R.Back ch says6119 zero_tables (replicate (needed says6119.indices) 0) (index_for (multiframes_of says6119)) (report_for (multiframes_of says6119))
back6119 ch =
    RL.reads_back ch says6119 zero_tables (replicate (needed says6119.indices) 0) (index_for (multiframes_of says6119)) (report_for (multiframes_of says6119))
    (reads_back_met ch says6119 (inl (omega (arith, longest.multiframes))))

pub names_says6119 : (ch : Choices) → N.Premises ch says6119 (hurt_image says6119) zero_tables (index_for (multiframes_of says6119)) (report_for (multiframes_of says6119))
names_says6119 ch = names_met says6119 ch (omega (arith, longest.multiframes))

pub named6119 : (ch : Choices) → N.Named ch says6119 (hurt_image says6119) zero_tables (index_for (multiframes_of says6119)) (report_for (multiframes_of says6119))
named6119 ch =
    NL.names_the_damage ch says6119 (hurt_image says6119) zero_tables (index_for (multiframes_of says6119)) (report_for (multiframes_of says6119)) (names_says6119 ch)

-- ---- and that damage is in every one of its multiframes: two flips in the header, and its first two pairs
module _ (u : Utterance) (k : ℕ) (h : k < multiframes_of u) where
  -- the packet of pair r of the multiframe, as it came and as it was sent
  came : (r : ℕ) → r < 12 → packet_in (hurt_image u) (first_pair k + r) ≡ part (packet_bits * r) packet_bits (hurt_stream u k)
  came r l =
      let a : (12 * k + r) / 12 ≡ k = omega arith in
      let b : (12 * k + r) % 12 ≡ r = omega arith in
      made_packet (hurt_word u) (hurt_stream u) (multiframes_of u) (first_pair k + r) (omega arith) (length_hurt u ((12 * k + r) / 12))
      ∙ ap₂ (λ (i j : ℕ). part (packet_bits * j) packet_bits (hurt_stream u i)) a b

  sent : (r : ℕ) → r < 12 → packet_in (image_of u) (first_pair k + r) ≡ packet_of u.indices (first_pair k + r)
  sent r l = image_packet u.settings u.indices (multiframes_of u) (first_pair k + r) (omega arith)

  first_hurt : Touched (image_of u) (hurt_image u) (first_pair k + 0)
  first_hurt e =
      let p = packet_of u.indices (first_pair k) in
      let z : 12 * k + 0 ≡ 12 * k = omega arith in
      differs p (burst_at u k) (inl (flips_burst p 0 2 (lit< tt) (lit< tt) (omega (arith, length_packet_of u.indices (12 * k)))))
      (sym (came 0 (lit< tt) ∙ part_0 u k) ∙ e ∙ sent 0 (lit< tt) ∙ ap (packet_of u.indices) z)

  second_hurt : Touched (image_of u) (hurt_image u) (first_pair k + 1)
  second_hurt e =
      let p = packet_of u.indices (first_pair k + 1) in
      differs p (double_at u k) (inr (flips_double p 0 distance (lit< tt) (omega (arith, length_packet_of u.indices (12 * k + 1))) (λ x. omega arith)))
      (sym (came 1 (lit< tt) ∙ part_1 u k) ∙ e ∙ sent 1 (lit< tt))

  others_whole : (r : ℕ) → 1 < r → r < 12 → packet_in (hurt_image u) (first_pair k + r) ≡ packet_in (image_of u) (first_pair k + r)
  others_whole r o l =
      let e : suc (suc (r - 2)) ≡ r = omega arith in
      subst (λ (i : ℕ). packet_in (hurt_image u) (first_pair k + i) ≡ packet_in (image_of u) (first_pair k + i)) e
      (came (suc (suc (r - 2))) (omega arith) ∙ part_on u k (r - 2) (omega arith) ∙ sym (sent (suc (suc (r - 2))) (omega arith)))

  header_hurt : header_flips (image_of u) (hurt_image u) k ≡ 2
  unfolding ones_in
  header_hurt =
      let e : Count.ones 3 ≡ 2 = sym (ones_in_lem 2 3 (lit< tt)) in
      let l : hurt_word u k < 2 ^ 32 = xor_lt 32 (codeword (sent_message u k)) 3 (codeword_lt (sent_message u k) (message_lt u.settings (k + 1) 0)) (lit< tt) in
      sym (header_near u (hurt_image u) k h)
      ∙ ap (λ (w : ℕ). flips_to w (sent_message u k)) (made_word (hurt_word u) (hurt_stream u) (multiframes_of u) k h l) ∙ flips_of (sent_message u k) 3 ∙ e

-- the report of that reading
abbrev pub report6119 : (ch : Choices) → List ℕ
report6119 ch = (N.result ch says6119 (hurt_image says6119) zero_tables (index_for (multiframes_of says6119)) (report_for (multiframes_of says6119))).report

-- it names all of it and no other pair, in each of the 255 multiframes
pub record Noted (ch : Choices) (k : ℕ) : Type 0 where
  pub header : header_note_in (report6119 ch) k ≡ 2
  pub first : pair_note_in (report6119 ch) (first_pair k) ≡ 1
  pub second : pair_note_in (report6119 ch) (first_pair k + 1) ≡ 1
  pub others : (r : ℕ) → 1 < r → r < multiframe_pairs → pair_note_in (report6119 ch) (first_pair k + r) ≡ 0

-- with tables of zeros no rule makes a pair bad
unruled : (ch : Choices) (q : ℕ) → q < pairs_of says6119 → (Touched (image_of says6119) (hurt_image says6119) q → ⊥) → pair_note_in (report6119 ch) q ≡ 0
unruled ch q h n =
    elim (ℕ_discrete (pair_note_in (report6119 ch) q) 0) [
      | yes e ↦ e
      | no d ↦
          absurd (true_false (sym (((named6119 ch).names.others q h n).0 d).0 ∙ zero_consistent (frame_at says6119.indices (first_frame q)) (frame_at says6119.indices (second_frame q))))
    ]

pub noted6119 : (ch : Choices) (k : ℕ) → k < 255 → Noted ch k
noted6119 ch k h =
    let l : k < multiframes_of says6119 = omega (arith, longest.multiframes) in
    let z : 12 * k + 0 ≡ 12 * k = omega arith in
    record {
      header = (named6119 ch).names.flips k l ∙ header_hurt says6119 k l;
      first = subst (λ (q : ℕ). pair_note_in (report6119 ch) q ≡ 1) z (((named6119 ch).names.damaged (12 * k + 0) (omega arith)).1 (first_hurt says6119 k l));
      second = ((named6119 ch).names.damaged (12 * k + 1) (omega arith)).1 (second_hurt says6119 k l);
      others = λ r o b. unruled ch (12 * k + r) (omega arith) (λ t. t (others_whole says6119 k l r o b));
    }

-- ---- and counts it: two bad pairs in each multiframe, 510 in all
module _ (u : Utterance) where
  abbrev Bad : ℕ → Type 0
  Bad q = BadPair u (hurt_image u) zero_tables q

  none_bad : (k r : ℕ) → k < multiframes_of u → 1 < r → r < multiframe_pairs → Bad (first_pair k + r) → ⊥
  none_bad k r h o b x =
      ⊎_elim (λ t. t (others_whole u k h r o b))
      (λ y. true_false (sym y.0 ∙ zero_consistent (frame_at u.indices (first_frame (12 * k + r))) (frame_at u.indices (second_frame (12 * k + r))))) x

  -- the first two of a multiframe, and r more that are not
  hurt_on : (k r : ℕ) → k < multiframes_of u → r ≤ 10 → Count Bad (first_pair k) (2 * k) → Count Bad (suc (suc r) + first_pair k) (2 * k + 2)
  hurt_on k zero h l c =
      let a : 12 * k + 0 ≡ 12 * k = omega arith in
      let b : 12 * k + 1 ≡ suc (12 * k) = omega arith in
      let e : suc (suc (12 * k)) ≡ 2 + 12 * k = omega arith in
      let f : suc (suc (2 * k)) ≡ 2 * k + 2 = omega arith in
      subst (λ (n : ℕ). Count Bad n (2 * k + 2)) e
      (subst (Count Bad (suc (suc (12 * k)))) f
      (count_one Bad (suc (12 * k)) (suc (2 * k))
      (count_one Bad (12 * k) (2 * k) c (inl (subst (λ (q : ℕ). Touched (image_of u) (hurt_image u) q) a (first_hurt u k h))))
      (inl (subst (λ (q : ℕ). Touched (image_of u) (hurt_image u) q) b (second_hurt u k h)))))
  hurt_on k (suc r) h l c =
      let e : 12 * k + suc (suc r) ≡ suc (suc r) + 12 * k = omega arith in
      let f : suc (suc (suc r) + 12 * k) ≡ suc (suc (suc r)) + 12 * k = omega arith in
      subst (λ (n : ℕ). Count Bad n (2 * k + 2)) f
      (count_none Bad (suc (suc r) + 12 * k) (2 * k + 2) (hurt_on k r h (omega arith) c)
      (subst (λ (q : ℕ). Bad q → ⊥) e (none_bad k (suc (suc r)) h (omega arith) (omega arith))))

  hurt_count : (k : ℕ) → k ≤ multiframes_of u → Count Bad (multiframe_pairs * k) (2 * k)
  unfolding Count
  hurt_count zero h = refl
  hurt_count (suc k) h =
      let e : suc (suc 10) + 12 * k ≡ 12 * suc k = omega arith in
      let f : 2 * k + 2 ≡ 2 * suc k = omega arith in
      subst (λ (n : ℕ). Count Bad n (2 * suc k)) e
      (subst (Count Bad (suc (suc 10) + 12 * k)) f (hurt_on k 10 (omega arith) (omega arith) (hurt_count k (omega arith))))

pub bad6119 : (ch : Choices) → (named6119 ch).given.bad ≡ 510
bad6119 ch =
    count_once (Bad says6119) (pairs_of says6119) (named6119 ch).given.bad (2 * multiframes_of says6119) (named6119 ch).names.counted (hurt_count says6119 (multiframes_of says6119) (omega arith))
    ∙ omega (arith, longest.multiframes)
