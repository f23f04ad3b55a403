-- Images with any bits of their headers flipped and any packets behind them, the same frames at 11 kHz, and readings of them: what the examples
-- are made of.
-- Assumes nothing.
use Rattle.std.proofs.Math.Path.{◌≡◌, sym, ap, ap₂}
use Rattle.std.specs.Prelude.{refl, Bool, true, ◌⊎◌, ℕ, suc, ◌+◌, ◌*◌, ◌/◌, ◌%◌, ◌^◌, ◌≤◌, ◌<◌, eqb, length, get_or, take, drop, Some, None, Ok}
use Rattle.std.proofs.Common.{◌∙◌, subst, inl, inr, ⊎_elim, mod-eq_of_lt, lit<}
use Rattle.std.proofs.Math.Bool.{false, not}
use mathlib.Core.List.{List}
use Rattle.std.proofs.Math.Decide.{ℕ_discrete}
use native.Mathlib.Omega.{arith}
use Rattle.std.specs.Int.Bits.{bit_and, bit_xor, xor_self, xor_zero_r}
use Rattle.std.proofs.lemmas.Nat.{xor_lt, xor_block, and_mask}
use Rattle.std.specs.Int.Count.{ones, ones_in}
use borrow.Author.Tests.{eq-eqb, ne_eqb, le-ltb}
use Rattle.polynomials.specs.Light.{ones_in_lem}
use Rattle.polynomials.specs.Xor.{xor_swap}
use Rattle.lists.specs.Tests.{when, by_test, true_false}
use Rattle.lists.specs.Parts.{over}
use Rattle.lists.specs.Rows.{each, length_each, each_at, joined, length_joined, joined_part, same_joined}
use Rattle.layout.specs.Layout.{frame_indices, data_bits, packet_bits, multiframe_pairs, stream_octets, index_octets, report_octets, multiframe_of, first_pair, first_frame, second_frame}
use Rattle.choices.specs.declared.Choices.{Choices}
use Rattle.tables.specs.Tables.{Tables, zero_tables}
use Rattle.settings.specs.Settings.{settings, settings_right}
use Rattle.crc.specs.Crc.{right, flip, Damaged}
use Rattle.crc.proofs.Damage.{length_flip, flip_burst}
use Rattle.packet.specs.Packet.{packet_of, frame_at}
use Rattle.packet.proofs.Laws.{length_packet_of}
use Rattle.header_code.specs.Code.{codeword, flips_to}
use Rattle.header_code.specs.Code.Distance.{codeword_lt}
use Rattle.header_code.specs.Code.Syndrome.{codeword_xor}
use Rattle.header_code.specs.Code.Examples.{codeword_1}
use Rattle.message.specs.Message.{message, rate_of, type_of, count_of, exp_of, common_bits}
use Rattle.message.specs.Message.Laws.{message_lt, message_back, rate_back, type_back, count_back, exp_back, rate_masked, type_masked, count_masked, exp_shifted, count_mod}
use Rattle.header.proofs.Laws.{flips_of}
use Rattle.header.specs.Reading as H
use Rattle.header.specs.Types.{Header}
use Rattle.header_readings.specs.Readings.{readings}
use Rattle.settling.specs.Settling.{settling}
use Rattle.header_notes.specs.HeaderNotes.{header_note}
use Rattle.settling.specs.Laws.{Has}
use Rattle.settling.proofs.Laws.{read_has}
use Rattle.unfit.specs.Laws.{Usable}
use Rattle.cutting.proofs.Laws.{every_length}
use Rattle.carrier.specs.Carrier.{stream_packet, received, pair_count}
use Rattle.notes.specs.Notes.{pair_fails, frames_of, pair_inconsistent, pair_notes}
use Rattle.notes.specs.Laws.{length_notes}
use Rattle.bad_pairs.specs.BadPairs.{note_by, notes}
use Rattle.bad_pairs.specs.Laws.{Good, none_good, bad_before, note_at, consistent_is_good}
use Rattle.deciding.specs.Deciding.{received_notes}
use Rattle.report.specs.Report.{report_part}
use Rattle.reader.specs.Reading.{index_part, summary, Outcome, outcome, reading}
use Rattle.image.specs.Made.{sync_in, word_in, packet_in, made, framed, length_made, made_sync, made_word, made_packet}
use Rattle.image.proofs.Laws.{length_image, image_sync, image_packet}
use Rattle.writer.specs.Writing.{verdict, needed}
use Rattle.writer.proofs.Laws.{few_multiframes, accepts}
use Rattle.writer.specs.Utterance.{Utterance, multiframes_of, pairs_of, image_of}
use Rattle.writer.proofs.Utterance.{is_accepted, kind_small, rate_not_2}
use Rattle.damage.specs.Damage.{DamageUpTo, Touched, differs, header_flips, sent_message, header_near, header_read_lem}
use Rattle.damage.proofs.Damages.{damage_up_to}
use Rattle.demands.specs.Whole.{row_of, Lent, pair_note_in}
use Rattle.demands.proofs.WholeLaws.{packet_at_lem, readings_are, reads_as}
use Rattle.demands.specs.Headers.{sent_common}
use Rattle.demands.proofs.HeadersLaws.{common_sent, rate_sent, exp_sent}
use Rattle.demands.specs.Received.{ByRule, BadPair}
use Rattle.demands.specs.NamesTheDamage as N
use Rattle.demands.proofs.NamesTheDamageLaws as NL
use Rattle.demands_met.specs.Met.{index_for, report_for}
use Rattle.demands_met.proofs.MetLaws.{zero_consistent}

-- ---- how many bits these numbers flip
pub none_flipped : ones 0 ≡ 0
unfolding ones_in
none_flipped = sym (ones_in_lem 1 0 (lit< tt))

pub one_flipped : ones 1 ≡ 1
unfolding ones_in
one_flipped = sym (ones_in_lem 1 1 (lit< tt))

pub two_flipped : ones 3 ≡ 2
unfolding ones_in
two_flipped = sym (ones_in_lem 2 3 (lit< tt))

pub three_flipped : ones 7 ≡ 3
unfolding ones_in
three_flipped = sym (ones_in_lem 3 7 (lit< tt))

pub five_flipped : ones 31 ≡ 5
unfolding ones_in
five_flipped = sym (ones_in_lem 5 31 (lit< tt))

pub seven_flipped : ones 127 ≡ 7
unfolding ones_in
seven_flipped = sym (ones_in_lem 7 127 (lit< tt))

-- ---- any packets, twelve behind each header
module _ (f : ℕ → List Bool) where
  abbrev pub packed : ℕ → List Bool
  packed k = joined (λ r. f (first_pair k + r)) multiframe_pairs

  module _ (long : (q : ℕ) → length (f q) ≡ packet_bits) where
    length_packed : (k : ℕ) → length (packed k) ≡ 8 * stream_octets
    length_packed k = length_joined (λ r. f (first_pair k + r)) packet_bits multiframe_pairs (λ r h. long (first_pair k + r))

    packed_part : (q : ℕ) → stream_packet (packed (multiframe_of q)) q ≡ f q
    packed_part q =
        let z : multiframe_pairs * (q / multiframe_pairs) + q % multiframe_pairs ≡ q = omega arith in
        joined_part (λ r. f (first_pair (q / multiframe_pairs) + r)) packet_bits multiframe_pairs (q % multiframe_pairs) (λ r h. long (first_pair (q / multiframe_pairs) + r)) (omega arith) ∙ ap f z

-- ---- an image with flips in its headers and any packets
module _ (u : Utterance) (e : ℕ → ℕ) (f : ℕ → List Bool) where
  -- header k with the bits of e k flipped
  abbrev pub flipped_word : ℕ → ℕ
  flipped_word k = bit_xor (codeword (sent_message u k)) (e k)

  -- such headers, and the packet f q for pair q
  abbrev pub flipped : List ℕ
  flipped = made flipped_word (packed f) (multiframes_of u)

  -- it is as long as the image, and its syncs are whole
  pub flipped_size : length flipped ≡ length (image_of u)
  flipped_size = length_made flipped_word (packed f) (multiframes_of u) ∙ sym (length_image u.settings u.indices (multiframes_of u))

  pub flipped_syncs : (k : ℕ) → k < multiframes_of u → sync_in flipped k ≡ sync_in (image_of u) k
  flipped_syncs k h = made_sync flipped_word (packed f) (multiframes_of u) k h ∙ sym (image_sync u.settings u.indices (multiframes_of u) k h)

  module _ (small : (k : ℕ) → e k < 2 ^ 32) where
    word_lt : (k : ℕ) → flipped_word k < 2 ^ 32
    word_lt k = xor_lt 32 (codeword (sent_message u k)) (e k) (codeword_lt (sent_message u k) (message_lt u.settings (k + 1) 0)) (small k)

    -- the flips in header k are those of e k
    pub flips_are : (k : ℕ) → k < multiframes_of u → header_flips (image_of u) flipped k ≡ ones (e k)
    flips_are k h =
        sym (header_near u flipped k h)
        ∙ ap (λ (w : ℕ). flips_to w (sent_message u k)) (made_word flipped_word (packed f) (multiframes_of u) k h (word_lt k)) ∙ flips_of (sent_message u k) (e k)

    module _ (long : (q : ℕ) → length (f q) ≡ packet_bits) where
      -- the packets are those
      pub packets_are : (q : ℕ) → q < pairs_of u → packet_in flipped q ≡ f q
      packets_are q h = made_packet flipped_word (packed f) (multiframes_of u) q h (length_packed f long (q / multiframe_pairs)) ∙ packed_part f long q

      -- so with packets that are damaged or not it is a damaged image
      pub flipped_damage : (most : ℕ) → ((k : ℕ) → k < multiframes_of u → ones (e k) ≤ most)
          → ((q : ℕ) → q < pairs_of u → (f q ≡ packet_of u.indices q) ⊎ Damaged (packet_of u.indices q) (f q)) → DamageUpTo most (multiframes_of u) (image_of u) flipped
      flipped_damage most few fates =
          damage_up_to most u flipped_word (packed f)
          record {
            words = λ k h. word_lt k;
            near_words = λ k h. subst (λ (n : ℕ). n ≤ most) (sym (flips_of (sent_message u k) (e k))) (few k h);
            sizes = λ k h. length_packed f long k;
            each = λ q h. subst (λ (p : List Bool). (p ≡ packet_of u.indices q) ⊎ Damaged (packet_of u.indices q) p) (sym (packed_part f long q)) (fates q h);
          }

-- with the packets as they are sent no pair is damaged
module _ (u : Utterance) (e : ℕ → ℕ) (small : (k : ℕ) → e k < 2 ^ 32) where
  pub sent_whole : (q : ℕ) → q < pairs_of u → packet_in (flipped u e (packet_of u.indices)) q ≡ packet_in (image_of u) q
  sent_whole q h =
      packets_are u e (packet_of u.indices) small (length_packet_of u.indices) q h ∙ sym (image_packet u.settings u.indices (multiframes_of u) q h)

  pub sent_damage : (most : ℕ) → ((k : ℕ) → k < multiframes_of u → ones (e k) ≤ most) → DamageUpTo most (multiframes_of u) (image_of u) (flipped u e (packet_of u.indices))
  sent_damage most few = flipped_damage u e (packet_of u.indices) small (length_packet_of u.indices) most few (λ q h. inl refl)

-- all of them but for pair r, whose packet is p
module _ (u : Utterance) (r : ℕ) (p : List Bool) where
  abbrev pub but_one : ℕ → List Bool
  but_one q = when (eqb q r) p (packet_of u.indices q)

  -- pair r is that, and the others are as they were sent
  pub there : but_one r ≡ p
  there = rw (eq-eqb r r refl)

  pub elsewhere : (q : ℕ) → (q ≡ r → ⊥) → but_one q ≡ packet_of u.indices q
  elsewhere q n = rw (ne_eqb q r n)

  pub length_but_one : length p ≡ packet_bits → (q : ℕ) → length (but_one q) ≡ packet_bits
  length_but_one size q = by_test (λ (l : List Bool). length l ≡ packet_bits) (eqb q r) (λ t. size) (λ t. length_packet_of u.indices q)

-- all of them, with the first bit flipped of those that t tells
module _ (u : Utterance) (t : ℕ → Bool) where
  abbrev pub hit : ℕ → List Bool
  hit q = when (t q) (flip (packet_of u.indices q) 0) (packet_of u.indices q)

  -- which are flipped, and which are not
  pub hit_there : (q : ℕ) → t q ≡ true → hit q ≡ flip (packet_of u.indices q) 0
  hit_there q e = rw e

  pub hit_elsewhere : (q : ℕ) → t q ≡ false → hit q ≡ packet_of u.indices q
  hit_elsewhere q e = rw e

  pub length_hit : (q : ℕ) → length (hit q) ≡ packet_bits
  length_hit q =
      by_test (λ (l : List Bool). length l ≡ packet_bits) (t q) (λ e. length_flip (packet_of u.indices q) 0 ∙ length_packet_of u.indices q)
      (λ e. length_packet_of u.indices q)

  flip_hurts : (q : ℕ) → Damaged (packet_of u.indices q) (flip (packet_of u.indices q) 0)
  flip_hurts q = inl (flip_burst (packet_of u.indices q) 0 (omega (arith, length_packet_of u.indices q)))

  abbrev SentOr : ℕ → List Bool → Type 0
  SentOr q l = (l ≡ packet_of u.indices q) ⊎ Damaged (packet_of u.indices q) l

  -- each is damaged or as it was sent
  pub hit_fates : (q : ℕ) → (hit q ≡ packet_of u.indices q) ⊎ Damaged (packet_of u.indices q) (hit q)
  hit_fates q = by_test (SentOr q) (t q) (λ e. inr (flip_hurts q)) (λ e. inl refl)

  module _ (e : ℕ → ℕ) (small : (k : ℕ) → e k < 2 ^ 32) (q : ℕ) (h : q < pairs_of u) where
    got : packet_in (flipped u e hit) q ≡ hit q
    got = packets_are u e hit small length_hit q h

    sent : packet_in (image_of u) q ≡ packet_of u.indices q
    sent = image_packet u.settings u.indices (multiframes_of u) q h

    -- those that are told are damaged, and the others are not
    pub told_touched : t q ≡ true → Touched (image_of u) (flipped u e hit) q
    told_touched x y = differs (packet_of u.indices q) (flip (packet_of u.indices q) 0) (flip_hurts q) (sym (got ∙ hit_there q x) ∙ y ∙ sent)

    pub untold_whole : t q ≡ false → packet_in (flipped u e hit) q ≡ packet_in (image_of u) q
    untold_whole x = got ∙ hit_elsewhere q x ∙ sym sent

-- ---- 11 kHz beside 8 kHz
right_11 : (u : Utterance) → settings_right (settings 1 u.settings.kind) ≡ true
right_11 u = rw (le-ltb 1 u.settings.kind (omega (arith, kind_small u)))

-- the writer accepts at 11 kHz what it accepts at another rate
pub written_11 : (u : Utterance) → verdict (settings 1 u.settings.kind) u.indices (needed u.indices) ≡ Ok (needed u.indices)
written_11 u =
    let a = is_accepted u in
    accepts (settings 1 u.settings.kind) u.indices (needed u.indices) (record { right = right_11 u; whole = a.sizes.whole; few = a.sizes.few }) a.narrow_indices a.speaks (omega arith)

-- the same frames at 11 kHz
abbrev pub at11 : Utterance → Utterance
at11 u = record { settings = settings 1 u.settings.kind; indices = u.indices; small = u.small; written = written_11 u }

-- one more: SampRate 1 for 0
rate_on : (a : ℕ) → a < 2 ^ 16 → rate_of a ≡ 0 → (rate_of (a + 1) ≡ 1) × (type_of (a + 1) ≡ type_of a) × (count_of (a + 1) ≡ count_of a) × (exp_of (a + 1) ≡ exp_of a)
rate_on a h z =
    let r : a % 4 ≡ 0 = sym (and_mask a 2) ∙ rate_masked a ∙ z in
    let s : a + 1 < 2 ^ 16 = omega arith in
    let t : (a + 1) / 4 ≡ a / 4 = omega arith in
    let c : (a + 1) / 8 ≡ a / 8 = omega arith in
    let x : (a + 1) / 128 ≡ a / 128 = omega arith in
    let one : (a + 1) % 4 ≡ 1 = omega arith in (
      sym (rate_masked (a + 1)) ∙ and_mask (a + 1) 2 ∙ one,
      sym (type_masked (a + 1)) ∙ ap (λ (n : ℕ). bit_and n 1) t ∙ type_masked a,
      sym (count_masked (a + 1)) ∙ ap (λ (n : ℕ). bit_and n 15) c ∙ count_masked a,
      sym (exp_shifted (a + 1) s) ∙ x ∙ exp_shifted a h,
    )

even_xor : (a : ℕ) → a % 4 ≡ 0 → bit_xor a 1 ≡ a + 1
even_xor a z =
    let e : a ≡ a / 2 * 2 ^ 1 + 0 = omega arith in
    let f : a / 2 * 2 + 1 ≡ a + 1 = omega arith in
    ap (λ (n : ℕ). bit_xor n 1) e ∙ xor_block 1 (a / 2) 0 0 1 (lit< tt) (lit< tt) ∙ ap (λ (n : ℕ). n * 2 + 1) (xor_zero_r (a / 2)) ∙ f

-- the message of 11 kHz is that of 8 kHz with SampRate's first bit flipped
pub message_11 : (t c : ℕ) → t < 2 → message (settings 1 t) c 0 ≡ bit_xor (message (settings 0 t) c 0) 1
message_11 t c l =
    let a = message (settings 0 t) c 0 in
    let h : a < 2 ^ 16 = message_lt (settings 0 t) c 0 in
    let z : rate_of a ≡ 0 = rate_back (settings 0 t) c 0 in
    let r : a % 4 ≡ 0 = sym (and_mask a 2) ∙ rate_masked a ∙ z in
    let p = rate_on a h z in
    sym (even_xor a r ∙ sym (message_back (a + 1) (omega arith)) ∙ ap₂ (λ (x y : ℕ). message (settings x y) (count_of (a + 1)) (exp_of (a + 1))) p.0 (p.1 ∙ type_back (settings 0 t) c 0)
    ∙ ap₂ (message (settings 1 (t % 2))) (p.2 ∙ count_back (settings 0 t) c 0) (p.3 ∙ exp_back (settings 0 t) c 0) ∙ count_mod (settings 1 (t % 2)) c 0
    ∙ ap (λ (n : ℕ). message (settings 1 n) c 0) (mod-eq_of_lt l))

-- the codeword of SampRate 1 alone, 01 00 01 D1: the bits in which every header of 11 kHz differs from that of 8 kHz
abbrev pub rate_bits : ℕ
rate_bits = 0xD1010001

-- six of them
pub six_flipped : ones rate_bits ≡ 6
unfolding ones_in
six_flipped = sym (ones_in_lem 32 rate_bits (lit< tt))

-- it is that
pub rate_codeword : codeword 1 ≡ rate_bits
rate_codeword = codeword_1

module _ (u : Utterance) (eight : u.settings.rate ≡ 0) where
  -- each header of 11 kHz is that of 8 kHz with these bits flipped
  pub word_11 : (k : ℕ) → codeword (sent_message (at11 u) k) ≡ bit_xor (codeword (sent_message u k)) rate_bits
  word_11 k =
      ap codeword (message_11 u.settings.kind (k + 1) (kind_small u))
      ∙ codeword_xor (message (settings 0 u.settings.kind) (k + 1) 0) 1 (message_lt (settings 0 u.settings.kind) (k + 1) 0) (lit< tt)
      ∙ ap₂ (λ (r w : ℕ). bit_xor (codeword (message (settings r u.settings.kind) (k + 1) 0)) w) (sym eight) rate_codeword

  -- an image of 8 kHz with any flips in its headers is one of 11 kHz with these
  pub seen_at_11 : (e : ℕ → ℕ) (f : ℕ → List Bool) → flipped u e f ≡ flipped (at11 u) (λ k. bit_xor (e k) rate_bits) f
  seen_at_11 e f =
      same_joined (λ k. framed (flipped_word u e f k) (packed f k)) (λ k. framed (flipped_word (at11 u) (λ k. bit_xor (e k) rate_bits) f k) (packed f k)) (multiframes_of u)
      (λ k h. ap (λ (w : ℕ). framed w (packed f k)) (same k))
    where
      same : (k : ℕ) → flipped_word u e f k ≡ flipped_word (at11 u) (λ k. bit_xor (e k) rate_bits) f k
      same k =
          let a = codeword (sent_message u k) in
          sym (ap (λ (w : ℕ). bit_xor w (bit_xor (e k) rate_bits)) (word_11 k) ∙ xor_swap a rate_bits (e k) rate_bits ∙ ap (bit_xor (bit_xor a (e k))) (xor_self rate_bits)
          ∙ xor_zero_r (bit_xor a (e k)))

  -- so its headers are that far from those of 11 kHz
  pub flips_at_11 : (e : ℕ → ℕ) (f : ℕ → List Bool) → ((k : ℕ) → e k < 2 ^ 32) → (k : ℕ) → k < multiframes_of u
      → header_flips (image_of (at11 u)) (flipped u e f) k ≡ ones (bit_xor (e k) rate_bits)
  flips_at_11 e f small k h =
      ap (λ (s : List ℕ). header_flips (image_of (at11 u)) s k) (seen_at_11 e f)
      ∙ flips_are (at11 u) (λ k. bit_xor (e k) rate_bits) f (λ k. xor_lt 32 (e k) rate_bits (small k) (lit< tt)) k h

  -- a header that is read as that of 11 kHz is noted for it
  pub noted_11 : (k w : ℕ) → header_note (sent_common u) k (Some (H.decoded_as w (sent_message (at11 u) k))) ≡ flips_to w (sent_message (at11 u) k) + 8
  unfolding header_note
  noted_11 k w =
      let n = flips_to w (sent_message (at11 u) k) in
      let z : n + 0 + 8 ≡ n + 8 = omega arith in
      rw (
        eq-eqb (count_of (sent_message (at11 u) k)) ((k + 1) % 16) (count_back (at11 u).settings (k + 1) 0),
        ne_eqb (common_bits (sent_message (at11 u) k)) (sent_common u) (λ q.
            let y : ◌≡◌ {A = ℕ} 0 1 = sym (rate_sent u ∙ eight) ∙ ap rate_of (sym q) ∙ ap rate_of (common_sent (at11 u) k) ∙ rate_sent (at11 u) in omega arith),
      ) z

-- ---- the headers as they are read
-- header k in order
pub header_at : (s : List ℕ) (m k : ℕ) → k < m → get_or (readings s (row_of m)) k None ≡ H.reading (word_in s k)
header_at s m k h = ap (λ (l : List Header). get_or l k None) (readings_are s m) ∙ each_at (λ k. H.reading (word_in s k)) m k None h

-- with at most two flips it has the common bits sent
pub has_common_lem : (u : Utterance) (s : List ℕ) (k : ℕ) → k < multiframes_of u → header_flips (image_of u) s k ≤ 2 → Has (readings s (row_of (multiframes_of u))) k (sent_common u)
has_common_lem u s k h few =
    subst (Has (readings s (row_of (multiframes_of u))) k) (common_sent u k)
    (read_has (readings s (row_of (multiframes_of u))) k (H.decoded_as (word_in s k) (sent_message u k)) (header_at s (multiframes_of u) k h ∙ header_read_lem u s k h few))

-- and these are settings that can be used
pub usable : (u : Utterance) → Usable (sent_common u)
usable u = record { rate = λ e. rate_not_2 u (sym (rate_sent u) ∙ e); exp = exp_sent u }

-- ---- a reading with any headers that settle settings, and a good pair
module _ (ch : Choices) (u : Utterance) (s : List ℕ) (size : length s ≡ length (image_of u)) (syncs : (k : ℕ) → k < multiframes_of u → sync_in s k ≡ sync_in (image_of u) k)
    (tables : Tables) (index report : List ℕ) (lent : Lent (multiframes_of u) tables index report) (c : ℕ) where
  abbrev m : ℕ
  m = multiframes_of u

  abbrev ns : List ℕ
  ns = received_notes s (row_of m) tables

  -- it succeeds, and this is what it gives
  pub reads_settled : settling ch (readings s (row_of (multiframes_of u))) ≡ Some c → Usable c → Good (received_notes s (row_of (multiframes_of u)) tables)
      → reading ch s tables index report
      ≡ outcome (Ok (summary s (row_of (multiframes_of u)) (received_notes s (row_of (multiframes_of u)) tables) c))
      (over index 0 (index_octets * length (row_of (multiframes_of u))) (index_part s (row_of (multiframes_of u)) (received_notes s (row_of (multiframes_of u)) tables)))
      (over report 0 (report_octets * length (row_of (multiframes_of u))) (report_part s (row_of (multiframes_of u)) (received_notes s (row_of (multiframes_of u)) tables) c))
  reads_settled settled usable good =
      let rows : length (row_of m) ≡ m = every_length 0 m in
      reads_as s m (few_multiframes u.settings u.indices (is_accepted u).sizes) (size ∙ length_image u.settings u.indices m)
      (λ k h. syncs k h ∙ image_sync u.settings u.indices m k h) ch tables index report c (omega arith) lent
      record {
        settles = settled;
        usable = usable;
        roomy = record {
          index_room = subst (λ (n : ℕ). index_octets * n ≤ length index) (sym rows) lent.index_room;
          report_room = subst (λ (n : ℕ). report_octets * n ≤ length report) (sym rows) lent.report_room;
          not_all = λ e. none_good ns (e ∙ sym (length_notes (received s (row_of m)) (pair_count (row_of m)) tables)) good.pair good.within good.good;
        };
      }

-- ---- tables of zeros, and just enough room
abbrev pub zero_read : (ch : Choices) → Utterance → List ℕ → Outcome
zero_read ch u s = reading ch s zero_tables (index_for (multiframes_of u)) (report_for (multiframes_of u))

abbrev pub zero_notes : Utterance → List ℕ → List ℕ
zero_notes u s = received_notes s (row_of (multiframes_of u)) zero_tables

-- a pair whose CRC is right has note 0, whatever stands around it
module _ (s : List ℕ) (m q : ℕ) (h : q < multiframe_pairs * m) (whole : right data_bits (packet_in s q) ≡ true) where
  never_fails : pair_fails (received s (row_of m)) q ≡ false
  unfolding pair_fails
  never_fails = ap (λ (p : List Bool). not (right data_bits p)) (packet_at_lem s m q h) ∙ ap not whole

  never_inconsistent : pair_inconsistent (received s (row_of m)) zero_tables q ≡ false
  unfolding pair_inconsistent
  never_inconsistent = zero_consistent (take frame_indices (frames_of (received s (row_of m)) q)) (drop frame_indices (frames_of (received s (row_of m)) q))

  pub right_good : get_or (received_notes s (row_of m) zero_tables) q 0 ≡ 0
  unfolding pair_notes
  right_good =
      let n = pair_count (row_of m) in
      let fs = each (pair_fails (received s (row_of m))) n in
      let os = each (pair_inconsistent (received s (row_of m)) zero_tables) n in
      let l : q < n = omega (arith, every_length 0 m) in
      note_at false fs os q (omega (arith, length_each (pair_fails (received s (row_of m))) n))
      ∙ ap₂ (λ (x y : Bool). note_by (bad_before false (notes fs os) q) x y (get_or fs (suc q) false)) (each_at (pair_fails (received s (row_of m))) n q false l ∙ never_fails)
      (each_at (pair_inconsistent (received s (row_of m)) zero_tables) n q false l ∙ never_inconsistent)
      ∙ consistent_is_good (bad_before false (notes fs os) q) (get_or fs (suc q) false)

  -- so there is a good one
  pub good_pair : Good (received_notes s (row_of m) zero_tables)
  good_pair = record { pair = q; within = omega (arith, length_notes (received s (row_of m)) (pair_count (row_of m)) zero_tables, every_length 0 m); good = right_good }

-- so a pair that is as it was sent is not bad, and is not named
module _ (u : Utterance) (s : List ℕ) (q : ℕ) (whole : packet_in s q ≡ packet_in (image_of u) q) where
  never_ruled : ByRule u s zero_tables q → ⊥
  never_ruled r = true_false (sym r.0 ∙ zero_consistent (frame_at u.indices (first_frame q)) (frame_at u.indices (second_frame q)))

  pub zero_not_bad : BadPair u s zero_tables q → ⊥
  zero_not_bad b = ⊎_elim (λ t. t whole) never_ruled b

  pub zero_unnamed : (ch : Choices) → q < pairs_of u → N.Wider ch u s zero_tables (index_for (multiframes_of u)) (report_for (multiframes_of u)) → pair_note_in (zero_read ch u s).report q ≡ 0
  zero_unnamed ch h p =
      let x = NL.names_wider ch u s zero_tables (index_for (multiframes_of u)) (report_for (multiframes_of u)) p in
      elim (ℕ_discrete (pair_note_in (zero_read ch u s).report q) 0) [
        | yes y ↦ y
        | no n ↦ absurd (never_ruled ((x.names.others q h (λ t. t whole)).0 n))
      ]
