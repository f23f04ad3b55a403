-- The first k multiframes of an image, damaged or not, as the reader takes them: their headers, if there are enough (02, C-20), settle the settings sent, and the frames of their
-- undamaged pairs are those written.
-- Assumes nothing.
use Rattle.std.specs.Prelude.{◌≡◌, refl, Bool, true, List, [], ◌∷◌, ◌++◌, ℕ, zero, suc, ◌+◌, ◌-◌, ◌*◌, ◌/◌, ◌≤◌, ◌<◌, take, drop, get_or, Some, None, Ok}
use Rattle.std.proofs.Common.{sym, ◌∙◌, subst, inl, inr, take-append-drop, length-take-le}
use Rattle.std.proofs.Math.Path.{ap, ap₂}
use Rattle.std.proofs.Math.Bool.{false}
use Rattle.std.proofs.Math.Decide.{ℕ_discrete, dec_lt}
use native.Mathlib.Omega.{arith}
use Rattle.std.proofs.Math.ListN.{length}
use Rattle.std.proofs.Math.Seq.{take_at, take_all}
use Rattle.lists.specs.Parts.{part, over, part_left, part_right}
use Rattle.lists.specs.Rows.{each, length_each, each_at, same_each}
use Rattle.layout.specs.Layout.{widths, frame_indices, multiframe_frames, multiframe_pairs, stream_octets, multiframe_octets, most_multiframes, index_octets, report_octets, pair_of, first_frame, second_frame, sync}
use Rattle.choices.specs.declared.Choices.{Choices}
use Rattle.tables.specs.Tables.{Tables}
use Rattle.frames.specs.Frames.{all_zero, zero_frame, all_zero_at, Nonzero}
use Rattle.bits.specs.Bits.{value, bits}
use Rattle.packet.specs.Packet.{apart, frame_at, packet_of}
use Rattle.packet.proofs.Laws.{length_row, get_or_row, packet_of_back}
use Rattle.cutting.specs.Cutting.{whole, cutting}
use Rattle.cutting.proofs.Laws.{every_length}
use Rattle.message.specs.Message.{common_bits}
use Rattle.header.specs.Reading as H
use Rattle.header.specs.declared.Decoded.{Decoded}
use Rattle.header.specs.Types.{Header}
use Rattle.header_readings.specs.Readings.{readings}
use Rattle.settling.specs.Settling.{settling}
use Rattle.settling.specs.Laws.{AllHave}
use Rattle.settling.proofs.Laws.{all_agree, only_clean}
use Rattle.carrier.specs.Carrier.{stream_packet, received, pair_count}
use Rattle.notes.specs.Notes.{pair_fails, frames_of, pair_notes, pair_inconsistent}
use Rattle.notes.specs.Laws.{length_notes, length_all, frames_at}
use Rattle.bad_pairs.specs.BadPairs.{note_by, notes}
use Rattle.bad_pairs.specs.Laws.{failed_is_1, consistent_is_good, bad_before, note_at, Good, none_good}
use Rattle.deciding.specs.Deciding.{received_notes}
use Rattle.report.specs.Report.{report_part}
use Rattle.reader.specs.Reading.{index_part, summary, outcome, reading, received_frames}
use Rattle.image.specs.Made.{sync_in, word_in, packet_in, part_within}
use Rattle.image.proofs.Laws.{length_image, image_sync}
use Rattle.writer.specs.Writing.{needed}
use Rattle.writer.proofs.Laws.{few_multiframes}
use Rattle.writer.specs.Utterance.{Utterance, multiframes_of, image_of}
use Rattle.writer.proofs.Utterance.{is_accepted, rate_not_2, fits_each_frame}
use Rattle.writer.proofs.Accepted.{boundary_speaks}
use Rattle.damage.specs.Damage.{Damage, header_flips, sent_message, header_near, header_read_lem}
use Rattle.demands.specs.Whole.{row_of, Lent}
use Rattle.demands.proofs.WholeLaws.{readings_are, packet_at_lem, cut_is, reads_as}
use Rattle.demands.specs.Headers.{CanSettle, sent_common}
use Rattle.demands.proofs.HeadersLaws.{common_sent, rate_sent, exp_sent}

-- ---- headers that all have the same common bits
have_one_more : (l : List Header) (d : Decoded) (c : ℕ) → AllHave l c → common_bits d.message ≡ c → AllHave (l ++ (Some d ∷ [])) c
have_one_more [] d c a e = (e, tt)
have_one_more (None ∷ l) d c a e = absurd a
have_one_more (Some x ∷ l) d c a e = (a.0, have_one_more l d c a.1 e)

all_have : (g : ℕ → Decoded) (c n : ℕ) → ((k : ℕ) → common_bits (g k).message ≡ c) → AllHave (each (λ k. Some (g k)) n) c
all_have g c zero h = tt
all_have g c (suc n) h = have_one_more (each (λ k. Some (g k)) n) (g n) c (all_have g c n h) (h n)

-- ---- a frame that is not zero, as it was written
pub frame_speaks : (idx l : List ℕ) (j : ℕ) → Nonzero idx j → part (frame_indices * j) frame_indices l ≡ frame_at idx j → zero_frame l j ≡ false
unfolding zero_frame
frame_speaks idx l j x e = by (all_zero (part (frame_indices * j) frame_indices l)) refl
  where
    by : (t : Bool) → all_zero (part (frame_indices * j) frame_indices l) ≡ t → all_zero (part (frame_indices * j) frame_indices l) ≡ false
    by false z = z
    by true z =
        absurd (x.nonzero (sym (ap (λ (f : List ℕ). get_or f x.place 0) e ∙ get_or_row idx (frame_indices * j) frame_indices x.place x.within) ∙ all_zero_at (part (frame_indices * j) frame_indices l) x.place z))

-- the last frame of a multiframe but the last is one that the writer refuses to be zero
pub border_speaks : (u : Utterance) (k : ℕ) → 0 < k → k < multiframes_of u → Nonzero u.indices (multiframe_frames * k - 1)
border_speaks u k some less =
    boundary_speaks u.settings u.indices (needed u.indices) (needed u.indices) (is_accepted u) (multiframe_frames * k - 1) (omega arith) (omega arith)

-- ---- a pair's note: by the pair before it, its own CRC and consistency, and the next pair's CRC
module _ (octets places : List ℕ) (tables : Tables) (q : ℕ) (inside : q < pair_count places) where
  abbrev before : Bool
  before = bad_before false (received_notes octets places tables) q

  abbrev after : Bool
  after = get_or (each (pair_fails (received octets places)) (pair_count places)) (suc q) false

  note_is : get_or (received_notes octets places tables) q 0 ≡ note_by before (pair_fails (received octets places) q) (pair_inconsistent (received octets places) tables q) after
  unfolding pair_notes
  note_is =
      let c = pair_count places in
      let fs = each (pair_fails (received octets places)) c in
      let os = each (pair_inconsistent (received octets places) tables) c in
      note_at false fs os q (omega (arith, length_each (pair_fails (received octets places)) c))
      ∙ ap₂ (λ (f o : Bool). note_by (bad_before false (notes fs os) q) f o (get_or fs (suc q) false)) (each_at (pair_fails (received octets places)) c q false inside)
      (each_at (pair_inconsistent (received octets places) tables) c q false inside)

  -- 1 if its CRC fails
  pub failed_note : pair_fails (received octets places) q ≡ true → get_or (received_notes octets places tables) q 0 ≡ 1
  failed_note e =
      note_is ∙ ap (λ (f : Bool). note_by before f (pair_inconsistent (received octets places) tables q) after) e ∙ failed_is_1 before (pair_inconsistent (received octets places) tables q) after

  -- so its CRC passed if it is 0
  pub zero_passed : get_or (received_notes octets places tables) q 0 ≡ 0 → pair_fails (received octets places) q ≡ false
  zero_passed z = by (pair_fails (received octets places) q) refl
    where
      by : (t : Bool) → pair_fails (received octets places) q ≡ t → pair_fails (received octets places) q ≡ false
      by false e = e
      by true e = let y : ◌≡◌ {A = ℕ} 0 1 = sym z ∙ failed_note e in absurd (omega arith)

  -- 0 if the CRC passes and the pair is consistent
  pub consistent_note : pair_fails (received octets places) q ≡ false → pair_inconsistent (received octets places) tables q ≡ false → get_or (received_notes octets places tables) q 0 ≡ 0
  consistent_note e o = note_is ∙ ap₂ (λ (f x : Bool). note_by before f x after) e o ∙ consistent_is_good before after

-- ---- the first k of m multiframes
module _ (u : Utterance) (s : List ℕ) (d : Damage (multiframes_of u) (image_of u) s) (k : ℕ) (within : k ≤ multiframes_of u) where
  abbrev pub m : ℕ
  m = multiframes_of u

  abbrev pub first : List ℕ
  first = take (multiframe_octets * k) s

  pub size : length s ≡ multiframe_octets * m
  size = d.size ∙ length_image u.settings u.indices m

  pub size_first : length first ≡ multiframe_octets * k
  size_first = length-take-le (multiframe_octets * k) s (omega (arith, size))

  pub part_first : (a v : ℕ) → a + v ≤ multiframe_octets * k → part a v first ≡ part a v s
  part_first a v h = sym (ap (part a v) (sym (take-append-drop (multiframe_octets * k) s)) ∙ part_left first (drop (multiframe_octets * k) s) a v (omega (arith, size_first)))

  pub few : m ≤ most_multiframes
  few = few_multiframes u.settings u.indices (is_accepted u).sizes

  pub syncs : (i : ℕ) → i < m → sync_in s i ≡ sync
  syncs i h = d.syncs i h ∙ image_sync u.settings u.indices m i h

  pub syncs_first : (i : ℕ) → i < k → sync_in first i ≡ sync
  syncs_first i h = part_first (multiframe_octets * i) 2 (omega arith) ∙ syncs i (omega arith)

  pub cut_first : cutting first ≡ record { places = row_of k; ending = whole }
  cut_first = cut_is first k (omega (arith, few)) size_first syncs_first

  pub rows : length (row_of k) ≡ k
  rows = every_length 0 k

  -- its headers settle the settings sent, if there are enough
  abbrev pub flips : ℕ → ℕ
  flips i = header_flips (image_of u) s i

  abbrev pub decoded : ℕ → Decoded
  decoded i = H.decoded_as (word_in s i) (sent_message u i)

  pub headers_first : readings first (row_of k) ≡ each (λ i. Some (decoded i)) k
  headers_first =
      readings_are first k
      ∙ same_each (λ i. H.reading (word_in first i)) (λ i. Some (decoded i)) k (λ i h.
      ap (λ (l : List ℕ). H.reading (value (bits l))) (part_first (multiframe_octets * i + 2) 4 (omega arith)) ∙ header_read_lem u s i (omega arith) (d.headers i (omega arith)))

  pub settles_first : (ch : Choices) → 0 < k → CanSettle ch k (flips 0) → settling ch (readings first (row_of k)) ≡ Some (sent_common u)
  settles_first ch some x = ap (settling ch) headers_first ∙ by (dec_lt k 2) x
    where
      two : 2 ≤ k → settling ch (each (λ i. Some (decoded i)) k) ≡ Some (sent_common u)
      two h =
          all_agree ch (each (λ i. Some (decoded i)) k) (sent_common u) (omega (arith, length_each (λ i. Some (decoded i)) k))
          (all_have decoded (sent_common u) k (common_sent u))

      by : Dec (k < 2) → CanSettle ch k (flips 0) → settling ch (each (λ i. Some (decoded i)) k) ≡ Some (sent_common u)
      by (no n) y = two (omega arith)
      by (yes l) (inl h) = two h
      by (yes l) (inr z) =
          let e : k ≡ 1 = omega arith in
          ap (λ (n : ℕ). settling ch (each (λ i. Some (decoded i)) n)) e
          ∙ only_clean ch (decoded 0) z.0 (header_near u s 0 (omega arith) ∙ z.1) ∙ ap Some (common_sent u 0)

  -- its packets are those of the image
  pub packet_first : (q : ℕ) → q < multiframe_pairs * k → received first (row_of k) q ≡ packet_in s q
  packet_first q h =
      packet_at_lem first k q h ∙ ap (λ (l : List ℕ). stream_packet (bits l) q) (part_first (multiframe_octets * (q / multiframe_pairs) + 2 + 4) stream_octets (omega arith))

  abbrev pub all : List ℕ
  all = received_frames first (row_of k)

  -- and an undamaged pair's frames stand in it as they were written
  pub frame_first : (j : ℕ) → j < multiframe_frames * k → packet_in s (pair_of j) ≡ packet_of u.indices (pair_of j) → part (frame_indices * j) frame_indices all ≡ frame_at u.indices j
  unfolding frames_of
  frame_first j h e =
      let q = j / 2 in
      let f = frame_at u.indices (2 * q) in
      let g = frame_at u.indices (2 * q + 1) in
      let lf : length f ≡ frame_indices = length_row u.indices (frame_indices * (2 * q)) frame_indices in
      let lg : length g ≡ frame_indices = length_row u.indices (frame_indices * (2 * q + 1)) frame_indices in
      let pair : part (14 * q) 14 all ≡ f ++ g =
      frames_at (received first (row_of k)) (pair_count (row_of k)) q (omega (arith, rows)) ∙ ap (apart widths) (packet_first q (omega arith) ∙ e)
      ∙ packet_of_back u.indices q (fits_each_frame u (first_frame q)) (fits_each_frame u (second_frame q)) in
      let room : 14 * q + 14 ≤ length all = omega (arith, length_all (received first (row_of k)) (pair_count (row_of k)), rows) in
      elim (ℕ_discrete (2 * q) j) [
        | yes x ↦
            let a : frame_indices * j ≡ 14 * q + 0 = omega arith in
            ap (λ (i : ℕ). part i frame_indices all) a ∙ part_within all (14 * q) 14 0 frame_indices room (omega arith) ∙ ap (part 0 frame_indices) pair ∙ take_at f g frame_indices lf ∙ ap (frame_at u.indices) x
        | no x ↦
            let a : frame_indices * j ≡ 14 * q + frame_indices = omega arith in
            let b : 2 * q + 1 ≡ j = omega arith in
            ap (λ (i : ℕ). part i frame_indices all) a ∙ part_within all (14 * q) 14 frame_indices frame_indices room (omega arith) ∙ ap (part frame_indices frame_indices) pair ∙ part_right f g frame_indices frame_indices lf
            ∙ take_all frame_indices g (omega arith) ∙ ap (frame_at u.indices) b
      ]

  module _ (tables : Tables) where
    abbrev pub ns : List ℕ
    ns = received_notes first (row_of k) tables

    pub notes_size : length ns ≡ pair_count (row_of k)
    notes_size = length_notes (received first (row_of k)) (pair_count (row_of k)) tables

    -- with a good pair, settings and room it is read
    pub read_first : (ch : Choices) (index report : List ℕ) → 0 < k → CanSettle ch k (flips 0) → Good ns → Lent k tables index report
        → reading ch first tables index report
        ≡ outcome (Ok (summary first (row_of k) ns (sent_common u))) (over index 0 (index_octets * length (row_of k)) (index_part first (row_of k) ns))
        (over report 0 (report_octets * length (row_of k)) (report_part first (row_of k) ns (sent_common u)))
    read_first ch index report some heads good lent =
        reads_as first k (omega (arith, few)) size_first syncs_first ch tables index report (sent_common u) some lent
        record {
          settles = settles_first ch some heads;
          usable = record { rate = λ e. rate_not_2 u (sym (rate_sent u) ∙ e); exp = exp_sent u };
          roomy = record {
            index_room = subst (λ (n : ℕ). index_octets * n ≤ length index) (sym rows) lent.index_room;
            report_room = subst (λ (n : ℕ). report_octets * n ≤ length report) (sym rows) lent.report_room;
            not_all = λ e. none_good ns (e ∙ sym notes_size) good.pair good.within good.good;
          };
        }
