-- Octets of whole multiframes whose headers and pairs all have note 0: each header is the codeword sent, each packet the packet of its frames,
-- so the octets are the image of the settings and the frames read.
-- Assumes nothing.
use Rattle.std.specs.Prelude.{◌≡◌, refl, Bool, false, List, ◌++◌, ℕ, zero, suc, ◌+◌, ◌-◌, ◌*◌, ◌/◌, ◌%◌, ◌≤◌, ◌<◌, take, drop, Some, None}
use Rattle.std.proofs.Math.Path.{sym, ap, ap₂}
use Rattle.std.proofs.Common.{◌∙◌, length-take, ext_get_or}
use Rattle.std.proofs.Math.Bool.{true}
use Rattle.std.proofs.Math.Decide.{dec_lt}
use native.Mathlib.Omega.{arith}
use Rattle.std.proofs.Math.ListN.{length, get_or, get_or-eq_default}
use Rattle.std.proofs.Math.Seq.{take_at, take_all, get_or-take, get_or-drop}
use Rattle.lists.specs.Tests.{when, true_false}
use Rattle.lists.specs.Parts.{part, length_part, part_right}
use Rattle.lists.specs.Rows.{joined, same_joined}
use Rattle.layout.specs.Layout.{widths, frame_indices, pair_indices, data_bits, packet_bits, multiframe_frames, multiframe_pairs, sync_octets, header_octets, stream_octets, multiframe_octets, first_pair, first_frame, second_frame, sync}
use Rattle.settings.specs.declared.Settings.{Settings}
use Rattle.frames.specs.Frames.{zero_frame, all_zero_at}
use Rattle.bits.specs.Bits.{bits, total}
use Rattle.bits.proofs.Laws.{length_bits, length_numbers}
use Rattle.crc.specs.Crc.{Right}
use Rattle.packet.specs.Packet.{indices, packet, apart, frame_at, packet_of, stream}
use Rattle.packet.proofs.Laws.{total_widths, packet_92, length_row, get_or_row}
use Rattle.header_code.specs.Code.{codeword}
use Rattle.header_code.specs.Code.Distance.{no_flips}
use Rattle.message.specs.Message.{message, count_of, exp_of, settings_of}
use Rattle.message.specs.Message.Laws.{message_back, common_exp, count_mod, common_settings}
use Rattle.header.specs.Reading as H
use Rattle.header.proofs.Laws.{flips_counted, reads}
use Rattle.header.specs.Types.{Header}
use Rattle.header_notes.specs.HeaderNotes.{header_note}
use Rattle.header_notes.specs.Laws.{note_zero, note_lost}
use Rattle.replacing.specs.Speech.{last_nonzero, speech_of, end_of, place_le, place_stop, zero_behind, nonzero_at}
use Rattle.image.specs.Image.{image, words, streams}
use Rattle.image.specs.Made.{Small, sync_in, word_in, stream_in, packet_in, framed, made_again, part_within, rows}
use Rattle.image.proofs.Laws.{image_made}
use Rattle.wrong_frames.specs.WrongFrames.{frame_count}
use Rattle.writer.specs.Writing.{multiframes_for}

-- ---- a header with note 0 is a codeword with the settled common bits and the counter of its place
module _ (c k w : ℕ) where
  pub clean_header : exp_of c ≡ 0 → header_note c k (H.reading w) ≡ 0 → w ≡ codeword (message (settings_of c) (k + 1) 0)
  clean_header x e = by (H.reading w) (reads w) e
    where
      by : (h : Header) → H.ReadAs w h → header_note c k h ≡ 0 → w ≡ codeword (message (settings_of c) (k + 1) 0)
      by None r e = absurd (omega (arith, note_lost c k))
      by (Some d) r e =
          let m = d.message in
          let p = note_zero c k d r.2 e in
          let count = p.1 in
          let common = p.2 in
          let settings : settings_of m ≡ settings_of c = sym (common_settings m) ∙ ap settings_of common in
          let exp : exp_of m ≡ 0 = sym (common_exp m) ∙ ap exp_of common ∙ x in
          no_flips w m (sym (flips_counted w d r.1) ∙ p.0)
          ∙ ap codeword
          (sym (message_back m r.0) ∙ ap (λ (x : Settings). message x (count_of m) (exp_of m)) settings ∙ ap₂ (message (settings_of c)) count exp
          ∙ count_mod (settings_of c) (k + 1) 0)

-- ---- streams of the packets of index octets
in_a_row : (idx : List ℕ) (q n : ℕ) → stream idx q n ≡ joined (λ p. packet_of idx (q + p)) n
unfolding stream
in_a_row idx q zero = refl
in_a_row idx q (suc n) = ap (λ (l : List Bool). l ++ packet_of idx (q + n)) (in_a_row idx q n)

-- ---- the octets are the image
module _ (s : List ℕ) (m : ℕ) (size : length s ≡ multiframe_octets * m) (small : Small s) (syncs : (k : ℕ) → k < m → sync_in s k ≡ sync)
    (settings : Settings) (idx : List ℕ) (headers : (k : ℕ) → k < m → word_in s k ≡ codeword (message settings (k + 1) 0))
    (packets : (q : ℕ) → q < multiframe_pairs * m → packet_of idx q ≡ packet_in s q) where
  stream_is : (k : ℕ) → k < m → stream idx (first_pair k) multiframe_pairs ≡ bits (stream_in s k)
  stream_is k h =
      let l = bits (stream_in s k) in
      let ls : length (stream_in s k) ≡ stream_octets = length_part s (multiframe_octets * k + sync_octets + header_octets) stream_octets (omega arith) in
      let ll : length l ≡ stream_octets * 8 = length_bits (stream_in s k) ∙ ap (λ (n : ℕ). n * 8) ls in
      in_a_row idx (multiframe_pairs * k) multiframe_pairs
      ∙ same_joined (λ p. packet_of idx (multiframe_pairs * k + p)) (λ p. part (packet_bits * p) packet_bits l) multiframe_pairs (λ p z.
      let d : (multiframe_pairs * k + p) / multiframe_pairs ≡ k = omega arith in
      let r : (multiframe_pairs * k + p) % multiframe_pairs ≡ p = omega arith in
      packets (multiframe_pairs * k + p) (omega arith) ∙ ap₂ (λ (i j : ℕ). part (packet_bits * i) packet_bits (bits (stream_in s j))) r d)
      ∙ rows packet_bits multiframe_pairs l (omega arith) ∙ take_all (packet_bits * multiframe_pairs) l (omega arith)

  pub is_image : image settings idx m ≡ s
  is_image =
      image_made settings idx m
      ∙ same_joined (λ k. framed (words settings idx k) (streams settings idx k)) (λ k. framed (word_in s k) (bits (stream_in s k))) m
      (λ k h. ap₂ framed (sym (headers k h)) (stream_is k h))
      ∙ made_again s m size small syncs

-- ---- frames read and put together again
module _ (all : List ℕ) (m : ℕ) (some : 0 < m) (size : length all ≡ frame_indices * (multiframe_frames * m)) where
  abbrev speech : ℕ
  speech = speech_of m all

  -- the first `speech` frames
  abbrev pub spoken : List ℕ
  spoken = take (frame_indices * speech) all

  abbrev last : ℕ
  last = last_nonzero all (multiframe_frames * (m - 1)) multiframe_frames

  -- with end 1 the last frame is not among them
  pub speech_lt : end_of m all ≡ 1 → speech < multiframe_frames * m
  speech_lt e = by (zero_frame all (multiframe_frames * m - 1)) refl e
    where
      by : (t : Bool) → zero_frame all (multiframe_frames * m - 1) ≡ t → when {A = ℕ} t 1 0 ≡ 1 → speech < multiframe_frames * m
      by false z e = absurd (omega arith)
      by true z e = from (dec_lt last multiframe_frames)
        where
          from : Dec (last < multiframe_frames) → speech < multiframe_frames * m
          from (yes h) = omega arith
          from (no d) =
              let l : last ≡ suc 23 = omega (arith, place_le all (multiframe_frames * (m - 1)) multiframe_frames) in
              let i : multiframe_frames * (m - 1) + 23 ≡ multiframe_frames * m - 1 = omega arith in
              absurd (true_false (sym z ∙ ap (zero_frame all) (sym i) ∙ nonzero_at all (multiframe_frames * (m - 1)) multiframe_frames 23 l))

  -- and without it all frames are
  pub speech_full : end_of m all ≡ 0 → speech ≡ multiframe_frames * m
  speech_full e = by (zero_frame all (multiframe_frames * m - 1)) refl e
    where
      by : (t : Bool) → zero_frame all (multiframe_frames * m - 1) ≡ t → when {A = ℕ} t 1 0 ≡ 0 → speech ≡ multiframe_frames * m
      by true z e = absurd (omega arith)
      by false z e =
          let i : multiframe_frames * (m - 1) + 23 ≡ multiframe_frames * m - 1 = omega arith in
          let l : last ≡ multiframe_frames = place_stop all (multiframe_frames * (m - 1)) multiframe_frames (omega arith) (ap (zero_frame all) i ∙ z) in
          omega arith

  pub speech_le : speech ≤ multiframe_frames * m
  speech_le = omega (arith, place_le all (multiframe_frames * (m - 1)) multiframe_frames)

  pub length_spoken : length spoken ≡ frame_indices * speech
  length_spoken = length-take (frame_indices * speech) all ∙ omega (arith, speech_le)

  pub count_spoken : frame_count spoken ≡ speech
  count_spoken = omega (arith, length_spoken)

  pub multiframes_spoken : end_of m all ≡ 1 → multiframes_for (frame_count spoken) ≡ m
  multiframes_spoken e = omega (arith, count_spoken, speech_lt e)

  -- past them stand zeros
  spoken_at : (i : ℕ) → i < frame_indices * (multiframe_frames * m) → get_or spoken i 0 ≡ get_or all i 0
  unfolding zero_frame
  spoken_at i h =
      elim (dec_lt i (frame_indices * speech)) [
        | yes l ↦ get_or-take (frame_indices * speech) all i 0 l
        | no d ↦
            let k = i / frame_indices in
            let j : i % frame_indices < frame_indices = omega arith in
            let z : frame_indices * k + i % frame_indices ≡ i = omega arith in
            let e : multiframe_frames * (m - 1) + (k - multiframe_frames * (m - 1)) ≡ k = omega arith in
            let zero-there : zero_frame all k ≡ true =
            ap (zero_frame all) (sym e) ∙ zero_behind all (multiframe_frames * (m - 1)) multiframe_frames (k - multiframe_frames * (m - 1)) (omega arith) (omega arith) in
            get_or-eq_default spoken 0 (omega (arith, length_spoken))
            ∙ sym (ap (λ (t : ℕ). get_or all t 0) (sym z) ∙ sym (get_or-take frame_indices (drop (frame_indices * k) all) (i % frame_indices) 0 j ∙ get_or-drop (frame_indices * k) all (i % frame_indices) 0)
            ∙ all_zero_at (part (frame_indices * k) frame_indices all) (i % frame_indices) zero-there)
      ]

  frame_spoken : (k : ℕ) → k < multiframe_frames * m → frame_at spoken k ≡ part (frame_indices * k) frame_indices all
  frame_spoken k h =
      let f = part (frame_indices * k) frame_indices all in
      let lf : length f ≡ frame_indices = length_part all (frame_indices * k) frame_indices (omega arith) in
      let lr : length (frame_at spoken k) ≡ frame_indices = length_row spoken (frame_indices * k) frame_indices in
      ext_get_or 0 (frame_at spoken k) f (lr ∙ sym lf) (λ j l.
      let b : j < frame_indices = omega arith in
      get_or_row spoken (frame_indices * k) frame_indices j b ∙ spoken_at (frame_indices * k + j) (omega arith) ∙ sym (get_or-take frame_indices (drop (frame_indices * k) all) j 0 b ∙ get_or-drop (frame_indices * k) all j 0))

  -- a right packet is the packet of its frames
  pub packet_spoken : (q : ℕ) (p : List Bool) → q < multiframe_pairs * m → length p ≡ packet_bits → Right data_bits p
      → part (pair_indices * q) pair_indices all ≡ apart widths p → packet_of spoken q ≡ p
  unfolding packet_of apart
  packet_spoken q p h l r e =
      let f = indices widths p in
      let g = indices widths (drop (total widths) p) in
      let lf : length f ≡ frame_indices = length_numbers widths p in
      let lg : length g ≡ frame_indices = length_numbers widths (drop (total widths) p) in
      let room : pair_indices * q + pair_indices ≤ length all = omega arith in
      let a : frame_indices * (first_frame q) ≡ pair_indices * q + 0 = omega arith in
      let b : frame_indices * (second_frame q) ≡ pair_indices * q + frame_indices = omega arith in
      let first : frame_at spoken (first_frame q) ≡ f =
      frame_spoken (first_frame q) (omega arith) ∙ ap (λ (i : ℕ). part i frame_indices all) a ∙ part_within all (pair_indices * q) pair_indices 0 frame_indices room (omega arith) ∙ ap (part 0 frame_indices) e ∙ take_at f g frame_indices lf in
      let second : frame_at spoken (second_frame q) ≡ g =
      frame_spoken (second_frame q) (omega arith) ∙ ap (λ (i : ℕ). part i frame_indices all) b ∙ part_within all (pair_indices * q) pair_indices frame_indices frame_indices room (omega arith) ∙ ap (part frame_indices frame_indices) e
      ∙ part_right f g frame_indices frame_indices lf ∙ take_all frame_indices g (omega arith) in
      ap₂ (packet widths) first (second ∙ ap (λ (n : ℕ). indices widths (drop n p)) total_widths) ∙ (packet_92 p l).1 r
