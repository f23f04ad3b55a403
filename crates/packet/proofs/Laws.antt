-- What a writer, a reader and the damage theorems cite of frames, packets and streams. Laws of frames and packets hold for every list of
-- widths.
-- Assumes nothing.
use Rattle.std.specs.Prelude.{◌≡◌, refl, Bool, true, false, ◌↔◌, ℕ, zero, suc, ◌+◌, ◌*◌, ◌^◌, ◌≤◌, ◌<◌, length, take, drop, get_or, replicate}
use Rattle.std.proofs.Common.{sym, ◌∙◌, subst, add-zero, add-suc, le_of_eq, add-one, arith, length-drop, length-append, take-append-drop, take-suc, take_all, length-take-le, get_or-drop, take-add}
use Rattle.std.proofs.Math.Path.{ap, ap₂}
use mathlib.Core.List.{List, [], ◌∷◌, ◌++◌, append_assoc, append-nil}
use Rattle.std.proofs.Math.Decide.{dec_lt}
use Rattle.std.proofs.Math.ListN.{get_or-append, get_or-eq_default}
use Rattle.std.proofs.lemmas.List.{replicate-append-replicate, get_or_at}
use Rattle.std.proofs.Math.Seq.{take_at, drop_at}
use Rattle.lists.specs.Parts.{part, part_left, part_right}
use Rattle.layout.specs.Layout.{widths, frame_indices, frame_bits, data_bits, packet_bits, crc_bits, stream_octets, multiframe_pairs, first_frame, second_frame}
use Rattle.bits.specs.Bits.{bits, octets, total, Fits}
use Rattle.bits.proofs.Laws.{length_laid, numbers_laid, laid_numbers, numbers_front, fits_each, bits_octets}
use Rattle.crc.specs.Crc.{crc, sent, Right, right, Damaged}
use Rattle.crc.proofs.Laws.{length_sent, right_true}
use Rattle.crc.proofs.Damage.{damage_named, damage_apart}
use Rattle.packet.specs.Packet.{frame, indices, guarded, packet, apart, row, frame_at, packet_of, stream}

-- ---- frames
pub length_frame : (ws f : List ℕ) → length (frame ws f) ≡ total ws
length_frame = length_laid

-- FRAME TO BITS TO FRAME, whatever stands behind it
pub frame_back : (ws f : List ℕ) (r : List Bool) → Fits ws f → indices ws (frame ws f ++ r) ≡ f
frame_back = numbers_laid

-- BITS TO FRAME TO BITS
pub frame_again : (ws : List ℕ) (l : List Bool) → length l ≡ total ws → frame ws (indices ws l) ≡ l
frame_again = laid_numbers

-- the layout's frame has 44 bits
pub total_widths : total widths ≡ frame_bits
unfolding total
total_widths = refl

-- ---- bits and their CRC
module _ (d : List Bool) (n : ℕ) (size : length d ≡ n) where
  pub guarded_data : take n (guarded d) ≡ d
  unfolding guarded
  guarded_data = take_at d (sent (crc d)) n size

  pub length_guarded : length (guarded d) ≡ n + crc_bits
  unfolding guarded
  length_guarded = rw (length-append, length_sent, size)

  -- what is written is right
  pub guarded_right : Right n (guarded d)
  unfolding guarded Right
  guarded_right = drop_at d (sent (crc d)) n size ∙ ap (λ (l : List Bool). sent (crc l)) (sym guarded_data)

-- bits are their data with its CRC exactly if the CRC is right
pub guarded_again : (n : ℕ) (p : List Bool) → (guarded (take n p) ≡ p) ↔ Right n p
unfolding guarded Right
guarded_again n p =
    let d = take n p in (
      (λ e. same_rest d (drop n p) (sent (crc d)) (take-append-drop n p ∙ sym e)),
      (λ r. ap (λ (l : List Bool). d ++ l) (sym r) ∙ take-append-drop n p),
    )
  where
    same_rest : (d x y : List Bool) → d ++ x ≡ d ++ y → x ≡ y
    same_rest d x y e = sym (drop_at d x (length d) refl) ∙ ap (drop (length d)) e ∙ drop_at d y (length d) refl

-- two right packets with the same data are the same
pub same_data : (n : ℕ) (p q : List Bool) → Right n p → Right n q → take n p ≡ take n q → p ≡ q
same_data n p q hp hq e = sym ((guarded_again n p).1 hp) ∙ ap guarded e ∙ (guarded_again n q).1 hq

-- ---- packets, over the widths
module _ (ws : List ℕ) where
  pub data_size : (f g : List ℕ) → length (frame ws f ++ frame ws g) ≡ total ws + total ws
  data_size f g = rw (length-append, length_laid ws f, length_laid ws g)

  pub length_packet : (f g : List ℕ) → length (packet ws f g) ≡ total ws + total ws + crc_bits
  unfolding packet
  length_packet f g = length_guarded (frame ws f ++ frame ws g) (total ws + total ws) (data_size f g)

  -- a packet's CRC is right
  pub packet_right : (f g : List ℕ) → Right (total ws + total ws) (packet ws f g)
  unfolding packet
  packet_right f g = guarded_right (frame ws f ++ frame ws g) (total ws + total ws) (data_size f g)

  -- FRAMES TO PACKET TO FRAMES
  pub packet_back : (f g : List ℕ) → Fits ws f → Fits ws g → apart ws (packet ws f g) ≡ f ++ g
  unfolding packet guarded apart
  packet_back f g hf hg =
      let c = sent (crc (frame ws f ++ frame ws g)) in
      let e : (frame ws f ++ frame ws g) ++ c ≡ frame ws f ++ (frame ws g ++ c) = append_assoc (frame ws f) (frame ws g) c in
      ap (λ (p : List Bool). indices ws p ++ indices ws (drop (total ws) p)) e
      ∙ ap₂ (λ (x y : List ℕ). x ++ y) (numbers_laid ws f (frame ws g ++ c) hf)
      (ap (indices ws) (drop_at (frame ws f) (frame ws g ++ c) (total ws) (length_laid ws f)) ∙ numbers_laid ws g c hg)

  -- the data of bits, taken apart and put together
  data_again : (p : List Bool) → total ws + total ws ≤ length p
      → frame ws (indices ws p) ++ frame ws (indices ws (drop (total ws) p)) ≡ take (total ws + total ws) p
  data_again p h =
      let n = total ws in
      let front : (l : List Bool) → n ≤ length l → frame ws (indices ws l) ≡ take n l =
      λ l k. let t : length (take n l) ≡ n = length-take-le n l k in
      ap (frame ws) (ap (indices ws) (sym (take-append-drop n l)) ∙ numbers_front ws (take n l) (drop n l) t) ∙ laid_numbers ws (take n l) t in
      let hd : n ≤ length (drop n p) = rw length-drop (omega arith) in
      ap₂ (λ (x y : List Bool). x ++ y) (front p (omega arith)) (front (drop n p) hd) ∙ sym (take-add n n p)

  -- BITS TO FRAMES TO BITS: a packet put together from what was taken apart is the same exactly if the CRC was right
  pub packet_again : (p : List Bool) → length p ≡ total ws + total ws + crc_bits
      → (packet ws (indices ws p) (indices ws (drop (total ws) p)) ≡ p) ↔ Right (total ws + total ws) p
  unfolding packet
  packet_again p h =
      let e = ap guarded (data_again p (omega arith)) in
      let g = guarded_again (total ws + total ws) p in
      ((λ s. g.0 (sym e ∙ s)), (λ r. e ∙ g.1 r))

  -- packets that are the same hold the same frames
  pub packet_same : (f g f' g' : List ℕ) → Fits ws f → Fits ws g → Fits ws f' → Fits ws g' → packet ws f g ≡ packet ws f' g' → f ++ g ≡ f' ++ g'
  packet_same f g f' g' hf hg hf' hg' e = sym (packet_back f g hf hg) ∙ ap (apart ws) e ∙ packet_back f' g' hf' hg'

-- the same of the layout's 92 bits
pub packet_92 : (p : List Bool) → length p ≡ packet_bits → (packet widths (indices widths p) (indices widths (drop frame_bits p)) ≡ p) ↔ Right data_bits p
unfolding total
packet_92 p h = packet_again widths p h

-- ---- frames of index octets
pub length_row : (idx : List ℕ) (at n : ℕ) → length (row idx at n) ≡ n
unfolding row
length_row idx at zero = refl
length_row idx at (suc n) = rw (length-append, length_row idx at n) (add-one n)

-- inside the octets it is their part
pub row_inside : (idx : List ℕ) (at n : ℕ) → at + n ≤ length idx → row idx at n ≡ part at n idx
unfolding row
row_inside idx at zero h = refl
row_inside idx at (suc n) h =
    let k : n < length (drop at idx) = rw length-drop (omega arith) in
    ap₂ (λ (x : List ℕ) (y : ℕ). x ++ (y ∷ [])) (row_inside idx at n (omega arith)) (sym (get_or-drop at idx n 0)) ∙ sym (take-suc (drop at idx) n 0 k)

-- past the octets it is zeros
pub row_past : (idx : List ℕ) (at n : ℕ) → length idx ≤ at → row idx at n ≡ replicate n 0
unfolding row
row_past idx at zero h = refl
row_past idx at (suc n) h =
    let k : length idx ≤ at + n = omega arith in
    let e : n + 1 ≡ suc n = add-one n in
    ap₂ (λ (x : List ℕ) (y : ℕ). x ++ (y ∷ [])) (row_past idx at n h) (get_or-eq_default idx 0 k) ∙ replicate-append-replicate n 1 0 ∙ ap (λ (m : ℕ). replicate m 0) e

-- octet k of a row
pub get_or_row : (idx : List ℕ) (at n k : ℕ) → k < n → get_or (row idx at n) k 0 ≡ get_or idx (at + k) 0
unfolding row
get_or_row idx at zero k h = absurd (omega arith)
get_or_row idx at (suc n) k h = go (dec_lt k n) (get_or_row idx at n k)
  where
    go : Dec (k < n) → (k < n → get_or (row idx at n) k 0 ≡ get_or idx (at + k) 0) → get_or (row idx at n ++ (get_or idx (at + n) 0 ∷ [])) k 0 ≡ get_or idx (at + k) 0
    go (yes l) ih =
        let m : k < length (row idx at n) = rw length_row l in
        get_or-append (row idx at n) (get_or idx (at + n) 0 ∷ []) 0 k m ∙ ih l
    go (no d) ih =
        let e : k ≡ n = omega arith in
        ap (λ (j : ℕ). get_or (row idx at n ++ (get_or idx (at + n) 0 ∷ [])) j 0) e ∙ get_or_at (row idx at n) (get_or idx (at + n) 0) [] 0 n (length_row idx at n)
        ∙ ap (λ (j : ℕ). get_or idx (at + j) 0) (sym e)

-- a frame fits if each of its octets is below 2 to its width
pub fits_frame : (idx : List ℕ) (k : ℕ) → ((i : ℕ) → i < frame_indices → get_or idx (frame_indices * k + i) 0 < 2 ^ get_or widths i 0) → Fits widths (frame_at idx k)
fits_frame idx k f =
    fits_each widths (frame_at idx k) (length_row idx (frame_indices * k) frame_indices)
    (λ i h. rw (get_or_row idx (frame_indices * k) frame_indices i h) (f i h))

-- ---- packets in a row
pub length_packet_of : (idx : List ℕ) (q : ℕ) → length (packet_of idx q) ≡ packet_bits
unfolding packet_of
length_packet_of idx q =
    length_packet widths (frame_at idx (first_frame q)) (frame_at idx (second_frame q)) ∙ ap (λ (n : ℕ). n + n + crc_bits) total_widths

pub packet_of_right : (idx : List ℕ) (q : ℕ) → Right data_bits (packet_of idx q)
unfolding packet_of
packet_of_right idx q =
    subst (λ (n : ℕ). Right (n + n) (packet widths (frame_at idx (first_frame q)) (frame_at idx (second_frame q)))) total_widths
    (packet_right widths (frame_at idx (first_frame q)) (frame_at idx (second_frame q)))

-- what the reader's test says of it
pub packet_of_good : (idx : List ℕ) (q : ℕ) → right data_bits (packet_of idx q) ≡ true
packet_of_good idx q = (right_true data_bits (packet_of idx q)).1 (packet_of_right idx q)

-- taken apart, it is its two frames
pub packet_of_back : (idx : List ℕ) (q : ℕ) → Fits widths (frame_at idx (first_frame q)) → Fits widths (frame_at idx (second_frame q))
    → apart widths (packet_of idx q) ≡ frame_at idx (first_frame q) ++ frame_at idx (second_frame q)
unfolding packet_of
packet_of_back idx q = packet_back widths (frame_at idx (first_frame q)) (frame_at idx (second_frame q))

-- packets that are the same hold the same frames
pub packet_of_same : (idx other : List ℕ) (q r : ℕ) → Fits widths (frame_at idx (first_frame q)) → Fits widths (frame_at idx (second_frame q))
    → Fits widths (frame_at other (first_frame r)) → Fits widths (frame_at other (second_frame r)) → packet_of idx q ≡ packet_of other r
    → (frame_at idx (first_frame q) ≡ frame_at other (first_frame r)) × (frame_at idx (second_frame q) ≡ frame_at other (second_frame r))
packet_of_same idx other q r hf hg hf' hg' e =
    let f = frame_at idx (first_frame q) in
    let g = frame_at idx (second_frame q) in
    let f' = frame_at other (first_frame r) in
    let g' = frame_at other (second_frame r) in
    let s : f ++ g ≡ f' ++ g' = sym (packet_of_back idx q hf hg) ∙ ap (apart widths) e ∙ packet_of_back other r hf' hg' in
    let lf : length f ≡ frame_indices = length_row idx (frame_indices * first_frame q) frame_indices in
    let lf' : length f' ≡ frame_indices = length_row other (frame_indices * first_frame r) frame_indices in (
      sym (take_at f g frame_indices lf) ∙ ap (take frame_indices) s ∙ take_at f' g' frame_indices lf',
      sym (drop_at f g frame_indices lf) ∙ ap (drop frame_indices) s ∙ drop_at f' g' frame_indices lf',
    )

-- DAMAGE TO IT IS NAMED by the reader's test
pub packet_of_damaged : (idx : List ℕ) (q : ℕ) (p : List Bool) → Damaged (packet_of idx q) p → right data_bits p ≡ false
packet_of_damaged idx q p d = damage_named data_bits (packet_of idx q) p (length_packet_of idx q) (packet_of_right idx q) d

-- AND NO DAMAGED PACKET IS ANOTHER, undamaged one
pub packet_of_apart : (idx other : List ℕ) (q r : ℕ) (p : List Bool) → Damaged (packet_of other r) p → packet_of idx q ≡ p → ⊥
packet_of_apart idx other q r p d e =
    damage_apart data_bits (packet_of idx q) (packet_of other r) p (length_packet_of other r) (packet_of_right idx q) (packet_of_right other r) d e

pub length_stream : (idx : List ℕ) (q n : ℕ) → length (stream idx q n) ≡ packet_bits * n
unfolding stream
length_stream idx q zero = refl
length_stream idx q (suc n) = rw (length-append, length_stream idx q n, length_packet_of) (omega arith)

pub stream_add : (idx : List ℕ) (q m n : ℕ) → stream idx q (m + n) ≡ stream idx q m ++ stream idx (q + m) n
unfolding stream
stream_add idx q m zero = rw add-zero (sym (append-nil (stream idx q m)))
stream_add idx q m (suc n) =
    let e : q + (m + n) ≡ q + m + n = omega arith in
    rw (add-suc, stream_add idx q m n, e, append_assoc)

-- PACKET p OF A STREAM STANDS AT BIT 92p
pub stream_part : (idx : List ℕ) (q n p : ℕ) → p < n → part (packet_bits * p) packet_bits (stream idx q n) ≡ packet_of idx (q + p)
unfolding stream
stream_part idx q zero p h = absurd (omega arith)
stream_part idx q (suc n) p h = go (dec_lt p n) (stream_part idx q n p)
  where
    go : Dec (p < n) → (p < n → part (packet_bits * p) packet_bits (stream idx q n) ≡ packet_of idx (q + p))
        → part (packet_bits * p) packet_bits (stream idx q n ++ packet_of idx (q + n)) ≡ packet_of idx (q + p)
    go (yes l) ih =
        let k : packet_bits * p + packet_bits ≤ length (stream idx q n) = rw length_stream (omega arith) in
        part_left (stream idx q n) (packet_of idx (q + n)) (packet_bits * p) packet_bits k ∙ ih l
    go (no d) ih =
        let e : p ≡ n = omega arith in
        rw e
        (part_right (stream idx q n) (packet_of idx (q + n)) (packet_bits * n) packet_bits (length_stream idx q n)
        ∙ take_all packet_bits (packet_of idx (q + n)) (le_of_eq (length_packet_of idx (q + n))))

-- the octets of a multiframe's stream have the stream's bits
pub stream_bits_lem : (idx : List ℕ) (q : ℕ) → bits (octets stream_octets (stream idx q multiframe_pairs)) ≡ stream idx q multiframe_pairs
stream_bits_lem idx q = bits_octets stream_octets (stream idx q multiframe_pairs) (length_stream idx q multiframe_pairs)

-- and packet p of them is packet p
pub stream_packet_lem : (idx : List ℕ) (q p : ℕ) → p < multiframe_pairs
    → part (packet_bits * p) packet_bits (bits (octets stream_octets (stream idx q multiframe_pairs))) ≡ packet_of idx (q + p)
stream_packet_lem idx q p h = ap (part (packet_bits * p) packet_bits) (stream_bits_lem idx q) ∙ stream_part idx q multiframe_pairs p h
