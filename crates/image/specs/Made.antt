-- Octets cut in multiframes one behind the other: what stands where in them, what is made of any header words and streams, and that such octets
-- are made of what stands in them (01, "Multiframe").
-- Assumes nothing.
use Rattle.std.specs.Prelude.{◌≡◌, refl, Bool, List, [], ◌∷◌, ◌++◌, ℕ, zero, suc, ◌+◌, ◌*◌, ◌^◌, ◌≤◌, ◌<◌, length, take, drop, get_or, replicate}
use Rattle.std.proofs.Common.{sym, ap, ap₂, ◌∙◌, subst, mod-eq_of_lt, mul-zero, mul-suc, arith, lit<, length-append, length-take, take-append-drop, take_all, take_at, take-add, drop_at, drop-drop, get_or-take, get_or-drop}
use Rattle.std.proofs.Math.Decide.{dec_lt}
use Rattle.std.proofs.Math.ListN.{get_or-eq_default}
use Rattle.lists.specs.Parts.{part, part_left, length_part}
use Rattle.lists.specs.Rows.{joined, length_joined, joined_part, same_joined}
use Rattle.layout.specs.Layout.{packet_bits, multiframe_pairs, multiframe_octets, sync_octets, header_octets, stream_octets, multiframe_of, packet_start, sync}
use Rattle.bits.specs.Bits.{value, bits, field, octets, Fits}
use Rattle.bits.proofs.Laws.{length_octets, length_field, value_field, field_value, length_bits, bits_octets, octets_bits, fits_numbers}
use Rattle.carrier.specs.Carrier.{sync_from, header_from, word_at, stream_at, stream_packet, packet_at, in_row}

-- ---- multiframes one behind the other in octets: the sync and the header word of multiframe k, and the packet of pair q
abbrev pub sync_in : List ℕ → ℕ → List ℕ
sync_in s k = sync_from s (in_row k)

abbrev pub header_in : List ℕ → ℕ → List ℕ
header_in s k = header_from s (in_row k)

abbrev pub word_in : List ℕ → ℕ → ℕ
word_in s k = word_at s in_row k

abbrev pub stream_in : List ℕ → ℕ → List ℕ
stream_in s k = stream_at s in_row k

abbrev pub packet_in : List ℕ → ℕ → List Bool
packet_in s q = packet_at s in_row q

-- a part of a part
pub part_within : {A : Type 0} (l : List A) (b w a v : ℕ) → b + w ≤ length l → a + v ≤ w → part (b + a) v l ≡ part a v (part b w l)
part_within l b w a v room h =
    let d = drop b l in
    let r : a + v ≤ length (take w d) = omega (arith, length_part l b w room) in
    ap (take v) (sym (drop-drop a b l)) ∙ ap (part a v) (sym (take-append-drop w d)) ∙ part_left (take w d) (drop w d) a v r

-- ---- multiframes of any header words and any streams of bits, one behind the other
abbrev pub framed : ℕ → List Bool → List ℕ
framed w x = sync ++ (octets header_octets (field 32 w) ++ octets stream_octets x)

abbrev pub made : (ℕ → ℕ) → (ℕ → List Bool) → ℕ → List ℕ
made w x m = joined (λ k. framed (w k) (x k)) m

-- every octet is one
abbrev pub Small : List ℕ → Type 0
Small s = (i : ℕ) → get_or s i 0 < 2 ^ 8

module _ (w : ℕ) (x : List Bool) where
  -- a multiframe has 144 octets
  pub length_framed : length (framed w x) ≡ multiframe_octets
  length_framed =
      ap (λ (n : ℕ). suc (suc n))
      (length-append (octets header_octets (field 32 w)) (octets stream_octets x) ∙ ap₂ ◌+◌ (length_octets header_octets (field 32 w)) (length_octets stream_octets x))

  -- its sync, its header's octets and its stream's octets
  pub framed_sync : part 0 sync_octets (framed w x) ≡ sync
  framed_sync = refl

  pub framed_header : part sync_octets header_octets (framed w x) ≡ octets header_octets (field 32 w)
  framed_header = take_at (octets header_octets (field 32 w)) (octets stream_octets x) header_octets (length_octets header_octets (field 32 w))

  pub framed_stream : part (sync_octets + header_octets) stream_octets (framed w x) ≡ octets stream_octets x
  framed_stream =
      ap (take stream_octets) (drop_at (octets header_octets (field 32 w)) (octets stream_octets x) header_octets (length_octets header_octets (field 32 w)))
      ∙ take_all stream_octets (octets stream_octets x) (omega (arith, length_octets stream_octets x))

module _ (w : ℕ → ℕ) (x : ℕ → List Bool) where
  pub length_made : (m : ℕ) → length (made w x m) ≡ multiframe_octets * m
  length_made m = length_joined (λ k. framed (w k) (x k)) multiframe_octets m (λ k h. length_framed (w k) (x k))

  -- multiframe k of them
  pub made_part : (m k : ℕ) → k < m → part (multiframe_octets * k) multiframe_octets (made w x m) ≡ framed (w k) (x k)
  made_part m k h = joined_part (λ k. framed (w k) (x k)) multiframe_octets m k (λ i z. length_framed (w i) (x i)) h

  module _ (m k : ℕ) (h : k < m) where
    -- a part of a multiframe is that part of the whole
    inside : (a v : ℕ) → a + v ≤ multiframe_octets → part (multiframe_octets * k + a) v (made w x m) ≡ part a v (framed (w k) (x k))
    inside a v l =
        part_within (made w x m) (multiframe_octets * k) multiframe_octets a v (omega (arith, length_made m)) l ∙ ap (part a v) (made_part m k h)

    pub made_sync : sync_in (made w x m) k ≡ sync
    made_sync =
        let z : multiframe_octets * k ≡ multiframe_octets * k + 0 = omega arith in
        ap (λ (i : ℕ). part i sync_octets (made w x m)) z ∙ inside 0 sync_octets (omega arith) ∙ framed_sync (w k) (x k)

    pub made_header : header_in (made w x m) k ≡ octets header_octets (field 32 (w k))
    made_header = inside sync_octets header_octets (omega arith) ∙ framed_header (w k) (x k)

    pub made_word : w k < 2 ^ 32 → word_in (made w x m) k ≡ w k
    made_word l =
        ap (λ (s : List ℕ). value (bits s)) made_header ∙ ap value (bits_octets header_octets (field 32 (w k)) (length_field 32 (w k))) ∙ value_field 32 (w k)
        ∙ mod-eq_of_lt l

    pub made_stream : stream_in (made w x m) k ≡ octets stream_octets (x k)
    made_stream =
        let z : multiframe_octets * k + sync_octets + header_octets ≡ multiframe_octets * k + (sync_octets + header_octets) = omega arith in
        ap (λ (i : ℕ). part i stream_octets (made w x m)) z ∙ inside (sync_octets + header_octets) stream_octets (omega arith) ∙ framed_stream (w k) (x k)

  pub made_packet : (m q : ℕ) → q < multiframe_pairs * m → length (x (multiframe_of q)) ≡ 8 * stream_octets
      → packet_in (made w x m) q ≡ stream_packet (x (multiframe_of q)) q
  made_packet m q h l =
      let k : multiframe_of q < m = omega arith in
      ap (λ (s : List ℕ). part (packet_start q) packet_bits (bits s)) (made_stream m (multiframe_of q) k)
      ∙ ap (part (packet_start q) packet_bits) (bits_octets stream_octets (x (multiframe_of q)) l)

-- what is made holds octets
small_append : (l m : List ℕ) → Small l → Small m → Small (l ++ m)
small_append [] m hl hm i = hm i
small_append (a ∷ l) m hl hm zero = hl 0
small_append (a ∷ l) m hl hm (suc i) = small_append l m (λ j. hl (suc j)) hm i

small_fits : (n : ℕ) (s : List ℕ) → Fits (replicate n 8) s → Small s
unfolding Fits
small_fits zero [] f i = omega arith
small_fits zero (x ∷ s) f i = absurd f
small_fits (suc n) [] f i = absurd f
small_fits (suc n) (x ∷ s) f zero = f.0
small_fits (suc n) (x ∷ s) f (suc i) = small_fits n s f.1 i

small_octets : (n : ℕ) (l : List Bool) → Small (octets n l)
small_octets n l = small_fits n (octets n l) (fits_numbers (replicate n 8) l)

small_sync : Small sync
small_sync zero = omega arith
small_sync (suc zero) = omega arith
small_sync (suc (suc i)) = omega arith

pub small_made : (w : ℕ → ℕ) (x : ℕ → List Bool) (m : ℕ) → Small (made w x m)
small_made w x zero i = omega arith
small_made w x (suc m) i =
    small_append (made w x m) (framed (w m) (x m)) (small_made w x m)
    (small_append sync (octets header_octets (field 32 (w m)) ++ octets stream_octets (x m)) small_sync
    (small_append (octets header_octets (field 32 (w m))) (octets stream_octets (x m)) (small_octets header_octets (field 32 (w m))) (small_octets stream_octets (x m))))
    i

small_part : (a n : ℕ) (s : List ℕ) → Small s → Small (part a n s)
small_part a n s h i =
    elim (dec_lt i n) [
      | yes l ↦ subst (λ (x : ℕ). x < 2 ^ 8) (sym (get_or-take n (drop a s) i 0 l ∙ get_or-drop a s i 0)) (h (a + i))
      | no d ↦ subst (λ (x : ℕ). x < 2 ^ 8) (sym (get_or-eq_default (part a n s) 0 (omega (arith, length-take n (drop a s))))) (lit< tt)
    ]

-- what stands in rows of w is its rows
pub rows : {A : Type 0} (w m : ℕ) (s : List A) → w * m ≤ length s → joined (λ k. part (w * k) w s) m ≡ take (w * m) s
rows {A} w zero s h = ap (λ (n : ℕ). take n s) (sym (mul-zero w))
rows {A} w (suc m) s h =
    ap (λ (l : List A). l ++ part (w * m) w s) (rows w m s (omega (arith, mul-suc w m))) ∙ sym (take-add (w * m) w s) ∙ ap (λ (n : ℕ). take n s) (sym (mul-suc w m))

-- OCTETS THAT ARE CUT IN m MULTIFRAMES, each with its sync, are made of what stands in them
module _ (s : List ℕ) (m : ℕ) (size : length s ≡ multiframe_octets * m) (small : Small s) (syncs : (k : ℕ) → k < m → sync_in s k ≡ sync) where
  framed_again : (k : ℕ) → k < m → framed (word_in s k) (bits (stream_in s k)) ≡ part (multiframe_octets * k) multiframe_octets s
  framed_again k h =
      let at = multiframe_octets * k in
      let d = drop at s in
      let head = header_in s k in
      let body = stream_in s k in
      let lh : length head ≡ header_octets = length_part s (at + sync_octets) header_octets (omega arith) in
      let lb : length body ≡ stream_octets = length_part s (at + sync_octets + header_octets) stream_octets (omega arith) in
      let bh : length (bits head) ≡ 32 = length_bits head ∙ ap (λ (n : ℕ). n * 8) lh in
      let fh : field 32 (value (bits head)) ≡ bits head = subst (λ (n : ℕ). field n (value (bits head)) ≡ bits head) bh (field_value (bits head)) in
      let oh : octets header_octets (bits head) ≡ head = subst (λ (n : ℕ). octets n (bits head) ≡ head) lh (octets_bits head (small_part (at + sync_octets) header_octets s small)) in
      let ob : octets stream_octets (bits body) ≡ body = subst (λ (n : ℕ). octets n (bits body) ≡ body) lb (octets_bits body (small_part (at + sync_octets + header_octets) stream_octets s small)) in
      ap₂ (λ (x y : List ℕ). x ++ y) (sym (syncs k h)) (ap₂ (λ (x y : List ℕ). x ++ y) (ap (octets header_octets) fh ∙ oh) ob)
      ∙ sym (take-add sync_octets (header_octets + stream_octets) d ∙ ap (λ (l : List ℕ). take sync_octets d ++ l) (ap (take (header_octets + stream_octets)) (drop-drop sync_octets at s) ∙ take-add header_octets stream_octets (drop (at + sync_octets) s)
      ∙ ap (λ (l : List ℕ). head ++ take stream_octets l) (drop-drop header_octets (at + sync_octets) s)))

  pub made_again : made (word_in s) (λ k. bits (stream_in s k)) m ≡ s
  made_again =
      same_joined (λ k. framed (word_in s k) (bits (stream_in s k))) (λ k. part (multiframe_octets * k) multiframe_octets s) m framed_again
      ∙ rows multiframe_octets m s (omega arith) ∙ take_all (multiframe_octets * m) s (omega arith)
