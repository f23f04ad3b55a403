-- The last step of each function, as a law over lists and numbers: words joined from frames and CRC.
-- Assumes nothing.
use mathlib.Core.Path.{◌≡◌, refl, sym, ap, ap₂, ◌∙◌, subst}
use mathlib.Core.Bool.{Bool}
use mathlib.Core.List.{List, [], ◌∷◌, ◌++◌, append_assoc}
use Prim.Native.Nat.{ℕ, ◌+◌, ◌-◌, ◌*◌, ◌/◌, ◌%◌, ◌^◌, ◌≤◌, ◌<◌}
use native.Mathlib.Nat.{mod-lt, lt_of_lt_of_le}
use native.Mathlib.Numerals.{add-one}
use native.Mathlib.Omega.{arith}
use lib.Bits.{bit_and, bit_or, and_mask, or_lt, mask_lt}
use lib.Dec.{lit≤}
use lib.Pow.{pow_pos, pow_mono, shr_lt}
use lib.ListN.{length, get_or, replicate, length-replicate, replicate-append-replicate}
use Rattle.layout.specs.Layout.{widths, frame_indices, frame_bits, most_narrow, first_frame, second_frame}
use Rattle.bits.specs.Bits.{field, value, laid}
use Rattle.bits.proofs.Laws.{field_value, field_add, field_low, value_lt, length_laid, laid_append, laid_one, total_same, joined, joined_lt, word_add}
use Rattle.crc.specs.Crc.{Rem, crc, code, coded, none, sent, fed_all}
use Rattle.crc.proofs.Laws.{crc_fed, length_sent}
use Rattle.crc.proofs.Register.{code_lt}
use Rattle.packet.specs.Packet.{rest_bits, half_bits, second_bits, frame, guarded, packet, row, frame_at, packet_of}
use Rattle.packet.proofs.Laws.{length_frame, total_widths, length_row, row_past}
use Rattle.packet.proofs.Steps.{fed_two}

-- ---- a frame as a word
pub frame_none : (idx : List ℕ) (at : ℕ) → 0 ≡ value (laid (replicate 0 6) (row idx at 0))
unfolding value laid row
frame_none idx at = refl

pub frame_past : (idx : List ℕ) (at : ℕ) → length idx ≤ at → 0 ≡ value (frame widths (row idx at frame_indices))
unfolding value laid field
frame_past idx at h = sym (ap (λ (f : List ℕ). value (frame widths f)) (row_past idx at frame_indices h))

-- one index more
laid_more : (ws : List ℕ) (w : ℕ) (idx : List ℕ) (at n : ℕ) → length ws ≡ n
    → laid ws (row idx at n) ++ field w (get_or idx (at + n) 0) ≡ laid (ws ++ (w ∷ [])) (row idx at (n + 1))
unfolding row
laid_more ws w idx at n h =
    rw (add-one)
    (sym (laid_append ws (w ∷ []) (row idx at n) (get_or idx (at + n) 0 ∷ []) (length_row idx at n ∙ sym h) ∙ ap (λ (l : List Bool). laid ws (row idx at n) ++ l) (laid_one w (get_or idx (at + n) 0))))

length_sixes : (n : ℕ) (f : List ℕ) → length (laid (replicate n 6) f) ≡ 6 * n
length_sixes n f = length_laid (replicate n 6) f ∙ total_same n 6

pub frame_more : (idx : List ℕ) (at n x v : ℕ) → n < 6 → v ≡ get_or idx (at + n) 0 → x ≡ value (laid (replicate n 6) (row idx at n))
    → bit_or x (bit_and v most_narrow * 2 ^ (6 * n) % 2 ^ 64) ≡ value (laid (replicate (n + 1) 6) (row idx at (n + 1)))
frame_more idx at n x v hn ev ex =
    let l = laid (replicate n 6) (row idx at n) in
    let room : 6 + 6 * n ≤ 64 = omega arith in
    let b : field 6 (bit_and v most_narrow) ≡ field 6 (get_or idx (at + n) 0) = ap (field 6) (and_mask v 6) ∙ field_low 6 v ∙ ap (field 6) ev in
    word_add l (6 * n) 6 x (bit_and v most_narrow) (length_sixes n (row idx at n)) room ex (mask_lt v 6)
    ∙ ap value
    (ap (λ (m : List Bool). l ++ m) b ∙ laid_more (replicate n 6) 6 idx at n (length-replicate n 6)
    ∙ ap (λ (ws : List ℕ). laid ws (row idx at (n + 1))) (replicate-append-replicate n 1 6))

pub frame_last : (idx : List ℕ) (at i x v : ℕ) → i ≡ 6 → v ≡ get_or idx (at + 6) 0 → v < 2 ^ 8 → x ≡ value (laid (replicate i 6) (row idx at i))
    → bit_or x (v * 2 ^ 36 % 2 ^ 64) ≡ value (frame widths (row idx at frame_indices))
frame_last idx at i x v e ev hv ex =
    let l = laid (replicate 6 6) (row idx at 6) in
    word_add l 36 8 x v (length_sixes 6 (row idx at 6)) (lit≤ tt) (ex ∙ ap (λ (n : ℕ). value (laid (replicate n 6) (row idx at n))) e) hv
    ∙ ap value (ap (λ (n : ℕ). l ++ field 8 n) ev ∙ laid_more (replicate 6 6) 8 idx at 6 refl)

-- a frame's word holds its bits
pub word_frame : (f : List ℕ) (x : ℕ) → x ≡ value (frame widths f) → field frame_bits x ≡ frame widths f
word_frame f x e =
    let n : length (frame widths f) ≡ frame_bits = length_frame widths f ∙ total_widths in
    ap₂ field (sym n) e ∙ field_value (frame widths f)

pub word_small : (f : List ℕ) (x : ℕ) → x ≡ value (frame widths f) → x < 2 ^ frame_bits
word_small f x e =
    let n : length (frame widths f) ≡ frame_bits = length_frame widths f ∙ total_widths in
    subst (λ (m : ℕ). m < 2 ^ frame_bits) (sym e) (subst (λ (k : ℕ). value (frame widths f) < 2 ^ k) n (value_lt (frame widths f)))

-- ---- the CRC of two frames: 40 bits of the first, then its last four and the second
pub crc_law : (a b c y z : ℕ) → a < 2 ^ frame_bits → c ≡ code none → y ≡ code (fed_all (coded c) (field 40 a))
    → z ≡ code (fed_all (coded y) (field second_bits (bit_or (a / 2 ^ 40) (b * 2 ^ 4 % 2 ^ 64)))) → z ≡ code (crc (field frame_bits a ++ field frame_bits b))
crc_law a b c y z ha ec ey ez =
    let h : a / 2 ^ 40 < 2 ^ 4 = shr_lt 4 40 ha in
    fed_two y z c (field 40 a) (field second_bits (bit_or (a / 2 ^ 40) (b * 2 ^ 4 % 2 ^ 64))) ec ey ez
    ∙ ap code
    (crc_fed (field 40 a ++ field second_bits (bit_or (a / 2 ^ 40) (b * 2 ^ 4 % 2 ^ 64)))
    ∙ ap crc
    (ap (λ (l : List Bool). field 40 a ++ l) (joined 4 frame_bits (a / 2 ^ 40) b (lit≤ tt) h) ∙ sym (append_assoc (field 40 a) (field 4 (a / 2 ^ 40)) (field frame_bits b))
    ∙ ap (λ (l : List Bool). l ++ field frame_bits b) (sym (field_add 40 4 a))))

-- ---- a packet as a word of 64 bits and 28 more, behind n leading bits
code_field : (r : Rem) → field 4 (code r) ≡ sent r
code_field r = ap (λ (n : ℕ). field n (code r)) (sym (length_sent r)) ∙ field_value (sent r)

-- a packet behind n leading bits: `low` and `high` are the code's two words
module _ (idx : List ℕ) (q a b c lead n : ℕ) (hn : n ≤ half_bits) (hl : lead < 2 ^ n) (ea : a ≡ value (frame widths (frame_at idx (first_frame q))))
    (eb : b ≡ value (frame widths (frame_at idx (second_frame q)))) where
  abbrev front : ℕ
  front = bit_or lead (a * 2 ^ n % 2 ^ 64)

  abbrev low : ℕ
  low = bit_or front (b * 2 ^ (frame_bits + n) % 2 ^ 64)

  abbrev high : ℕ
  high = bit_or (b / 2 ^ (20 - n)) (c * 2 ^ (24 + n) % 2 ^ 64)

  front_small : front < 2 ^ (n + frame_bits)
  front_small = joined_lt n frame_bits lead a (omega arith) hl (word_small (frame_at idx (first_frame q)) a ea)

  rest_small : b / 2 ^ (20 - n) < 2 ^ (24 + n)
  rest_small =
      let e : frame_bits ≡ 24 + n + (20 - n) = omega arith in
      shr_lt (24 + n) (20 - n) (subst (λ (m : ℕ). b < 2 ^ m) e (word_small (frame_at idx (second_frame q)) b eb))

  low_bits : field 64 low ≡ (field n lead ++ field frame_bits a) ++ field (20 - n) b
  low_bits =
      let m : frame_bits + n ≡ n + frame_bits = omega arith in
      let e : 64 ≡ n + frame_bits + (20 - n) = omega arith in
      ap₂ (λ (x y : ℕ). field x (bit_or front (b * 2 ^ y % 2 ^ 64))) e m ∙ joined (n + frame_bits) (20 - n) front b (omega arith) front_small
      ∙ ap (λ (l : List Bool). l ++ field (20 - n) b) (joined n frame_bits lead a (omega arith) hl)

  high_bits : field (rest_bits + n) high ≡ field (24 + n) (b / 2 ^ (20 - n)) ++ field 4 c
  high_bits =
      let e : rest_bits + n ≡ 24 + n + 4 = omega arith in
      ap (λ (m : ℕ). field m high) e ∙ joined (24 + n) 4 (b / 2 ^ (20 - n)) c (omega arith) rest_small

  second_bits_lem : field frame_bits b ≡ field (20 - n) b ++ field (24 + n) (b / 2 ^ (20 - n))
  second_bits_lem = let e : frame_bits ≡ 20 - n + (24 + n) = omega arith in ap (λ (m : ℕ). field m b) e ∙ field_add (20 - n) (24 + n) b

  pub pack_law : c ≡ code (crc (field frame_bits a ++ field frame_bits b)) → field 64 low ++ field (rest_bits + n) high ≡ field n lead ++ packet_of idx q
  unfolding packet_of packet guarded
  pack_law ec =
      let f = frame_at idx (first_frame q) in
      let g = frame_at idx (second_frame q) in
      let fa : field frame_bits a ≡ frame widths f = word_frame f a ea in
      let fb : field frame_bits b ≡ frame widths g = word_frame g b eb in
      let d = frame widths f ++ frame widths g in
      let fc : field 4 c ≡ sent (crc d) = ap (field 4) (ec ∙ ap₂ (λ (x y : List Bool). code (crc (x ++ y))) fa fb) ∙ code_field (crc d) in
      ap₂ (λ (x y : List Bool). x ++ y) low_bits high_bits ∙ regroup (field n lead) (field frame_bits a) (field (20 - n) b) (field (24 + n) (b / 2 ^ (20 - n))) (field 4 c)
      ∙ ap (λ (x : List Bool). field n lead ++ x)
      (ap₂ (λ (x y : List Bool). x ++ y) (ap₂ (λ (x y : List Bool). x ++ y) fa (sym second_bits_lem ∙ fb)) fc)
    where
      regroup : (l x y z w : List Bool) → ((l ++ x) ++ y) ++ (z ++ w) ≡ l ++ ((x ++ (y ++ z)) ++ w)
      regroup l x y z w = simp append_assoc

  pub low_small : low < 2 ^ 64
  low_small =
      let e : n + frame_bits ≤ 64 = omega arith in
      or_lt 64 front (b * 2 ^ (frame_bits + n) % 2 ^ 64) (lt_of_lt_of_le front_small (pow_mono e)) (mod-lt (b * 2 ^ (frame_bits + n)) (pow_pos 64))

  pub high_small : (r : Rem) → c ≡ code r → high < 2 ^ (rest_bits + n)
  high_small r ec =
      let e : 24 + n + 4 ≡ rest_bits + n = omega arith in
      let hc : c < 2 ^ 4 = subst (λ (m : ℕ). m < 2 ^ 4) (sym ec) (code_lt r) in
      subst (λ (m : ℕ). high < 2 ^ m) e (joined_lt (24 + n) 4 (b / 2 ^ (20 - n)) c (omega arith) rest_small hc)
