-- The last step of each function, as a law over lists and numbers: packets found in words, and taken apart.
-- Assumes nothing.
use mathlib.Core.Path.{◌≡◌, refl, sym, ap, ap₂, ◌∙◌}
use mathlib.Core.Bool.{Bool, xor}
use mathlib.Core.List.{List, [], ◌∷◌, ◌++◌, append_assoc}
use Prim.Native.Nat.{ℕ, ◌+◌, ◌-◌, ◌*◌, ◌/◌, ◌%◌, ◌^◌, ◌≤◌, ◌<◌}
use native.Mathlib.Omega.{arith}
use lib.Bits.{bit_and, and_mask, or_zero_l}
use lib.Dec.{eqb, lit<, lit≤}
use lib.ListN.{length, take, drop, set, take-append-drop, replicate, length-replicate, replicate-append-replicate}
use lib.Seq.{take-add, drop-drop, length-take-le, drop_at}
use Rattle.lists.specs.Parts.{part, over, over_none, over_over, length_over, set_over, behind, length_part}
use Rattle.layout.specs.Layout.{widths, frame_indices, frame_bits, most_narrow, pair_indices, data_bits, packet_bits}
use Rattle.bits.specs.Bits.{bits, field, value, numbers, total}
use Rattle.bits.proofs.Laws.{field_value, take_field, field_part, value_field, length_numbers, numbers_more, numbers_front, total_same, joined, in_word}
use Rattle.crc.specs.Crc.{Rem, code, coded, none, fed_all, right}
use Rattle.crc.proofs.Laws.{fed_append}
use Rattle.crc.proofs.Register.{coded_code, right_test}
use Rattle.packet.specs.Packet.{second_bits, indices, apart}
use Rattle.packet.proofs.Laws.{total_widths}

-- ---- reading: bits of a word
pub masked_word : (s : List ℕ) (i k w x at : ℕ) → i + 8 ≤ length s → k + w ≤ 64 → 8 * i + k ≡ at → x ≡ value (part (8 * i) 64 (bits s))
    → bit_and (x / 2 ^ k) (2 ^ w - 1) ≡ value (part at w (bits s))
masked_word s i k w x at h hk ea ex = and_mask (x / 2 ^ k) w ∙ in_word s i k w x h hk ex ∙ ap (λ (n : ℕ). value (part n w (bits s))) ea

-- a part's bits back from its number
pub part_field : (l : List Bool) (at w x : ℕ) → at + w ≤ length l → x ≡ value (part at w l) → field w x ≡ part at w l
part_field l at w x room e =
    let p = part at w l in
    ap₂ field (sym (length_part l at w room)) e ∙ field_value p

-- the register after two words
pub fed_two : (y z c : ℕ) (l m : List Bool) → c ≡ code none → y ≡ code (fed_all (coded c) l) → z ≡ code (fed_all (coded y) m) → z ≡ code (fed_all none (l ++ m))
fed_two y z c l m ec ey ez =
    let f = fed_all none l in
    let e : coded y ≡ f = ap coded ey ∙ ap (λ (r : Rem). coded (code (fed_all r l))) (ap coded ec ∙ coded_code none) ∙ coded_code f in
    ez ∙ ap code (ap (λ (r : Rem). fed_all r m) e ∙ sym (fed_append none l m))

zeros_fed : (l : List Bool) → fed_all none (field 4 0 ++ l) ≡ fed_all none l
unfolding fed_all field xor
zeros_fed l = refl

shifted_four : (a : ℕ) → field second_bits (a * 2 ^ 4 % 2 ^ 64) ≡ field 4 0 ++ field frame_bits a
shifted_four a = ap (field second_bits) (sym (or_zero_l (a * 2 ^ 4 % 2 ^ 64))) ∙ joined 4 frame_bits 0 a (lit≤ tt) (lit< tt)

pub right_law : (l : List Bool) (at a b c y z : ℕ) → at + packet_bits ≤ length l → a ≡ value (part at frame_bits l) → b ≡ value (part (at + frame_bits) second_bits l) → c ≡ code none
    → y ≡ code (fed_all (coded c) (field second_bits (a * 2 ^ 4 % 2 ^ 64))) → z ≡ code (fed_all (coded y) (field second_bits b)) → eqb z 0 ≡ right data_bits (part at packet_bits l)
right_law l at a b c y z room ea eb ec ey ez =
    let p = part at packet_bits l in
    let ra : at + frame_bits ≤ length l = omega arith in
    let rb : at + frame_bits + second_bits ≤ length l = omega arith in
    let ep : field frame_bits a ++ field second_bits b ≡ p =
    ap₂ (λ (x w : List Bool). x ++ w) (part_field l at frame_bits a ra ea) (part_field l (at + frame_bits) second_bits b rb eb)
    ∙ ap (λ (m : List Bool). part at frame_bits l ++ take second_bits m) (sym (drop-drop frame_bits at l)) ∙ sym (take-add frame_bits second_bits (drop at l)) in
    let e : z ≡ code (fed_all none p) =
    fed_two y z c (field second_bits (a * 2 ^ 4 % 2 ^ 64)) (field second_bits b) ec ey ez
    ∙ ap (λ (m : List Bool). code (fed_all none m)) (ap (λ (m : List Bool). m ++ field second_bits b) (shifted_four a) ∙ append_assoc (field 4 0) (field frame_bits a) (field second_bits b))
    ∙ ap code (zeros_fed (field frame_bits a ++ field second_bits b) ∙ ap (fed_all none) ep) in
    ap (λ (n : ℕ). eqb n 0) e ∙ right_test data_bits p (length_part l at packet_bits room)

-- ---- a frame taken apart
pub take_none : (l : List ℕ) (to : ℕ) (m : List Bool) → l ≡ over l to 0 (numbers (replicate 0 6) m)
unfolding numbers
take_none l to m = over_none l to

number_at : (j w k v : ℕ) → k + v ≤ j → bit_and (w / 2 ^ k) (2 ^ v - 1) ≡ value (part k v (field j w))
number_at j w k v h = and_mask (w / 2 ^ k) v ∙ sym (ap value (field_part j w k v h) ∙ value_field v (w / 2 ^ k))

take_one : (ws : List ℕ) (v : ℕ) (l : List ℕ) (to n w : ℕ) {m : List ℕ} → length ws ≡ n → total ws + v ≤ frame_bits → to + n < length l
    → m ≡ over l to n (numbers ws (field frame_bits w)) → set m (to + n) (bit_and (w / 2 ^ total ws) (2 ^ v - 1)) ≡ over l to (n + 1) (numbers (ws ++ (v ∷ [])) (field frame_bits w))
take_one ws v l to n w {m} hn hv room em =
    let f = numbers ws (field frame_bits w) in
    let x = value (part (total ws) v (field frame_bits w)) in
    let r : to + n ≤ length l = omega arith in
    let lf : length f ≡ n = length_numbers ws (field frame_bits w) ∙ hn in
    let lo : to + n < length (over l to n f) = rw (length_over l f to n r lf) room in
    ap₂ (λ (y : List ℕ) (z : ℕ). set y (to + n) z) em (number_at frame_bits w (total ws) v hv) ∙ set_over (over l to n f) (to + n) x lo
    ∙ over_over l f to n r lf 1 (x ∷ []) ∙ ap (over l to (n + 1)) (sym (numbers_more ws v (field frame_bits w)))

pub take_more : (l : List ℕ) (to n w : ℕ) {m : List ℕ} → n < 6 → to + n < length l → m ≡ over l to n (numbers (replicate n 6) (field frame_bits w))
    → set m (to + n) (bit_and (w / 2 ^ (6 * n)) most_narrow) ≡ over l to (n + 1) (numbers (replicate (n + 1) 6) (field frame_bits w))
take_more l to n w {m} hn room em =
    let t : total (replicate n 6) ≡ 6 * n = total_same n 6 in
    let hv : total (replicate n 6) + 6 ≤ frame_bits = rw t (omega arith) in
    ap (λ (k : ℕ). set m (to + n) (bit_and (w / 2 ^ k) most_narrow)) (sym t) ∙ take_one (replicate n 6) 6 l to n w (length-replicate n 6) hv room em
    ∙ ap (λ (ws : List ℕ). over l to (n + 1) (numbers ws (field frame_bits w))) (replicate-append-replicate n 1 6)

pub take_last : (l : List ℕ) (to w i : ℕ) {m : List ℕ} → i ≡ 6 → to + 6 < length l → m ≡ over l to i (numbers (replicate i 6) (field frame_bits w))
    → set m (to + 6) (bit_and (w / 2 ^ 36) 255) ≡ over l to frame_indices (indices widths (field frame_bits w))
unfolding total
take_last l to w i e room em =
    take_one (replicate 6 6) 8 l to 6 w refl (lit≤ tt) room (em ∙ ap (λ (n : ℕ). over l to n (numbers (replicate n 6) (field frame_bits w))) e)

-- the frame in a word of at least its bits
front_word : (l : List Bool) (w : ℕ) → w ≡ value l → frame_bits ≤ length l → indices widths (field frame_bits w) ≡ indices widths l
front_word l w e h =
    let k = length l - frame_bits in
    let n : frame_bits + k ≡ length l = omega arith in
    let t : field frame_bits w ≡ take frame_bits l = sym (take_field frame_bits k w) ∙ ap (take frame_bits) (ap₂ field n e ∙ field_value l) in
    let z : length (take frame_bits l) ≡ total widths = length-take-le frame_bits l h ∙ sym total_widths in
    ap (indices widths) t ∙ sym (ap (indices widths) (sym (take-append-drop frame_bits l)) ∙ numbers_front widths (take frame_bits l) (drop frame_bits l) z)

pub apart_law : (l : List Bool) (at a b : ℕ) (s : List ℕ) (to : ℕ) {m n : List ℕ} → at + packet_bits ≤ length l → to + pair_indices ≤ length s
    → a ≡ value (part at frame_bits l) → b ≡ value (part (at + frame_bits) second_bits l)
    → m ≡ over s to frame_indices (indices widths (field frame_bits a)) → n ≡ over m (to + frame_indices) frame_indices (indices widths (field frame_bits b)) → n ≡ over s to pair_indices (apart widths (part at packet_bits l))
unfolding apart
apart_law l at a b s to {m} {n} room fit ea eb em en =
    let f = indices widths (field frame_bits a) in
    let g = indices widths (field frame_bits b) in
    let p = part at packet_bits l in
    let x = part at frame_bits l in
    let y = part (at + frame_bits) second_bits l in
    let ra : at + frame_bits ≤ length l = omega arith in
    let rb : at + frame_bits + second_bits ≤ length l = omega arith in
    let lx : length x ≡ frame_bits = length_part l at frame_bits ra in
    let ly : length y ≡ second_bits = length_part l (at + frame_bits) second_bits rb in
    let hx : frame_bits ≤ length x = omega arith in
    let hy : frame_bits ≤ length y = omega arith in
    let ep : p ≡ x ++ y = take-add frame_bits second_bits (drop at l) ∙ ap (λ (q : List Bool). x ++ take second_bits q) (drop-drop frame_bits at l) in
    let ef : f ≡ indices widths p = front_word x a ea hx ∙ sym (ap (indices widths) ep ∙ numbers_front widths x y (lx ∙ sym total_widths)) in
    let eg : g ≡ indices widths (drop (total widths) p) =
    front_word y b eb hy ∙ ap (indices widths) (sym (ap₂ drop total_widths ep ∙ drop_at x y frame_bits lx)) in
    let h7 : to + frame_indices ≤ length s = omega arith in
    behind s to frame_indices frame_indices f g h7 (length_numbers widths (field frame_bits a)) em en ∙ ap₂ (λ (u v : List ℕ). over s to pair_indices (u ++ v)) ef eg
