-- The last step of each function, as a law over lists and numbers: words stored as octets.
-- Assumes nothing.
use mathlib.Core.Path.{◌≡◌, sym, ap, ap₂, ◌∙◌}
use mathlib.Core.Bool.{Bool}
use mathlib.Core.List.{List, ◌++◌, append_assoc}
use Prim.Native.Nat.{ℕ, ◌+◌, ◌*◌, ◌/◌, ◌^◌, ◌≤◌}
use native.Mathlib.Nat.{add-zero}
use native.Mathlib.Omega.{arith}
use lib.Dec.{lit≤}
use lib.ListN.{length, take, drop, length-append}
use lib.Seq.{take_at, length-take-le}
use Rattle.lists.specs.Parts.{over, over_none, over_over, drop_over, length_over, behind}
use Rattle.bits.specs.Bits.{field, numbers, octets}
use Rattle.bits.proofs.Laws.{length_field, field_add, octets_append, length_octets}
use Rattle.packet.specs.Packet.{rest_bits, two_packets, packet_of, stream}
use Rattle.packet.proofs.Laws.{length_stream, stream_add}

-- ---- two packets as 23 octets, in four stores: the third begins in the last octet of the second, whose bits it has again
pub two_packets_lem : (idx : List ℕ) (q : ℕ) → stream idx q 2 ≡ packet_of idx q ++ packet_of idx (q + 1)
unfolding stream
two_packets_lem idx q = ap (λ (n : ℕ). packet_of idx n ++ packet_of idx (q + 1)) (add-zero q)

module _ (a b c d : ℕ) where
  -- the second store: three octets that stay, and one that the third lays over
  rest_octets : octets 4 (field 32 b) ≡ octets 3 (field 24 b) ++ octets 1 (field 8 (b / 2 ^ 24))
  rest_octets = ap (octets 4) (field_add 24 8 b) ∙ octets_append 3 1 (field 24 b) (field 8 (b / 2 ^ 24)) (length_field 24 b)

  two_words : (p q : List Bool) → field 64 a ++ field rest_bits b ≡ p → field 64 c ++ field 32 d ≡ field 4 (b / 2 ^ 24) ++ q
      → octets two_packets (p ++ q) ≡ ((octets 8 (field 64 a) ++ octets 3 (field 24 b)) ++ octets 8 (field 64 c)) ++ octets 4 (field 32 d)
  two_words p q ep eq =
      let e : p ++ q ≡ field 64 a ++ (field 24 b ++ (field 64 c ++ field 32 d)) =
      ap (λ (x : List Bool). x ++ q) (sym ep ∙ ap (λ (x : List Bool). field 64 a ++ x) (field_add 24 4 b)) ∙ regroup (field 64 a) (field 24 b) (field 4 (b / 2 ^ 24)) q
      ∙ ap (λ (x : List Bool). field 64 a ++ (field 24 b ++ x)) (sym eq) in
      ap (octets two_packets) e ∙ octets_append 8 15 (field 64 a) (field 24 b ++ (field 64 c ++ field 32 d)) (length_field 64 a)
      ∙ ap (λ (x : List ℕ). octets 8 (field 64 a) ++ x)
      (octets_append 3 12 (field 24 b) (field 64 c ++ field 32 d) (length_field 24 b) ∙ ap (λ (x : List ℕ). octets 3 (field 24 b) ++ x) (octets_append 8 4 (field 64 c) (field 32 d) (length_field 64 c)))
      ∙ together (octets 8 (field 64 a)) (octets 3 (field 24 b)) (octets 8 (field 64 c)) (octets 4 (field 32 d))
    where
      regroup : (x y z w : List Bool) → (x ++ (y ++ z)) ++ w ≡ x ++ (y ++ (z ++ w))
      regroup x y z w = simp append_assoc

      together : (x y z w : List ℕ) → x ++ (y ++ (z ++ w)) ≡ ((x ++ y) ++ z) ++ w
      together x y z w = simp append_assoc

-- what is laid over a thing at its place, and is as long, takes its place
in_place : (l x g : List ℕ) (at u v : ℕ) → at + u ≤ length l → length x ≡ u → u ≤ v → over (over l at u x) at v g ≡ over l at v g
in_place l x g at u v room size h =
    let r : at ≤ length l = omega arith in
    let k : at + u ≤ at + v = omega arith in
    ap₂ (λ (s t : List ℕ). s ++ (g ++ t)) (take_at (take at l) (x ++ drop (at + u) l) at (length-take-le at l r)) (drop_over l x at u room size (at + v) k)

-- and what is laid behind f, over what stood there
instead : (l : List ℕ) (at w u v : ℕ) (f x g : List ℕ) {m n : List ℕ} → at + (w + u) ≤ length l → length f ≡ w → length x ≡ u → u ≤ v
    → m ≡ over l at (w + u) (f ++ x) → n ≡ over m (at + w) v g → n ≡ over l at (w + v) (f ++ g)
instead l at w u v f x g {m} {n} room lf lx h em en =
    let r : at + w ≤ length l = omega arith in
    let s = over l at w f in
    let k : at + w + u ≤ length s = omega (arith, length_over l f at w r lf) in
    en ∙ ap (λ (y : List ℕ). over y (at + w) v g) (em ∙ sym (over_over l f at w r lf u x)) ∙ in_place s x g (at + w) u v k lx h ∙ over_over l f at w r lf v g

pub put_two_law : (l : List ℕ) (at : ℕ) (idx : List ℕ) (q a b c d : ℕ) {k m n o : List ℕ} → at + two_packets ≤ length l
    → field 64 a ++ field rest_bits b ≡ packet_of idx q → field 64 c ++ field 32 d ≡ field 4 (b / 2 ^ 24) ++ packet_of idx (q + 1)
    → k ≡ over l at 8 (octets 8 (field 64 a)) → m ≡ over k (at + 8) 4 (octets 4 (field 32 b))
    → n ≡ over m (at + 11) 8 (octets 8 (field 64 c)) → o ≡ over n (at + 11 + 8) 4 (octets 4 (field 32 d)) → o ≡ over l at two_packets (octets two_packets (stream idx q 2))
put_two_law l at idx q a b c d {k} {m} {n} {o} room ep eq ek em en eo =
    let f = octets 8 (field 64 a) in
    let g = octets 3 (field 24 b) in
    let x = octets 1 (field 8 (b / 2 ^ 24)) in
    let h = octets 8 (field 64 c) in
    let i = octets 4 (field 32 d) in
    let r₁ : at + 8 ≤ length l = omega arith in
    let r₂ : at + (11 + 1) ≤ length l = omega arith in
    let r₃ : at + 19 ≤ length l = omega arith in
    let lf : length f ≡ 8 = length_octets 8 (field 64 a) in
    let lg : length g ≡ 3 = length_octets 3 (field 24 b) in
    let lh : length h ≡ 8 = length_octets 8 (field 64 c) in
    let lfg : length (f ++ g) ≡ 11 = rw (length-append, lf, lg) in
    let lfgh : length ((f ++ g) ++ h) ≡ 19 = rw (length-append, lfg, lh) in
    let e₂ : m ≡ over l at (11 + 1) ((f ++ g) ++ x) =
    behind l at 8 4 f (octets 4 (field 32 b)) r₁ lf ek em ∙ ap (over l at 12) (ap (λ (y : List ℕ). f ++ y) (rest_octets a b c d) ∙ sym (append_assoc f g x)) in
    let e₃ : n ≡ over l at 19 ((f ++ g) ++ h) = instead l at 11 1 8 (f ++ g) x h r₂ lfg (length_octets 1 (field 8 (b / 2 ^ 24))) (lit≤ tt) e₂ en in
    let z : at + 11 + 8 ≡ at + 19 = omega arith in
    behind l at 19 4 ((f ++ g) ++ h) i r₃ lfgh e₃ (eo ∙ ap (λ (y : ℕ). over n y 4 i) z)
    ∙ ap (over l at two_packets) (sym (two_words a b c d (packet_of idx q) (packet_of idx (q + 1)) ep eq) ∙ ap (octets two_packets) (sym (two_packets_lem idx q)))

-- ---- the stream, two packets at a time
pub stream_none : (idx : List ℕ) (q : ℕ) (l : List ℕ) (at : ℕ) → l ≡ over l at 0 (octets 0 (stream idx q 0))
unfolding numbers
stream_none idx q l at = over_none l at

pub stream_more : (idx : List ℕ) (q g : ℕ) (l : List ℕ) (at : ℕ) {m n : List ℕ} → at + two_packets * g ≤ length l
    → m ≡ over l at (two_packets * g) (octets (two_packets * g) (stream idx q (2 * g))) → n ≡ over m (at + two_packets * g) two_packets (octets two_packets (stream idx (q + 2 * g) 2))
    → n ≡ over l at (two_packets * (g + 1)) (octets (two_packets * (g + 1)) (stream idx q (2 * (g + 1))))
stream_more idx q g l at {m} {n} room em en =
    let x = stream idx q (2 * g) in
    let y = stream idx (q + 2 * g) 2 in
    let lx : length x ≡ 8 * (two_packets * g) = length_stream idx q (2 * g) ∙ omega arith in
    let e : two_packets * g + two_packets ≡ two_packets * (g + 1) = omega arith in
    let s : 2 * g + 2 ≡ 2 * (g + 1) = omega arith in
    behind l at (two_packets * g) two_packets (octets (two_packets * g) x) (octets two_packets y) room (length_octets (two_packets * g) x) em en
    ∙ ap (over l at (two_packets * g + two_packets)) (sym (octets_append (two_packets * g) two_packets x y lx) ∙ ap (octets (two_packets * g + two_packets)) (sym (stream_add idx q (2 * g) 2) ∙ ap (stream idx q) s))
    ∙ ap (λ (k : ℕ). over l at k (octets k (stream idx q (2 * (g + 1))))) e
