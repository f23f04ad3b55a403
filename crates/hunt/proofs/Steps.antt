-- The last step of each function, as a law over lists and numbers.
-- Assumes nothing.
use Rattle.std.specs.Prelude.{Err}
use Prim.Native.Nat.{ℕ, zero, suc, ◌+◌, ◌-◌, ◌*◌, ◌/◌, ◌%◌, ◌^◌, ◌≤◌, ◌<◌, min}
use mathlib.Core.Path.{◌≡◌, refl, sym, ap, ap₂, ◌∙◌, subst}
use mathlib.Core.Bool.{Bool, true, false}
use mathlib.Core.List.{List, [], ◌∷◌}
use native.Mathlib.Nat.{div-div-eq-div-mul, mod-lt, le_trans, min-le_left, min-le_right}
use native.Mathlib.Numerals.{add-one}
use native.Mathlib.Decide.{dec_lt}
use native.Mathlib.Omega.{arith}
use lib.Arith.{lt-one}
use lib.Bits.{bit_xor, xor_shr, xor_mod}
use lib.Count.{ones, ones_step, ones-le}
use lib.Dec.{leb, ltb, eqb, lit<}
use lib.ListN.{length}
use lib.Pow.{pow-add, pow_pos}
use borrow.Author.Tests.{le-leb, lt-leb, lt-ltb, le-ltb, leb-true, ltb-true}
use Rattle.polynomials.specs.Xor.{digit, low}
use Rattle.lists.specs.Tests.{both, true_false}
use Rattle.lists.specs.Parts.{part, length_part}
use Rattle.bits.specs.Bits.{field, value, bits}
use Rattle.bits.proofs.Laws.{length_bits, length_field, field_value, in_word}
use Rattle.header.specs.Reading.{reading}
use Rattle.hunt.specs.Hunt.{sync_bits, multiframe_bits, sync, alike, matches, readable, passes, head_passes, at_once, fewest_off, all_far, searched, places_left, misses, found, hunted_from}
use Rattle.hunt.proofs.Laws.{searched_le, misses_none, misses_hit, misses_on}
use Rattle.hunt.specs.Types.{found_at}
use Rattle.refusals.specs.declared.Hunt.TheVariants.{Nowhere}

-- ---- the bits that match and those that differ are all
alike_digit : (x y : ℕ) → x < 2 → y < 2 → alike (eqb x 1) (eqb y 1) + bit_xor x y ≡ 1
alike_digit x y hx hy =
    digit (λ (x : ℕ). alike (eqb x 1) (eqb y 1) + bit_xor x y ≡ 1)
    (digit (λ (y : ℕ). alike false (eqb y 1) + y ≡ 1) refl refl y hy)
    (digit (λ (y : ℕ). alike true (eqb y 1) + bit_xor 1 y ≡ 1) refl refl y hy)
    x hx

pub matches_xor : (w a b : ℕ) → a < 2 ^ w → b < 2 ^ w → matches (field w a) (field w b) + ones (bit_xor a b) ≡ w
unfolding field matches
matches_xor zero a b ha hb = rw (lt-one ha, lt-one hb) (omega (arith, ones-le 0 0 (lit< tt)))
matches_xor (suc w) a b ha hb =
    let i = matches_xor w (a / 2) (b / 2) (omega arith) (omega arith) in
    let x : ones (bit_xor a b) ≡ bit_xor (a % 2) (b % 2) + ones (bit_xor (a / 2) (b / 2)) =
    ones_step (bit_xor a b) ∙ ap₂ (λ (x y : ℕ). x + ones y) (xor_mod a b 1) (xor_shr a b 1) in
    let d = alike_digit (a % 2) (b % 2) (low a) (low b) in
    omega (arith, x)

-- the low sixteen bits against the sync's number
pub all_bits : (head low sent : ℕ) → low ≡ head % 2 ^ sync_bits → field sync_bits sent ≡ sync → sent < 2 ^ sync_bits
    → matches (field sync_bits (head % 2 ^ sync_bits)) sync + ones (bit_xor low sent) ≡ sync_bits
all_bits head low sent is-low is-sync small =
    subst (λ (l : List Bool). matches (field 16 (head % 2 ^ 16)) l + ones (bit_xor low sent) ≡ 16) is-sync
    (subst (λ (x : ℕ). matches (field 16 (head % 2 ^ 16)) (field 16 sent) + ones (bit_xor x sent) ≡ 16) (sym is-low)
    (matches_xor 16 (head % 2 ^ 16) sent (mod-lt head (pow_pos 16)) small))

-- ---- the test of a place, where so many bits do not match
module _ (least a b off : ℕ) (rest : matches (field sync_bits a) sync + off ≡ sync_bits) where
  pub head_few : sync_bits < least + off → false ≡ head_passes least a b
  unfolding head_passes
  head_few h = rw (lt-leb least (matches (field 16 a) sync) (omega arith))

  pub head_enough : least + off ≤ sync_bits → (r : Bool) (word : ℕ) → r ≡ readable (reading word) → word ≡ b → r ≡ head_passes least a b
  unfolding head_passes
  head_enough h r word er ew = rw (le-leb least (matches (field 16 a) sync) (omega arith)) (er ∙ ap (λ (x : ℕ). readable (reading x)) ew)

-- ---- eight places at once
fewest_next : (n head : ℕ) → fewest_off (n + 1) head ≡ min (fewest_off n head) (sync_bits - matches (field sync_bits (head / 2 ^ n % 2 ^ sync_bits)) sync)
unfolding fewest_off
fewest_next n head = ap (λ (k : ℕ). fewest_off k head) (add-one n)

pub fewest_begun : (head : ℕ) → sync_bits ≡ fewest_off 0 head
unfolding fewest_off
fewest_begun head = refl

module _ (n head f off : ℕ) (so_far : f ≡ fewest_off n head) (rest : matches (field sync_bits (head / 2 ^ n % 2 ^ sync_bits)) sync + off ≡ sync_bits) where
  pub at_next : min f off ≡ fewest_off (n + 1) head
  at_next = let o : off ≡ 16 - matches (field 16 (head / 2 ^ n % 2 ^ 16)) sync = omega arith in ap₂ min so_far o ∙ sym (fewest_next n head)

-- no more match than there are
matches_le : (l m : List Bool) → matches l m ≤ length l
unfolding matches
matches_le [] m = omega arith
matches_le (a ∷ l) [] = omega arith
matches_le (a ∷ l) (b ∷ m) = omega (arith, alike_le a b, matches_le l m)
  where
    alike_le : (a b : Bool) → alike a b ≤ 1
    alike_le true true = omega arith
    alike_le true false = omega arith
    alike_le false true = omega arith
    alike_le false false = omega arith

-- no place has fewer
fewest_le : (n head k : ℕ) → k < n → fewest_off n head ≤ sync_bits - matches (field sync_bits (head / 2 ^ k % 2 ^ sync_bits)) sync
unfolding fewest_off
fewest_le zero head k h = absurd (omega arith)
fewest_le (suc n) head k h =
    elim (dec_lt k n) [
      | yes l ↦ le_trans (min-le_left (fewest_off n head) _) (fewest_le n head k l)
      | no l ↦
          subst (λ (i : ℕ). min (fewest_off n head) (16 - matches (field 16 (head / 2 ^ n % 2 ^ 16)) sync) ≤ 16 - matches (field 16 (head / 2 ^ i % 2 ^ 16)) sync)
          (omega arith) (min-le_right (fewest_off n head) _)
    ]

both_true : (a b : Bool) → both a b ≡ true → (a ≡ true) × (b ≡ true)
both_true true b e = (refl, e)
both_true false b e = absurd (true_false (sym e))

module _ (least left head : ℕ) where
  pub too_few_left : left < at_once → false ≡ all_far least left head
  unfolding all_far
  too_few_left h = rw (lt-leb 8 left h)

  pub enough_left : at_once ≤ left → (off : ℕ) → off ≡ fewest_off at_once head → ltb sync_bits (least + off) ≡ all_far least left head
  unfolding all_far
  enough_left h off e = rw (le-leb 8 left h) (ap (λ (o : ℕ). ltb 16 (least + o)) e)

  module _ (far : all_far least left head ≡ true) where
    parts : (leb at_once left ≡ true) × (ltb sync_bits (least + fewest_off at_once head) ≡ true)
    unfolding all_far
    parts = both_true (leb 8 left) (ltb 16 (least + fewest_off 8 head)) far

    pub far_left : at_once ≤ left
    far_left = leb-true 8 left parts.0

    -- each of the eight has too few
    far_few : (k : ℕ) → k < at_once → matches (field sync_bits (head / 2 ^ k % 2 ^ sync_bits)) sync < least
    far_few k h =
        let a = head / 2 ^ k % 2 ^ 16 in
        let off = ltb-true 16 (least + fewest_off 8 head) parts.1 in
        let few = fewest_le 8 head k h in
        let all : matches (field 16 a) sync ≤ 16 = omega (arith, matches_le (field 16 a) sync, length_field 16 a) in
        omega arith

-- those numbers are the bits' at the place
pub head_passes_lem : (least : ℕ) (l : List Bool) (t : ℕ) → t + 16 ≤ length l
    → head_passes least (value (part t 16 l)) (value (part (t + 16) 32 l)) ≡ passes least l t
unfolding head_passes passes
head_passes_lem least l t h =
    let n = length_part l t 16 h in
    let e : field 16 (value (part t 16 l)) ≡ part t 16 l = subst (λ (k : ℕ). field k (value (part t 16 l)) ≡ part t 16 l) n (field_value (part t 16 l)) in
    ap (λ (m : List Bool). both (leb least (matches m sync)) (readable (reading (value (part (t + 16) 32 l))))) e

-- the word of eight octets, shifted
pub at_place : (s : List ℕ) (least t x : ℕ) (r : Bool) → t + multiframe_bits ≤ length (bits s) → x ≡ value (part (8 * (t / 8)) 64 (bits s))
    → r ≡ head_passes least (x / 2 ^ (t % 8) % 2 ^ 16) (x / 2 ^ (t % 8) / 2 ^ 16 % 2 ^ 32) → r ≡ passes least (bits s) t
at_place s least t x r h e er =
    let k = t % 8 in
    let hk : k < 8 = omega arith in
    let room : t / 8 + 8 ≤ length s = omega (arith, length_bits s) in
    let d : 8 * (t / 8) + k ≡ t = omega arith in
    let d16 : 8 * (t / 8) + (k + 16) ≡ t + 16 = omega arith in
    let a : x / 2 ^ k % 2 ^ 16 ≡ value (part t 16 (bits s)) =
    in_word s (t / 8) k 16 x room (omega arith) e ∙ ap (λ (n : ℕ). value (part n 16 (bits s))) d in
    let q : x / 2 ^ k / 2 ^ 16 ≡ x / 2 ^ (k + 16) = div-div-eq-div-mul x (2 ^ k) (2 ^ 16) ∙ ap (λ (n : ℕ). x / n) (sym (pow-add 2 k 16)) in
    let b : x / 2 ^ k / 2 ^ 16 % 2 ^ 32 ≡ value (part (t + 16) 32 (bits s)) =
    ap (λ (n : ℕ). n % 2 ^ 32) q ∙ in_word s (t / 8) (k + 16) 32 x room (omega arith) e ∙ ap (λ (n : ℕ). value (part n 32 (bits s))) d16 in
    er ∙ ap₂ (head_passes least) a b ∙ head_passes_lem least (bits s) t (omega arith)

-- and a place from which on too few bits match fails, whatever its header is
few_fail : (least : ℕ) (l : List Bool) (t : ℕ) → matches (part t sync_bits l) sync < least → passes least l t ≡ false
unfolding passes
few_fail least l t h = rw (lt-leb least (matches (part t 16 l) sync) h)

-- the sync of a place up to seven bits further, in the same word
pub far_fails : (s : List ℕ) (least left t x : ℕ) → t + multiframe_bits ≤ length (bits s) → x ≡ value (part (8 * (t / 8)) 64 (bits s))
    → all_far least left (x / 2 ^ (t % 8)) ≡ true → (k : ℕ) → k < at_once → passes least (bits s) (t + k) ≡ false
far_fails s least left t x h e far k hk =
    let l = bits s in
    let j = t % 8 + k in
    let room : t / 8 + 8 ≤ length s = omega (arith, length_bits s) in
    let d : 8 * (t / 8) + j ≡ t + k = omega arith in
    let q : x / 2 ^ (t % 8) / 2 ^ k ≡ x / 2 ^ j = div-div-eq-div-mul x (2 ^ (t % 8)) (2 ^ k) ∙ ap (λ (n : ℕ). x / n) (sym (pow-add 2 (t % 8) k)) in
    let a : x / 2 ^ (t % 8) / 2 ^ k % 2 ^ 16 ≡ value (part (t + k) 16 l) =
    ap (λ (n : ℕ). n % 2 ^ 16) q ∙ in_word s (t / 8) j 16 x room (omega arith) e ∙ ap (λ (n : ℕ). value (part n 16 l)) d in
    let n = length_part l (t + k) 16 (omega arith) in
    let f : field 16 (value (part (t + k) 16 l)) ≡ part (t + k) 16 l =
    subst (λ (w : ℕ). field w (value (part (t + k) 16 l)) ≡ part (t + k) 16 l) n (field_value (part (t + k) 16 l)) in
    few_fail least l (t + k) (subst (λ (m : List Bool). matches m sync < least) (ap (field 16) a ∙ f) (far_few least left (x / 2 ^ (t % 8)) far k hk))

-- ---- how many bits are searched
pub searched_is : (s : List ℕ) → 8 * min (length s) (2 ^ 61 - 1) ≡ searched (bits s)
searched_is s =
    let n = length_bits s in
    elim (dec_lt (2 ^ 61 - 1) (length s)) [
      | yes h ↦ rw (lt-ltb (2 ^ 64 - 8) (length (bits s)) (omega (arith, n))) (omega arith)
      | no h ↦ rw (le-ltb (2 ^ 64 - 8) (length (bits s)) (omega (arith, n))) (omega (arith, n))
    ]

-- a place with a whole multiframe's bits left has them
pub bits_left : (l : List Bool) (t : ℕ) → t < places_left l 0 → t + multiframe_bits ≤ length l
bits_left l t h = omega (arith, searched_le l)

pub word_room : (s : List ℕ) (t : ℕ) → t < places_left (bits s) 0 → t / 8 + 8 ≤ length s
word_room s t h = omega (arith, bits_left (bits s) t h, length_bits s)

-- ---- the search
module _ (l : List Bool) (from least : ℕ) where
  abbrev test : ℕ → Bool
  test = passes least l

  -- the places before t failed
  pub record Seeking (t : ℕ) : Type 0 where
    pub past : from ≤ t
    pub within : t ≤ from + places_left l from
    pub missed : misses test (places_left l from) from ≡ (t - from) + misses test (places_left l t) t

  pub seeking_begun : Seeking from
  seeking_begun = let z : from - from ≡ 0 = omega arith in record { past = omega arith; within = omega arith; missed = omega arith }

  module _ (t : ℕ) (s : Seeking t) where
    pub seeking_on : 0 < places_left l t → test t ≡ false → Seeking (t + 1)
    seeking_on h e =
        let p = s.past in
        let n : places_left l t - 1 ≡ places_left l (t + 1) = omega arith in
        let m = misses_on test (places_left l t) t h e in
        let c : misses test (places_left l t - 1) (t + 1) ≡ misses test (places_left l (t + 1)) (t + 1) = ap (λ (k : ℕ). misses test k (t + 1)) n in
        record { past = omega arith; within = omega arith; missed = s.missed ∙ omega arith }

    pub seeking_found : 0 < places_left l t → test t ≡ true → found_at t (t - from + 1) ≡ hunted_from l from least
    unfolding found
    seeking_found h e =
        let p = s.past in
        let z : misses test (places_left l from) from ≡ t - from = s.missed ∙ ap (λ (k : ℕ). t - from + k) (misses_hit test (places_left l t) t h e) ∙ omega arith in
        let y : t ≡ from + (t - from) = omega arith in
        rw (z, lt-ltb (t - from) (places_left l from) (omega arith)) (ap (λ (k : ℕ). found_at k (t - from + 1)) y)

    pub seeking_done : places_left l t ≡ 0 → Err (Nowhere from (t - from)) ≡ hunted_from l from least
    unfolding found
    seeking_done h =
        let p = s.past in
        let z : misses test (places_left l from) from ≡ t - from =
        s.missed ∙ ap (λ (k : ℕ). t - from + misses test k t) h ∙ ap (λ (k : ℕ). t - from + k) (misses_none test t) ∙ omega arith in
        let y : t - from ≡ places_left l from = omega (arith, s.within) in
        rw (z, le-ltb (t - from) (places_left l from) (omega arith)) (ap (λ (k : ℕ). Err (Nowhere from k)) y)

  -- n places more
  pub seeking_past : (n t : ℕ) → Seeking t → n ≤ places_left l t → ((k : ℕ) → k < n → test (t + k) ≡ false) → Seeking (t + n)
  seeking_past zero t s h e = subst Seeking (omega arith) s
  seeking_past (suc n) t s h e =
      let next = seeking_on t s (omega arith) (ap test (omega arith) ∙ e 0 (omega arith)) in
      subst Seeking (omega arith) (seeking_past n (t + 1) next (omega arith) (λ k hk. ap test (omega arith) ∙ e (k + 1) (omega arith)))
