-- The damage that the CRC sees, as corollaries of what it cannot see: laws over any length, in the forms that the theorems above cite.
-- Assumes nothing.
use Rattle.std.specs.Prelude.{◌≡◌, refl, Bool, true, false, not, List, ◌++◌, ◌↔◌, ℕ, ◌+◌, ◌-◌, ◌%◌, ◌≤◌, ◌<◌, length, get_or, replicate}
use Rattle.std.proofs.Common.{sym, ap, ◌∙◌, subst, inl, inr, arith, length-set, ext_get_or, get_or-set_same, get_or-set_other}
use Rattle.std.proofs.Math.Decide.{ℕ_discrete, dec_lt}
use Rattle.std.proofs.Math.ListN.{get_or-eq_default}
use Rattle.lists.specs.Tests.{true_false}
use Rattle.crc.specs.Crc.{Rem, none, sent, Right, right, flip, mixed, Burst, Double, Damaged}
use Rattle.crc.proofs.Laws.{right_false}
use Rattle.crc.specs.Multiples.{Multiple, placed}
use Rattle.crc.proofs.MultiplesLaws.{stays_right, pattern_burst, burst_no_multiple, two_flips_multiple}

-- a flip keeps the length
pub length_flip : (l : List Bool) (i : ℕ) → length (flip l i) ≡ length l
length_flip l i = length-set l i (not (get_or l i false))

-- bits that differ are each other's opposite
differ_not : (a b : Bool) → (a ≡ b → ⊥) → b ≡ not a
differ_not true true f = absurd (f refl)
differ_not true false f = refl
differ_not false true f = refl
differ_not false false f = absurd (f refl)

-- p and q that differ at two places are one another with both flipped
two_places : (p q : List Bool) (d : Double p q) → d.two < length p → q ≡ flip (flip p d.one) d.two
two_places p q d hj =
    let g = flip p d.one in
    ext_get_or false q (flip g d.two) (d.size ∙ sym (length_flip g d.two ∙ lf)) (λ t h. at t (ℕ_discrete t d.two) (ℕ_discrete t d.one))
  where
    lf : length (flip p d.one) ≡ length p
    lf = length_flip p d.one

    ji : d.two ≡ d.one → ⊥
    ji e = omega (arith, d.order)

    at : (t : ℕ) → Dec (t ≡ d.two) → Dec (t ≡ d.one) → get_or q t false ≡ get_or (flip (flip p d.one) d.two) t false
    at t (yes e) o =
        let g = flip p d.one in
        let hg : d.two < length g = rw lf hj in
        ap (λ (k : ℕ). get_or q k false) e ∙ differ_not (get_or p d.two false) (get_or q d.two false) d.at_two
        ∙ ap not (sym (get_or-set_other p d.one d.two (not (get_or p d.one false)) false ji))
        ∙ sym (get_or-set_same g d.two (not (get_or g d.two false)) false hg) ∙ ap (λ (k : ℕ). get_or (flip g d.two) k false) (sym e)
    at t (no n) (yes e) =
        let g = flip p d.one in
        let hi : d.one < length p = omega (arith, d.order) in
        ap (λ (k : ℕ). get_or q k false) e ∙ differ_not (get_or p d.one false) (get_or q d.one false) d.at_one
        ∙ sym (get_or-set_same p d.one (not (get_or p d.one false)) false hi) ∙ ap (λ (k : ℕ). get_or g k false) (sym e)
        ∙ sym (get_or-set_other g d.two t (not (get_or g d.two false)) false n)
    at t (no n) (no o) =
        let g = flip p d.one in
        sym (d.else t o n) ∙ sym (get_or-set_other p d.one t (not (get_or p d.one false)) false o)
        ∙ sym (get_or-set_other g d.two t (not (get_or g d.two false)) false n)

-- two flips whose distance is no multiple of 15 are no multiple of 1 + X + X^4
double_no_multiple : (p q : List Bool) → Double p q → Multiple (mixed p q) → ⊥
double_no_multiple p q b m =
    let hj : b.two < length p = inside (dec_lt b.two (length p)) in
    b.distance ((two_flips_multiple p b.one b.two b.order hj).0 (subst (λ (x : List Bool). Multiple (mixed p x)) (two_places p q b hj) m))
  where
    inside : Dec (b.two < length p) → b.two < length p
    inside (yes k) = k
    inside (no k) =
        let hp : length p ≤ b.two = omega arith in
        let hq : length q ≤ b.two = omega (arith, b.size) in
        absurd (b.at_two (get_or-eq_default p false hp ∙ sym (get_or-eq_default q false hq)))

-- NO DAMAGE OF DEMAND 3 is a multiple of 1 + X + X^4
pub damage_no_multiple : (p q : List Bool) → Damaged p q → Multiple (mixed p q) → ⊥
damage_no_multiple p q (inl b) = burst_no_multiple p q b
damage_no_multiple p q (inr b) = double_no_multiple p q b

damage_size : (p q : List Bool) → Damaged p q → length q ≡ length p
damage_size p q (inl b) = b.size
damage_size p q (inr b) = b.size

-- so it is seen
pub damage_seen : (n : ℕ) (p q : List Bool) → length p ≡ n + 4 → Right n p → Damaged p q → Right n q → ⊥
damage_seen n p q h ok d bad = damage_no_multiple p q d ((stays_right n p q h (damage_size p q d ∙ h) ok).0 bad)

-- the test names it
pub damage_named : (n : ℕ) (p q : List Bool) → length p ≡ n + 4 → Right n p → Damaged p q → right n q ≡ false
damage_named n p q h ok d = right_false n q (damage_seen n p q h ok d)

-- and an undamaged packet is never taken for a damaged one
pub damage_apart : (n : ℕ) (o p q : List Bool) → length p ≡ n + 4 → Right n o → Right n p → Damaged p q → o ≡ q → ⊥
damage_apart n o p q h oo op d e = damage_seen n p q h op d (subst (Right n) e oo)

-- FLIPS INSIDE FOUR NEIGHBOURING BITS, at least one, anywhere in data or CRC, are seen
pub burst_seen : (n : ℕ) (p q : List Bool) → length p ≡ n + 4 → Right n p → Burst p q → Right n q → ⊥
burst_seen n p q h ok b = damage_seen n p q h ok (inl b)

-- whatever their shape
pub burst : (n a c : ℕ) (p : List Bool) (r : Rem) → length p ≡ n + 4 → a + (4 + c) ≡ length p → (r ≡ none → ⊥) → Right n p
    → Right n (mixed p (replicate a false ++ (sent r ++ replicate c false))) → ⊥
burst n a c p r h l nz ok = burst_seen n p (mixed p (placed a r c)) h ok (pattern_burst p a c r l nz)

-- TWO FLIPS whose distance is no multiple of 15 are seen
pub double_seen : (n : ℕ) (p q : List Bool) → length p ≡ n + 4 → Right n p → Double p q → Right n q → ⊥
double_seen n p q h ok b = damage_seen n p q h ok (inr b)

-- TWO FLIPS in a right packet leave it right exactly if their distance is a multiple of 15
pub two_flips : (n : ℕ) (p : List Bool) (i j : ℕ) → length p ≡ n + 4 → i < j → j < length p → Right n p
    → Right n (flip (flip p i) j) ↔ ((j - i) % 15 ≡ 0)
two_flips n p i j h hi hj ok =
    let s = stays_right n p (flip (flip p i) j) h (length_flip (flip p i) j ∙ length_flip p i ∙ h) ok in
    let m = two_flips_multiple p i j hi hj in
    ((λ g. m.0 (s.0 g)), (λ z. s.1 (m.1 z)))

-- ---- what `Burst` and `Double` cover: one flip, and two
no_fix : (b : Bool) → b ≡ not b → ⊥
no_fix true e = true_false e
no_fix false e = true_false (sym e)

flipped : (l : List Bool) (i : ℕ) → i < length l → get_or (flip l i) i false ≡ not (get_or l i false)
flipped l i h = get_or-set_same l i (not (get_or l i false)) false h

elsewhere : (l : List Bool) (i t : ℕ) → (t ≡ i → ⊥) → get_or (flip l i) t false ≡ get_or l t false
elsewhere l i t d = get_or-set_other l i t (not (get_or l i false)) false d

-- one flip is a burst
pub flip_burst : (p : List Bool) (i : ℕ) → i < length p → Burst p (flip p i)
flip_burst p i h = record {
  size = length_flip p i;
  start = i;
  place = i;
  differs = λ e. no_fix (get_or p i false) (e ∙ flipped p i h);
  before = λ t k. sym (elsewhere p i t (λ e. omega arith));
  behind = λ t k. sym (elsewhere p i t (λ e. omega arith));
}

-- and so are two, no more than three places apart
pub flips_burst : (p : List Bool) (i j : ℕ) → i < j → j < i + 4 → j < length p → Burst p (flip (flip p i) j)
flips_burst p i j o k h = record {
  size = length_flip (flip p i) j ∙ length_flip p i;
  start = i;
  place = i;
  differs = λ e. no_fix (get_or p i false) (e ∙ elsewhere (flip p i) j i (λ z. omega arith) ∙ flipped p i (omega arith));
  before = λ t l. sym (elsewhere (flip p i) j t (λ z. omega arith) ∙ elsewhere p i t (λ z. omega arith));
  behind = λ t l. sym (elsewhere (flip p i) j t (λ z. omega arith) ∙ elsewhere p i t (λ z. omega arith));
}

-- two flips anywhere, at a distance that is no multiple of 15
pub flips_double : (p : List Bool) (i j : ℕ) → i < j → j < length p → ((j - i) % 15 ≡ 0 → ⊥) → Double p (flip (flip p i) j)
flips_double p i j o h d = record {
  size = length_flip (flip p i) j ∙ length_flip p i;
  one = i;
  two = j;
  order = o;
  distance = d;
  at_one = λ e. no_fix (get_or p i false) (e ∙ elsewhere (flip p i) j i (λ z. omega arith) ∙ flipped p i (omega arith));
  at_two = λ e.
      let l : j < length (flip p i) = rw length_flip h in
      no_fix (get_or p j false) (e ∙ flipped (flip p i) j l ∙ ap not (elsewhere p i j (λ z. omega arith)));
  else = λ t a b. sym (elsewhere (flip p i) j t b ∙ elsewhere p i t a);
}
