-- What the CRC cannot see: a right packet stays right exactly if the difference is a multiple of 1 + X + X^4. Then which differences are
-- multiples: none inside four neighbouring places, whatever its shape, some inside five, and two flips exactly at a distance that is a multiple of 15.
-- Assumes nothing.
use Rattle.std.specs.Prelude.{◌≡◌, refl, Bool, true, false, not, List, [], ◌∷◌, ◌++◌, ◌↔◌, ℕ, zero, suc, ◌+◌, ◌-◌, ◌%◌, ◌≤◌, ◌<◌, length, take, drop, get_or, replicate}
use Rattle.std.proofs.Common.{sym, ap, ap₂, ◌∙◌, arith, lit<, length-append, length-drop, length-set, take-append-drop, ext_get_or, get_or-append-add, get_or-drop, get_or-take, length-take-le, drop-drop}
use Rattle.std.proofs.Math.Bool.{xor}
use Rattle.std.proofs.Math.Decide.{dec_le}
use Rattle.std.proofs.lemmas.List.{length-replicate, get_or-replicate, replicate-append-replicate}
use Rattle.std.proofs.Math.ListN.{get_or-eq_default, get_or-append}
use Rattle.lists.specs.Tests.{true_false}
use Rattle.lists.specs.Parts.{part, length_part}
use Rattle.crc.specs.Crc.{Rem, rem, none, after, sent, Right, flip, mixed, times, Burst}
use Rattle.crc.specs.Laws.{◌⊕◌, power}
use Rattle.crc.proofs.Laws.{after_append, after_none, after_sent, after_zeros, flip_after, power_mod, power_same, add_self, add_assoc, add_cancel, none_add, right_iff, four, length_mixed, length_sent, xor_self, xor_false, false_xor, xor_assoc}
use Rattle.crc.proofs.Remainder.{length_times, times_none, after_sum, remainder}
use Rattle.crc.specs.Multiples.{Multiple, placed, Shape, five_bits}

nothing_added : (l : List Bool) (k : ℕ) → mixed l (replicate k false) ≡ l
unfolding mixed
nothing_added [] k = refl
nothing_added (a ∷ l) zero = refl
nothing_added (a ∷ l) (suc k) = ap₂ (λ (x : Bool) (y : List Bool). x ∷ y) (xor_false a) (nothing_added l k)

-- the multiples are the polynomials of which nothing remains
pub multiple_iff : (l : List Bool) → 4 ≤ length l → Multiple l ↔ (after none l ≡ none)
multiple_iff l h = ((λ m. ap (after none) m.product ∙ times_none m.quotient), divided)
  where
    r : Rem
    r = (four (take 4 l) (length-take-le 4 l h)).0

    whole : l ≡ sent r ++ drop 4 l
    whole = sym (take-append-drop 4 l) ∙ ap (λ (x : List Bool). x ++ drop 4 l) (four (take 4 l) (length-take-le 4 l h)).1

    left : after none l ≡ after r (drop 4 l)
    left = ap (after none) whole ∙ after_append none (sent r) (drop 4 l) ∙ ap (λ (s : Rem). after s (drop 4 l)) (after_sent r)

    divided : after none l ≡ none → Multiple l
    divided z =
        let d = remainder r (drop 4 l) in
        let q = d.0 in
        let k = length (drop 4 l) in
        record {
          quotient = q;
          product =
              whole ∙ d.1.1 ∙ ap (λ (s : Rem). mixed (times q) (replicate k false ++ sent s)) (sym left ∙ z)
              ∙ ap (mixed (times q)) (replicate-append-replicate k 4 false) ∙ nothing_added (times q) (k + 4);
        }

-- A RIGHT CRC STAYS RIGHT exactly if the difference is a multiple
pub stays_right : (n : ℕ) (p q : List Bool) → length p ≡ n + 4 → length q ≡ n + 4 → Right n p → Right n q ↔ Multiple (mixed p q)
stays_right n p q hp hq ok =
    let room : 4 ≤ length (mixed p q) = rw length_mixed (omega arith) in
    let m = multiple_iff (mixed p q) room in
    let e : after none (mixed p q) ≡ after none q =
    after_sum p q (hp ∙ sym hq) ∙ ap (λ (r : Rem). r ⊕ after none q) ((right_iff n p hp).0 ok) ∙ none_add (after none q) in
    ((λ g. m.1 (e ∙ (right_iff n q hq).0 g)), (λ g. (right_iff n q hq).1 (sym e ∙ m.0 g)))

-- ---- adding bit by bit
get_or_mixed : (l m : List Bool) (i : ℕ) → length l ≡ length m → get_or (mixed l m) i false ≡ xor (get_or l i false) (get_or m i false)
unfolding mixed xor
get_or_mixed [] [] i h = refl
get_or_mixed [] (b ∷ m) i h = absurd (omega arith)
get_or_mixed (a ∷ l) [] i h = absurd (omega arith)
get_or_mixed (a ∷ l) (b ∷ m) zero h = refl
get_or_mixed (a ∷ l) (b ∷ m) (suc i) h = get_or_mixed l m i (omega arith)

-- adding the difference to the one gives the other
pub mixed_back : (l m : List Bool) → length l ≡ length m → mixed l (mixed l m) ≡ m
unfolding mixed
mixed_back [] [] h = refl
mixed_back [] (b ∷ m) h = absurd (omega arith)
mixed_back (a ∷ l) [] h = absurd (omega arith)
mixed_back (a ∷ l) (b ∷ m) h =
    ap₂ (λ (x : Bool) (y : List Bool). x ∷ y) (sym (xor_assoc a a b) ∙ ap (λ (x : Bool). xor x b) (xor_self a) ∙ false_xor b) (mixed_back l m (omega arith))

-- equal bits add to nothing
same_zero : (a b : Bool) → a ≡ b → xor a b ≡ false
same_zero a b e = ap (λ (x : Bool). xor x b) e ∙ xor_self b

zero_same : (a b : Bool) → xor a b ≡ false → a ≡ b
unfolding xor
zero_same true true e = refl
zero_same true false e = e
zero_same false true e = sym e
zero_same false false e = refl

-- a true bit added changes
one_changes : (a b : Bool) → b ≡ true → a ≡ xor a b → ⊥
unfolding xor
one_changes true true e f = true_false f
one_changes false true e f = true_false (sym f)
one_changes a false e f = true_false (sym e)

length_placed : (a c : ℕ) (r : Rem) → length (placed a r c) ≡ a + (4 + c)
length_placed a c r = simp (length-append, length_sent, length-replicate)

placed_at : (a k : ℕ) (l : List Bool) → get_or (replicate a false ++ l) (a + k) false ≡ get_or l k false
placed_at a k l =
    ap (λ (n : ℕ). get_or (replicate a false ++ l) (n + k) false) (sym (length-replicate a false)) ∙ get_or-append-add (replicate a false) l k false

nothing_at : (n i : ℕ) → get_or (replicate n false) i false ≡ false
nothing_at zero i = refl
nothing_at (suc n) zero = refl
nothing_at (suc n) (suc i) = nothing_at n i

nothing_before : (a i : ℕ) (l : List Bool) → i < a → get_or (replicate a false ++ l) i false ≡ false
nothing_before zero i l h = absurd (omega arith)
nothing_before (suc a) zero l h = refl
nothing_before (suc a) (suc i) l h = nothing_before a i l (omega arith)

nothing_behind : (a c i : ℕ) (r : Rem) → a + 4 ≤ i → get_or (placed a r c) i false ≡ false
nothing_behind a c i r h =
    let k = i - (a + 4) in
    let e : i ≡ a + (4 + k) = omega arith in
    ap (λ (n : ℕ). get_or (placed a r c) n false) e ∙ placed_at a (4 + k) (sent r ++ replicate c false)
    ∙ ap (λ (n : ℕ). get_or (sent r ++ replicate c false) (n + k) false) (sym (length_sent r)) ∙ get_or-append-add (sent r) (replicate c false) k false ∙ nothing_at c k

nothing_placed : (a c i : ℕ) → get_or (placed a none c) i false ≡ false
nothing_placed a c i =
    ap (λ (l : List Bool). get_or l i false) (ap (λ (l : List Bool). replicate a false ++ l) (replicate-append-replicate 4 c false) ∙ replicate-append-replicate a (4 + c) false)
    ∙ nothing_at (a + (4 + c)) i

-- four bits that are not all false have a true one
some_place : (r : Rem) → (r ≡ none → ⊥) → (k : ℕ) × ((k < 4) × (get_or (sent r) k false ≡ true))
some_place (rem true b c d) f = (0, (lit< tt, refl))
some_place (rem false true c d) f = (1, (lit< tt, refl))
some_place (rem false false true d) f = (2, (lit< tt, refl))
some_place (rem false false false true) f = (3, (lit< tt, refl))
some_place (rem false false false false) f = absurd (f refl)

-- EVERY NONZERO PATTERN in four neighbouring places is a burst
pub pattern_burst : (p : List Bool) (a c : ℕ) (r : Rem) → a + (4 + c) ≡ length p → (r ≡ none → ⊥) → Burst p (mixed p (placed a r c))
pattern_burst p a c r h nz = record {
  size = length_mixed p (placed a r c);
  start = a;
  place = a + k;
  differs = λ e. one_changes (get_or p (a + k) false) (get_or (placed a r c) (a + k) false) there (e ∙ get_or_mixed p (placed a r c) (a + k) same);
  before = λ i l. same_at i (nothing_before a i (sent r ++ replicate c false) l);
  behind = λ i l. same_at i (nothing_behind a c i r (omega arith));
}
  where
    same : length p ≡ length (placed a r c)
    same = sym (length_placed a c r ∙ h)

    k : ℕ
    k = (some_place r nz).0

    there : get_or (placed a r c) (a + k) false ≡ true
    there =
        let l : k < length (sent r) = rw length_sent (some_place r nz).1.0 in
        placed_at a k (sent r ++ replicate c false) ∙ get_or-append (sent r) (replicate c false) false k l ∙ (some_place r nz).1.1

    same_at : (i : ℕ) → get_or (placed a r c) i false ≡ false → get_or p i false ≡ get_or (mixed p (placed a r c)) i false
    same_at i e = sym (get_or_mixed p (placed a r c) i same ∙ ap (xor (get_or p i false)) e ∙ xor_false (get_or p i false))

-- bits that are all false
all_false : (l : List Bool) → ((i : ℕ) → i < length l → get_or l i false ≡ false) → l ≡ replicate (length l) false
all_false l f =
    ext_get_or false l (replicate (length l) false) (sym (length-replicate (length l) false)) (λ i h. f i h ∙ sym (get_or-replicate (length l) i false false h))

-- bits that are false outside four places
only_four : (d : List Bool) (a c : ℕ) → length d ≡ a + (4 + c) → ((i : ℕ) → i < a → get_or d i false ≡ false) → ((i : ℕ) → a + 4 ≤ i → get_or d i false ≡ false)
    → d ≡ replicate a false ++ (part a 4 d ++ replicate c false)
only_four d a c h f g =
    let ha : a ≤ length d = omega arith in
    let lt : length (take a d) ≡ a = length-take-le a d ha in
    let ld : length (drop (a + 4) d) ≡ c = rw length-drop (omega arith) in
    let et : take a d ≡ replicate a false =
    all_false (take a d) (λ i k. let j : i < a = omega arith in get_or-take a d i false j ∙ f i j) ∙ ap (λ (n : ℕ). replicate n false) lt in
    let ed : drop (a + 4) d ≡ replicate c false =
    all_false (drop (a + 4) d) (λ i k. get_or-drop (a + 4) d i false ∙ g (a + 4 + i) (omega arith)) ∙ ap (λ (n : ℕ). replicate n false) ld in
    sym (take-append-drop a d) ∙ ap₂ (λ (x y : List Bool). x ++ y) et
    (sym (take-append-drop 4 (drop a d)) ∙ ap (λ (x : List Bool). part a 4 d ++ x) (drop-drop 4 a d ∙ ed))

-- EVERY BURST is a nonzero pattern in four neighbouring places
pub burst_pattern : (p q : List Bool) → 4 ≤ length p → Burst p q → Shape p q
burst_pattern p q room b = go (dec_le (b.start + 4) (length p))
  where
    lq : length p ≡ length q
    lq = sym b.size

    zero_at : (i : ℕ) → get_or p i false ≡ get_or q i false → get_or (mixed p q) i false ≡ false
    zero_at i e = get_or_mixed p q i lq ∙ same_zero (get_or p i false) (get_or q i false) e

    -- four places at start a hold all the difference
    shape : (a c : ℕ) → a + (4 + c) ≡ length p → ((i : ℕ) → i < a → get_or p i false ≡ get_or q i false)
        → ((i : ℕ) → a + 4 ≤ i → get_or p i false ≡ get_or q i false) → Shape p q
    shape a c l f g =
        let m = mixed p q in
        let lm : length m ≡ a + (4 + c) = length_mixed p q ∙ sym l in
        let inside : a + 4 ≤ length m = omega arith in
        let x = four (part a 4 m) (length_part m a 4 inside) in
        let r = x.0 in
        let em : m ≡ placed a r c =
        only_four m a c lm (λ i k. zero_at i (f i k)) (λ i k. zero_at i (g i k)) ∙ ap (λ (y : List Bool). replicate a false ++ (y ++ replicate c false)) x.1 in
        record {
          before = a;
          behind = c;
          bits = r;
          fits = l;
          some = λ z.
              b.differs
              (zero_same (get_or p b.place false) (get_or q b.place false)
              (sym (get_or_mixed p q b.place lq) ∙ ap (λ (y : List Bool). get_or y b.place false) (em ∙ ap (λ (s : Rem). placed a s c) z) ∙ nothing_placed a c b.place));
          added = sym (ap (mixed p) (sym em) ∙ mixed_back p q lq);
        }

    go : Dec (b.start + 4 ≤ length p) → Shape p q
    go (yes k) = shape b.start (length p - (b.start + 4)) (omega arith) b.before (λ i j. b.behind i (omega arith))
    go (no k) =
        shape (length p - 4) 0 (omega arith) (λ i j. b.before i (omega arith))
        (λ i j. let hp : length p ≤ i = omega arith in let hq : length q ≤ i = omega arith in get_or-eq_default p false hp ∙ sym (get_or-eq_default q false hq))

-- ---- which differences are multiples
placed_after : (a c : ℕ) (r : Rem) → after none (placed a r c) ≡ after r (replicate c false)
placed_after a c r =
    after_append none (replicate a false) (sent r ++ replicate c false)
    ∙ ap (λ (s : Rem). after s (sent r ++ replicate c false)) (after_none a)
    ∙ after_append none (sent r) (replicate c false) ∙ ap (λ (s : Rem). after s (replicate c false)) (after_sent r)

-- a multiple has four bits or more
multiple_long : (l : List Bool) → Multiple l → 4 ≤ length l
multiple_long l m = let e : length l ≡ 4 + length m.quotient = ap length m.product ∙ length_times m.quotient in omega arith

-- A BURST is none
pub burst_no_multiple : (p q : List Bool) → Burst p q → Multiple (mixed p q) → ⊥
burst_no_multiple p q b m =
    let long : 4 ≤ length (mixed p q) = multiple_long (mixed p q) m in
    let room : 4 ≤ length p = rw length_mixed at long in
    let s = burst_pattern p q room b in
    let d = placed s.before s.bits s.behind in
    let e : mixed p q ≡ d = ap (mixed p) s.added ∙ mixed_back p d (sym (length_placed s.before s.behind s.bits ∙ s.fits)) in
    s.some (after_zeros s.behind s.bits (sym (placed_after s.before s.behind s.bits) ∙ ap (after none) (sym e) ∙ (multiple_iff (mixed p q) long).0 m))

-- what remains of the difference that two flips make
two_after : (p : List Bool) (i j : ℕ) → i < j → j < length p
    → after none (mixed p (flip (flip p i) j)) ≡ power (length p - suc i) ⊕ power (length p - suc j)
two_after p i j hi hj =
    let q = flip p i in
    let a = power (length p - suc i) in
    let b = power (length p - suc j) in
    let x = after none p in
    let lq : length q ≡ length p = length-set p i (not (get_or p i false)) in
    let lr : length (flip q j) ≡ length p = length-set q j (not (get_or q j false)) ∙ lq in
    let hip : i < length p = omega arith in
    let hjq : j < length q = rw lq hj in
    let e : after none (flip q j) ≡ x ⊕ a ⊕ b = flip_after none q j hjq ∙ ap₂ ◌⊕◌ (flip_after none p i hip) (ap (λ (m : ℕ). power (m - suc j)) lq) in
    after_sum p (flip q j) (sym lr) ∙ ap (◌⊕◌ x) (e ∙ add_assoc x a b) ∙ sym (add_assoc x x (a ⊕ b)) ∙ ap (λ (r : Rem). r ⊕ (a ⊕ b)) (add_self x) ∙ none_add (a ⊕ b)

-- TWO FLIPS are one exactly if their distance is a multiple of 15
pub two_flips_multiple : (p : List Bool) (i j : ℕ) → i < j → j < length p → Multiple (mixed p (flip (flip p i) j)) ↔ ((j - i) % 15 ≡ 0)
two_flips_multiple p i j hi hj =
    let d = mixed p (flip (flip p i) j) in
    let a = length p - suc i in
    let b = length p - suc j in
    let e : after none d ≡ power a ⊕ power b = two_after p i j hi hj in
    let ea : a ≡ b + (j - i) = omega arith in (
      (λ m. let s : a % 15 ≡ b % 15 = power_same a b (add_cancel (power a) (power b) (sym e ∙ (multiple_iff d (multiple_long d m)).0 m)) in omega arith),
      (λ z. let s : a % 15 ≡ b % 15 = omega arith in
          let room : 4 ≤ length d = rw length_mixed (omega arith) in
          (multiple_iff d room).1 (e ∙ ap (λ (r : Rem). r ⊕ power b) (power_mod a ∙ ap power s ∙ sym (power_mod b)) ∙ add_self (power b))),
    )

-- ---- multiples written out
-- 1 + X^15: bits 0 and 15 of sixteen
pub fifteen_multiple : Multiple (true ∷ (replicate 14 false ++ (true ∷ [])))
unfolding times mixed xor
fifteen_multiple = record {
  quotient = true ∷ false ∷ false ∷ true ∷ true ∷ false ∷ true ∷ false ∷ true ∷ true ∷ true ∷ true ∷ [];
  product = refl;
}

five_after : (a c : ℕ) → after none (five_bits a c) ≡ none
unfolding after xor
five_after zero c = after_none c
five_after (suc a) c = five_after a c

-- FIVE NEIGHBOURING PLACES ARE TOO MANY: 1 + X + X^4, added anywhere, changes a right packet and leaves it right
pub five_not_enough : (n a c : ℕ) (p : List Bool) → length p ≡ n + 4 → a + (5 + c) ≡ length p → Right n p
    → Right n (mixed p (five_bits a c)) × (get_or p a false ≡ get_or (mixed p (five_bits a c)) a false → ⊥)
five_not_enough n a c p h l ok =
    let d = five_bits a c in
    let ld : length p ≡ length d = sym (simp (length-append, length-replicate) (omega arith)) in
    let room : 4 ≤ length (mixed p (mixed p d)) = rw length_mixed (omega arith) in
    let z : a + 0 ≡ a = omega arith in
    let one : get_or d a false ≡ true = ap (λ (k : ℕ). get_or d k false) (sym z) ∙ placed_at a 0 (true ∷ false ∷ false ∷ true ∷ true ∷ replicate c false) in (
      (stays_right n p (mixed p d) h (length_mixed p d ∙ h) ok).1 ((multiple_iff (mixed p (mixed p d)) room).1 (ap (after none) (mixed_back p d ld) ∙ five_after a c)),
      (λ e. one_changes (get_or p a false) (get_or d a false) one (e ∙ get_or_mixed p d a ld)),
    )
