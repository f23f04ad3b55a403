-- Laws of the CRC, over any length: it is the remainder, it is linear, what one flip adds, and what the register holds.
-- Assumes nothing.
use Rattle.std.specs.Prelude.{◌≡◌, refl, Bool, true, false, not, ◌||◌, List, [], ◌∷◌, ◌++◌, ◌↔◌, ℕ, zero, suc, ◌+◌, ◌-◌, ◌*◌, ◌/◌, ◌%◌, ◌<◌, eqb, T, length, take, drop, replicate}
use Rattle.std.proofs.Common.{sym, ap, ap₂, ◌∙◌, subst, append_assoc, append-nil, zero-add, suc-add, add-suc, div-add-mod', mod-lt, arith, lit<, eqb→eq, length-drop, take-append-drop, length-append}
use Rattle.std.proofs.Math.Bool.{xor}
use Rattle.std.proofs.Math.Dec.{eqb_refl}
use Rattle.lists.specs.Tests.{all, all_holds, true_false}
use Rattle.bits.specs.Bits.{value}
use Rattle.crc.specs.Crc.{Rem, rem, none, next, after, sent, crc, code, fed, fed_all, Right, right, alike, flip, mixed}
use Rattle.crc.specs.Laws.{◌⊕◌, power}

pub xor_false : (a : Bool) → xor a false ≡ a
unfolding xor
xor_false true = refl
xor_false false = refl

pub false_xor : (a : Bool) → xor false a ≡ a
unfolding xor
false_xor true = refl
false_xor false = refl

pub xor_self : (a : Bool) → xor a a ≡ false
unfolding xor
xor_self true = refl
xor_self false = refl

pub xor_comm : (a b : Bool) → xor a b ≡ xor b a
unfolding xor
xor_comm true true = refl
xor_comm true false = refl
xor_comm false true = refl
xor_comm false false = refl

pub xor_assoc : (a b c : Bool) → xor (xor a b) c ≡ xor a (xor b c)
unfolding xor
xor_assoc true true true = refl
xor_assoc true true false = refl
xor_assoc true false true = refl
xor_assoc true false false = refl
xor_assoc false true true = refl
xor_assoc false true false = refl
xor_assoc false false true = refl
xor_assoc false false false = refl

xor_swap : (a b c d : Bool) → xor (xor a b) (xor c d) ≡ xor (xor a c) (xor b d)
xor_swap a b c d = rw (xor_assoc a b (xor c d), ← xor_assoc b c d, xor_comm b c, xor_assoc c b d, ← xor_assoc a c (xor b d))

next_add : (r s : Rem) (x y : Bool) → next (r ⊕ s) (xor x y) ≡ next r x ⊕ next s y
next_add (rem a b c d) (rem e f g h) x y = rw (xor_swap d h a e, xor_swap x y a e)

pub add_none : (r : Rem) → r ⊕ none ≡ r
add_none (rem a b c d) = simp xor_false

-- LINEAR: the remainder of two polynomials of one length, added, is their remainders, added
pub after_add : (r s : Rem) (l m : List Bool) → length l ≡ length m → after (r ⊕ s) (mixed l m) ≡ after r l ⊕ after s m
unfolding after mixed
after_add r s [] [] h = refl
after_add r s [] (b ∷ m) h = absurd (omega arith)
after_add r s (a ∷ l) [] h = absurd (omega arith)
after_add r s (a ∷ l) (b ∷ m) h = ap (λ (q : Rem). after q (mixed l m)) (next_add r s a b) ∙ after_add (next r a) (next s b) l m (omega arith)

pub after_append : (r : Rem) (l m : List Bool) → after r (l ++ m) ≡ after (after r l) m
unfolding after
after_append r [] m = refl
after_append r (b ∷ l) m = after_append (next r b) l m

-- what starts with s besides adds s times X^(length l)
after_start : (r s : Rem) (l : List Bool) → after (r ⊕ s) l ≡ after r l ⊕ after s (replicate (length l) false)
unfolding after
after_start r s [] = refl
after_start r s (b ∷ l) =
    ap (λ (q : Rem). after q l) (ap (next (r ⊕ s)) (sym (xor_false b)) ∙ next_add r s b false) ∙ after_start (next r b) (next s false) l

next_not : (r : Rem) (b : Bool) → next r (not b) ≡ next r b ⊕ power 0
unfolding power xor
next_not (rem true b c d) true = simp xor_false
next_not (rem true b c d) false = simp xor_false
next_not (rem false b c d) true = simp xor_false
next_not (rem false b c d) false = simp xor_false

pub after_none : (k : ℕ) → after none (replicate k false) ≡ none
unfolding after xor
after_none zero = refl
after_none (suc k) = after_none k

power_after : (k j : ℕ) → after (power j) (replicate k false) ≡ power (k + j)
unfolding after power
power_after zero j = rw zero-add
power_after (suc k) j = power_after k (suc j) ∙ rw (add-suc, suc-add)

-- ONE FLIP adds the power of its place
pub flip_after : (r : Rem) (l : List Bool) (i : ℕ) → i < length l → after r (flip l i) ≡ after r l ⊕ power (length l - suc i)
unfolding after
flip_after r [] i h = absurd (omega arith)
flip_after r (b ∷ l) zero h =
    let e : length l + 0 ≡ suc (length l) - 1 = omega arith in
    ap (λ (q : Rem). after q l) (next_not r b) ∙ after_start (next r b) (power 0) l ∙ ap (◌⊕◌ (after (next r b) l)) (power_after (length l) 0 ∙ ap power e)
flip_after r (b ∷ l) (suc i) h =
    let e : length l - suc i ≡ suc (length l) - suc (suc i) = omega arith in
    flip_after (next r b) l i (omega arith) ∙ ap (λ (k : ℕ). after (next r b) l ⊕ power k) e

-- ---- X has order 15
power_period : (k : ℕ) → power (k + 15) ≡ power k
unfolding power xor
power_period zero = refl
power_period (suc k) = rw suc-add (ap (λ (q : Rem). next q false) (power_period k))

power_times : (q r : ℕ) → power (q * 15 + r) ≡ power r
power_times zero r = ap power (omega arith)
power_times (suc q) r =
    let e : suc q * 15 + r ≡ q * 15 + r + 15 = omega arith in
    ap power e ∙ power_period (q * 15 + r) ∙ power_times q r

-- the powers repeat after 15
pub power_mod : (k : ℕ) → power k ≡ power (k % 15)
power_mod k = ap power (sym (div-add-mod' k 15)) ∙ power_times (k / 15) (k % 15)

-- two powers below 15 that are one remainder are one power
differs : ℕ → ℕ → Bool
differs i j = not (eqb (code (power i)) (code (power j))) || eqb i j

implied : (p q : Bool) → T p → T (not p || q) → T q
implied true q t u = u
implied false q t u = absurd t

power_small : (i j : ℕ) → i < 15 → j < 15 → power i ≡ power j → i ≡ j
unfolding differs power xor value
power_small i j hi hj e =
    let t : T (differs i j) = all_holds (differs i) 15 (all_holds (λ (k : ℕ). all (differs k) 15) 15 tt i hi) j hj in
    let a = code (power i) in
    let b = code (power j) in
    let s : T (eqb a b) = subst (λ (n : ℕ). T (eqb a n)) (ap code e) (eqb_refl a) in
    eqb→eq i j (implied (eqb a b) (eqb i j) s t)

pub power_same : (i j : ℕ) → power i ≡ power j → i % 15 ≡ j % 15
power_same i j e = power_small (i % 15) (j % 15) (mod-lt i (lit< tt)) (mod-lt j (lit< tt)) (sym (power_mod i) ∙ e ∙ power_mod j)

-- ---- sums of remainders
pub add_self : (r : Rem) → r ⊕ r ≡ none
add_self (rem a b c d) = simp xor_self

pub none_add : (r : Rem) → none ⊕ r ≡ r
none_add (rem a b c d) = simp false_xor

pub add_assoc : (r s t : Rem) → r ⊕ s ⊕ t ≡ r ⊕ (s ⊕ t)
add_assoc (rem a b c d) (rem e f g h) (rem k l m n) = simp xor_assoc

-- only equal remainders add to nothing
pub add_cancel : (r s : Rem) → r ⊕ s ≡ none → r ≡ s
add_cancel r s e = sym (add_none r) ∙ ap (◌⊕◌ r) (sym (add_self s)) ∙ sym (add_assoc r s s) ∙ ap (λ (q : Rem). q ⊕ s) e ∙ none_add s

after_one : (r : Rem) (b : Bool) → after r (b ∷ []) ≡ next r b
unfolding after
after_one r b = refl

-- ---- the check over the whole packet: data and CRC are right exactly if nothing remains
pub four : (l : List Bool) → length l ≡ 4 → (r : Rem) × (l ≡ sent r)
four [] h = absurd (omega arith)
four (a ∷ []) h = absurd (omega arith)
four (a ∷ b ∷ []) h = absurd (omega arith)
four (a ∷ b ∷ c ∷ []) h = absurd (omega arith)
four (a ∷ b ∷ c ∷ d ∷ []) h = (rem a b c d, refl)
four (a ∷ b ∷ c ∷ d ∷ e ∷ l) h = absurd (omega arith)

pub after_sent : (r : Rem) → after none (sent r) ≡ r
unfolding after
after_sent (rem a b c d) = simp xor_false

pub mixed_none : (l : List Bool) → mixed (replicate (length l) false) l ≡ l
unfolding mixed
mixed_none [] = refl
mixed_none (b ∷ l) = ap₂ (λ (x : Bool) (y : List Bool). x ∷ y) (false_xor b) (mixed_none l)

after_four : (r s : Rem) → after r (sent s) ≡ after r (replicate 4 false) ⊕ s
after_four r (rem a b c d) =
    let l = a ∷ b ∷ c ∷ d ∷ [] in
    ap₂ after (sym (add_none r)) (sym (mixed_none l)) ∙ after_add r none (replicate 4 false) l refl
    ∙ ap (◌⊕◌ (after r (replicate 4 false))) (after_sent (rem a b c d))

sent_inj : (r s : Rem) → sent r ≡ sent s → r ≡ s
sent_inj r s e = sym (after_sent r) ∙ ap (after none) e ∙ after_sent s

pub right_iff : (n : ℕ) (p : List Bool) → length p ≡ n + 4 → Right n p ↔ (after none p ≡ none)
unfolding Right crc
right_iff n p h =
    let l : length (drop n p) ≡ 4 = rw length-drop (omega arith) in
    let f = four (drop n p) l in
    let c = f.0 in
    let k = crc (take n p) in
    let e : after none p ≡ k ⊕ c =
    ap (after none) (sym (take-append-drop n p) ∙ ap (◌++◌ (take n p)) f.1) ∙ after_append none (take n p) (sent c) ∙ after_four (after none (take n p)) c
    ∙ ap (λ (q : Rem). q ⊕ c) (sym (after_append none (take n p) (replicate 4 false))) in (
      (λ g. e ∙ ap (λ (q : Rem). k ⊕ q) (sent_inj c k (sym f.1 ∙ g)) ∙ add_self k),
      (λ z. f.1 ∙ ap sent (sym (add_cancel k c (sym e ∙ z)))),
    )

-- ---- if nothing remains once zeros follow, nothing was there
next_none : (r : Rem) → next r false ≡ none → r ≡ none
next_none (rem a b c d) e = cc (false_xor a, xor_false d)

pub after_zeros : (k : ℕ) (r : Rem) → after r (replicate k false) ≡ none → r ≡ none
unfolding after
after_zeros zero r e = e
after_zeros (suc k) r e = next_none r (after_zeros k (next r false) e)

pub length_mixed : (l m : List Bool) → length (mixed l m) ≡ length l
unfolding mixed
length_mixed [] m = refl
length_mixed (a ∷ l) [] = refl
length_mixed (a ∷ l) (b ∷ m) = ap suc (length_mixed l m)

pub length_sent : (r : Rem) → length (sent r) ≡ 4
length_sent (rem a b c d) = refl

-- ---- the register that is fed a bit at a time holds the CRC so far
fed_add : (r : Rem) (b : Bool) → fed r b ≡ next r false ⊕ after none (b ∷ replicate 4 false)
unfolding after xor
fed_add (rem a b c d) true = simp (xor_false, false_xor, xor_assoc)
fed_add (rem a b c d) false = simp (xor_false, false_xor)

pub crc_snoc : (l : List Bool) (b : Bool) → crc (l ++ (b ∷ [])) ≡ fed (crc l) b
unfolding crc
crc_snoc l b =
    let z = replicate 4 false in
    let r = after none l in
    let e : mixed (replicate 5 false) (b ∷ z) ≡ b ∷ z = mixed_none (b ∷ z) in
    ap (after none) (append_assoc l (b ∷ []) z) ∙ after_append none l (b ∷ z)
    ∙ ap₂ after (sym (add_none r)) (sym e) ∙ after_add r none (replicate 5 false) (b ∷ z) refl
    ∙ ap (λ (q : Rem). q ⊕ after none (b ∷ z)) (after_append r z (false ∷ []) ∙ after_one (after r z) false)
    ∙ sym (fed_add (after r z) b) ∙ ap (λ (q : Rem). fed q b) (sym (after_append none l z))

-- ---- THE CRC IS WHAT THE REGISTER HOLDS once all bits are fed
crc_nil : crc [] ≡ none
unfolding crc after xor
crc_nil = refl

crc_more : (l m : List Bool) → crc (l ++ m) ≡ fed_all (crc l) m
unfolding fed_all
crc_more l [] = ap crc (append-nil l)
crc_more l (b ∷ m) =
    ap crc (sym (append_assoc l (b ∷ []) m)) ∙ crc_more (l ++ (b ∷ [])) m ∙ ap (λ (r : Rem). fed_all r m) (crc_snoc l b)

pub crc_fed : (l : List Bool) → fed_all none l ≡ crc l
crc_fed l = ap (λ (r : Rem). fed_all r l) (sym crc_nil) ∙ sym (crc_more [] l)

pub fed_append : (r : Rem) (l m : List Bool) → fed_all r (l ++ m) ≡ fed_all (fed_all r l) m
unfolding fed_all
fed_append r [] m = refl
fed_append r (b ∷ l) m = fed_append (fed r b) l m

-- a packet is right exactly if nothing is left of all its bits, CRC included
pub right_fed : (n : ℕ) (p : List Bool) → length p ≡ n + 4 → Right n p ↔ (fed_all none p ≡ none)
unfolding crc
right_fed n p h =
    let e : fed_all none p ≡ after (after none p) (replicate 4 false) = crc_fed p ∙ after_append none p (replicate 4 false) in (
      (λ g. e ∙ ap (λ (r : Rem). after r (replicate 4 false)) ((right_iff n p h).0 g) ∙ after_none 4),
      (λ z. (right_iff n p h).1 (after_zeros 4 (after none p) (sym e ∙ z))),
    )

-- ---- the test
alike_same : (l m : List Bool) → alike l m ≡ true → l ≡ m
unfolding alike xor
alike_same [] [] e = refl
alike_same [] (b ∷ m) e = absurd (true_false (sym e))
alike_same (a ∷ l) [] e = absurd (true_false (sym e))
alike_same (true ∷ l) (true ∷ m) e = ap (◌∷◌ true) (alike_same l m e)
alike_same (true ∷ l) (false ∷ m) e = absurd (true_false (sym e))
alike_same (false ∷ l) (true ∷ m) e = absurd (true_false (sym e))
alike_same (false ∷ l) (false ∷ m) e = ap (◌∷◌ false) (alike_same l m e)

alike_self : (l : List Bool) → alike l l ≡ true
unfolding alike xor
alike_self [] = refl
alike_self (true ∷ l) = alike_self l
alike_self (false ∷ l) = alike_self l

-- the test says what is meant
pub right_true : (n : ℕ) (p : List Bool) → (right n p ≡ true) ↔ Right n p
unfolding right Right
right_true n p =
    let s = sent (crc (take n p)) in
    ((λ e. alike_same (drop n p) s e), (λ e. ap (λ (l : List Bool). alike l s) e ∙ alike_self s))

pub right_false : (n : ℕ) (p : List Bool) → (Right n p → ⊥) → right n p ≡ false
right_false n p f = go (right n p) refl
  where
    go : (b : Bool) → right n p ≡ b → right n p ≡ false
    go true e = absurd (f ((right_true n p).0 e))
    go false e = e

-- ---- LINEAR: the CRC of two strings of bits of one length, added, is their CRCs, added
mixed_append : (l m y z : List Bool) → length l ≡ length m → mixed (l ++ y) (m ++ z) ≡ mixed l m ++ mixed y z
unfolding mixed
mixed_append [] [] y z h = refl
mixed_append [] (b ∷ m) y z h = absurd (omega arith)
mixed_append (a ∷ l) [] y z h = absurd (omega arith)
mixed_append (a ∷ l) (b ∷ m) y z h = ap (◌∷◌ (xor a b)) (mixed_append l m y z (omega arith))

pub crc_add : (l m : List Bool) → length l ≡ length m → crc (mixed l m) ≡ crc l ⊕ crc m
unfolding crc
crc_add l m h =
    let z = replicate 4 false in
    let n : length (l ++ z) ≡ length (m ++ z) = rw (length-append, length-append) (omega arith) in
    let e : mixed (l ++ z) (m ++ z) ≡ mixed l m ++ z = mixed_append l m z z h ∙ ap (◌++◌ (mixed l m)) (mixed_none z) in
    ap (after none) (sym e) ∙ ap (λ (r : Rem). after r (mixed (l ++ z) (m ++ z))) (sym (add_none none)) ∙ after_add none none (l ++ z) (m ++ z) n
