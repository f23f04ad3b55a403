-- `after` and `crc` give the remainder that 01 asks for: what is left of a polynomial once a multiple of 1 + X + X^4 is taken away, and
-- there is only one such remainder of four bits. (Taking away and adding are the same over bits.)
-- Assumes nothing.
use Rattle.std.specs.Prelude.{◌≡◌, refl, Bool, true, false, List, [], ◌∷◌, ◌++◌, ℕ, suc, ◌+◌, length, replicate}
use Rattle.std.proofs.Common.{sym, ap, ap₂, ◌∙◌, arith, length-append}
use Rattle.std.proofs.Math.Bool.{xor}
use Rattle.std.proofs.lemmas.List.{length-replicate}
use Rattle.crc.specs.Crc.{Rem, rem, none, next, after, sent, crc, mixed, times}
use Rattle.crc.specs.Laws.{◌⊕◌}
use Rattle.crc.proofs.Laws.{after_add, after_append, after_none, after_sent, add_none, none_add, length_mixed, length_sent, xor_self, xor_false, false_xor, xor_comm, xor_assoc, mixed_none}

pub length_times : (q : List Bool) → length (times q) ≡ 4 + length q
unfolding times
length_times [] = refl
length_times (a ∷ q) = rw (length_mixed, length-replicate) (omega arith)

term_none : (a : Bool) (k : ℕ) → after none (a ∷ false ∷ false ∷ a ∷ a ∷ replicate k false) ≡ none
unfolding after xor
term_none true k = after_none k
term_none false k = after_none k

-- the remainder of a sum, at start zero
pub after_sum : (l m : List Bool) → length l ≡ length m → after none (mixed l m) ≡ after none l ⊕ after none m
after_sum l m h = ap (λ (r : Rem). after r (mixed l m)) (sym (add_none none)) ∙ after_add none none l m h

-- a multiple of 1 + X + X^4 leaves nothing
pub times_none : (q : List Bool) → after none (times q) ≡ none
unfolding times after xor
times_none [] = refl
times_none (a ∷ q) =
    let l = a ∷ false ∷ false ∷ a ∷ a ∷ replicate (length q) false in
    let h : length l ≡ length (false ∷ times q) = rw (length_times, length-replicate) (omega arith) in
    after_sum l (false ∷ times q) h ∙ ap₂ ◌⊕◌ (term_none a (length q)) (times_none q)

-- ONLY ONE: whatever four bits are left of l beside a multiple are the remainder
pub remainder_unique : (l q : List Bool) (r : Rem) → l ≡ mixed (times q) (replicate (length q) false ++ sent r) → after none l ≡ r
remainder_unique l q r e =
    let m = replicate (length q) false ++ sent r in
    let h : length (times q) ≡ length m = rw (length_times, length-append, length-replicate, length_sent) (omega arith) in
    ap (after none) e ∙ after_sum (times q) m h ∙ ap₂ ◌⊕◌ (times_none q) (after_append none (replicate (length q) false) (sent r)
    ∙ ap (λ (s : Rem). after s (sent r)) (after_none (length q)) ∙ after_sent r) ∙ none_add r

mixed_assoc : (l m n : List Bool) → length l ≡ length m → mixed (mixed l m) n ≡ mixed l (mixed m n)
unfolding mixed
mixed_assoc [] m n h = refl
mixed_assoc (a ∷ l) [] n h = absurd (omega arith)
mixed_assoc (a ∷ l) (b ∷ m) [] h = refl
mixed_assoc (a ∷ l) (b ∷ m) (c ∷ n) h = ap₂ (λ (x : Bool) (y : List Bool). x ∷ y) (xor_assoc a b c) (mixed_assoc l m n (omega arith))

xor_back : (a d : Bool) → xor a (xor d a) ≡ d
xor_back a d = ap (xor a) (xor_comm d a) ∙ sym (xor_assoc a a d) ∙ ap (λ (x : Bool). xor x d) (xor_self a) ∙ false_xor d

-- one step of the division: the highest term is taken away, X^4 as X + 1
divided : (a b c d e : Bool) (l : List Bool) (k : ℕ) → k ≡ length l
    → mixed (a ∷ false ∷ false ∷ a ∷ a ∷ replicate k false) (false ∷ (sent (next (rem a b c d) e) ++ l)) ≡ a ∷ b ∷ c ∷ d ∷ e ∷ l
unfolding mixed
divided a b c d e l k h =
    let z : mixed (replicate k false) l ≡ l = ap (λ (n : ℕ). mixed (replicate n false) l) h ∙ mixed_none l in
    rw (xor_false a, false_xor b, false_xor c, xor_back a d, xor_back a e, z)

mixed_head : (x y : List Bool) → mixed (false ∷ x) (false ∷ y) ≡ false ∷ mixed x y
unfolding mixed xor
mixed_head x y = refl

-- THERE IS ONE: long division
pub remainder : (r : Rem) (l : List Bool)
    → (q : List Bool) × ((length q ≡ length l) × (sent r ++ l ≡ mixed (times q) (replicate (length l) false ++ sent (after r l))))
unfolding times after
remainder (rem a b c d) [] = ([], (refl, sym (mixed_none (a ∷ b ∷ c ∷ d ∷ []))))
remainder (rem a b c d) (e ∷ l) =
    let s = next (rem a b c d) e in
    let i = remainder s l in
    let q = i.0 in
    let t = a ∷ false ∷ false ∷ a ∷ a ∷ replicate (length q) false in
    let z = replicate (length l) false ++ sent (after s l) in
    let h : length t ≡ length (false ∷ times q) = rw (length_times, length-replicate) (omega arith) in (
      a ∷ q,
      (
        ap suc i.1.0,
        sym (mixed_assoc t (false ∷ times q) (false ∷ z) h ∙ ap (mixed t) (mixed_head (times q) z ∙ ap (◌∷◌ false) (sym i.1.1)) ∙ divided a b c d e l (length q) i.1.0),
      ),
    )

-- THE CRC: the bits times X^4 (after four zeros, from which the register starts) are a multiple of 1 + X + X^4 and the CRC
pub crc_remainder : (l : List Bool)
    → (q : List Bool) × (replicate 4 false ++ (l ++ replicate 4 false) ≡ mixed (times q) (replicate (length (l ++ replicate 4 false)) false ++ sent (crc l)))
unfolding crc
crc_remainder l = let i = remainder none (l ++ replicate 4 false) in (i.0, i.1.1)
