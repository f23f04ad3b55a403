-- What a reader would ask of the definitions in Bits: sizes, there and back both ways, and how fields stand behind each other. Each law
-- holds for every width and length.
-- Assumes nothing.
use Rattle.std.specs.Prelude.{◌≡◌, refl, Bool, true, false, List, [], ◌∷◌, ◌++◌, ℕ, zero, suc, ◌+◌, ◌-◌, ◌*◌, ◌/◌, ◌%◌, ◌^◌, ◌≤◌, ◌<◌, eqb, length, take, drop, get_or, replicate}
use Rattle.std.proofs.Common.{sym, ap, ap₂, ◌∙◌, subst, append_assoc, append-nil, zero-add, suc-add, add-zero, div-one, pow-suc, zero-mul, suc-mul, mod-lt, zero-lt-suc, mod-eq_of_lt, mul_assoc, mul-zero, mul-suc, add_comm, lt_of_lt_of_le, arith, lit<, pow_pos, pow_mono, pow-add, shl_exact, length-drop, length-append, length-take, take-append-drop, take_at, drop_at, length-take-le, drop-drop}
use Rattle.std.proofs.Math.Nat.{div-div-eq-div-mul, pow-succ', mod-one, mul-mod_left}
use Rattle.std.proofs.Math.Arith.{mod-mul, digits_div, digits_mod, digits_lt}
use Rattle.std.specs.Int.Bits.{bit_or, block_half, block_odd, or_shifted_r}
use Rattle.std.proofs.Math.Pow.{split, high}
use Rattle.std.proofs.lemmas.Nat.{mod-pow-add, shl-shr}
use Rattle.std.proofs.lemmas.List.{replicate-append-replicate, length-replicate, take-append-le, drop-append-le}
use Rattle.lists.specs.Parts.{part, over, part_over, length_part, part_left}
use Rattle.bits.specs.Bits.{odd, one, field, value, fields, bits, laid, numbers, octets, total, Fits}

pub length_field : (w n : ℕ) → length (field w n) ≡ w
unfolding field
length_field zero n = refl
length_field (suc w) n = ap suc (length_field w (n / 2))

-- a field of j + k bits is one of j and then one of k
pub field_add : (j k n : ℕ) → field (j + k) n ≡ field j n ++ field k (n / 2 ^ j)
unfolding field
field_add zero k n = rw (zero-add, div-one)
field_add (suc j) k n = rw (suc-add, field_add j k (n / 2), div-div-eq-div-mul, ← pow-succ')

one_odd : (n : ℕ) → one (odd n) ≡ n % 2
one_odd n = go (n % 2) (mod-lt n (zero-lt-suc 1))
  where
    go : (k : ℕ) → k < 2 → one (eqb k 1) ≡ k
    go zero h = refl
    go (suc zero) h = refl
    go (suc (suc k)) h = absurd (omega arith)

pub value_field : (w n : ℕ) → value (field w n) ≡ n % 2 ^ w
unfolding field value
value_field zero n = sym (mod-one n)
value_field (suc w) n = rw (value_field w (n / 2), one_odd n, pow-suc) (sym (mod-mul n (pow_pos w) (zero-lt-suc 1)))

-- only the w low bits count
pub field_mod : (w a n : ℕ) → field w (a * 2 ^ w + n) ≡ field w n
unfolding field
field_mod zero a n = refl
field_mod (suc w) a n = rw (block_odd a w n, block_half a w n) (ap (◌∷◌ (odd n)) (field_mod w a (n / 2)))

pub field_low : (w n : ℕ) → field w (n % 2 ^ w) ≡ field w n
field_low w n = sym (field_mod w (n / 2 ^ w) (n % 2 ^ w)) ∙ ap (field w) (split n w)

pub take_field : (j k n : ℕ) → take j (field (j + k) n) ≡ field j n
take_field j k n = rw field_add (take_at (field j n) (field k (n / 2 ^ j)) j (length_field j n))

pub drop_field : (j k n : ℕ) → drop j (field (j + k) n) ≡ field k (n / 2 ^ j)
drop_field j k n = rw field_add (drop_at (field j n) (field k (n / 2 ^ j)) j (length_field j n))

-- w bits from bit k on of a field
pub field_part : (j n k w : ℕ) → k + w ≤ j → part k w (field j n) ≡ field w (n / 2 ^ k)
field_part j n k w h =
    let e : k + (w + (j - (k + w))) ≡ j = omega arith in
    rw (← e, drop_field k (w + (j - (k + w))) n, take_field)

-- ---- fields in a row, and bits of octets
pub length_fields : (w : ℕ) (s : List ℕ) → length (fields w s) ≡ length s * w
unfolding fields
length_fields w [] = sym (zero-mul w)
length_fields w (x ∷ s) = rw (length-append, length_field, length_fields w s, suc-mul) (omega arith)

pub fields_append : (w : ℕ) (l m : List ℕ) → fields w (l ++ m) ≡ fields w l ++ fields w m
unfolding fields
fields_append w [] m = refl
fields_append w (x ∷ l) m = rw (fields_append w l m, append_assoc)

pub fields_one : (w x : ℕ) → fields w (x ∷ []) ≡ field w x
unfolding fields
fields_one w x = append-nil (field w x)

pub length_bits : (s : List ℕ) → length (bits s) ≡ length s * 8
length_bits = length_fields 8

pub bits_cons : (x : ℕ) (s : List ℕ) → bits (x ∷ s) ≡ field 8 x ++ bits s
unfolding fields
bits_cons x s = refl

pub bits_append : (l m : List ℕ) → bits (l ++ m) ≡ bits l ++ bits m
bits_append = fields_append 8

-- ---- there and back
odd_one : (n : ℕ) (b : Bool) → odd (n * 2 + one b) ≡ b
odd_one n true = rw (digits_mod n {m = 2} {r = 1} (lit< tt))
odd_one n false = rw (digits_mod n {m = 2} {r = 0} (lit< tt))

one_lt : (b : Bool) → one b < 2
one_lt true = lit< tt
one_lt false = lit< tt

pub field_value : (l : List Bool) → field (length l) (value l) ≡ l
unfolding field value
field_value [] = refl
field_value (b ∷ l) = rw (odd_one (value l) b, digits_div (value l) (one_lt b)) (ap (◌∷◌ b) (field_value l))

pub value_lt : (l : List Bool) → value l < 2 ^ length l
unfolding value
value_lt [] = lit< tt
value_lt (b ∷ l) = rw pow-suc (digits_lt (value_lt l) (one_lt b))

-- bits and more bits
pub value_append : (l m : List Bool) (j : ℕ) → length l ≡ j → value (l ++ m) ≡ value m * 2 ^ j + value l
unfolding value
value_append [] m zero h = omega arith
value_append [] m (suc j) h = absurd (omega arith)
value_append (b ∷ l) m zero h = absurd (omega arith)
value_append (b ∷ l) m (suc j) h =
    let i = value_append l m j (omega arith) in
    let e : value m * 2 ^ suc j ≡ value m * 2 ^ j * 2 = ap (λ (x : ℕ). value m * x) (pow-suc 2 j) ∙ sym (mul_assoc (value m) (2 ^ j) 2) in
    rw (e, i) (omega arith)

-- bits of one length with one value are the same
pub value_inj : (l m : List Bool) → length l ≡ length m → value l ≡ value m → l ≡ m
value_inj l m h e = sym (field_value l) ∙ ap₂ field h e ∙ field_value m

-- ---- numbers of several widths
pub length_laid : (ws f : List ℕ) → length (laid ws f) ≡ total ws
unfolding laid total
length_laid [] f = refl
length_laid (w ∷ ws) [] = rw (length-append, length_field, length_laid ws [])
length_laid (w ∷ ws) (x ∷ f) = rw (length-append, length_field, length_laid ws f)

pub length_numbers : (ws : List ℕ) (l : List Bool) → length (numbers ws l) ≡ length ws
unfolding numbers
length_numbers [] l = refl
length_numbers (w ∷ ws) l = ap suc (length_numbers ws (drop w l))

-- NUMBERS TO BITS TO NUMBERS: what was laid is what is read, whatever stands behind it
pub numbers_laid : (ws f : List ℕ) (r : List Bool) → Fits ws f → numbers ws (laid ws f ++ r) ≡ f
unfolding numbers laid Fits
numbers_laid [] [] r h = refl
numbers_laid [] (x ∷ f) r h = absurd h
numbers_laid (w ∷ ws) [] r h = absurd h
numbers_laid (w ∷ ws) (x ∷ f) r h =
    let m = laid ws f ++ r in
    let a : value (take w (field w x ++ m)) ≡ x = ap value (take_at (field w x) m w (length_field w x)) ∙ value_field w x ∙ mod-eq_of_lt h.0 in
    let b : drop w (field w x ++ m) ≡ m = drop_at (field w x) m w (length_field w x) in
    ap (λ (y : List Bool). value (take w y) ∷ numbers ws (drop w y)) (append_assoc (field w x) (laid ws f) r)
    ∙ ap₂ (λ (y : ℕ) (z : List ℕ). y ∷ z) a (ap (numbers ws) b ∙ numbers_laid ws f r h.1)

-- BITS TO NUMBERS TO BITS: any bits of the right length
pub laid_numbers : (ws : List ℕ) (l : List Bool) → length l ≡ total ws → laid ws (numbers ws l) ≡ l
unfolding numbers laid total
laid_numbers [] [] h = refl
laid_numbers [] (b ∷ l) h = absurd (omega arith)
laid_numbers (w ∷ ws) l h =
    let hw : w ≤ length l = omega arith in
    let n : length (take w l) ≡ w = length-take-le w l hw in
    let e : field w (value (take w l)) ≡ take w l = subst (λ (k : ℕ). field k (value (take w l)) ≡ take w l) n (field_value (take w l)) in
    let i : laid ws (numbers ws (drop w l)) ≡ drop w l = laid_numbers ws (drop w l) (rw length-drop (omega arith)) in
    ap₂ (λ (x y : List Bool). x ++ y) e i ∙ take-append-drop w l

-- a number that is read fits its width
pub fits_numbers : (ws : List ℕ) (l : List Bool) → Fits ws (numbers ws l)
unfolding numbers Fits
fits_numbers [] l = tt
fits_numbers (w ∷ ws) l =
    let n : length (take w l) ≤ w = rw length-take (omega arith) in
    (lt_of_lt_of_le (value_lt (take w l)) (pow_mono n), fits_numbers ws (drop w l))

-- widths behind widths, read from bits behind bits
pub numbers_append : (ws vs : List ℕ) (l m : List Bool) → length l ≡ total ws → numbers (ws ++ vs) (l ++ m) ≡ numbers ws l ++ numbers vs m
unfolding numbers total
numbers_append [] vs [] m h = refl
numbers_append [] vs (b ∷ l) m h = absurd (omega arith)
numbers_append (w ∷ ws) vs l m h =
    let hw : w ≤ length l = omega arith in
    ap₂ (λ (x : ℕ) (y : List ℕ). x ∷ y) (ap value (take-append-le w l m hw))
    (ap (numbers (ws ++ vs)) (drop-append-le w l m hw) ∙ numbers_append ws vs (drop w l) m (rw length-drop (omega arith)))

-- only the front counts
pub numbers_front : (ws : List ℕ) (l m : List Bool) → length l ≡ total ws → numbers ws (l ++ m) ≡ numbers ws l
unfolding numbers
numbers_front ws l m h =
    ap (λ (vs : List ℕ). numbers vs (l ++ m)) (sym (append-nil ws)) ∙ numbers_append ws [] l m h ∙ append-nil (numbers ws l)

-- ---- octets
pub total_same : (n w : ℕ) → total (replicate n w) ≡ w * n
unfolding total
total_same zero w = sym (mul-zero w)
total_same (suc n) w = ap (◌+◌ w) (total_same n w) ∙ add_comm w (w * n) ∙ sym (mul-suc w n)

pub length_octets : (n : ℕ) (l : List Bool) → length (octets n l) ≡ n
length_octets n l = length_numbers (replicate n 8) l ∙ length-replicate n 8

-- octets of bits behind bits
pub octets_append : (a b : ℕ) (l m : List Bool) → length l ≡ 8 * a → octets (a + b) (l ++ m) ≡ octets a l ++ octets b m
octets_append a b l m h =
    ap (λ (ws : List ℕ). numbers ws (l ++ m)) (sym (replicate-append-replicate a b 8))
    ∙ numbers_append (replicate a 8) (replicate b 8) l m (h ∙ sym (total_same a 8))

fields_laid : (s : List ℕ) → bits s ≡ laid (replicate (length s) 8) s
unfolding fields laid
fields_laid [] = refl
fields_laid (x ∷ s) = ap (λ (l : List Bool). field 8 x ++ l) (fields_laid s)

-- BITS TO OCTETS TO BITS
pub bits_octets : (n : ℕ) (l : List Bool) → length l ≡ 8 * n → bits (octets n l) ≡ l
bits_octets n l h =
    fields_laid (octets n l) ∙ ap (λ (k : ℕ). laid (replicate k 8) (octets n l)) (length_octets n l)
    ∙ laid_numbers (replicate n 8) l (h ∙ sym (total_same n 8))

fits_octets : (s : List ℕ) → ((i : ℕ) → get_or s i 0 < 2 ^ 8) → Fits (replicate (length s) 8) s
unfolding Fits
fits_octets [] h = tt
fits_octets (x ∷ s) h = (h 0, fits_octets s (λ i. h (suc i)))

-- OCTETS TO BITS TO OCTETS, where each is one
pub octets_bits : (s : List ℕ) → ((i : ℕ) → get_or s i 0 < 2 ^ 8) → octets (length s) (bits s) ≡ s
octets_bits s h =
    ap (octets (length s)) (fields_laid s ∙ sym (append-nil (laid (replicate (length s) 8) s))) ∙ numbers_laid (replicate (length s) 8) s [] (fits_octets s h)

-- octets with the same bits are the same
pub bits_inj : (s t : List ℕ) → ((i : ℕ) → get_or s i 0 < 2 ^ 8) → ((i : ℕ) → get_or t i 0 < 2 ^ 8) → bits s ≡ bits t → s ≡ t
bits_inj s t hs ht e =
    let n : length s ≡ length t = omega (arith, length_bits s, length_bits t, ap length e) in
    sym (octets_bits s hs) ∙ ap₂ octets n e ∙ octets_bits t ht

-- a part of the octets
pub bits_drop : (i : ℕ) (s : List ℕ) → i ≤ length s → bits (drop i s) ≡ drop (i * 8) (bits s)
bits_drop i s h =
    let n : length (bits (take i s)) ≡ i * 8 = rw (length_bits, length-take-le i s h) in
    sym (ap (drop (i * 8)) (ap bits (sym (take-append-drop i s)) ∙ bits_append (take i s) (drop i s)) ∙ drop_at (bits (take i s)) (bits (drop i s)) (i * 8) n)

pub bits_part : (i n : ℕ) (s : List ℕ) → i + n ≤ length s → bits (part i n s) ≡ part (8 * i) (8 * n) (bits s)
bits_part i n s h =
    let d = drop i s in
    let hn : n ≤ length d = rw length-drop (omega arith) in
    let hi : i ≤ length s = omega arith in
    let k : length (bits (take n d)) ≡ 8 * n = rw (length_bits, length-take-le n d hn) (omega arith) in
    let e : i * 8 ≡ 8 * i = omega arith in
    sym
    (ap (λ (j : ℕ). take (8 * n) (drop j (bits s))) (sym e) ∙ ap (take (8 * n)) (sym (bits_drop i s hi) ∙ ap bits (sym (take-append-drop n d)) ∙ bits_append (take n d) (drop n d))
    ∙ take_at (bits (take n d)) (bits (drop n d)) (8 * n) k)

-- bits that octets are laid over
pub bits_over : (s f : List ℕ) (i n : ℕ) → i + n ≤ length s → length f ≡ n → bits (over s i n f) ≡ over (bits s) (8 * i) (8 * n) (bits f)
bits_over s f i n h k =
    let hi : 0 + i ≤ length s = omega arith in
    let e : (i + n) * 8 ≡ 8 * i + 8 * n = omega arith in
    let t : bits (take i s) ≡ take (8 * i) (bits s) = bits_part 0 i s hi in
    bits_append (take i s) (f ++ drop (i + n) s) ∙ ap₂ (λ (x y : List Bool). x ++ y) t
    (bits_append f (drop (i + n) s) ∙ ap (λ (x : List Bool). bits f ++ x) (bits_drop (i + n) s h ∙ ap (λ (j : ℕ). drop j (bits s)) e))

-- A VALUE PUT IS THE VALUE GOT
pub get_put : (l : List Bool) (at w v : ℕ) → at + w ≤ length l → v < 2 ^ w → value (part at w (over l at w (field w v))) ≡ v
get_put l at w v room h = ap value (part_over l (field w v) at w room (length_field w v)) ∙ value_field w v ∙ mod-eq_of_lt h

-- WHAT IS GOT, PUT AGAIN, CHANGES NOTHING
pub put_get : (l : List Bool) (at w : ℕ) → at + w ≤ length l → over l at w (field w (value (part at w l))) ≡ l
put_get l at w room =
    let p = part at w l in
    let n : length p ≡ w = length_part l at w room in
    let e : field w (value p) ≡ p = subst (λ (k : ℕ). field k (value p) ≡ p) n (field_value p) in
    ap (over l at w) e ∙ ap (λ (m : List Bool). take at l ++ (p ++ m)) (sym (drop-drop w at l)) ∙ ap (λ (m : List Bool). take at l ++ m) (take-append-drop w (drop at l))
    ∙ take-append-drop at l

-- bits k to k + w of a number's bits
pub cut_law : (l : List Bool) (k w : ℕ) → k + w ≤ length l → value l / 2 ^ k % 2 ^ w ≡ value (part k w l)
cut_law l k w h =
    let n = value l in
    let e : k + (w + (length l - (k + w))) ≡ length l = omega arith in
    sym
    (ap (λ (m : List Bool). value (part k w m)) (sym (field_value l) ∙ ap (λ (j : ℕ). field j n) (sym e))
    ∙ ap (λ (m : List Bool). value (take w m)) (drop_field k (w + (length l - (k + w))) n)
    ∙ ap value (take_field w (length l - (k + w)) (n / 2 ^ k)) ∙ value_field w (n / 2 ^ k))

-- w bits from bit k on of the word of eight octets
pub in_word : (s : List ℕ) (i k w x : ℕ) → i + 8 ≤ length s → k + w ≤ 64 → x ≡ value (part (8 * i) 64 (bits s))
    → x / 2 ^ k % 2 ^ w ≡ value (part (8 * i + k) w (bits s))
in_word s i k w x h hk e =
    let l = bits s in
    let q = part (8 * i) 64 l in
    let room : 8 * i + 64 ≤ length l = rw length_bits (omega arith) in
    let hq : k + w ≤ length q = rw (length_part l (8 * i) 64 room) hk in
    ap (λ (n : ℕ). n / 2 ^ k % 2 ^ w) e ∙ cut_law q k w hq
    ∙ ap value
    (sym (part_left q (drop 64 (drop (8 * i) l)) k w hq) ∙ ap (part k w) (take-append-drop 64 (drop (8 * i) l)) ∙ ap (take w) (drop-drop k (8 * i) l))

-- two numbers joined in one word of 64 bits: the second's bits stand behind the j bits of the first, as many as there is room for
pub joined : (j k a b : ℕ) → j + k ≤ 64 → a < 2 ^ j → field (j + k) (bit_or a (b * 2 ^ j % 2 ^ 64)) ≡ field j a ++ field k b
joined j k a b h ha =
    let i = 64 - j in
    let m = b % 2 ^ i in
    let e : i + j ≡ 64 = omega arith in
    let s : b * 2 ^ j % 2 ^ 64 ≡ m * 2 ^ j =
    ap (λ (n : ℕ). b * 2 ^ j % 2 ^ n) (sym e) ∙ mod-pow-add (b * 2 ^ j) i j
    ∙ ap₂ (λ (x y : ℕ). x % 2 ^ i * 2 ^ j + y) (shl-shr b j) (mul-mod_left b (2 ^ j)) ∙ add-zero (m * 2 ^ j) in
    let f : field k m ≡ field k b =
    sym (take_field k (i - k) m) ∙ ap (λ (n : ℕ). take k (field n m)) (omega arith) ∙ ap (take k) (field_low i b)
    ∙ ap (λ (n : ℕ). take k (field n b)) (omega arith) ∙ take_field k (i - k) b in
    ap (λ (n : ℕ). field (j + k) (bit_or a n)) s ∙ ap (field (j + k)) (or_shifted_r m j a ha) ∙ field_add j k (m * 2 ^ j + a)
    ∙ ap₂ (λ (x y : List Bool). x ++ y) (field_mod j m a) (ap (field k) (high m j ha) ∙ f)

-- and where there is room for all of the second, the word is that small
pub joined_lt : (j k a b : ℕ) → j + k ≤ 64 → a < 2 ^ j → b < 2 ^ k → bit_or a (b * 2 ^ j % 2 ^ 64) < 2 ^ (j + k)
joined_lt j k a b h ha hb =
    let g : k + j ≤ 64 = omega arith in
    let c : k + j ≡ j + k = omega arith in
    let e : bit_or a (b * 2 ^ j % 2 ^ 64) ≡ b * 2 ^ j + a = ap (bit_or a) (shl_exact k j 64 hb g) ∙ or_shifted_r b j a ha in
    subst (λ (n : ℕ). n < 2 ^ (j + k)) (sym e) (subst (λ (n : ℕ). b * 2 ^ j + a < n) (sym (pow-add 2 k j) ∙ ap (λ (n : ℕ). 2 ^ n) c) (digits_lt hb ha))

-- one number more in a word that holds the bits l
pub word_add : (l : List Bool) (j w x b : ℕ) → length l ≡ j → w + j ≤ 64 → x ≡ value l → b < 2 ^ w → bit_or x (b * 2 ^ j % 2 ^ 64) ≡ value (l ++ field w b)
word_add l j w x b h room e hb =
    let hx : x < 2 ^ j = subst (λ (n : ℕ). n < 2 ^ j) (sym e) (subst (λ (n : ℕ). value l < 2 ^ n) h (value_lt l)) in
    ap (bit_or x) (shl_exact w j 64 hb room) ∙ or_shifted_r b j x hx
    ∙ ap₂ (λ (m n : ℕ). m * 2 ^ j + n) (sym (value_field w b ∙ mod-eq_of_lt hb)) e ∙ sym (value_append l (field w b) j h)

-- numbers laid behind numbers, and read behind numbers
pub laid_append : (ws vs f g : List ℕ) → length f ≡ length ws → laid (ws ++ vs) (f ++ g) ≡ laid ws f ++ laid vs g
unfolding laid
laid_append [] vs [] g h = refl
laid_append [] vs (x ∷ f) g h = absurd (omega arith)
laid_append (w ∷ ws) vs [] g h = absurd (omega arith)
laid_append (w ∷ ws) vs (x ∷ f) g h =
    ap (λ (l : List Bool). field w x ++ l) (laid_append ws vs f g (omega arith)) ∙ sym (append_assoc (field w x) (laid ws f) (laid vs g))

pub laid_one : (w x : ℕ) → laid (w ∷ []) (x ∷ []) ≡ field w x
unfolding laid
laid_one w x = append-nil (field w x)

pub numbers_more : (ws : List ℕ) (v : ℕ) (l : List Bool) → numbers (ws ++ (v ∷ [])) l ≡ numbers ws l ++ (value (part (total ws) v l) ∷ [])
unfolding numbers total
numbers_more [] v l = refl
numbers_more (w ∷ ws) v l =
    ap (◌∷◌ (value (take w l)))
    (numbers_more ws v (drop w l) ∙ ap (λ (m : List Bool). numbers ws (drop w l) ++ (value (take v m) ∷ [])) (drop-drop (total ws) w l))

-- numbers fit if each does
pub fits_each : (ws f : List ℕ) → length f ≡ length ws → ((k : ℕ) → k < length ws → get_or f k 0 < 2 ^ get_or ws k 0) → Fits ws f
unfolding Fits
fits_each [] [] h g = tt
fits_each [] (x ∷ f) h g = absurd (omega arith)
fits_each (w ∷ ws) [] h g = absurd (omega arith)
fits_each (w ∷ ws) (x ∷ f) h g = (g 0 (omega arith), fits_each ws f (omega arith) (λ k l. g (suc k) (omega arith)))
