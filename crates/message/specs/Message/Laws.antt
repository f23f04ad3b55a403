-- Making a message and taking its fields out are each other's inverse, and the common bits are all of it but the counter.
-- Assumes nothing.
use Rattle.std.specs.Prelude.{◌≡◌, refl, true, ℕ, ◌+◌, ◌*◌, ◌/◌, ◌%◌, ◌^◌, ◌<◌}
use Rattle.std.proofs.Common.{sym, ap, ap₂, ◌∙◌, mod-lt, mod-eq_of_lt, lit<, shl_exact}
use Rattle.std.proofs.Math.Nat.{mod-mod}
use native.Mathlib.Omega.{arith}
use Rattle.std.specs.Int.Bits.{bit_and, bit_or, or_shifted_r}
use Rattle.std.proofs.lemmas.Nat.{and_mask}
use Rattle.settings.specs.declared.Settings.{Settings}
use Rattle.settings.specs.Settings.{settings, settings_same, settings_right, rate_right, kind_right}
use Rattle.message.specs.Message.{message, rate_of, type_of, settings_of, count_of, exp_of, common_bits}

pub message_lt : (s : Settings) (c e : ℕ) → message s c e < 2 ^ 16
unfolding message
message_lt s c e = omega arith

pub rate_lt : (m : ℕ) → rate_of m < 4
unfolding rate_of
rate_lt m = omega arith

pub type_lt : (m : ℕ) → type_of m < 2
unfolding type_of
type_lt m = omega arith

pub count_lt : (m : ℕ) → count_of m < 16
unfolding count_of
count_lt m = omega arith

pub exp_lt : (m : ℕ) → exp_of m < 512
unfolding exp_of
exp_lt m = omega arith

-- ---- from fields to a message and back
module _ (s : Settings) (c e : ℕ) where
  pub rate_back : rate_of (message s c e) ≡ s.rate % 4
  unfolding message rate_of
  rate_back = omega arith

  pub type_back : type_of (message s c e) ≡ s.kind % 2
  unfolding message type_of
  type_back = omega arith

  -- settings that fit their fields come back whole
  pub settings_fit_lem : s.rate < 4 → s.kind < 2 → settings_of (message s c e) ≡ s
  settings_fit_lem r t = settings_same (settings_of (message s c e)) s (rate_back ∙ mod-eq_of_lt r) (type_back ∙ mod-eq_of_lt t)

  -- and so do all that may be written
  pub settings_back : settings_right s ≡ true → settings_of (message s c e) ≡ s
  settings_back right = settings_fit_lem (rate_right s right) (kind_right s right)

  pub count_back : count_of (message s c e) ≡ c % 16
  unfolding message count_of
  count_back = omega arith

  pub exp_back : exp_of (message s c e) ≡ e % 512
  unfolding message exp_of
  exp_back = omega arith

sum : (m a b c r t k : ℕ) → m ≡ r + 4 * a → a ≡ t + 2 * b → b ≡ k + 16 * c → r + 4 * t + 8 * k + 128 * c ≡ m
sum m a b c r t k e f g = omega arith

joined : (m : ℕ) → m < 2 ^ 16 → rate_of m + 4 * type_of m + 8 * count_of m + 128 * exp_of m ≡ m
unfolding rate_of type_of count_of exp_of
joined m h =
    let e : m ≡ m % 4 + 4 * (m / 4) = omega arith in
    let f : m / 4 ≡ m / 4 % 2 + 2 * (m / 8) = omega arith in
    let x : m / 128 % 512 ≡ m / 128 = mod-eq_of_lt (omega arith) in
    let g : m / 8 ≡ m / 8 % 16 + 16 * (m / 128 % 512) = rw x (omega arith) in
    sum m (m / 4) (m / 8) (m / 128 % 512) (m % 4) (m / 4 % 2) (m / 8 % 16) e f g

-- fields that are not too large stand side by side
plain : (r t c e : ℕ) → r < 4 → t < 2 → c < 16 → e < 512 → message (settings r t) c e ≡ r + 4 * t + 8 * c + 128 * e
unfolding message
plain r t c e hr ht hc he = rw (mod-eq_of_lt hr, mod-eq_of_lt ht, mod-eq_of_lt hc, mod-eq_of_lt he)

-- ---- from a message to its fields and back
pub message_back : (m : ℕ) → m < 2 ^ 16 → message (settings_of m) (count_of m) (exp_of m) ≡ m
message_back m h =
    plain (rate_of m) (type_of m) (count_of m) (exp_of m) (rate_lt m) (type_lt m) (count_lt m) (exp_lt m) ∙ joined m h

-- ---- common bits
pub common_lt : (m : ℕ) → common_bits m < 2 ^ 16
unfolding common_bits
common_lt m = message_lt (settings_of m) 0 (exp_of m)

pub common_rate : (m : ℕ) → rate_of (common_bits m) ≡ rate_of m
unfolding common_bits
common_rate m = rate_back (settings_of m) 0 (exp_of m) ∙ mod-eq_of_lt (rate_lt m)

pub common_type : (m : ℕ) → type_of (common_bits m) ≡ type_of m
unfolding common_bits
common_type m = type_back (settings_of m) 0 (exp_of m) ∙ mod-eq_of_lt (type_lt m)

pub common_settings : (m : ℕ) → settings_of (common_bits m) ≡ settings_of m
common_settings m = settings_same (settings_of (common_bits m)) (settings_of m) (common_rate m) (common_type m)

pub common_exp : (m : ℕ) → exp_of (common_bits m) ≡ exp_of m
unfolding common_bits
common_exp m = exp_back (settings_of m) 0 (exp_of m) ∙ mod-eq_of_lt (exp_lt m)

-- the common bits are the settings and EXP
pub common_from : (a b : ℕ) → settings_of a ≡ settings_of b → exp_of a ≡ exp_of b → common_bits a ≡ common_bits b
unfolding common_bits
common_from a b s e = ap₂ (λ (t : Settings) (x : ℕ). message t 0 x) s e

pub common_message : (s : Settings) (c e : ℕ) → common_bits (message s c e) ≡ common_bits (message s 0 e)
common_message s c e =
    common_from (message s c e) (message s 0 e)
    (settings_same (settings_of (message s c e)) (settings_of (message s 0 e)) (rate_back s c e ∙ sym (rate_back s 0 e)) (type_back s c e ∙ sym (type_back s 0 e)))
    (exp_back s c e ∙ sym (exp_back s 0 e))

-- a message is its common bits and its counter
pub common_and_count : (a b : ℕ) → a < 2 ^ 16 → b < 2 ^ 16 → common_bits a ≡ common_bits b → count_of a ≡ count_of b → a ≡ b
common_and_count a b ha hb e f =
    let s : settings_of a ≡ settings_of b = sym (common_settings a) ∙ ap settings_of e ∙ common_settings b in
    let x : exp_of a ≡ exp_of b = sym (common_exp a) ∙ ap exp_of e ∙ common_exp b in
    sym (message_back a ha) ∙ ap (λ (t : Settings). message t (count_of a) (exp_of a)) s ∙ ap₂ (message (settings_of b)) f x ∙ message_back b hb

-- ---- what the code computes: masks and shifts
pub rate_masked : (m : ℕ) → bit_and m 3 ≡ rate_of m
unfolding rate_of
rate_masked m = and_mask m 2

pub type_masked : (m : ℕ) → bit_and (m / 4) 1 ≡ type_of m
unfolding type_of
type_masked m = and_mask (m / 4) 1

pub count_masked : (m : ℕ) → bit_and (m / 8) 15 ≡ count_of m
unfolding count_of
count_masked m = and_mask (m / 8) 4

pub exp_shifted : (m : ℕ) → m < 2 ^ 16 → m / 128 ≡ exp_of m
unfolding exp_of
exp_shifted m h = omega arith

-- four fields, each shifted behind the ones before it
pub packed : (s : Settings) (c e : ℕ)
    → bit_or (bit_or (bit_or (bit_and s.rate 3) (bit_and s.kind 1 * 2 ^ 2 % 2 ^ 16)) (bit_and c 15 * 2 ^ 3 % 2 ^ 16)) (bit_and e 511 * 2 ^ 7 % 2 ^ 16)
    ≡ message s c e
unfolding message
packed s c e =
    let r = s.rate in
    let t = s.kind in
    let a = r % 4 in
    let b = t % 2 in
    let d = c % 16 in
    let x = e % 512 in
    let hb : b * 2 ^ 2 % 2 ^ 16 ≡ b * 2 ^ 2 = shl_exact 1 2 16 (mod-lt t (lit< tt)) (omega arith) in
    let hd : d * 2 ^ 3 % 2 ^ 16 ≡ d * 2 ^ 3 = shl_exact 4 3 16 (mod-lt c (lit< tt)) (omega arith) in
    let hx : x * 2 ^ 7 % 2 ^ 16 ≡ x * 2 ^ 7 = shl_exact 9 7 16 (mod-lt e (lit< tt)) (omega arith) in
    rw (and_mask r 2, and_mask t 1, and_mask c 4, and_mask e 9, hb, hd, hx, or_shifted_r b 2 a (mod-lt r (lit< tt)))
    (three a b d x (mod-lt r (lit< tt)) (mod-lt t (lit< tt)) (mod-lt c (lit< tt)))
  where
    three : (a b d x : ℕ) → a < 4 → b < 2 → d < 16 → bit_or (bit_or (b * 2 ^ 2 + a) (d * 2 ^ 3)) (x * 2 ^ 7) ≡ a + 4 * b + 8 * d + 128 * x
    three a b d x ha hb hd =
        let p : b * 2 ^ 2 + a < 2 ^ 3 = omega arith in
        let q : d * 2 ^ 3 + (b * 2 ^ 2 + a) < 2 ^ 7 = omega arith in
        rw (or_shifted_r d 3 (b * 2 ^ 2 + a) p, or_shifted_r x 7 (d * 2 ^ 3 + (b * 2 ^ 2 + a)) q) (omega arith)

low_three : (m : ℕ) → m < 2 ^ 16 → m / 128 * 2 ^ 7 + m % 8 ≡ rate_of m + 4 * type_of m + 8 * 0 + 128 * exp_of m
unfolding rate_of type_of exp_of
low_three m h =
    let e : m % 8 ≡ m % 4 + 4 * (m / 4 % 2) = omega arith in
    let f : m / 128 % 512 ≡ m / 128 = mod-eq_of_lt (omega arith) in
    put (m % 8) (m % 4) (m / 4 % 2) (m / 128) (m / 128 % 512) e f
  where
    put : (a r t x y : ℕ) → a ≡ r + 4 * t → y ≡ x → x * 128 + a ≡ r + 4 * t + 0 + 128 * y
    put a r t x y e f = omega arith

-- the common bits, as the code masks them: the low three and the high nine
pub common_masked : (m : ℕ) → m < 2 ^ 16 → bit_or (bit_and m 7) (m / 128 * 2 ^ 7 % 2 ^ 16) ≡ common_bits m
unfolding common_bits
common_masked m h =
    let s : m / 128 * 2 ^ 7 % 2 ^ 16 ≡ m / 128 * 2 ^ 7 = shl_exact 9 7 16 (omega arith) (omega arith) in
    let l : m % 8 < 2 ^ 7 = omega arith in
    rw (and_mask m 3, s, or_shifted_r (m / 128) 7 (m % 8) l)
    (low_three m h ∙ sym (plain (rate_of m) (type_of m) 0 (exp_of m) (rate_lt m) (type_lt m) (lit< tt) (exp_lt m)))

-- the counter counts modulo 16
pub count_mod : (s : Settings) (c e : ℕ) → message s (c % 16) e ≡ message s c e
unfolding message
count_mod s c e = rw (mod-mod c 16)

-- ---- the messages of 01's examples, as numbers
pub message_counts : (message (settings 0 0) 1 0 ≡ 8) × (message (settings 0 0) 2 0 ≡ 16) × (message (settings 0 0) 3 0 ≡ 24)
unfolding message
message_counts = (refl, refl, refl)

pub message_nothing : message (settings 0 0) 0 0 ≡ 0
unfolding message
message_nothing = refl

pub message_rate_1 : message (settings 1 0) 0 0 ≡ 1
unfolding message
message_rate_1 = refl

pub message_exp_9 : message (settings 0 0) 0 256 ≡ 32768
unfolding message
message_exp_9 = refl
