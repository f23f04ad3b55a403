-- What a reader of 01 and of 02, C-12, would ask of `exceeding` and `inconsistent`.
-- Assumes nothing.
use Prim.Native.Nat.{ℕ, zero, suc, ◌+◌, ◌*◌, ◌≤◌, ◌<◌}
use Rattle.std.specs.Prelude.{◌≡◌, ◌⊎◌, ◌↔◌, List, Bool, false, ℤ, pos, negsuc, nat_abs, neg_ℤ, ◌+ℤ◌, ◌-ℤ◌, get_or, replicate, leb, ltb}
use Rattle.std.proofs.Math.Path.{refl, ap}
use Rattle.std.proofs.Common.{sym, ◌∙◌, inl, inr, ltb-true, lt-ltb, le-ltb, arith}
use Rattle.std.proofs.Math.Bool.{true}
use Rattle.std.proofs.Math.IntN.{+ℤ_comm, +ℤ_invr, neg_ℤ-+ℤ, neg_ℤ-neg_ℤ, +ℤ-neg_ℤ_cancel}
use Rattle.std.proofs.lemmas.List.{get_or-replicate}
use Rattle.lists.specs.Tests.{when, true_false}
use Rattle.layout.specs.Layout.{threshold_numbers, frame_indices}
use Rattle.tables.specs.Tables.{Tables, tables_of, at, negative}
use Rattle.consistency.specs.Consistency.{distance, exceeding, entry_place, threshold_place, element_exceeds, flagged, flags, inconsistent, moved, largest, least}

-- the seventh codebook begins at 768
pub seventh : (j e : ℕ) → entry_place 6 j e ≡ 768 + 2 * j + e
seventh j e = refl

-- ---- A FALL COUNTS AS MUCH AS A RISE (02, C-12)
same_size : (d : ℤ) → nat_abs (neg_ℤ d) ≡ nat_abs d
same_size (pos zero) = refl
same_size (pos (suc n)) = refl
same_size (negsuc n) = refl

-- the values turned round are as far apart
pub distance_turned : (a b : ℤ) → distance a b ≡ distance b a
distance_turned a b = ap pos (sym (same_size (b -ℤ a)) ∙ ap nat_abs (neg_ℤ-+ℤ b (neg_ℤ a) ∙ ap (λ (x : ℤ). neg_ℤ b +ℤ x) (neg_ℤ-neg_ℤ a) ∙ +ℤ_comm (neg_ℤ b) a))

pub turned : (t a b : ℤ) → exceeding t a b ≡ exceeding t b a
turned t a b = rw (distance_turned a b)

-- a rise by d and a fall by d, from whatever value, are d apart, so they exceed the same thresholds
pub rise_is : (a d : ℤ) → distance a (a +ℤ d) ≡ pos (nat_abs d)
rise_is a d = ap (λ (x : ℤ). pos (nat_abs x)) (ap (λ (x : ℤ). x -ℤ a) (+ℤ_comm a d) ∙ +ℤ-neg_ℤ_cancel d a)

pub fall_is : (a d : ℤ) → distance a (a -ℤ d) ≡ pos (nat_abs d)
fall_is a d = rise_is a (neg_ℤ d) ∙ ap pos (same_size d)

pub fall_as_rise : (t a d : ℤ) → exceeding t a (a -ℤ d) ≡ exceeding t a (a +ℤ d)
fall_as_rise t a d = rw (fall_is a d, rise_is a d)

-- so both frames of a pair turned round are flagged and inconsistent alike
module _ (tables : Tables) where
  pub flagged_turned : (c i j : ℕ) → flagged tables c i j ≡ flagged tables c j i
  unfolding flagged
  flagged_turned c i j =
      ap (λ (q : Bool). when q true (element_exceeds tables c i j 1)) (of 0) ∙ ap (λ (q : Bool). when (element_exceeds tables c j i 0) true q) (of 1)
    where
      of : (e : ℕ) → element_exceeds tables c i j e ≡ element_exceeds tables c j i e
      of e = turned (at tables.thresholds (threshold_place c e)) (at tables.codebook (entry_place c i e)) (at tables.codebook (entry_place c j e))

  flags_turned : (f g : List ℕ) (n : ℕ) → flags tables f g n ≡ flags tables g f n
  unfolding flags
  flags_turned f g zero = refl
  flags_turned f g (suc c) = rw (flagged_turned c (get_or f c 0) (get_or g c 0), flags_turned f g c)

  pub inconsistent_turned : (f g : List ℕ) → inconsistent tables f g ≡ inconsistent tables g f
  unfolding inconsistent
  inconsistent_turned f g = ap (leb 2) (flags_turned f g frame_indices)

-- ---- against a threshold
-- of a threshold that is not negative: exactly what is further apart
pub exceeds_exactly : (t : ℕ) (a b : ℤ) → (exceeding (pos t) a b ≡ true) ↔ (t < nat_abs (b -ℤ a))
exceeds_exactly t a b = (ltb-true t (nat_abs (b -ℤ a)), lt-ltb t (nat_abs (b -ℤ a)))

-- what did not move passes
pub still_passes : (t : ℕ) (a : ℤ) → exceeding (pos t) a a ≡ false
still_passes t a = ap (λ (x : ℤ). ltb t (nat_abs x)) (+ℤ_invr a) ∙ le-ltb t 0 (omega arith)

-- "A NEGATIVE THRESHOLD THEN FLAGS EVERYTHING", of whichever element it is
pub negative_exceeded : (t a b : ℤ) → negative t ≡ true → exceeding t a b ≡ true
negative_exceeded (pos t) a b e = absurd (omega (arith, ltb-true t 0 e))
negative_exceeded (negsuc t) a b e = refl

either : (p q : Bool) → (p ≡ true) ⊎ (q ≡ true) → when p true q ≡ true
either true q h = refl
either false q (inl e) = absurd (true_false (sym e))
either false q (inr e) = e

which : (p q : Bool) → when p true q ≡ true → (p ≡ true) ⊎ (q ≡ true)
which true q h = inl refl
which false q h = inr h

pub negative_flags : (tables : Tables) (c i j : ℕ)
    → (negative (at tables.thresholds (threshold_place c 0)) ≡ true) ⊎ (negative (at tables.thresholds (threshold_place c 1)) ≡ true) → flagged tables c i j ≡ true
unfolding flagged
negative_flags tables c i j h = either (element_exceeds tables c i j 0) (element_exceeds tables c i j 1) (by h)
  where
    of : (e : ℕ) → negative (at tables.thresholds (threshold_place c e)) ≡ true → element_exceeds tables c i j e ≡ true
    of e = negative_exceeded (at tables.thresholds (threshold_place c e)) (at tables.codebook (entry_place c i e)) (at tables.codebook (entry_place c j e))

    by : (negative (at tables.thresholds (threshold_place c 0)) ≡ true) ⊎ (negative (at tables.thresholds (threshold_place c 1)) ≡ true)
        → (element_exceeds tables c i j 0 ≡ true) ⊎ (element_exceeds tables c i j 1 ≡ true)
    by (inl n) = inl (of 0 n)
    by (inr n) = inr (of 1 n)

-- AN INDEX PAIR IS FLAGGED EXACTLY IF one of its two elements moves by more than its threshold
pub flagged_exactly : (tables : Tables) (c i j s t : ℕ) → at tables.thresholds (threshold_place c 0) ≡ pos s → at tables.thresholds (threshold_place c 1) ≡ pos t
    → (flagged tables c i j ≡ true) ↔ ((s < moved tables c i j 0) ⊎ (t < moved tables c i j 1))
unfolding flagged
flagged_exactly tables c i j s t es et = (
  λ h. shown (which _ _ h),
  λ m. either _ _ (found m),
)
  where
    first : element_exceeds tables c i j 0 ≡ ltb s (moved tables c i j 0)
    first = rw es

    second : element_exceeds tables c i j 1 ≡ ltb t (moved tables c i j 1)
    second = rw et

    shown : (element_exceeds tables c i j 0 ≡ true) ⊎ (element_exceeds tables c i j 1 ≡ true) → (s < moved tables c i j 0) ⊎ (t < moved tables c i j 1)
    shown (inl e) = inl (ltb-true s (moved tables c i j 0) (sym first ∙ e))
    shown (inr e) = inr (ltb-true t (moved tables c i j 1) (sym second ∙ e))

    found : (s < moved tables c i j 0) ⊎ (t < moved tables c i j 1) → (element_exceeds tables c i j 0 ≡ true) ⊎ (element_exceeds tables c i j 1 ≡ true)
    found (inl m) = inl (first ∙ lt-ltb s (moved tables c i j 0) m)
    found (inr m) = inr (second ∙ lt-ltb t (moved tables c i j 1) m)

-- ---- the ends of 32 bits
-- ALL THRESHOLDS AT THEIR LARGEST flag only what exceeds: what moves by 2^31 or more
pub largest_flags : (codebook : List ℤ) (c i j : ℕ) → c < frame_indices → let tables = tables_of codebook (replicate threshold_numbers (pos largest)) in
    (flagged tables c i j ≡ true) ↔ ((largest < moved tables c i j 0) ⊎ (largest < moved tables c i j 1))
largest_flags codebook c i j l = let tables = tables_of codebook (replicate threshold_numbers (pos largest)) in
    flagged_exactly tables c i j largest largest (get_or-replicate threshold_numbers (threshold_place c 0) (pos largest) (pos 0) (omega arith))
    (get_or-replicate threshold_numbers (threshold_place c 1) (pos largest) (pos 0) (omega arith))

-- the exact difference: from the least number to the greatest and back is 2^32 - 1, which no threshold hides
pub exact_rise : (distance least (pos largest) ≡ pos 4294967295) × (exceeding (pos largest) least (pos largest) ≡ true)
exact_rise = (refl, refl)

pub exact_fall : (distance (pos largest) least ≡ pos 4294967295) × (exceeding (pos largest) (pos largest) least ≡ true)
exact_fall = (refl, refl)

-- a difference that equals the threshold does not exceed it, up or down, and one more does
pub equal_passes : (exceeding (pos 5) (pos 1) (pos 6) ≡ false) × (exceeding (pos 5) (pos 6) (pos 1) ≡ false)
equal_passes = (refl, refl)

pub one_more_exceeds : (exceeding (pos 5) (pos 0) (pos 6) ≡ true) × (exceeding (pos 5) (pos 6) (pos 0) ≡ true)
one_more_exceeds = (refl, refl)

-- ---- counting
-- an index pair adds one or nothing, whichever elements exceed
pub counts_once : (t : Tables) (f g : List ℕ) (c : ℕ)
    → flags t f g (suc c) ≡ when (flagged t c (get_or f c 0) (get_or g c 0)) (suc (flags t f g c)) (flags t f g c)
unfolding flags
counts_once t f g c = refl

pub at_most_each : (t : Tables) (f g : List ℕ) (n : ℕ) → flags t f g n ≤ n
unfolding flags
at_most_each t f g zero = omega arith
at_most_each t f g (suc c) = one (flagged t c (get_or f c 0) (get_or g c 0)) (at_most_each t f g c)
  where
    one : (q : Bool) → flags t f g c ≤ c → when q (suc (flags t f g c)) (flags t f g c) ≤ suc c
    one true h = omega arith
    one false h = omega arith
