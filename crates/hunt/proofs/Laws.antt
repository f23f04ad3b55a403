-- What a reader of 02 would ask of the hunt: the place found is the smallest that passes, it is refused exactly if there is none, and so
-- many places are tested.
-- Assumes nothing.
use Prim.Native.Nat.{ℕ, zero, suc, ◌+◌, ◌-◌, ◌*◌, ◌^◌, ◌≤◌, ◌<◌}
use Rattle.std.specs.Prelude.{◌≡◌, Bool, List, ◌↔◌, length, ltb, leb, Err, Ok}
use Rattle.std.proofs.Math.Path.{refl, ap}
use Rattle.std.proofs.Common.{sym, ap₂, ◌∙◌, subst, le-leb, leb-true, le-ltb, ltb-true, ltb-false}
use Rattle.std.proofs.Math.Bool.{true, false}
use native.Mathlib.Omega.{arith}
use Rattle.std.proofs.Math.Decide.{dec_lt}
use Rattle.bits.specs.Bits.{bits}
use Rattle.bits.proofs.Laws.{length_bits}
use Rattle.lists.specs.Tests.{when, both, by_test, true_false}
use Rattle.hunt.specs.Laws.{Says}
use Rattle.hunt.specs.Hunt.{multiframe_bits, in_range, passes, places_left, searched, misses, found, hunted_from, hunted}
use Rattle.hunt.specs.Types.{Hunted, found_at}
use Rattle.refusals.specs.declared.Hunt.TheVariants.{MatchRange, Nowhere}

-- T may be what 02 says: 12 to 16
pub range_says : (least : ℕ) → in_range least ≡ true → (12 ≤ least) × (least ≤ 16)
unfolding in_range
range_says least e = by (leb 12 least) (leb least 16) refl refl e
  where
    by : (a b : Bool) → leb 12 least ≡ a → leb least 16 ≡ b → both a b ≡ true → (12 ≤ least) × (least ≤ 16)
    by true true f g e = (leb-true 12 least f, leb-true least 16 g)
    by true false f g e = absurd (true_false (sym e))
    by false b f g e = absurd (true_false (sym e))

pub in_range_lem : (least : ℕ) → 12 ≤ least → least ≤ 16 → in_range least ≡ true
unfolding in_range
in_range_lem least h k = rw (le-leb 12 least h, le-leb least 16 k)

-- ---- the bits searched are there, and their number fits 64 bits
pub searched_le : (l : List Bool) → searched l ≤ length l
searched_le l = by_test (λ (k : ℕ). k ≤ length l) (ltb (2 ^ 64 - 8) (length l)) (λ h. let i = ltb-true (2 ^ 64 - 8) (length l) h in omega arith) (λ h. omega arith)

pub searched_lt : (l : List Bool) → searched l ≤ 2 ^ 64 - 8
searched_lt l = by_test (λ (k : ℕ). k ≤ 2 ^ 64 - 8) (ltb (2 ^ 64 - 8) (length l)) (λ h. omega arith) (λ h. let i = ltb-false (2 ^ 64 - 8) (length l) h in omega arith)

-- and all are, unless there are more
pub searched_all : (l : List Bool) → length l ≤ 2 ^ 64 - 8 → searched l ≡ length l
searched_all l h = rw (le-ltb (2 ^ 64 - 8) (length l) h)

-- said by the width alone: all bits of octets whose number of bits fits 64 bits
pub searched_whole : (s : List ℕ) → 8 * length s < 2 ^ 64 → searched (bits s) ≡ 8 * length s
searched_whole s h = searched_all (bits s) (omega (arith, length_bits s)) ∙ omega (arith, length_bits s)

-- ---- misses
module _ (test : ℕ → Bool) where
  pub misses_none : (t : ℕ) → misses test 0 t ≡ 0
  unfolding misses
  misses_none t = refl

  pub misses_hit : (n t : ℕ) → 0 < n → test t ≡ true → misses test n t ≡ 0
  unfolding misses
  misses_hit zero t h e = absurd (omega arith)
  misses_hit (suc n) t h e = rw e

  pub misses_on : (n t : ℕ) → 0 < n → test t ≡ false → misses test n t ≡ suc (misses test (n - 1) (t + 1))
  unfolding misses
  misses_on zero t h e = absurd (omega arith)
  misses_on (suc n) t h e = let z : suc n - 1 ≡ n = omega arith in rw (e, z)

  pub misses_le : (n t : ℕ) → misses test n t ≤ n
  unfolding misses
  misses_le zero t = omega arith
  misses_le (suc n) t =
      by_test (λ (k : ℕ). k ≤ suc n) (test t) (λ h. omega arith) (λ h. let i = misses_le n (t + 1) in omega arith)

  -- a miss is a place that fails the test
  pub misses_fail : (n t k : ℕ) → k < misses test n t → test (t + k) ≡ false
  unfolding misses
  misses_fail zero t k h = absurd (omega arith)
  misses_fail (suc n) t k h = from (test t) refl (λ j l. misses_fail n (t + 1) j l) k h
    where
      from : (b : Bool) → test t ≡ b → ((j : ℕ) → j < misses test n (t + 1) → test (t + 1 + j) ≡ false)
          → (k : ℕ) → k < when b 0 (suc (misses test n (t + 1))) → test (t + k) ≡ false
      from true e next k l = absurd (omega arith)
      from false e next zero l = let z : t + 0 ≡ t = omega arith in ap test z ∙ e
      from false e next (suc j) l = let z : t + 1 + j ≡ t + suc j = omega arith in ap test (sym z) ∙ next j (omega arith)

  -- and behind the misses, if there are fewer than places, stands one that passes it
  pub misses_pass : (n t : ℕ) → misses test n t < n → test (t + misses test n t) ≡ true
  unfolding misses
  misses_pass zero t h = absurd (omega arith)
  misses_pass (suc n) t h = from (test t) refl (λ l. misses_pass n (t + 1) l) h
    where
      from : (b : Bool) → test t ≡ b → (misses test n (t + 1) < n → test (t + 1 + misses test n (t + 1)) ≡ true)
          → when b 0 (suc (misses test n (t + 1))) < suc n → test (t + when b 0 (suc (misses test n (t + 1)))) ≡ true
      from true e next l = let z : t + 0 ≡ t = omega arith in ap test z ∙ e
      from false e next l =
          let z : t + 1 + misses test n (t + 1) ≡ t + suc (misses test n (t + 1)) = omega arith in
          ap test (sym z) ∙ next (omega arith)

-- ---- the hunt

pub says : (least : ℕ) (l : List Bool) (from : ℕ) → Says least l from (hunted_from l from least)
unfolding found
says least l from =
    let n = places_left l from in
    let k = misses (passes least l) n from in
    let w : k ≤ n = misses_le (passes least l) n from in
    let failed : (t : ℕ) → from ≤ t → t < from + k → passes least l t ≡ false =
    λ t h i. let e : from + (t - from) ≡ t = omega arith in subst (λ (j : ℕ). passes least l j ≡ false) e (misses_fail (passes least l) n from (t - from) (omega arith)) in
    by_test (Says least l from) (ltb k n)
    (λ h. let less = ltb-true k n h in (omega arith, omega arith, misses_pass (passes least l) n from less, failed, omega arith))
    (λ h. let all = ltb-false k n h in (refl, λ t i j. failed t i (omega arith), refl))

-- and only one answer says so
pub once : (least : ℕ) (l : List Bool) (from : ℕ) (r s : Hunted) → Says least l from r → Says least l from s → r ≡ s
once least l from (Ok w) (Ok v) a b =
    let e : w.place ≡ v.place = same (dec_lt w.place v.place) (dec_lt v.place w.place) in
    let f : w.tested ≡ v.tested = a.4 ∙ ap (λ (x : ℕ). suc x - from) e ∙ sym b.4 in
    ap₂ found_at e f
  where
    same : Dec (w.place < v.place) → Dec (v.place < w.place) → w.place ≡ v.place
    same (yes h) y = absurd (true_false (sym a.2 ∙ b.3 w.place a.0 h))
    same (no h) (yes i) = absurd (true_false (sym b.2 ∙ a.3 v.place b.0 i))
    same (no h) (no i) = omega arith
once least l from (Ok w) (Err (Nowhere f m)) a b = absurd (true_false (sym a.2 ∙ b.1 w.place a.0 a.1))
once least l from (Ok w) (Err (MatchRange t)) a b = absurd b
once least l from (Err (Nowhere f m)) (Ok w) a b = absurd (true_false (sym b.2 ∙ a.1 w.place b.0 b.1))
once least l from (Err (Nowhere f m)) (Err (Nowhere g n)) a b = ap₂ (λ (x y : ℕ). Err (Nowhere x y)) (a.0 ∙ sym b.0) (a.2 ∙ sym b.2)
once least l from (Err (Nowhere f m)) (Err (MatchRange t)) a b = absurd b
once least l from (Err (MatchRange t)) s a b = absurd a

-- 22 EXACTLY IF NO PLACE PASSES, and then all places were tested
pub nowhere_exactly : (least : ℕ) (l : List Bool) (from : ℕ)
    → (hunted_from l from least ≡ Err (Nowhere from (places_left l from))) ↔ ((t : ℕ) → from ≤ t → t + multiframe_bits ≤ searched l → passes least l t ≡ false)
nowhere_exactly least l from = (
  λ e t h i. (subst (Says least l from) e (says least l from)).1 t h i,
  λ none. once least l from (hunted_from l from least) (Err (Nowhere from (places_left l from))) (says least l from) (refl, none, refl),
)

-- 21 EXACTLY IF T IS OUTSIDE ITS RANGE, and else the hunt is what was said above
pub range_exactly : (s : List ℕ) (from least : ℕ) → (hunted s from least ≡ Err (MatchRange least)) ↔ (in_range least ≡ false)
unfolding hunted
range_exactly s from least = (by (in_range least) refl, λ e. rw e)
  where
    other : (h : Hunted) → Says least (bits s) from h → h ≡ Err (MatchRange least) → ⊥
    other h a e = subst (Says least (bits s) from) e a

    by : (b : Bool) → in_range least ≡ b → when b (hunted_from (bits s) from least) (Err (MatchRange least)) ≡ Err (MatchRange least) → b ≡ false
    by true r e = absurd (other (hunted_from (bits s) from least) (says least (bits s) from) e)
    by false r e = refl

pub hunts : (s : List ℕ) (from least : ℕ) → in_range least ≡ true → hunted s from least ≡ hunted_from (bits s) from least
unfolding hunted
hunts s from least e = rw e
