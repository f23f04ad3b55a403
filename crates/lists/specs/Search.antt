-- The first place at which a test holds: what a search over places finds, what that says, and how far a loop has got in it.
-- Assumes nothing.
use Rattle.std.specs.Prelude.{◌≡◌, refl, Bool, true, false}
use Rattle.std.proofs.Common.{sym, ◌∙◌, subst}
use Rattle.std.proofs.Math.Path.{ap}
use Prim.Native.Nat.{ℕ, zero, suc, ◌+◌, ◌-◌, ◌≤◌, ◌<◌}
use Rattle.std.proofs.Math.Decide.{ℕ_discrete, dec_lt}
use native.Mathlib.Omega.{arith}
use Rattle.lists.specs.Tests.{when, by_test, true_false}

pub data Search : Type 0 where
  at : ℕ → Search
  nowhere : Search

-- among the n places from k on
unfoldable pub first_from : (ℕ → Bool) → ℕ → ℕ → Search
first_from f k zero = nowhere
first_from f k (suc n) = when (f k) (at k) (first_from f (k + 1) n)

abbrev pub is_found : Search → Bool
is_found (at k) = true
is_found nowhere = false

-- ---- what a search says
abbrev pub Says : (ℕ → Bool) → ℕ → ℕ → Search → Type 0
Says f k n (at j) = (k ≤ j) × (j < k + n) × (f j ≡ true) × ((i : ℕ) → k ≤ i → i < j → f i ≡ false)
Says f k n nowhere = (i : ℕ) → k ≤ i → i < k + n → f i ≡ false

one_more : (f : ℕ → Bool) (k n : ℕ) (s : Search) → f k ≡ false → Says f (k + 1) n s → Says f k (suc n) s
one_more f k n (at j) e h =
    (omega (arith, h.0), omega (arith, h.1), h.2, λ i a b. elim (ℕ_discrete i k) [ yes p ↦ ap f p ∙ e | no d ↦ h.3 i (omega arith) b ])
one_more f k n nowhere e h = λ i a b. elim (ℕ_discrete i k) [ yes p ↦ ap f p ∙ e | no d ↦ h i (omega arith) (omega arith) ]

-- the first place from k on at which the test holds, and nowhere exactly if it holds at none of the n
pub first_says : (f : ℕ → Bool) (k n : ℕ) → Says f k n (first_from f k n)
unfolding first_from
first_says f k zero = λ i a b. absurd (omega arith)
first_says f k (suc n) =
    by_test (Says f k (suc n)) (f k) (λ e. (omega arith, omega arith, e, λ i a b. absurd (omega arith))) (λ e. one_more f k n (first_from f (k + 1) n) e (first_says f (k + 1) n))

pub first_nowhere : (f : ℕ → Bool) (k n : ℕ) → first_from f k n ≡ nowhere → (i : ℕ) → k ≤ i → i < k + n → f i ≡ false
first_nowhere f k n e = subst (Says f k n) e (first_says f k n)

-- only one answer so says
says_once : (f : ℕ → Bool) (k n : ℕ) (s t : Search) → Says f k n s → Says f k n t → s ≡ t
says_once f k n (at i) (at j) g h =
    elim (ℕ_discrete i j) [
      | yes e ↦ ap at e
      | no d ↦ elim (dec_lt i j) [
        | yes l ↦ absurd (true_false (sym g.2 ∙ h.3 i g.0 l))
        | no m ↦ absurd (true_false (sym h.2 ∙ g.3 j h.0 (omega arith)))
      ]
    ]
says_once f k n (at i) nowhere g h = absurd (true_false (sym g.2 ∙ h i g.0 g.1))
says_once f k n nowhere (at j) g h = absurd (true_false (sym h.2 ∙ g j h.0 h.1))
says_once f k n nowhere nowhere g h = refl

-- so a search finds what so says
pub says_is : (f : ℕ → Bool) (k n : ℕ) (s : Search) → Says f k n s → first_from f k n ≡ s
says_is f k n s h = says_once f k n (first_from f k n) s (first_says f k n) h

-- ---- a search that has passed i of n places
module _ (f : ℕ → Bool) (k n i : ℕ) where
  -- so far nothing: what the whole finds is what the rest finds
  abbrev pub Passed : Type 0
  Passed = (i ≤ n) × (first_from f k n ≡ first_from f (k + i) (n - i))

  ahead : i < n → first_from f (k + i) (n - i) ≡ when (f (k + i)) (at (k + i)) (first_from f (k + i + 1) (n - (i + 1)))
  unfolding first_from
  ahead h = let e : n - i ≡ suc (n - (i + 1)) = omega arith in ap (first_from f (k + i)) e

  pub search_hit : Passed → i < n → f (k + i) ≡ true → first_from f k n ≡ at (k + i)
  search_hit p h t = p.1 ∙ ahead h ∙ rw t

pub search_begin : (f : ℕ → Bool) (k n : ℕ) → Passed f k n 0
search_begin f k n = let e : k + 0 ≡ k = omega arith in let g : n - 0 ≡ n = omega arith in (omega arith, sym (ap (λ (x : ℕ). first_from f x (n - 0)) e ∙ ap (first_from f k) g))

pub search_on : (f : ℕ → Bool) (k n i : ℕ) → Passed f k n i → i < n → f (k + i) ≡ false → Passed f k n (i + 1)
search_on f k n i p h t =
    let e : k + i + 1 ≡ k + (i + 1) = omega arith in
    (omega arith, p.1 ∙ ahead f k n i h ∙ rw t (ap (λ (x : ℕ). first_from f x (n - (i + 1))) e))

pub search_end : (f : ℕ → Bool) (k n i : ℕ) → Passed f k n i → n ≤ i → first_from f k n ≡ nowhere
unfolding first_from
search_end f k n i p h = let e : n - i ≡ 0 = omega arith in p.1 ∙ ap (first_from f (k + i)) e

-- ---- a search from 0 on by a loop whose test of place k answered r
module _ (f : ℕ → Bool) (n k : ℕ) (p : Passed f 0 n k) (r : Bool) (e : r ≡ f k) where
  z : 0 + k ≡ k
  z = omega arith

  pub hit : k < n → r ≡ true → first_from f 0 n ≡ at k
  hit h t = search_hit f 0 n k p h (ap f z ∙ sym e ∙ t) ∙ ap at z

  pub on : k < n → r ≡ false → Passed f 0 n (k + 1)
  on h t = search_on f 0 n k p h (ap f z ∙ sym e ∙ t)
