-- What the laws of finding multiframes say leaves only one answer: the places, how many were tested, and the place of one too many.
-- Assumes nothing.
use Rattle.std.specs.Prelude.{ℕ, ◌+◌, ◌≤◌, ◌<◌, ◌≡◌, refl, ◌⊎◌, List, [], ◌∷◌, Bool, true}
use Rattle.std.proofs.Common.{sym, ap₂, ◌∙◌, subst, inl, inr, arith}
use Rattle.std.proofs.Math.Decide.{dec_lt}
use Rattle.lists.specs.Tests.{true_false}
use Rattle.hunt.specs.Hunt.{multiframe_bits, searched, passes}
use Rattle.gathering.specs.Laws.{Among, Overlapped, Apart}
use Rattle.gathering.specs.Says.{Tested, Beyond}

module _ (l : List Bool) (least : ℕ) where
  -- every place from `at` on that passes is among these, or one of these that stands before it overlaps it
  abbrev pub Takes : ℕ → List ℕ → Type 0
  Takes at ps = (t : ℕ) → at ≤ t → t + multiframe_bits ≤ searched l → passes least l t ≡ true → Among t ps ⊎ Overlapped t ps

  among_later : (ps : List ℕ) (at t : ℕ) → Apart l least at ps → Among t ps → at ≤ t
  among_later [] at t a m = absurd m
  among_later (p ∷ ps) at t a (inl e) = omega (arith, a.0)
  among_later (p ∷ ps) at t a (inr m) = let i = among_later ps (p + multiframe_bits) t a.3 m in omega (arith, a.0)

  over_later : (ps : List ℕ) (at t : ℕ) → Apart l least at ps → Overlapped t ps → at ≤ t
  over_later [] at t a m = absurd m
  over_later (p ∷ ps) at t a (inl e) = omega (arith, a.0, e.0)
  over_later (p ∷ ps) at t a (inr m) = let i = over_later ps (p + multiframe_bits) t a.3 m in omega (arith, a.0)

  first_le : (at t p : ℕ) (ps : List ℕ) → Apart l least at (p ∷ ps) → Among t (p ∷ ps) ⊎ Overlapped t (p ∷ ps) → p ≤ t
  first_le at t p ps a (inl (inl e)) = omega arith
  first_le at t p ps a (inl (inr m)) = let i = among_later ps (p + multiframe_bits) t a.3 m in omega arith
  first_le at t p ps a (inr (inl e)) = omega (arith, e.0)
  first_le at t p ps a (inr (inr m)) = let i = over_later ps (p + multiframe_bits) t a.3 m in omega arith

  behind_first : (t p : ℕ) (ps : List ℕ) → p + multiframe_bits ≤ t → Among t (p ∷ ps) ⊎ Overlapped t (p ∷ ps) → Among t ps ⊎ Overlapped t ps
  behind_first t p ps h (inl (inl e)) = absurd (omega arith)
  behind_first t p ps h (inl (inr m)) = inl m
  behind_first t p ps h (inr (inl e)) = absurd (omega (arith, e.1))
  behind_first t p ps h (inr (inr m)) = inr m

  -- ONLY ONE LIST of places stands apart and takes every place that passes
  pub places_once : (at : ℕ) (ps qs : List ℕ) → Apart l least at ps → Takes at ps → Apart l least at qs → Takes at qs → ps ≡ qs
  places_once at [] [] a f b g = refl
  places_once at [] (q ∷ qs) a f b g = absurd (none (f q b.0 b.1 b.2))
    where
      none : Among q [] ⊎ Overlapped q [] → ⊥
      none (inl m) = m
      none (inr m) = m
  places_once at (p ∷ ps) [] a f b g = absurd (none (g p a.0 a.1 a.2))
    where
      none : Among p [] ⊎ Overlapped p [] → ⊥
      none (inl m) = m
      none (inr m) = m
  places_once at (p ∷ ps) (q ∷ qs) a f b g =
      let le : q ≤ p = first_le at p q qs b (g p a.0 a.1 a.2) in
      let ge : p ≤ q = first_le at q p ps a (f q b.0 b.1 b.2) in
      let e : p ≡ q = omega arith in
      let b' : Apart l least (p + multiframe_bits) qs = subst (λ (x : ℕ). Apart l least (x + multiframe_bits) qs) (sym e) b.3 in
      let rest : ps ≡ qs =
      places_once (p + multiframe_bits) ps qs a.3 (λ t h r y. behind_first t p ps h (f t (omega (arith, a.0)) r y)) b'
      (λ t h r y. behind_first t q qs (omega arith) (g t (omega (arith, a.0)) r y)) in
      ap₂ (λ (x : ℕ) (xs : List ℕ). x ∷ xs) e rest

  -- and one number of places tested
  pub tested_once : (at n k : ℕ) (ps : List ℕ) → Tested l least at n ps → Tested l least at k ps → n ≡ k
  tested_once at n k [] a b = a ∙ sym b
  tested_once at n k (p ∷ ps) a b = omega arith

  -- and 15 has one place
  pub many_once : (k at p q : ℕ) (places : List ℕ) → Beyond l least k at p places → Beyond l least k at q places → p ≡ q
  many_once k at p q places a b = same (dec_lt p q) (dec_lt q p)
    where
      same : Dec (p < q) → Dec (q < p) → p ≡ q
      same (yes h) y = absurd (true_false (sym a.matches ∙ b.first p a.behind h))
      same (no h) (yes i) = absurd (true_false (sym b.matches ∙ a.first q b.behind i))
      same (no h) (no i) = omega arith
