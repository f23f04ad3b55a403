-- What a reader of 01 would ask of `source` and `replaced`.
-- Assumes nothing.
use Prim.Native.Nat.{ℕ, zero, suc, ◌+◌, ◌-◌, ◌*◌, ◌/◌, ◌%◌, ◌≤◌, ◌<◌}
use Rattle.std.specs.Prelude.{◌≡◌, ◌⊎◌, List, [], ◌∷◌, Bool, true, false, not, cond, drop, ltb, eqb}
use Rattle.std.specs.List.{prefix_len}
use Rattle.std.proofs.Math.Path.{refl, ap, sym}
use Rattle.std.proofs.Common.{◌∙◌, inl, inr, length-drop, drop-cons, add-one}
use Rattle.std.proofs.Math.Logic.{⊎_elim}
use Rattle.std.proofs.Math.ListN.{length, get_or}
use Rattle.std.proofs.Math.Seq.{drop-length, ext_get_or, get_or-drop, get_or-take}
use Rattle.std.proofs.Math.Decide.{dec_lt, ℕ_discrete}
use native.Mathlib.Omega.{arith}
use borrow.Author.Tests.{eq-eqb, ne_eqb, lt-ltb, le-ltb, eqb-true, eqb-false}
use Rattle.lists.specs.Tests.{when, by_test}
use Rattle.lists.specs.Parts.{part, length_part}
use Rattle.lists.specs.Rows.{each, length_each, each_at, same_each}
use Rattle.layout.specs.Layout.{frame_indices, pair_of, first_frame}
use Rattle.bad_pairs.specs.Laws.{Good}
use Rattle.replacing.specs.Replacing.{run_start, leading, run_end, frame_before, frame_after, middle_frame, source_by, source, taken, pairs_octets, replaced}
use Rattle.replacing.specs.Laws.{Run}

-- ---- where a run begins and ends
pub run_back : (l : List ℕ) (a : ℕ) → (get_or l a 0 ≡ 0 → ⊥) → run_start l (suc a) ≡ run_start l a
unfolding run_start
run_back l a n = rw (ne_eqb (get_or l a 0) 0 n)

pub run_stop : (l : List ℕ) (a : ℕ) → get_or l a 0 ≡ 0 → run_start l (suc a) ≡ suc a
unfolding run_start
run_stop l a n = rw (eq-eqb (get_or l a 0) 0 n)

pub end_on : (l : List ℕ) (b : ℕ) → b < length l → (get_or l b 0 ≡ 0 → ⊥) → run_end l b ≡ run_end l (b + 1)
unfolding leading
end_on l b h n = rw (drop-cons l b 0 h, ne_eqb (get_or l b 0) 0 n, add-one) (omega arith)

pub end_stop : (l : List ℕ) (b : ℕ) → b < length l → get_or l b 0 ≡ 0 → run_end l b ≡ b
unfolding leading
end_stop l b h n = rw (drop-cons l b 0 h, eq-eqb (get_or l b 0) 0 n) (omega arith)

pub end_last : (l : List ℕ) → run_end l (length l) ≡ length l
unfolding leading
end_last l = rw (drop-length l) (omega arith)

-- the bad notes at the front, as an iterator counts them
pub leading_counted : (l : List ℕ) → prefix_len (λ n. not (eqb n 0)) l ≡ leading l
unfolding leading
leading_counted [] = refl
leading_counted (n ∷ l) = by (eqb n 0) (leading_counted l)
  where
    by : (t : Bool) → prefix_len (λ n. not (eqb n 0)) l ≡ leading l → cond (not t) (1 + prefix_len (λ n. not (eqb n 0)) l) 0 ≡ when t 0 (suc (leading l))
    by true h = refl
    by false h = omega arith

module _ (notes : List ℕ) (a b : ℕ) (run : Run notes a b) where
  first_start : run_start notes a ≡ a
  unfolding run_start
  first_start = ⊎_elim (λ z. ap (run_start notes) z ∙ sym z) (λ g. at a g) run.start
    where
      at : (n : ℕ) → get_or notes (n - 1) 0 ≡ 0 → run_start notes n ≡ n
      at zero g = refl
      at (suc n) g = run_stop notes n (ap (λ (k : ℕ). get_or notes k 0) (omega arith) ∙ g)

  start_after : (d : ℕ) → a + d < b → run_start notes (a + d) ≡ a
  start_after zero h = ap (run_start notes) (omega arith) ∙ first_start
  start_after (suc d) h =
      let e : a + suc d ≡ suc (a + d) = omega arith in
      ap (run_start notes) e ∙ run_back notes (a + d) (run.bad (a + d) (omega arith) (omega arith)) ∙ start_after d (omega arith)

  -- every pair of the run finds its start and its end
  pub start_is : (q : ℕ) → a ≤ q → q < b → run_start notes q ≡ a
  start_is q h k = let e : q ≡ a + (q - a) = omega arith in ap (run_start notes) e ∙ start_after (q - a) (omega arith)

  last_end : run_end notes b ≡ b
  last_end = elim (ℕ_discrete b (length notes)) [ yes z ↦ ap (run_end notes) z ∙ end_last notes ∙ sym z | no n ↦ ⊎_elim (λ z. absurd (n z)) (λ g. end_stop notes b (less b (length notes) run.within n) g) run.stop ]
    where
      less : (x y : ℕ) → x ≤ y → (x ≡ y → ⊥) → x < y
      less x y h n = omega arith

  end_after : (d q : ℕ) → a ≤ q → q + d ≡ b → run_end notes q ≡ b
  end_after zero q h e = let z : q ≡ b = omega arith in ap (run_end notes) z ∙ last_end
  end_after (suc d) q h e =
      end_on notes q (omega (arith, run.within)) (run.bad q h (omega arith)) ∙ end_after d (q + 1) (omega arith) (omega arith)

  pub end_is : (q : ℕ) → a ≤ q → q < b → run_end notes q ≡ b
  end_is q h k = end_after (b - q) q h (omega arith)

  -- ---- a run is replaced as 01 says, for every number of bad pairs and every place
  pub in_run : (i : ℕ) → first_frame a ≤ i → i < first_frame b → source notes i ≡ source_by a b (length notes) i
  unfolding source
  in_run i h k =
      let p : a ≤ pair_of i = omega arith in
      let q : pair_of i < b = omega arith in
      rw (ne_eqb (get_or notes (pair_of i) 0) 0 (run.bad (pair_of i) p q), start_is (pair_of i) p q, end_is (pair_of i) p q)

  -- at the start of an utterance all take the frame after (house)
  pub at_the_start : (i : ℕ) → a ≡ 0 → i < first_frame b → source notes i ≡ frame_after b
  unfolding source_by
  at_the_start i z k = in_run i (omega arith) k ∙ rw (eq-eqb a 0 z)

  -- at the end, the one before (house)
  pub at_the_end : (i : ℕ) → 0 < a → b ≡ length notes → first_frame a ≤ i → i < first_frame b → source notes i ≡ frame_before a
  unfolding source_by
  at_the_end i z e h k = in_run i h k ∙ rw (ne_eqb a 0 (λ y. omega arith), eq-eqb b (length notes) e)

  -- between two good pairs the first B frames become the good frame before, and the last B the good frame after
  pub first_half : (i : ℕ) → 0 < a → b < length notes → first_frame a ≤ i → i < middle_frame a b → source notes i ≡ frame_before a
  unfolding source_by
  first_half i z e h k =
      let s = run.some in
      in_run i h (omega arith) ∙ rw (ne_eqb a 0 (λ y. omega arith), ne_eqb b (length notes) (λ y. omega arith), lt-ltb (i - first_frame a) (b - a) (omega arith))

  pub second_half : (i : ℕ) → 0 < a → b < length notes → middle_frame a b ≤ i → i < first_frame b → source notes i ≡ frame_after b
  unfolding source_by
  second_half i z e h k =
      let s = run.some in
      in_run i (omega arith) k ∙ rw (ne_eqb a 0 (λ y. omega arith), ne_eqb b (length notes) (λ y. omega arith), le-ltb (i - first_frame a) (b - a) (omega arith))

-- a good pair's frames stay
pub good_stays : (notes : List ℕ) (i : ℕ) → get_or notes (pair_of i) 0 ≡ 0 → source notes i ≡ i
unfolding source
good_stays notes i g = rw (eq-eqb (get_or notes (pair_of i) 0) 0 g)

-- ---- every bad pair lies in a run
start_bad : (l : List ℕ) (q p : ℕ) → run_start l q ≤ p → p < q → get_or l p 0 ≡ 0 → ⊥
unfolding run_start
start_bad l zero p h k z = omega arith
start_bad l (suc q) p h k z = by (eqb (get_or l q 0) 0) refl h (λ a b. start_bad l q p a b z)
  where
    by : (t : Bool) → eqb (get_or l q 0) 0 ≡ t → when t (suc q) (run_start l q) ≤ p → (run_start l q ≤ p → p < q → ⊥) → ⊥
    by true e h f = omega arith
    by false e h f =
        elim (ℕ_discrete p q) [
          | yes s ↦ eqb-false (get_or l q 0) 0 e (ap (λ (x : ℕ). get_or l x 0) (sym s) ∙ z)
          | no n ↦ f h (omega arith)
        ]

start_edge : (l : List ℕ) (q : ℕ) → (run_start l q ≡ 0) ⊎ (get_or l (run_start l q - 1) 0 ≡ 0)
unfolding run_start
start_edge l zero = inl refl
start_edge l (suc q) = by (eqb (get_or l q 0) 0) refl (start_edge l q)
  where
    by : (t : Bool) → eqb (get_or l q 0) 0 ≡ t → (run_start l q ≡ 0) ⊎ (get_or l (run_start l q - 1) 0 ≡ 0)
        → (when t (suc q) (run_start l q) ≡ 0) ⊎ (get_or l (when t (suc q) (run_start l q) - 1) 0 ≡ 0)
    by true e f = inr (ap (λ (k : ℕ). get_or l k 0) (omega arith) ∙ eqb-true (get_or l q 0) 0 e)
    by false e f = f

pub start_le : (l : List ℕ) (q : ℕ) → run_start l q ≤ q
unfolding run_start
start_le l zero = omega arith
start_le l (suc q) = by (eqb (get_or l q 0) 0) (start_le l q)
  where
    by : (t : Bool) → run_start l q ≤ q → when t (suc q) (run_start l q) ≤ suc q
    by true h = omega arith
    by false h = omega arith

leading_le : (l : List ℕ) → leading l ≤ length l
unfolding leading
leading_le [] = omega arith
leading_le (n ∷ l) = by (eqb n 0) (leading_le l)
  where
    by : (t : Bool) → leading l ≤ length l → when t 0 (suc (leading l)) ≤ suc (length l)
    by true h = omega arith
    by false h = omega arith

leading_bad : (l : List ℕ) (k : ℕ) → k < leading l → get_or l k 0 ≡ 0 → ⊥
unfolding leading
leading_bad [] k h z = omega arith
leading_bad (n ∷ l) k h z = by (eqb n 0) refl k h z (λ j a b. leading_bad l j a b)
  where
    by : (t : Bool) → eqb n 0 ≡ t → (k : ℕ) → k < when t 0 (suc (leading l)) → get_or (n ∷ l) k 0 ≡ 0 → ((j : ℕ) → j < leading l → get_or l j 0 ≡ 0 → ⊥) → ⊥
    by true e k h z f = omega arith
    by false e zero h z f = eqb-false n 0 e z
    by false e (suc k) h z f = f k (omega arith) z

leading_edge : (l : List ℕ) → (leading l ≡ length l) ⊎ (get_or l (leading l) 0 ≡ 0)
unfolding leading
leading_edge [] = inl refl
leading_edge (n ∷ l) = by (eqb n 0) refl (leading_edge l)
  where
    by : (t : Bool) → eqb n 0 ≡ t → (leading l ≡ length l) ⊎ (get_or l (leading l) 0 ≡ 0)
        → (when t 0 (suc (leading l)) ≡ suc (length l)) ⊎ (get_or (n ∷ l) (when t 0 (suc (leading l))) 0 ≡ 0)
    by true e f = inr (eqb-true n 0 e)
    by false e f = ⊎_elim (λ a. inl (ap suc a)) (λ b. inr b) f

module _ (notes : List ℕ) (q : ℕ) (within : q < length notes) (isBad : get_or notes q 0 ≡ 0 → ⊥) where
  pub end_gt : q < run_end notes q
  end_gt = omega (arith, end_on notes q within isBad)

  pub end_le : run_end notes q ≤ length notes
  end_le = omega (arith, leading_le (drop q notes), length-drop q notes)

  later_bad : (p : ℕ) → q ≤ p → p < run_end notes q → get_or notes p 0 ≡ 0 → ⊥
  later_bad p h k z =
      let e : q + (p - q) ≡ p = omega arith in
      leading_bad (drop q notes) (p - q) (omega arith) (get_or-drop q notes (p - q) 0 ∙ ap (λ (i : ℕ). get_or notes i 0) e ∙ z)

  pub run_of : Run notes (run_start notes q) (run_end notes q)
  run_of =
      record {
        some = omega (arith, start_le notes q, end_gt);
        within = end_le;
        bad = λ p h k z. elim (dec_lt p q) [ yes y ↦ start_bad notes q p h y z | no n ↦ later_bad p (omega arith) k z ];
        start = start_edge notes q;
        stop = ⊎_elim (λ e. inl (omega (arith, e, length-drop q notes))) (λ e. inr (sym (get_or-drop q notes (leading (drop q notes)) 0) ∙ e)) (leading_edge (drop q notes));
      }

-- ---- every frame's stand-in is a frame of a good pair, if one pair is good
module _ (notes : List ℕ) (g : Good notes) where
  abbrev OfGood : ℕ → Type 0
  OfGood s = (pair_of s < length notes) × (get_or notes (pair_of s) 0 ≡ 0)

  module _ (a b : ℕ) (run : Run notes a b) where
    -- a run is never the whole utterance
    pub not_all_bad : a ≡ 0 → b < length notes
    not_all_bad z = elim (dec_lt b (length notes)) [ yes y ↦ y | no n ↦ absurd (run.bad g.pair (omega arith) (omega (arith, g.within)) g.good) ]

    after_good : b < length notes → OfGood (frame_after b)
    after_good h =
        let e : pair_of (first_frame b) ≡ b = omega arith in
        (omega arith, ⊎_elim (λ z. absurd (omega (arith, z))) (λ y. ap (λ (k : ℕ). get_or notes k 0) e ∙ y) run.stop)

    before_good : 0 < a → OfGood (frame_before a)
    before_good h =
        let s = run.some in
        let w = run.within in
        let e : pair_of (first_frame a - 1) ≡ a - 1 = omega arith in
        (omega arith, ⊎_elim (λ z. absurd (omega (arith, z))) (λ y. ap (λ (k : ℕ). get_or notes k 0) e ∙ y) run.start)

    by_good : (i : ℕ) → OfGood (source_by a b (length notes) i)
    unfolding source_by
    by_good i =
        by_test OfGood (eqb a 0) (λ z. after_good (not_all_bad (eqb-true a 0 z))) (λ z.
        let p : 0 < a = pos a (eqb-false a 0 z) in
        by_test OfGood (eqb b (length notes)) (λ e. before_good p) (λ e.
        let w : b < length notes = less b (length notes) run.within (eqb-false b (length notes) e) in
        by_test OfGood (ltb (i - first_frame a) (b - a)) (λ _. before_good p) (λ _. after_good w)))
      where
        pos : (x : ℕ) → (x ≡ 0 → ⊥) → 0 < x
        pos x h = omega arith

        less : (x y : ℕ) → x ≤ y → (x ≡ y → ⊥) → x < y
        less x y h n = omega arith

  pub good_source : (i : ℕ) → pair_of i < length notes → (pair_of (source notes i) < length notes) × (get_or notes (pair_of (source notes i)) 0 ≡ 0)
  unfolding source
  good_source i h =
      by_test OfGood (eqb (get_or notes (pair_of i) 0) 0) (λ z. (h, eqb-true (get_or notes (pair_of i) 0) 0 z)) (λ z.
      by_good (run_start notes (pair_of i)) (run_end notes (pair_of i)) (run_of notes (pair_of i) h (eqb-false (get_or notes (pair_of i) 0) 0 z)) i)

  -- ---- the octets after replacing

  -- what stood at the places of bad pairs does not matter
  pub same_replaced : (l m : List ℕ) → ((t : ℕ) → t < pairs_octets (length notes) → get_or notes (pair_of (t / frame_indices)) 0 ≡ 0 → get_or l t 0 ≡ get_or m t 0)
      → replaced notes l ≡ replaced notes m
  unfolding replaced
  same_replaced l m agree =
      same_each (λ t. get_or l (taken notes t) 0) (λ t. get_or m (taken notes t) 0) (pairs_octets (length notes)) (λ t h.
      let s = good_source (t / frame_indices) (omega arith) in
      let e : taken notes t / frame_indices ≡ source notes (t / frame_indices) = omega arith in
      agree (taken notes t) (omega arith) (ap (λ (k : ℕ). get_or notes (pair_of k) 0) e ∙ s.1))

  -- each frame after replacing is the frame that stands in for it
  pub frame_replaced : (l : List ℕ) (i : ℕ) → pairs_octets (length notes) ≤ length l → pair_of i < length notes
      → part (frame_indices * i) frame_indices (replaced notes l) ≡ part (frame_indices * source notes i) frame_indices l
  unfolding replaced
  frame_replaced l i room h =
      let f : ℕ → ℕ = λ t. get_or l (taken notes t) 0 in
      let n = pairs_octets (length notes) in
      let s = good_source i h in
      let la : length (part (frame_indices * i) frame_indices (each f n)) ≡ frame_indices = length_part (each f n) (frame_indices * i) frame_indices (omega (arith, length_each f n)) in
      let lb : length (part (frame_indices * source notes i) frame_indices l) ≡ frame_indices = length_part l (frame_indices * source notes i) frame_indices (omega (arith, s.0)) in
      ext_get_or 0 (part (frame_indices * i) frame_indices (each f n)) (part (frame_indices * source notes i) frame_indices l) (la ∙ sym lb) (λ k z.
      let d : (frame_indices * i + k) / frame_indices ≡ i = omega (arith, la) in
      let r : (frame_indices * i + k) % frame_indices ≡ k = omega (arith, la) in
      get_or-take frame_indices (drop (frame_indices * i) (each f n)) k 0 (omega (arith, la)) ∙ get_or-drop (frame_indices * i) (each f n) k 0 ∙ each_at f n (frame_indices * i + k) 0 (omega (arith, la))
      ∙ ap (λ (j : ℕ). get_or l (frame_indices * source notes j + (frame_indices * i + k) % frame_indices) 0) d ∙ ap (λ (j : ℕ). get_or l (frame_indices * source notes i + j) 0) r
      ∙ sym (get_or-drop (frame_indices * source notes i) l k 0) ∙ sym (get_or-take frame_indices (drop (frame_indices * source notes i) l) k 0 (omega (arith, la))))

  -- a good pair's frames stand at their places as they stood
  pub good_kept : (l : List ℕ) (i : ℕ) → pairs_octets (length notes) ≤ length l → pair_of i < length notes → get_or notes (pair_of i) 0 ≡ 0
      → part (frame_indices * i) frame_indices (replaced notes l) ≡ part (frame_indices * i) frame_indices l
  good_kept l i room h z = frame_replaced l i room h ∙ ap (λ (k : ℕ). part (frame_indices * k) frame_indices l) (good_stays notes i z)

pub replaced_length : (notes l : List ℕ) → length (replaced notes l) ≡ pairs_octets (length notes)
unfolding replaced
replaced_length notes l = length_each (λ t. get_or l (taken notes t) 0) (pairs_octets (length notes))

pub replaced_at : (notes l : List ℕ) (t : ℕ) → t < pairs_octets (length notes) → get_or (replaced notes l) t 0 ≡ get_or l (taken notes t) 0
unfolding replaced
replaced_at notes l t h = each_at (λ t. get_or l (taken notes t) 0) (pairs_octets (length notes)) t 0 h
