-- Lists made element by element and part by part: what stands at each place of them.
-- Assumes nothing.
use Rattle.std.specs.Prelude.{◌≡◌, refl, List, [], ◌∷◌, ◌++◌, ℕ, zero, suc, ◌+◌, ◌*◌, ◌≤◌, ◌<◌, length, get_or, set}
use Rattle.std.proofs.Common.{sym, ap, ap₂, ◌∙◌, append_assoc, append-nil, add-zero, add-suc, mul-zero, mul-suc, mul-le-mul_left, le_of_eq, arith, length-append, get_or-append-add, take_all, add-one}
use Rattle.std.proofs.Math.Decide.{dec_lt}
use Rattle.std.proofs.Math.ListN.{get_or-append}
use Rattle.lists.specs.Parts.{part, over, set_over, behind, part_left, part_right}

-- f at 0, 1, .., n of them
abbrev pub each : {A : Type 0} → (ℕ → A) → ℕ → List A
each f zero = []
each f (suc n) = each f n ++ (f n ∷ [])

-- and lists, one behind the other
abbrev pub joined : {A : Type 0} → (ℕ → List A) → ℕ → List A
joined f zero = []
joined f (suc n) = joined f n ++ f n

module _ {A : Type 0} (f : ℕ → A) where
  pub length_each : (n : ℕ) → length (each f n) ≡ n
  length_each zero = refl
  length_each (suc n) = length-append (each f n) (f n ∷ []) ∙ ap (λ (k : ℕ). k + 1) (length_each n) ∙ omega arith

  pub each_at : (n k : ℕ) (d : A) → k < n → get_or (each f n) k d ≡ f k
  each_at zero k d h = absurd (omega arith)
  each_at (suc n) k d h =
      elim (dec_lt k n) [
        | yes y ↦ get_or-append (each f n) (f n ∷ []) d k (omega (arith, length_each n)) ∙ each_at n k d y
        | no y ↦
            let e : k ≡ length (each f n) + 0 = omega (arith, length_each n) in
            ap (λ (i : ℕ). get_or (each f n ++ (f n ∷ [])) i d) e ∙ get_or-append-add (each f n) (f n ∷ []) 0 d ∙ ap f (omega (arith, length_each n))
      ]

pub same_each : {A : Type 0} (f g : ℕ → A) (n : ℕ) → ((k : ℕ) → k < n → f k ≡ g k) → each f n ≡ each g n
same_each f g zero h = refl
same_each {A} f g (suc n) h = ap₂ (λ (l : List A) (x : A). l ++ (x ∷ [])) (same_each f g n (λ k i. h k (omega arith))) (h n (omega arith))

pub same_joined : {A : Type 0} (f g : ℕ → List A) (n : ℕ) → ((k : ℕ) → k < n → f k ≡ g k) → joined f n ≡ joined g n
same_joined f g zero h = refl
same_joined {A} f g (suc n) h = ap₂ (λ (l m : List A). l ++ m) (same_joined f g n (λ k i. h k (omega arith))) (h n (omega arith))

-- lists of one length w
module _ {A : Type 0} (f : ℕ → List A) (w : ℕ) where
  pub length_joined : (n : ℕ) → ((k : ℕ) → k < n → length (f k) ≡ w) → length (joined f n) ≡ w * n
  length_joined zero h = sym (mul-zero w)
  length_joined (suc n) h =
      length-append (joined f n) (f n) ∙ ap₂ (λ (a b : ℕ). a + b) (length_joined n (λ k i. h k (omega arith))) (h n (omega arith)) ∙ sym (mul-suc w n)

  -- part k of them is list k
  pub joined_part : (n k : ℕ) → ((i : ℕ) → i < n → length (f i) ≡ w) → k < n → part (w * k) w (joined f n) ≡ f k
  joined_part zero k h i = absurd (omega arith)
  joined_part (suc n) k h i =
      let size = length_joined n (λ j y. h j (omega arith)) in
      elim (dec_lt k n) [
        | yes y ↦
            let m : w * suc k ≤ w * n = mul-le-mul_left w (omega arith) in
            let r : w * k + w ≤ length (joined f n) = omega (arith, size, mul-suc w k) in
            part_left (joined f n) (f n) (w * k) w r ∙ joined_part n k (λ j z. h j (omega arith)) y
        | no y ↦
            let e : k ≡ n = omega arith in
            ap (λ (j : ℕ). part (w * j) w (joined f n ++ f n)) e ∙ part_right (joined f n) (f n) (w * n) w size
            ∙ take_all w (f n) (le_of_eq (h n (omega arith))) ∙ ap f (sym e)
      ]

-- n of them and m more
pub each_add : {A : Type 0} (f : ℕ → A) (n m : ℕ) → each f (n + m) ≡ each f n ++ each (λ k. f (n + k)) m
each_add f n zero = rw add-zero (sym (append-nil (each f n)))
each_add f n (suc m) = rw (add-suc, each_add f n m) (append_assoc (each f n) (each (λ k. f (n + k)) m) (f (n + m) ∷ []))

pub joined_add : {A : Type 0} (f : ℕ → List A) (n m : ℕ) → joined f (n + m) ≡ joined f n ++ joined (λ k. f (n + k)) m
joined_add f n zero = rw add-zero (sym (append-nil (joined f n)))
joined_add f n (suc m) = rw (add-suc, joined_add f n m) (append_assoc (joined f n) (joined (λ k. f (n + k)) m) (f (n + m)))

-- ---- how a loop that stores makes such a list in another from place at on, one element or one part a turn
module _ {A : Type 0} (l m : List A) (at k : ℕ) where
  pub each_on : (f : ℕ → A) (x : A) → at + k < length l → x ≡ f k → length m ≡ length l → m ≡ over l at k (each f k)
      → set m (at + k) x ≡ over l at (k + 1) (each f (k + 1))
  each_on f x h e size em =
      let s : set m (at + k) x ≡ over m (at + k) 1 (f k ∷ []) = set_over m (at + k) x (omega arith) ∙ ap (λ (y : A). over m (at + k) 1 (y ∷ [])) e in
      behind l at k 1 (each f k) (f k ∷ []) (omega arith) (length_each f k) em s ∙ ap (λ (n : ℕ). over l at (k + 1) (each f n)) (sym (add-one k))

  pub joined_on : (f : ℕ → List A) (w : ℕ) (n : List A) → ((i : ℕ) → i < k → length (f i) ≡ w) → at + w * k + w ≤ length l
      → m ≡ over l at (w * k) (joined f k) → n ≡ over m (at + w * k) w (f k) → n ≡ over l at (w * (k + 1)) (joined f (k + 1))
  joined_on f w n sizes room em en =
      let s : suc k ≡ k + 1 = sym (add-one k) in
      let t : w * k + w ≡ w * (k + 1) = sym (mul-suc w k) ∙ ap (λ (i : ℕ). w * i) s in
      behind l at (w * k) w (joined f k) (f k) (omega arith) (length_joined f w k sizes) em en ∙ ap₂ (λ (i j : ℕ). over l at i (joined f j)) t s

-- at the front
module _ {A : Type 0} (l m : List A) (k : ℕ) where
  pub each_more : (f : ℕ → A) (x : A) → k < length l → x ≡ f k → length m ≡ length l → m ≡ over l 0 k (each f k) → set m k x ≡ over l 0 (k + 1) (each f (k + 1))
  each_more f x h e size em =
      let z : 0 + k ≡ k = omega arith in
      ap (λ (i : ℕ). set m i x) (sym z) ∙ each_on l m 0 k f x (omega arith) e size em

  pub joined_more : (f : ℕ → List A) (w : ℕ) (n : List A) → ((i : ℕ) → i < k → length (f i) ≡ w) → w * k + w ≤ length l
      → m ≡ over l 0 (w * k) (joined f k) → n ≡ over m (w * k) w (f k) → n ≡ over l 0 (w * (k + 1)) (joined f (k + 1))
  joined_more f w n sizes room em en =
      let z : 0 + w * k ≡ w * k = omega arith in
      joined_on l m 0 k f w n sizes (omega arith) em (en ∙ ap (λ (i : ℕ). over m i w (f k)) (sym z))
