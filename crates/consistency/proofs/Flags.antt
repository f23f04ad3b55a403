-- The flags of a pair, counted over the numbers of its index pairs.
-- Assumes nothing.
use Rattle.std.proofs.Common.{ℕ, zero, suc, ◌+◌, ◌≡◌, refl, sym, ap, ◌∙◌, List, Bool, true, false, get_or, arith, cond, add-one, leb}
use Rattle.std.specs.List.{count_by, range_with_len}
use Rattle.std.proofs.lemmas.List.FromFn.{sum_by-map-range_with_len_more}
use Rattle.lists.specs.Tests.{when}
use Rattle.tables.specs.Tables.{Tables}
use Rattle.layout.specs.Layout.{frame_indices}
use Rattle.consistency.specs.Consistency.{flagged, flags, inconsistent}
use Prim.Native.Nat.{zero, suc}
use mathlib.Core.List.{map, [], ◌∷◌}

map_same : (xs : List ℕ) → map (λ x. x) xs ≡ xs
map_same [] = refl
map_same (x ∷ xs) = ap (λ (ys : List ℕ). x ∷ ys) (map_same xs)

one : (b : Bool) (n : ℕ) → n + cond b 1 0 ≡ when b (suc n) n
one true n = omega arith
one false n = omega arith

-- one number more
more : (f : ℕ → Bool) (n : ℕ) → count_by f (range_with_len 0 (n + 1)) ≡ count_by f (range_with_len 0 n) + cond (f n) 1 0
more f n =
    let e = sum_by-map-range_with_len_more (λ x. cond (f x) 1 0) (λ x. x) 0 n n (omega arith) in
    ap (count_by f) (sym (map_same (range_with_len 0 (n + 1)))) ∙ e ∙ ap (λ (xs : List ℕ). count_by f xs + cond (f n) 1 0) (map_same (range_with_len 0 n))

pub flags_counted : (t : Tables) (f g : List ℕ) (n : ℕ) → flags t f g n ≡ count_by (λ c. flagged t c (get_or f c 0) (get_or g c 0)) (range_with_len 0 n)
unfolding flags
flags_counted t f g zero = refl
flags_counted t f g (suc c) =
    let p : ℕ → Bool = λ c. flagged t c (get_or f c 0) (get_or g c 0) in
    ap (λ (k : ℕ). when (p c) (suc k) k) (flags_counted t f g c) ∙ sym (one (p c) (count_by p (range_with_len 0 c))) ∙ sym (more p c)
    ∙ ap (λ (k : ℕ). count_by p (range_with_len 0 k)) (add-one c)

-- one index pair more counts if it is flagged
flags_more : (t : Tables) (f g : List ℕ) (c : ℕ) → flags t f g (c + 1) ≡ flags t f g c + cond (flagged t c (get_or f c 0) (get_or g c 0)) 1 0
flags_more t f g c =
    let p : ℕ → Bool = λ c. flagged t c (get_or f c 0) (get_or g c 0) in
    flags_counted t f g (c + 1) ∙ more p c ∙ ap (λ (k : ℕ). k + cond (p c) 1 0) (sym (flags_counted t f g c))

-- a turn counts its index pair
module _ (t : Tables) (f g : List ℕ) (c x y n : ℕ) {r : Bool} (so_far : n ≡ flags t f g c) (ex : x ≡ get_or f c 0) (ey : y ≡ get_or g c 0) (er : r ≡ flagged t c x y) where
  tested : flagged t c (get_or f c 0) (get_or g c 0) ≡ r
  tested = ap (λ (z : ℕ). flagged t c (get_or f c 0) z) (sym ey) ∙ ap (λ (z : ℕ). flagged t c z y) (sym ex) ∙ sym er

  counts : flags t f g (c + 1) ≡ n + cond r 1 0
  counts = flags_more t f g c ∙ rw (tested, so_far) refl

  pub one_more : r ≡ true → n + 1 ≡ flags t f g (c + 1)
  one_more h = sym (rw h at counts)

  pub no_more : r ≡ false → n ≡ flags t f g (c + 1)
  no_more h = let e = rw h at counts in omega (arith, e)

pub judged : (t : Tables) (f g : List ℕ) (n : ℕ) → n ≡ flags t f g frame_indices → leb 2 n ≡ inconsistent t f g
unfolding inconsistent
judged t f g n e = ap (leb 2) e
