-- A part of a list, and a list laid over a part of another: the one way in which this house reads from and stores to bits and buffers.
-- Assumes nothing.
use Rattle.std.specs.Prelude.{◌≡◌, List, [], ◌∷◌, ◌++◌, ℕ, ◌+◌, ◌-◌, ◌≤◌, ◌<◌, length, take, drop, get_or, set}
use Rattle.std.proofs.Common.{sym, ap, ◌∙◌, subst, append_assoc, add-zero, add_assoc, add-one, arith, length-append, length-take, length-drop, take-append-drop, take_at, drop_at, length-take-le, drop-drop, get_or-drop, get_or-take}
use Rattle.std.proofs.Math.ListN.{get_or-append}
use Rattle.std.proofs.lemmas.List.{take-append-le, drop-append-le, set_split}
use Rattle.std.proofs.Math.Seq.{drop-append-add}
use borrow.Rule.Slice.PartMut.{put_mid, Post-is}

-- what stands from place at on, w of them
abbrev pub part : {A : Type 0} → ℕ → ℕ → List A → List A
part at w l = take w (drop at l)

-- l with the w elements from place at on replaced by f
abbrev pub over : {A : Type 0} → List A → ℕ → ℕ → List A → List A
over l at w f = take at l ++ (f ++ drop (at + w) l)

module _ {A : Type 0} (l f : List A) (at w : ℕ) (room : at + w ≤ length l) (size : length f ≡ w) where
  le_at : at ≤ length l
  le_at = omega arith

  pub length_over : length (over l at w f) ≡ length l
  length_over = simp (length-append, length-drop, length-take) (omega arith)

  -- read back, it is what was laid
  pub part_over : part at w (over l at w f) ≡ f
  part_over = rw (drop_at (take at l) (f ++ drop (at + w) l) at (length-take-le at l le_at)) (take_at f (drop (at + w) l) w size)

  head_length : length (take at l ++ f) ≡ at + w
  head_length = rw (length-append, length-take-le at l le_at, size)

  regroup : over l at w f ≡ (take at l ++ f) ++ drop (at + w) l
  regroup = sym (append_assoc (take at l) f (drop (at + w) l))

  pub take_over : take (at + w) (over l at w f) ≡ take at l ++ f
  take_over = rw regroup (take_at (take at l ++ f) (drop (at + w) l) (at + w) head_length)

  pub drop_over : (a : ℕ) → at + w ≤ a → drop a (over l at w f) ≡ drop a l
  drop_over a h =
      let e : a ≡ length (take at l ++ f) + (a - (at + w)) = rw head_length (omega arith) in
      let d : at + w + (a - (at + w)) ≡ a = omega arith in
      rw regroup (ap (λ (n : ℕ). drop n ((take at l ++ f) ++ drop (at + w) l)) e ∙ drop-append-add (take at l ++ f) (drop (at + w) l) (a - (at + w))
      ∙ drop-drop (a - (at + w)) (at + w) l ∙ ap (λ (n : ℕ). drop n l) d)

  -- what stands before and behind is as it was
  part_head : (a v : ℕ) (r : List A) → a + v ≤ at → part a v (take at l ++ r) ≡ part a v (take at l)
  part_head a v r h =
      let n = length-take-le at l le_at in
      let ha : a ≤ length (take at l) = rw n (omega arith) in
      let hv : v ≤ length (drop a (take at l)) = rw (length-drop, n) (omega arith) in
      rw (drop-append-le a (take at l) r ha) (take-append-le v (drop a (take at l)) r hv)

  pub before_over : (a v : ℕ) → a + v ≤ at → part a v (over l at w f) ≡ part a v l
  before_over a v h =
      part_head a v (f ++ drop (at + w) l) h ∙ sym (part_head a v (drop at l) h) ∙ ap (part a v) (take-append-drop at l)

  pub behind_over : (a v : ℕ) → at + w ≤ a → part a v (over l at w f) ≡ part a v l
  behind_over a v h = ap (take v) (drop_over a h)

  -- and another laid right behind it makes one of both
  pub over_over : (v : ℕ) (g : List A) → over (over l at w f) (at + w) v g ≡ over l at (w + v) (f ++ g)
  over_over v g =
      let h : at + w ≤ at + w + v = omega arith in
      rw (take_over, drop_over (at + w + v) h) (simp (append_assoc, add_assoc))

  -- the same, element by element
  pub over_in : (t : ℕ) (d : A) → t < w → get_or (over l at w f) (at + t) d ≡ get_or f t d
  over_in t d h =
      sym (get_or-drop at (over l at w f) t d) ∙ sym (get_or-take w (drop at (over l at w f)) t d h) ∙ ap (λ (x : List A). get_or x t d) part_over

  pub over_before : (t : ℕ) (d : A) → t < at → get_or (over l at w f) t d ≡ get_or l t d
  over_before t d h =
      let n : t < length (take at l) = rw (length-take-le at l le_at) h in
      get_or-append (take at l) (f ++ drop (at + w) l) d t n ∙ get_or-take at l t d h

  pub over_behind : (t : ℕ) (d : A) → at + w ≤ t → get_or (over l at w f) t d ≡ get_or l t d
  over_behind t d h =
      let z : t + 0 ≡ t = add-zero t in
      subst (λ (k : ℕ). get_or (over l at w f) k d ≡ get_or l k d) z
      (sym (get_or-drop t (over l at w f) 0 d) ∙ ap (λ (x : List A). get_or x 0 d) (drop_over t h) ∙ get_or-drop t l 0 d)

-- nothing laid over changes nothing: how a loop that stores begins
pub over_none : {A : Type 0} (l : List A) (at : ℕ) → l ≡ over l at 0 []
over_none l at = rw add-zero (sym (take-append-drop at l))

-- one thing laid behind another: how such a loop goes on
pub behind : {A : Type 0} (l : List A) (at w v : ℕ) (f g : List A) {m n : List A} → at + w ≤ length l → length f ≡ w
    → m ≡ over l at w f → n ≡ over m (at + w) v g → n ≡ over l at (w + v) (f ++ g)
behind {A} l at w v f g room size em en = en ∙ ap (λ (x : List A). over x (at + w) v g) em ∙ over_over l f at w room size v g

-- one element stored
pub set_over : {A : Type 0} (l : List A) (i : ℕ) (a : A) → i < length l → set l i a ≡ over l i 1 (a ∷ [])
set_over l i a h = rw add-one (set_split l i a h)

-- parts of what is joined
pub part_left : {A : Type 0} (l m : List A) (a v : ℕ) → a + v ≤ length l → part a v (l ++ m) ≡ part a v l
part_left l m a v h =
    let ha : a ≤ length l = omega arith in
    let hv : v ≤ length (drop a l) = rw length-drop (omega arith) in
    rw (drop-append-le a l m ha) (take-append-le v (drop a l) m hv)

pub part_right : {A : Type 0} (l m : List A) (n v : ℕ) → length l ≡ n → part n v (l ++ m) ≡ take v m
part_right l m n v h = ap (take v) (drop_at l m n h)

-- a part's length
pub length_part : {A : Type 0} (l : List A) (at w : ℕ) → at + w ≤ length l → length (part at w l) ≡ w
length_part l at w h = length-take-le w (drop at l) (rw length-drop (omega arith))

-- the part that the code lends as `&s[a..a + n]`
pub lent : {A : Type 0} (s : List A) (a n : ℕ) → take (a + n - a) (drop a s) ≡ part a n s
lent s a n = let e : a + n - a ≡ n = omega arith in rw e

-- a part that was lent as `&mut s[a..a + n]` and came back as g
pub came_back : {A : Type 0} (a n : ℕ) (s g : List A) → put_mid a (a + n - a) s g ≡ over s a n g
came_back {A} a n s g = ap (λ (l : List A). take a s ++ (g ++ l)) (Post-is a (a + n) s (omega arith))
