-- An index of a frame lies in its codebook: what a frame holds among index octets, from the place of its first on. Assumes nothing.
use Prim.Native.Nat.{ℕ, ◌+◌, ◌<◌}
use mathlib.Core.Path.{◌≡◌, sym, ap, subst, ◌∙◌}
use mathlib.Core.List.{List}
use lib.ListN.{get_or, drop}
use lib.Seq.{get_or-take, get_or-drop}
use native.Mathlib.Decide.{dec_lt}
use native.Mathlib.Omega.{arith}
use Rattle.lists.specs.Parts.{part}
use Rattle.layout.specs.Layout.{frame_indices, codebook_numbers}
use Rattle.consistency.specs.Consistency.{entry_place, InRange}

module _ (index : List ℕ) (first c x : ℕ) (here : x ≡ get_or index (first + c) 0) (small : c < frame_indices) where
  pub index_of : x ≡ get_or (part first frame_indices index) c 0
  index_of = here ∙ sym (get_or-drop first index c 0) ∙ sym (get_or-take frame_indices (drop first index) c 0 small)

  pub in_codebook : get_or index (first + c) 0 < 256 → InRange (part first frame_indices index) → entry_place c x 1 < codebook_numbers
  in_codebook octet range =
      elim (dec_lt c 6) [
        | yes h ↦ let k = range c h in let e = index_of in omega arith
        | no h ↦ omega arith
      ]

-- a frame is its own part, from place 0 on
from_0 : (f : List ℕ) (k : ℕ) → get_or f k 0 ≡ get_or f (0 + k) 0
from_0 f k = ap (λ (i : ℕ). get_or f i 0) (omega arith)

whole_frame : (f : List ℕ) → InRange f → InRange (part 0 frame_indices f)
whole_frame f range k h = subst (λ (x : ℕ). x < 64) (index_of f 0 k (get_or f k 0) (from_0 f k) (omega (arith, h))) (range k h)

pub frame_in_codebook : (f : List ℕ) (c : ℕ) {x : ℕ} → x ≡ get_or f c 0 → c < frame_indices → get_or f c 0 < 256 → InRange f → entry_place c x 1 < codebook_numbers
frame_in_codebook f c {x} here small octet range =
    in_codebook f 0 c x (here ∙ from_0 f c) small (subst (λ (n : ℕ). n < 256) (from_0 f c) octet) (whole_frame f range)
