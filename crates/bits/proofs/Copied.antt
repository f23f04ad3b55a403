-- Bits copied to octets: octets behind octets copied already, and octets out of a word that holds their bits.
-- Assumes nothing.
use Prim.Native.Nat.{ℕ, ◌+◌, ◌*◌, ◌/◌, ◌%◌, ◌^◌, ◌≤◌}
use mathlib.Core.Path.{◌≡◌, sym, ap, ◌∙◌, subst}
use mathlib.Core.List.{List, ◌++◌}
use mathlib.Core.Bool.{Bool}
use native.Mathlib.Omega.{arith}
use lib.ListN.{length, take, drop}
use lib.Seq.{take-add, drop-drop}
use Rattle.lists.specs.Parts.{part, over, over_none, behind, length_part}
use Rattle.bits.specs.Bits.{field, value, bits, octets, numbers}
use Rattle.bits.proofs.Laws.{length_bits, field_low, field_value, octets_append, length_octets, in_word}

module _ (s : List ℕ) (from : ℕ) where
  abbrev pub copied : ℕ → List ℕ
  copied n = octets n (part from (8 * n) (bits s))

  pub copied_none : (l : List ℕ) (to : ℕ) → l ≡ over l to 0 (copied 0)
  unfolding numbers
  copied_none l to = over_none l to

  pub length_copied : (n : ℕ) → length (copied n) ≡ n
  length_copied n = length_octets n (part from (8 * n) (bits s))

  -- w octets more
  copied_add : (j w : ℕ) → from + 8 * (j + w) ≤ length (bits s) → copied (j + w) ≡ copied j ++ octets w (part (from + 8 * j) (8 * w) (bits s))
  copied_add j w h =
      let e : 8 * (j + w) ≡ 8 * j + 8 * w = omega arith in
      let r : from + 8 * j ≤ length (bits s) = omega arith in
      ap (λ (n : ℕ). octets (j + w) (part from n (bits s))) e
      ∙ ap (octets (j + w)) (take-add (8 * j) (8 * w) (drop from (bits s)) ∙ ap (λ (l : List Bool). part from (8 * j) (bits s) ++ take (8 * w) l) (drop-drop (8 * j) from (bits s)))
      ∙ octets_append j w (part from (8 * j) (bits s)) (part (from + 8 * j) (8 * w) (bits s)) (length_part (bits s) from (8 * j) r)

  module _ (l m n : List ℕ) (to j : ℕ) (room : to + j ≤ length l) (em : m ≡ over l to j (copied j)) where
    pub copied_more : (w : ℕ) → from + 8 * (j + w) ≤ length (bits s) → n ≡ over m (to + j) w (octets w (part (from + 8 * j) (8 * w) (bits s))) → n ≡ over l to (j + w) (copied (j + w))
    copied_more w h en =
        behind l to j w (copied j) (octets w (part (from + 8 * j) (8 * w) (bits s))) room (length_copied j) em en ∙ ap (over l to (j + w)) (sym (copied_add j w h))

  -- r octets from bit k on of a word
  pub of_word : (i k r x t : ℕ) → i + 8 ≤ length s → k + 8 * r ≤ 64 → x ≡ value (part (8 * i) 64 (bits s)) → 8 * i + k ≡ t
      → octets r (field (8 * r) (x / 2 ^ k)) ≡ octets r (part t (8 * r) (bits s))
  of_word i k r x t room h e d =
      let v : x / 2 ^ k % 2 ^ (8 * r) ≡ value (part t (8 * r) (bits s)) = in_word s i k (8 * r) x room h e ∙ ap (λ (n : ℕ). value (part n (8 * r) (bits s))) d in
      let n : length (part t (8 * r) (bits s)) ≡ 8 * r = length_part (bits s) t (8 * r) (omega (arith, length_bits s)) in
      ap (octets r)
      (sym (field_low (8 * r) (x / 2 ^ k)) ∙ ap (field (8 * r)) v
      ∙ subst (λ (i : ℕ). field i (value (part t (8 * r) (bits s))) ≡ part t (8 * r) (bits s)) n (field_value (part t (8 * r) (bits s))))

  module _ (l m n : List ℕ) (to j : ℕ) (room : to + j ≤ length l) (em : m ≡ over l to j (copied j)) where
    pub word_more : (i k r x : ℕ) → i + 8 ≤ length s → k + 8 * r ≤ 64 → 8 * i + k ≡ from + 8 * j → from + 8 * (j + r) ≤ length s * 8
        → x ≡ value (part (8 * i) 64 (bits s)) → n ≡ over m (to + j) r (octets r (field (8 * r) (x / 2 ^ k))) → n ≡ over l to (j + r) (copied (j + r))
    word_more i k r x whole h d left e en =
        copied_more l m n to j room em r (omega (arith, length_bits s)) (en ∙ ap (over m (to + j) r) (of_word i k r x (from + 8 * j) whole h e d))
