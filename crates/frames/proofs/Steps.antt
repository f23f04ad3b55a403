-- How the test for a zero frame goes on index by index: it is decided by the first index that is not 0, and by the end. So the library's
-- test of all seven says what the frame is. Assumes nothing.
use Rattle.std.specs.Prelude.{ℕ, zero, suc, ◌+◌, ◌≤◌, ◌<◌, ◌≡◌, refl, List, Bool, true, false, ◌&&◌, eqb, length, get_or, take, drop}
use Rattle.std.proofs.Common.{sym, ap, ap₂, ◌∙◌, drop-cons, get_or-take, get_or-drop, add-one, arith, eq-eqb, ne_eqb}
use mathlib.Core.Bool.{and-true, and-false}
use Rattle.std.specs.List.{list_all}
use Rattle.std.proofs.lemmas.List.{take_all}
use Rattle.std.proofs.lemmas.List.Folds.{list_all_more}
use Rattle.std.proofs.Math.Seq.{drop-length}
use Rattle.std.proofs.Math.Decide.{ℕ_discrete}
use Rattle.lists.specs.Parts.{part, length_part}
use Rattle.layout.specs.Layout.{frame_indices}
use Rattle.frames.specs.Frames.{all_zero}

-- the frame that stands at place x
module _ (index : List ℕ) (x : ℕ) (room : x + frame_indices ≤ length index) where
  size : length (part x frame_indices index) ≡ frame_indices
  size = length_part index x frame_indices room

  octet : (j : ℕ) → j < frame_indices → get_or (part x frame_indices index) j 0 ≡ get_or index (x + j) 0
  octet j h = get_or-take frame_indices (drop x index) j 0 h ∙ get_or-drop x index j 0

  pub zero_on : (j : ℕ) → j < frame_indices → get_or index (x + j) 0 ≡ 0 → all_zero (drop j (part x frame_indices index)) ≡ all_zero (drop (j + 1) (part x frame_indices index))
  zero_on j h z =
      let f = part x frame_indices index in
      rw (drop-cons f j 0 (omega (arith, size)), eq-eqb (get_or f j 0) 0 (octet j h ∙ z), add-one)

  pub zero_stop : (j : ℕ) → j < frame_indices → (get_or index (x + j) 0 ≡ 0 → ⊥) → all_zero (drop j (part x frame_indices index)) ≡ false
  zero_stop j h z =
      let f = part x frame_indices index in
      rw (drop-cons f j 0 (omega (arith, size)), ne_eqb (get_or f j 0) 0 (λ e. z (sym (octet j h) ∙ e)))

  pub zero_end : (j : ℕ) → j ≡ frame_indices → all_zero (drop j (part x frame_indices index)) ≡ true
  zero_end j e =
      let f = part x frame_indices index in
      ap (λ (n : ℕ). all_zero (drop n f)) (e ∙ sym size) ∙ ap all_zero (drop-length f)

  -- what the first j indices and those behind them say together
  passed : (j : ℕ) → j ≤ frame_indices → (list_all (λ y. eqb y 0) (take j (part x frame_indices index)) && all_zero (drop j (part x frame_indices index))) ≡ all_zero (part x frame_indices index)
  passed zero h = refl
  passed (suc j) h =
      let f = part x frame_indices index in
      let a = list_all (λ y. eqb y 0) (take j f) in
      let room : j < length f = omega (arith, size) in
      let more = list_all_more (λ y. eqb y 0) f j 0 room in
      let on : (list_all (λ y. eqb y 0) (take (j + 1) f) && all_zero (drop (j + 1) f)) ≡ (a && all_zero (drop j f)) =
      elim (ℕ_discrete (get_or index (x + j) 0) 0) [
        | yes z ↦
            ap₂ ◌&&◌ (more ∙ ap (◌&&◌ a) (eq-eqb (get_or f j 0) 0 (octet j (omega arith) ∙ z)) ∙ and-true a) (sym (zero_on j (omega arith) z))
        | no b ↦
            ap (λ (t : Bool). t && all_zero (drop (j + 1) f)) (more ∙ ap (◌&&◌ a) (ne_eqb (get_or f j 0) 0 (λ e. b (sym (octet j (omega arith)) ∙ e))) ∙ and-false a)
            ∙ sym (ap (◌&&◌ a) (zero_stop j (omega arith) b) ∙ and-false a)
      ] in
      rw (← add-one j) (on ∙ passed j (omega arith))

  -- and all seven
  pub looked_at : list_all (λ y. eqb y 0) (part x frame_indices index) ≡ all_zero (part x frame_indices index)
  looked_at =
      let f = part x frame_indices index in
      let all : take frame_indices f ≡ f = take_all frame_indices f (omega (arith, size)) in
      sym (and-true (list_all (λ y. eqb y 0) f)) ∙ ap₂ ◌&&◌ (ap (list_all (λ y. eqb y 0)) (sym all)) (sym (zero_end frame_indices refl)) ∙ passed frame_indices (omega arith)
