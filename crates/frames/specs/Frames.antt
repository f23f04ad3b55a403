-- Frames as index octets, seven a frame: what a zero frame is (01, "Writing" and "Reading"), for writer and reader alike. Frames count from 0.
-- Assumes nothing.
use Rattle.std.specs.Prelude.{ℕ, ◌+◌, ◌*◌, ◌<◌, ◌≡◌, refl, List, [], ◌∷◌, Bool, true, false, ◌&&◌, eqb, length, get_or, drop}
use Rattle.std.proofs.Common.{sym, ◌∙◌, length-take, get_or-take, get_or-drop, arith, eqb-true}
use Rattle.std.proofs.Math.Decide.{dec_lt}
use Rattle.std.proofs.lemmas.Bool.{eqb-false}
use Rattle.std.proofs.lemmas.List.{get_or_past}
use Rattle.std.proofs.lemmas.List.Sums.{AllPass-from_list_all, list_all-from_AllPass, prefix_len_passes, prefix_len_stops}
use Rattle.std.specs.List.{list_all, prefix_len}
use Rattle.lists.specs.Tests.{when, true_false}
use Rattle.lists.specs.Parts.{part}
use Rattle.layout.specs.Layout.{frame_indices}

-- all of a frame's indices are zero
abbrev pub all_zero : List ℕ → Bool
all_zero [] = true
all_zero (x ∷ l) = when (eqb x 0) (all_zero l) false

-- frame i of the index octets is a zero frame
unfoldable pub zero_frame : List ℕ → ℕ → Bool
zero_frame index i = all_zero (part (frame_indices * i) frame_indices index)

-- ---- laws

-- in the library's words, whose laws serve here
pub all_zero_is : (l : List ℕ) → list_all (λ x. eqb x 0) l ≡ all_zero l
all_zero_is [] = refl
all_zero_is (x ∷ l) = by (eqb x 0) (all_zero_is l)
  where
    by : (t : Bool) → list_all (λ x. eqb x 0) l ≡ all_zero l → (t && list_all (λ x. eqb x 0) l) ≡ when t (all_zero l) false
    by true e = e
    by false e = refl

-- a zero frame is zero at each index
pub all_zero_at : (l : List ℕ) (j : ℕ) → all_zero l ≡ true → get_or l j 0 ≡ 0
all_zero_at l j e =
    elim (dec_lt j (length l)) [
      | yes h ↦ eqb-true (get_or l j 0) 0 (AllPass-from_list_all (λ x. eqb x 0) l (all_zero_is l ∙ e) j 0 h)
      | no n ↦ get_or_past l j 0 (omega arith)
    ]

-- octet j of frame k
frame_octet : (index : List ℕ) (k j : ℕ) → j < frame_indices → get_or (part (frame_indices * k) frame_indices index) j 0 ≡ get_or index (frame_indices * k + j) 0
frame_octet index k j h = get_or-take frame_indices (drop (frame_indices * k) index) j 0 h ∙ get_or-drop (frame_indices * k) index j 0

-- one of the frame's seven indices is not 0
pub record Nonzero (index : List ℕ) (k : ℕ) : Type 0 where
  pub place : ℕ
  pub within : place < frame_indices
  pub nonzero : get_or index (frame_indices * k + place) 0 ≡ 0 → ⊥

-- an index in a list that is not 0
record Some (l : List ℕ) : Type 0 where
  place : ℕ
  within : place < length l
  nonzero : get_or l place 0 ≡ 0 → ⊥

-- a frame that is no zero frame has such an index
pub unzero : (index : List ℕ) (k : ℕ) → zero_frame index k ≡ false → Nonzero index k
unfolding zero_frame
unzero index k e =
    let x = some (part (frame_indices * k) frame_indices index) e in
    let h : x.place < frame_indices = omega (arith, x.within, length-take frame_indices (drop (frame_indices * k) index)) in
    record { place = x.place; within = h; nonzero = λ z. x.nonzero (frame_octet index k x.place h ∙ z) }
  where
    some : (l : List ℕ) → all_zero l ≡ false → Some l
    some l e =
        let n = prefix_len (λ x. eqb x 0) l in
        elim (dec_lt n (length l)) [
          | yes h ↦ record { place = n; within = h; nonzero = eqb-false (get_or l n 0) 0 (prefix_len_stops (λ x. eqb x 0) l 0 h) }
          | no m ↦
              let all : all_zero l ≡ true = sym (all_zero_is l) ∙ list_all-from_AllPass (λ x. eqb x 0) l (λ k d h. prefix_len_passes (λ x. eqb x 0) l k d (omega arith)) in
              absurd (true_false (sym all ∙ e))
        ]

-- and a frame that has one is no zero frame
pub speaks : (index : List ℕ) (k : ℕ) → Nonzero index k → zero_frame index k ≡ false
unfolding zero_frame
speaks index k x = by (all_zero (part (frame_indices * k) frame_indices index)) refl
  where
    by : (t : Bool) → all_zero (part (frame_indices * k) frame_indices index) ≡ t → t ≡ false
    by false e = refl
    by true e =
        absurd (x.nonzero (sym (frame_octet index k x.place x.within) ∙ all_zero_at (part (frame_indices * k) frame_indices index) x.place e))
