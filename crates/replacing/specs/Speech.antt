-- Speech and end (01, "Reading", the success answer), over the index octets of a whole reading after replacing.
-- Assumes nothing.
use Rattle.std.specs.Prelude.{ℕ, zero, suc, ◌+◌, ◌-◌, ◌*◌, ◌≤◌, ◌<◌, ◌≡◌, refl, List, Bool, true, false}
use Rattle.std.proofs.Common.{ap, ◌∙◌, arith}
use Rattle.std.proofs.Math.Decide.{ℕ_discrete}
use Rattle.lists.specs.Tests.{when}
use Rattle.layout.specs.Layout.{multiframe_frames}
use Rattle.frames.specs.Frames.{zero_frame}

-- the place, from 1, of the last nonzero frame among n frames from frame i on; 0 if there is none
unfoldable pub last_nonzero : List ℕ → ℕ → ℕ → ℕ
last_nonzero index i zero = 0
last_nonzero index i (suc n) = when (zero_frame index (i + n)) (last_nonzero index i n) (suc n)

-- 24(m-1) plus the last nonzero frame's place (1 to 24, 0 if none) in the last multiframe
abbrev pub speech_of : ℕ → List ℕ → ℕ
speech_of m index = multiframe_frames * (m - 1) + last_nonzero index (multiframe_frames * (m - 1)) multiframe_frames

-- 1 if the last frame is zero, else 0
abbrev pub end_of : ℕ → List ℕ → ℕ
end_of m index = when (zero_frame index (multiframe_frames * m - 1)) 1 0

-- ---- laws

-- the place is at most the number of frames looked at
pub place_le : (index : List ℕ) (i n : ℕ) → last_nonzero index i n ≤ n
unfolding last_nonzero
place_le index i zero = omega arith
place_le index i (suc n) = by (zero_frame index (i + n)) (place_le index i n)
  where
    by : (t : Bool) → last_nonzero index i n ≤ n → when t (last_nonzero index i n) (suc n) ≤ suc n
    by true h = omega arith
    by false h = omega arith

-- every frame behind the place is zero
pub zero_behind : (index : List ℕ) (i n k : ℕ) → last_nonzero index i n ≤ k → k < n → zero_frame index (i + k) ≡ true
unfolding last_nonzero
zero_behind index i zero k h j = absurd (omega arith)
zero_behind index i (suc n) k h j = by (zero_frame index (i + n)) refl h (λ a b. zero_behind index i n k a b)
  where
    by : (t : Bool) → zero_frame index (i + n) ≡ t → when t (last_nonzero index i n) (suc n) ≤ k
        → (last_nonzero index i n ≤ k → k < n → zero_frame index (i + k) ≡ true) → zero_frame index (i + k) ≡ true
    by true e h f = elim (ℕ_discrete k n) [ yes s ↦ ap (λ (x : ℕ). zero_frame index (i + x)) s ∙ e | no d ↦ f h (omega arith) ]
    by false e h f = absurd (omega arith)

-- and the frame at the place, if there is one, is not
pub nonzero_at : (index : List ℕ) (i n k : ℕ) → last_nonzero index i n ≡ suc k → zero_frame index (i + k) ≡ false
unfolding last_nonzero
nonzero_at index i zero k h = absurd (omega arith)
nonzero_at index i (suc n) k h = by (zero_frame index (i + n)) refl h (λ a. nonzero_at index i n k a)
  where
    by : (t : Bool) → zero_frame index (i + n) ≡ t → when t (last_nonzero index i n) (suc n) ≡ suc k
        → (last_nonzero index i n ≡ suc k → zero_frame index (i + k) ≡ false) → zero_frame index (i + k) ≡ false
    by true e h f = f h
    by false e h f = let s : k ≡ n = omega arith in ap (λ (x : ℕ). zero_frame index (i + x)) s ∙ e

-- ---- the steps of the code's loops

pub place_on : (index : List ℕ) (i n : ℕ) → 0 < n → zero_frame index (i + (n - 1)) ≡ true → last_nonzero index i n ≡ last_nonzero index i (n - 1)
unfolding last_nonzero
place_on index i zero h z = absurd (omega arith)
place_on index i (suc n) h z = let e : suc n - 1 ≡ n = omega arith in rw (e, (rw e at z))

pub place_stop : (index : List ℕ) (i n : ℕ) → 0 < n → zero_frame index (i + (n - 1)) ≡ false → last_nonzero index i n ≡ n
unfolding last_nonzero
place_stop index i zero h z = absurd (omega arith)
place_stop index i (suc n) h z = let e : suc n - 1 ≡ n = omega arith in rw (rw e at z)

pub place_none : (index : List ℕ) (i : ℕ) → last_nonzero index i 0 ≡ 0
unfolding last_nonzero
place_none index i = refl

pub speech_is : (index : List ℕ) (m i n : ℕ) → i ≡ multiframe_frames * (m - 1) → n ≡ last_nonzero index i multiframe_frames → i + n ≡ speech_of m index
speech_is index m i n e f = ap (λ (k : ℕ). i + k) f ∙ ap (λ (k : ℕ). k + last_nonzero index k multiframe_frames) e
