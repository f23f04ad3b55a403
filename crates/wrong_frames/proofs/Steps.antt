-- The steps by which the code searches.
-- Assumes nothing.
use mathlib.Core.Path.{◌≡◌, refl, sym, ap, ◌∙◌}
use mathlib.Core.Bool.{Bool, true, false}
use mathlib.Core.List.{List}
use Prim.Native.Nat.{ℕ, zero, suc, ◌+◌, ◌*◌, ◌≤◌, ◌<◌}
use native.Mathlib.Omega.{arith}
use lib.ListN.{length, get_or, take, drop, replicate}
use Rattle.std.proofs.Common.{drop-cons, add-one, subst}
use Rattle.std.proofs.lemmas.List.{length-replicate}
use Rattle.std.specs.Prelude.{◌||◌}
use Rattle.std.specs.List.{list_any}
use Rattle.lists.specs.Parts.{part}
use Rattle.lists.specs.Tests.{when}
use Rattle.std.specs.Prelude.{Some, None}
use Rattle.lists.specs.Search.{at, nowhere, first_from, is_found, Passed, search_begin, search_end, hit, on}
use Rattle.layout.specs.Layout.{frame_indices}
use Rattle.layout.specs.declared.Frame.{Frame}
use Rattle.wrong_frames.specs.WrongFrames.{frame_count}
use Rattle.wrong_frames.specs.Types.{Found}
use Rattle.wrong_frames.specs.Laws.{found_as, FirstOf}

-- a loop over all frames that stops at the first that passes a test, whatever the test: k of them did not
abbrev pub PassedFrames : (List ℕ → ℕ → Bool) → List ℕ → ℕ → ℕ → Type 0
PassedFrames test idx frames k = (frame_indices * frames ≤ length idx) × Passed (test idx) 0 frames k

pub frames_begin : (test : List ℕ → ℕ → Bool) (idx : List ℕ) → PassedFrames test idx (frame_count idx) 0
frames_begin test idx = (omega arith, search_begin (test idx) 0 (frame_count idx))

-- r is what the code's test says of frame k
module _ (test : List ℕ → ℕ → Bool) (idx : List ℕ) (frames k : ℕ) (p : PassedFrames test idx frames k) where
  pub frame_hit : k < frames → (r : Bool) → r ≡ test idx k → r ≡ true → at k ≡ first_from (test idx) 0 frames
  frame_hit h r e t = sym (hit (test idx) frames k p.1 r e h t)

  pub frame_on : k < frames → (r : Bool) → r ≡ test idx k → r ≡ false → PassedFrames test idx frames (k + 1)
  frame_on h r e t = (p.0, on (test idx) frames k p.1 r e h t)

  pub frames_end : frames ≤ k → nowhere ≡ first_from (test idx) 0 frames
  frames_end h = sym (search_end (test idx) 0 frames k p.1 h)

  -- each of those frames lies in the indices
  pub frame_lies : (j : ℕ) → j < frames → frame_indices * (j + 1) ≤ length idx
  frame_lies j h = omega (arith, p.0)

-- a test that says of a frame only what is so
module _ (test : List ℕ → ℕ → Bool) (idx : List ℕ) (says : Frame → Bool → Type 0) (so : (f : Frame) (b : Bool) → says f b → b ≡ test idx f.0) where
  -- a loop goes on past the frames of which it says no
  goes_on : (k : ℕ) → k ≤ frame_count idx → ((i : ℕ) → i < k → says (record { 0 = i }) false) → PassedFrames test idx (frame_count idx) k
  goes_on zero h said = frames_begin test idx
  goes_on (suc k) h said =
      subst (PassedFrames test idx (frame_count idx)) (add-one k)
      (frame_on test idx (frame_count idx) k (goes_on k (omega arith) (λ i a. said i (omega arith))) (omega arith) false (so (record { 0 = k }) false (said k (omega arith))) refl)

  -- and stops where the search does
  pub stops : (r : Found) → FirstOf (frame_count idx) says r → found_as r ≡ first_from (test idx) 0 (frame_count idx)
  unfolding FirstOf
  stops (Some f) h = frame_hit test idx (frame_count idx) f.0 (goes_on f.0 (omega (arith, h.0)) h.2) h.0 true (so f true h.1) refl
  stops None h = frames_end test idx (frame_count idx) (frame_count idx) (goes_on (frame_count idx) (omega arith) h) (omega arith)

-- the first frame of which a test says so is what a search for it finds, where the test says of a frame only what is so: by the steps over
-- the indices of so many frames
pub first_is : (test : ℕ → Bool) (n : ℕ) (says : Frame → Bool → Type 0) (r : Found) → FirstOf n says r → ((f : Frame) (b : Bool) → says f b → b ≡ test f.0)
    → found_as r ≡ first_from test 0 n
first_is test n says r h so =
    let idx = replicate (frame_indices * n) 0 in
    let e : frame_count idx ≡ n = omega (arith, length-replicate {A = ℕ} (frame_indices * n) 0) in
    subst (λ (m : ℕ). found_as r ≡ first_from test 0 m) e (stops (λ l. test) idx says so r (subst (λ (m : ℕ). FirstOf m says r) (sym e) h))

-- one of n items from place k on passes the test exactly if a search over their places finds one
pub any_is : (test : ℕ → Bool) (l : List ℕ) (k n : ℕ) → k + n ≤ length l → list_any test (part k n l) ≡ is_found (first_from (λ j. test (get_or l j 0)) k n)
unfolding first_from
any_is test l k zero h = refl
any_is test l k (suc n) h =
    ap (λ (m : List ℕ). list_any test (take (suc n) m)) (drop-cons l k 0 (omega arith))
    ∙ by (test (get_or l k 0)) (subst (λ (x : ℕ). list_any test (take n (drop x l)) ≡ found) (add-one k) (any_is test l (k + 1) n (omega arith)))
  where
    rest : Bool
    rest = list_any test (take n (drop (suc k) l))

    found : Bool
    found = is_found (first_from (λ j. test (get_or l j 0)) (k + 1) n)

    by : (b : Bool) → rest ≡ found → (b || rest) ≡ is_found (when b (at k) (first_from (λ j. test (get_or l j 0)) (k + 1) n))
    by true e = refl
    by false e = e
