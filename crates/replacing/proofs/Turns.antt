-- The turns of the loops that replace: how a list that was changed from place x to place y is changed further.
-- Assumes nothing.
use Prim.Native.Nat.{ℕ, ◌+◌, ◌-◌, ◌*◌, ◌/◌, ◌%◌, ◌≤◌, ◌<◌}
use mathlib.Core.Path.{◌≡◌, refl, ap, sym, ◌∙◌}
use mathlib.Core.Logic.{⊎_elim}
use mathlib.Core.List.{List}
use lib.ListN.{length, get_or}
use lib.Seq.{ext_get_or}
use lib.Dec.{ltb}
use mathlib.Core.Bool.{true, false}
use native.Mathlib.Numerals.{add-one}
use native.Mathlib.Decide.{dec_lt}
use native.Mathlib.Omega.{arith}
use borrow.Author.Tests.{eq-eqb, ne_eqb, lt-ltb, le-ltb}
use Rattle.lists.specs.Parts.{over, length_over, over_in, over_behind}
use Rattle.std.specs.List.{CopiedTo, SameBelow, SameFrom}
use Rattle.layout.specs.Layout.{frame_indices, pair_of, first_frame, second_frame}
use Rattle.bad_pairs.specs.Laws.{Good}
use Rattle.replacing.specs.Replacing.{run_start, run_end, frame_before, frame_after, middle_frame, source_by, source, taken, pairs_octets, replaced}
use Rattle.replacing.specs.Laws.{Run}
use Rattle.replacing.proofs.Laws.{run_of, in_run, good_stays, good_source, run_stop, replaced_at, replaced_length}
use Rattle.replacing.specs.Steps.{Changed, Spread, Filled}

-- ---- one octet stored
pub unchanged : (l : List ℕ) (x : ℕ) (f : ℕ → ℕ) → Changed l l x x f
unchanged l x f = record { same = refl; before = λ t h. refl; inside = λ t h k. absurd (omega arith); behind = λ t h. refl }

-- a frame copied: as each turn of `spread` does. The source's octets stand as they stood, whether or not frames were copied over them
pub one_frame : (l m n : List ℕ) (source first k : ℕ) → first ≤ k → length n ≡ length m
    → CopiedTo m n (frame_indices * source) (frame_indices * k) (frame_indices * source + frame_indices - frame_indices * source)
    × SameBelow m n (frame_indices * k) × SameFrom m n (frame_indices * k + (frame_indices * source + frame_indices - frame_indices * source))
    → Spread l m source first k → Spread l n source first (k + 1)
one_frame l m n source first k h size (copied, below, behind) c =
    let there : (t : ℕ) → t / frame_indices ≡ source → get_or m t 0 ≡ get_or l t 0 = λ t e.
    elim (dec_lt t (frame_indices * first)) [
      | yes y ↦ c.before t y
      | no y ↦ elim (dec_lt t (frame_indices * k)) [
        | yes z ↦ c.inside t (omega arith) z ∙ ap (λ (i : ℕ). get_or l i 0) (omega arith)
        | no z ↦ c.behind t (omega arith)
      ]
    ] in
    record {
      same = size ∙ c.same;
      before = λ t y. below t 0 (omega arith) ∙ c.before t y;
      inside = λ t y z. elim (dec_lt t (frame_indices * k)) [
        | yes u ↦ below t 0 u ∙ c.inside t y u
        | no u ↦
            let e : frame_indices * source + (t - frame_indices * k) ≡ frame_indices * source + t % frame_indices = omega arith in
            copied t 0 (omega arith) (omega arith) ∙ ap (λ (i : ℕ). get_or m i 0) e ∙ there (frame_indices * source + t % frame_indices) (omega arith)
      ];
      behind = λ t y. behind t 0 (omega arith) ∙ c.behind t (omega arith);
    }

-- ---- one change after another, behind it
pub then : (l m n : List ℕ) (x y z : ℕ) (f g h : ℕ → ℕ) → x ≤ y → y ≤ z → Changed l m x y f → Changed m n y z g
    → ((t : ℕ) → x ≤ t → t < y → get_or l (f t) 0 ≡ get_or l (h t) 0)
    → ((t : ℕ) → y ≤ t → t < z → get_or m (g t) 0 ≡ get_or l (h t) 0)
    → Changed l n x z h
then l m n x y z f g h xy yz c d fh gh =
    record {
      same = d.same ∙ c.same;
      before = λ t k. d.before t (omega arith) ∙ c.before t k;
      inside = λ t k j. elim (dec_lt t y) [
        | yes i ↦ d.before t i ∙ c.inside t k i ∙ fh t k i
        | no i ↦ d.inside t (omega arith) j ∙ gh t (omega arith) j
      ];
      behind = λ t k. d.behind t k ∙ c.behind t (omega arith);
    }

-- the same change, said otherwise
refit : (l m : List ℕ) (x y u v : ℕ) (f g : ℕ → ℕ) → x ≡ u → y ≡ v → ((t : ℕ) → u ≤ t → t < v → f t ≡ g t) → Changed l m x y f → Changed l m u v g
refit l m x y u v f g eu ev e c =
    record {
      same = c.same;
      before = λ t h. c.before t (omega arith);
      inside = λ t h k. c.inside t (omega arith) (omega arith) ∙ ap (λ (i : ℕ). get_or l i 0) (e t h k);
      behind = λ t h. c.behind t (omega arith);
    }

-- ---- a run: at the start of the utterance, at its end, and between two good pairs
module _ (l m : List ℕ) (a b pairs : ℕ) where
  -- x and y are the run's first frame and the first behind it, as the code computes them
  pub fill_start : (x y : ℕ) → x ≡ first_frame a → y ≡ first_frame b → a ≡ 0 → Spread l m y x y → Filled l m a b pairs
  unfolding source_by
  fill_start x y ex ey z c =
      refit l m (frame_indices * x) (frame_indices * y) (pairs_octets a) (pairs_octets b) (λ t. frame_indices * y + t % frame_indices)
      (λ t. frame_indices * source_by a b pairs (t / frame_indices) + t % frame_indices) (omega arith) (omega arith) (λ t h k. rw (eq-eqb a 0 z, ey)) c

  -- w is the frame before the run
  pub fill_end : (w x y : ℕ) → w ≡ second_frame (a - 1) → x ≡ first_frame a → y ≡ first_frame b → (a ≡ 0 → ⊥) → b ≡ pairs → Spread l m w x y → Filled l m a b pairs
  unfolding source_by
  fill_end w x y ew ex ey n z c =
      let e : w ≡ frame_before a = omega (arith, n) in
      refit l m (frame_indices * x) (frame_indices * y) (pairs_octets a) (pairs_octets b) (λ t. frame_indices * w + t % frame_indices)
      (λ t. frame_indices * source_by a b pairs (t / frame_indices) + t % frame_indices) (omega arith) (omega arith) (λ t h k. rw (ne_eqb a 0 n, eq-eqb b pairs z, e)) c

  -- and p the frame behind its first half
  pub fill_between : (n : List ℕ) (w x y p : ℕ) → w ≡ second_frame (a - 1) → x ≡ first_frame a → y ≡ first_frame b → p ≡ middle_frame a b → a < b → (a ≡ 0 → ⊥) → (b ≡ pairs → ⊥)
      → Spread l n w x p → Spread n m y p y → Filled l m a b pairs
  unfolding source_by
  fill_between n w x y p ew ex ey ep h na nb c d =
      let e : w ≡ frame_before a = omega (arith, na) in
      let c' : Changed l n (pairs_octets a) (frame_indices * p) (λ t. frame_indices * frame_before a + t % frame_indices) =
      refit l n (frame_indices * x) (frame_indices * p) (pairs_octets a) (frame_indices * p) (λ t. frame_indices * w + t % frame_indices)
      (λ t. frame_indices * frame_before a + t % frame_indices) (omega arith) (omega arith) (λ t i j. rw e) c in
      let d' : Changed n m (frame_indices * p) (pairs_octets b) (λ t. frame_indices * frame_after b + t % frame_indices) =
      refit n m (frame_indices * p) (frame_indices * y) (frame_indices * p) (pairs_octets b) (λ t. frame_indices * y + t % frame_indices)
      (λ t. frame_indices * frame_after b + t % frame_indices) (omega arith) (omega arith) (λ t i j. rw ey) d in
      then l n m (pairs_octets a) (frame_indices * p) (pairs_octets b) (λ t. frame_indices * frame_before a + t % frame_indices) (λ t. frame_indices * frame_after b + t % frame_indices)
      (λ t. frame_indices * source_by a b pairs (t / frame_indices) + t % frame_indices) (omega arith) (omega arith) c' d'
      (λ t j k.
      let e : ltb (t / frame_indices - first_frame a) (b - a) ≡ true = lt-ltb (t / frame_indices - first_frame a) (b - a) (omega arith) in
      rw (ne_eqb a 0 na, ne_eqb b pairs nb, e))
      (λ t j k.
      let e : ltb (t / frame_indices - first_frame a) (b - a) ≡ false = le-ltb (t / frame_indices - first_frame a) (b - a) (omega arith) in
      c'.behind (frame_indices * frame_after b + t % frame_indices) (omega arith) ∙ rw (ne_eqb a 0 na, ne_eqb b pairs nb, e))

-- ---- all pairs before k are done in m, which was l
pub record Going (notes l m : List ℕ) (k : ℕ) : Type 0 where
  pub within : k ≤ length notes
  pub so_far : Changed l m 0 (pairs_octets k) (taken notes)
  pub fresh : k < length notes → (get_or notes k 0 ≡ 0 → ⊥) → run_start notes k ≡ k

pub begun : (notes l : List ℕ) → Going notes l l 0
unfolding run_start
begun notes l = record { within = omega arith; so_far = unchanged l 0 (taken notes); fresh = λ h b. refl }

-- an octet of a good pair is taken from its own place
own_place : (notes : List ℕ) (t : ℕ) → get_or notes (pair_of (t / frame_indices)) 0 ≡ 0 → taken notes t ≡ t
own_place notes t g = let e = good_stays notes (t / frame_indices) g in omega arith

module _ (notes l m : List ℕ) (k : ℕ) (here : k < length notes) (go : Going notes l m k) where
  -- and stands there
  good_there : (t : ℕ) → get_or notes (pair_of (t / frame_indices)) 0 ≡ 0 → get_or m t 0 ≡ get_or l t 0
  good_there t g =
      elim (dec_lt t (pairs_octets k)) [
        | yes y ↦ go.so_far.inside t (omega arith) y ∙ ap (λ (i : ℕ). get_or l i 0) (own_place notes t g)
        | no n ↦ go.so_far.behind t (omega arith)
      ]

  pub good_turn : get_or notes k 0 ≡ 0 → Going notes l m (k + 1)
  good_turn g =
      record {
        within = omega arith;
        so_far = record {
          same = go.so_far.same;
          before = go.so_far.before;
          inside = λ t h j. elim (dec_lt t (pairs_octets k)) [
            | yes y ↦ go.so_far.inside t h y
            | no n ↦
                let q : pair_of (t / frame_indices) ≡ k = omega arith in
                go.so_far.behind t (omega arith) ∙ ap (λ (i : ℕ). get_or l i 0) (sym (own_place notes t (ap (λ (i : ℕ). get_or notes i 0) q ∙ g)))
          ];
          behind = λ t h. go.so_far.behind t (omega arith);
        };
        fresh = λ h b. rw add-one (run_stop notes k g);
      }

  module _ (good : Good notes) (isBad : get_or notes k 0 ≡ 0 → ⊥) (b : ℕ) (ends : b ≡ run_end notes k) where
    pub the_run : Run notes k b
    the_run = rw (go.fresh here isBad, ← ends) at (run_of notes k here isBad)

    pub run_turn : (n : List ℕ) → Filled m n k b (length notes) → Going notes l n b
    run_turn n f =
        let r = the_run in
        let s = r.some in
        record {
          within = r.within;
          so_far = then l m n 0 (pairs_octets k) (pairs_octets b) (taken notes) (λ t. frame_indices * source_by k b (length notes) (t / frame_indices) + t % frame_indices) (taken notes)
              (omega arith) (omega arith) go.so_far f (λ t h j. refl) (λ t h j.
              let e : source notes (t / frame_indices) ≡ source_by k b (length notes) (t / frame_indices) = in_run notes k b r (t / frame_indices) (omega arith) (omega arith) in
              let w = r.within in
              let g = good_source notes good (t / frame_indices) (omega arith) in
              let d : taken notes t / frame_indices ≡ source notes (t / frame_indices) = omega arith in
              ap (λ (i : ℕ). get_or m (frame_indices * i + t % frame_indices) 0) (sym e) ∙ good_there (taken notes t) (ap (λ (i : ℕ). get_or notes (pair_of i) 0) d ∙ g.1));
          fresh = λ h x. absurd (⊎_elim (λ z. omega (arith, z)) x r.stop);
        }

pub done : (notes l m : List ℕ) → pairs_octets (length notes) ≤ length l → Going notes l m (length notes)
    → m ≡ over l 0 (pairs_octets (length notes)) (replaced notes l)
done notes l m room go =
    let c = go.so_far in
    let w = pairs_octets (length notes) in
    let size = replaced_length notes l in
    let n = length_over l (replaced notes l) 0 w (omega arith) size in
    ext_get_or 0 m (over l 0 w (replaced notes l)) (c.same ∙ sym n) (λ t h.
    elim (dec_lt t w) [
      | yes y ↦ c.inside t (omega arith) y ∙ sym (replaced_at notes l t y) ∙ sym (over_in l (replaced notes l) 0 w (omega arith) size t 0 y) ∙ ap (λ (i : ℕ). get_or (over l 0 w (replaced notes l)) i 0) (omega arith)
      | no k ↦ c.behind t (omega arith) ∙ sym (over_behind l (replaced notes l) 0 w (omega arith) size t 0 (omega arith))
    ])
