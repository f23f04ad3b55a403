-- What a reader of 01 would ask of `notes`, and the steps by which the reader works them out.
-- Assumes nothing.
use Rattle.std.specs.Prelude.{ℕ, zero, suc, ◌+◌, ◌≤◌, ◌<◌, ◌≡◌, refl, List, [], ◌∷◌, Bool, true, false, eqb, length, get_or, drop}
use Rattle.std.proofs.Common.{ap, ◌∙◌, drop-cons, drop-drop, get_or-drop, add-one, arith, eqb-true}
use Rattle.std.proofs.lemmas.Bool.{eqb-false}
use Rattle.lists.specs.Tests.{when}
use Rattle.bad_pairs.specs.BadPairs.{bad, note_by, undecided_by, notes_from, notes, bad_pairs}

-- ---- one pair

-- a failed CRC is 1, whatever else
pub failed_is_1 : (before inconsistent after : Bool) → note_by before true inconsistent after ≡ 1
unfolding note_by
failed_is_1 before inconsistent after = refl

-- a consistent pair with a right CRC is good
pub consistent_is_good : (before after : Bool) → note_by before false false after ≡ 0
unfolding note_by
consistent_is_good before after = refl

-- an inconsistent pair between good neighbours is good
pub lone_inconsistent : note_by false false true false ≡ 0
unfolding note_by
lone_inconsistent = refl

-- it is bad if the next pair's CRC fails, and if the pair before it is bad
pub next_failed : (before : Bool) → note_by before false true true ≡ 2
unfolding note_by
next_failed before = refl

pub before_bad : (after : Bool) → note_by true false true after ≡ 2
unfolding note_by
before_bad true = refl
before_bad false = refl

-- consistency need be known only where it matters
pub only_undecided : (before fails inconsistent after : Bool) → note_by before fails inconsistent after ≡ note_by before fails (when (undecided_by before fails after) inconsistent false) after
unfolding note_by undecided_by
only_undecided before true inconsistent after = refl
only_undecided before false inconsistent true = refl
only_undecided true false inconsistent false = refl
only_undecided false false true false = refl
only_undecided false false false false = refl

-- ---- all pairs

-- as many notes as pairs
pub notes_length : (before : Bool) (fs os : List Bool) → length (notes_from before fs os) ≡ length fs
notes_length before [] os = refl
notes_length before (f ∷ fs) os = ap suc (notes_length (bad (note_by before f (get_or os 0 false) (get_or fs 0 false))) fs (drop 1 os))

-- whether the pair before pair k is bad, where `before` says so of the one before the first
abbrev pub bad_before : Bool → List ℕ → ℕ → Bool
bad_before before ns zero = before
bad_before before ns (suc k) = bad (get_or ns k 0)

-- every pair's note, by its number: by the note before it, its own CRC and consistency, and the next pair's CRC
pub note_at : (before : Bool) (fs os : List Bool) (k : ℕ) → k < length fs
    → get_or (notes_from before fs os) k 0 ≡ note_by (bad_before before (notes_from before fs os) k) (get_or fs k false) (get_or os k false) (get_or fs (suc k) false)
note_at before [] os k h = absurd (omega arith)
note_at before (f ∷ fs) os zero h = refl
note_at before (f ∷ fs) os (suc k) h = later k (note_at n fs (drop 1 os) k (omega arith))
  where
    n : Bool
    n = bad (note_by before f (get_or os 0 false) (get_or fs 0 false))

    own : (k : ℕ) → get_or (drop 1 os) k false ≡ get_or os (suc k) false
    own k = get_or-drop 1 os k false ∙ ap (λ (i : ℕ). get_or os i false) (omega arith)

    later : (k : ℕ)
        → get_or (notes_from n fs (drop 1 os)) k 0 ≡ note_by (bad_before n (notes_from n fs (drop 1 os)) k) (get_or fs k false) (get_or (drop 1 os) k false) (get_or fs (suc k) false)
        → get_or (notes_from n fs (drop 1 os)) k 0 ≡ note_by (bad_before before (notes_from before (f ∷ fs) os) (suc k)) (get_or fs k false) (get_or os (suc k) false) (get_or fs (suc k) false)
    later zero e = rw (own 0) at e
    later (suc k) e = rw (own (suc k)) at e

-- no failed CRC, no bad pair
quiet : (inconsistent : Bool) → note_by false false inconsistent false ≡ 0
unfolding note_by
quiet true = refl
quiet false = refl

pub no_failed_no_bad : (fs os : List Bool) → ((k : ℕ) → get_or fs k false ≡ false) → (k : ℕ) → k < length fs → get_or (notes fs os) k 0 ≡ 0
no_failed_no_bad fs os h zero i = note_at false fs os 0 i ∙ rw (h 0, h 1) (quiet (get_or os 0 false))
no_failed_no_bad fs os h (suc k) i =
    note_at false fs os (suc k) i ∙ rw (h (suc k), h (suc (suc k)), no_failed_no_bad fs os h k (omega arith)) (quiet (get_or os (suc k) false))

-- ---- the steps of the reader's loop

pub notes_step : (b : Bool) (k : ℕ) (fs os : List Bool) → k < length fs
    → notes_from b (drop k fs) (drop k os)
    ≡ note_by b (get_or fs k false) (get_or os k false) (get_or fs (k + 1) false)
    ∷ notes_from (bad (note_by b (get_or fs k false) (get_or os k false) (get_or fs (k + 1) false))) (drop (k + 1) fs) (drop (k + 1) os)
notes_step b k fs os h =
    let z : k + 0 ≡ k = omega arith in
    let g : get_or (drop (suc k) fs) 0 false ≡ get_or fs (k + 1) false = get_or-drop (suc k) fs 0 false ∙ ap (λ (n : ℕ). get_or fs n false) (omega arith) in
    let o : get_or (drop k os) 0 false ≡ get_or os k false = get_or-drop k os 0 false ∙ ap (λ (n : ℕ). get_or os n false) z in
    rw (drop-cons fs k false h, g, o, drop-drop 1 k os, add-one)

-- ---- the count

pub few_bad : (ns : List ℕ) → bad_pairs ns ≤ length ns
few_bad [] = omega arith
few_bad (n ∷ ns) = by (eqb n 0) (few_bad ns)
  where
    by : (t : Bool) → bad_pairs ns ≤ length ns → when t (bad_pairs ns) (suc (bad_pairs ns)) ≤ suc (length ns)
    by true h = omega arith
    by false h = omega arith

-- a pair that is not bad is found if not every pair is bad, and none is otherwise
pub record Good (ns : List ℕ) : Type 0 where
  pub pair : ℕ
  pub within : pair < length ns
  pub good : get_or ns pair 0 ≡ 0

pub some_good : (ns : List ℕ) → bad_pairs ns < length ns → Good ns
some_good [] h = absurd (omega arith)
some_good (n ∷ ns) h = by (eqb n 0) refl h (λ k. some_good ns k)
  where
    by : (t : Bool) → eqb n 0 ≡ t → when t (bad_pairs ns) (suc (bad_pairs ns)) < suc (length ns) → (bad_pairs ns < length ns → Good ns) → Good (n ∷ ns)
    by true e h f = record { pair = 0; within = omega arith; good = eqb-true n 0 e }
    by false e h f = let g = f (omega arith) in record { pair = suc g.pair; within = omega (arith, g.within); good = g.good }

pub none_good : (ns : List ℕ) → bad_pairs ns ≡ length ns → (k : ℕ) → k < length ns → get_or ns k 0 ≡ 0 → ⊥
none_good [] e k h z = omega arith
none_good (n ∷ ns) e k h z = by (eqb n 0) refl e k h z (λ a k. none_good ns a k)
  where
    by : (t : Bool) → eqb n 0 ≡ t → when t (bad_pairs ns) (suc (bad_pairs ns)) ≡ suc (length ns) → (k : ℕ) → k < suc (length ns) → get_or (n ∷ ns) k 0 ≡ 0
        → (bad_pairs ns ≡ length ns → (k : ℕ) → k < length ns → get_or ns k 0 ≡ 0 → ⊥) → ⊥
    by true q e k h z f = omega (arith, few_bad ns)
    by false q e zero h z f = eqb-false n 0 q z
    by false q e (suc k) h z f = f (omega arith) k (omega arith) z

-- where none is counted none is bad
pub none_bad : (ns : List ℕ) → bad_pairs ns ≡ 0 → (k : ℕ) → get_or ns k 0 ≡ 0
none_bad [] e k = refl
none_bad (n ∷ ns) e k = by (eqb n 0) refl e k (λ a. none_bad ns a)
  where
    by : (t : Bool) → eqb n 0 ≡ t → when t (bad_pairs ns) (suc (bad_pairs ns)) ≡ 0 → (k : ℕ) → (bad_pairs ns ≡ 0 → (k : ℕ) → get_or ns k 0 ≡ 0) → get_or (n ∷ ns) k 0 ≡ 0
    by true q e zero f = eqb-true n 0 q
    by true q e (suc k) f = f e k
    by false q e k f = absurd (omega arith)
