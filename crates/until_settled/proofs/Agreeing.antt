-- Headers that settle, one more at a time: the first two that agree settle, and no header behind them counts.
-- Assumes nothing.
use Rattle.std.specs.Prelude.{ℕ, zero, suc, ◌+◌, ◌≤◌, ◌<◌, ◌≡◌, refl, List, [], ◌∷◌, ◌++◌, Bool, true, false, length, get_or, take, Some, None}
use Rattle.std.proofs.Common.{ap, sym, ◌∙◌, length-append, take-suc, arith}
use Rattle.std.proofs.Math.Seq.{take-append_seam, get_or-append_seam}
use Rattle.lists.specs.Tests.{when}
use Rattle.message.specs.Message.{common_bits}
use Rattle.header.specs.declared.Decoded.{Decoded}
use Rattle.header.specs.Types.{Header}
use Rattle.settling.specs.Settling.{among, first_agreeing}
use Rattle.settling.specs.Steps.{with_seen, seen_before, settled_by}
use Rattle.until_settled.specs.UntilSettled.{read_until}

-- a readable header's common bits
abbrev common : Decoded → ℕ
common d = common_bits d.message

settled_not : (c : ℕ) → Some c ≡ None → ⊥
settled_not c e = let z : ◌≡◌ {A = ℕ} 0 1 = cc in absurd (omega arith)

-- ---- what settles in front settles, with as many headers read, whatever stands behind
pub front_settles : (seen : List ℕ) (hs gs : List Header) (c : ℕ) → first_agreeing seen hs ≡ Some c
    → (first_agreeing seen (hs ++ gs) ≡ Some c) × (read_until seen (hs ++ gs) ≡ read_until seen hs)
unfolding first_agreeing read_until
front_settles seen [] gs c e = absurd (settled_not c (sym e))
front_settles seen (None ∷ hs) gs c e = let i = front_settles seen hs gs c e in (i.0, ap suc i.1)
front_settles seen (Some d ∷ hs) gs c e = by (among (common d) seen) (front_settles (common d ∷ seen) hs gs c) e
  where
    by : (t : Bool) → (first_agreeing (common d ∷ seen) hs ≡ Some c → (first_agreeing (common d ∷ seen) (hs ++ gs) ≡ Some c) × (read_until (common d ∷ seen) (hs ++ gs) ≡ read_until (common d ∷ seen) hs))
        → when t (Some (common d)) (first_agreeing (common d ∷ seen) hs) ≡ Some c
        → (when t (Some (common d)) (first_agreeing (common d ∷ seen) (hs ++ gs)) ≡ Some c) × (when t 1 (suc (read_until (common d ∷ seen) (hs ++ gs))) ≡ when t 1 (suc (read_until (common d ∷ seen) hs)))
    by true i e = (e, refl)
    by false i e = let j = i e in (j.0, ap suc j.1)

-- ---- and only the headers that are read are needed for it
pub front_enough : (seen : List ℕ) (hs : List Header) (c : ℕ) → first_agreeing seen hs ≡ Some c
    → (first_agreeing seen (take (read_until seen hs) hs) ≡ Some c) × (read_until seen hs ≤ length hs) × (1 ≤ read_until seen hs)
unfolding first_agreeing read_until
front_enough seen [] c e = absurd (settled_not c (sym e))
front_enough seen (None ∷ hs) c e = let i = front_enough seen hs c e in (i.0, omega (arith, i.1), omega arith)
front_enough seen (Some d ∷ hs) c e = by (among (common d) seen) refl (front_enough (common d ∷ seen) hs c) e
  where
    by : (t : Bool) → among (common d) seen ≡ t
        → (first_agreeing (common d ∷ seen) hs ≡ Some c → (first_agreeing (common d ∷ seen) (take (read_until (common d ∷ seen) hs) hs) ≡ Some c) × (read_until (common d ∷ seen) hs ≤ length hs) × (1 ≤ read_until (common d ∷ seen) hs))
        → when t (Some (common d)) (first_agreeing (common d ∷ seen) hs) ≡ Some c
        → (first_agreeing seen (take (when t 1 (suc (read_until (common d ∷ seen) hs))) (Some d ∷ hs)) ≡ Some c) × (when t 1 (suc (read_until (common d ∷ seen) hs)) ≤ suc (length hs)) × (1 ≤ when t 1 (suc (read_until (common d ∷ seen) hs)))
    by true q i e = (rw q e, omega arith, omega arith)
    by false q i e = let j = i e in (rw q j.0, omega (arith, j.1), omega arith)

-- no fewer do
pub not_before : (seen : List ℕ) (hs : List Header) (k : ℕ) → k < read_until seen hs → first_agreeing seen (take k hs) ≡ None
unfolding first_agreeing read_until
not_before seen [] k h = absurd (omega arith)
not_before seen (h ∷ hs) zero l = refl
not_before seen (None ∷ hs) (suc k) l = not_before seen hs k (omega arith)
not_before seen (Some d ∷ hs) (suc k) l = by (among (common d) seen) l (not_before (common d ∷ seen) hs k)
  where
    by : (t : Bool) → suc k < when t 1 (suc (read_until (common d ∷ seen) hs)) → (k < read_until (common d ∷ seen) hs → first_agreeing (common d ∷ seen) (take k hs) ≡ None)
        → when t (Some (common d)) (first_agreeing (common d ∷ seen) (take k hs)) ≡ None
    by true l i = absurd (omega arith)
    by false l i = i (omega arith)

-- and it takes two
pub two_read : (hs : List Header) (c : ℕ) → first_agreeing [] hs ≡ Some c → 2 ≤ read_until [] hs
unfolding first_agreeing read_until
two_read [] c e = absurd (settled_not c (sym e))
two_read (None ∷ hs) c e = let i = two_read hs c e in omega arith
two_read (Some d ∷ hs) c e = let i = front_enough (common d ∷ []) hs c e in omega (arith, i.2)

-- ---- where none agrees, all are read
pub all_read : (seen : List ℕ) (hs : List Header) → first_agreeing seen hs ≡ None → read_until seen hs ≡ length hs
unfolding first_agreeing read_until
all_read seen [] e = refl
all_read seen (None ∷ hs) e = ap suc (all_read seen hs e)
all_read seen (Some d ∷ hs) e = by (among (common d) seen) (all_read (common d ∷ seen) hs) e
  where
    by : (t : Bool) → (first_agreeing (common d ∷ seen) hs ≡ None → read_until (common d ∷ seen) hs ≡ length hs) → when t (Some (common d)) (first_agreeing (common d ∷ seen) hs) ≡ None
        → when t 1 (suc (read_until (common d ∷ seen) hs)) ≡ suc (length hs)
    by true i e = absurd (settled_not (common d) e)
    by false i e = ap suc (i e)

-- ---- one header more

-- the common bits seen in all of them, the last one first
abbrev pub seen_all : List ℕ → List Header → List ℕ
seen_all seen [] = seen
seen_all seen (h ∷ hs) = seen_all (with_seen h seen) hs

seen_more : (seen : List ℕ) (hs : List Header) (h : Header) → seen_all seen (hs ++ (h ∷ [])) ≡ with_seen h (seen_all seen hs)
seen_more seen [] h = refl
seen_more seen (x ∷ hs) h = seen_more (with_seen x seen) hs h

seen_before_lem : (hs : List Header) (k : ℕ) → k ≤ length hs → seen_before hs k ≡ seen_all [] (take k hs)
unfolding seen_before
seen_before_lem hs zero h = refl
seen_before_lem hs (suc k) h =
    ap (with_seen (get_or hs k None)) (seen_before_lem hs k (omega arith)) ∙ sym (ap (seen_all []) (take-suc hs k None (omega arith)) ∙ seen_more [] (take k hs) (get_or hs k None))

-- settled by it, or by none
alone : (seen : List ℕ) (h : Header) → first_agreeing seen (h ∷ []) ≡ settled_by h seen
unfolding first_agreeing
alone seen None = refl
alone seen (Some d) = refl

more : (seen : List ℕ) (hs : List Header) (h : Header) → first_agreeing seen hs ≡ None
    → (first_agreeing seen (hs ++ (h ∷ [])) ≡ settled_by h (seen_all seen hs)) × (read_until seen (hs ++ (h ∷ [])) ≡ length hs + 1)
unfolding first_agreeing read_until
more seen [] None e = (refl, refl)
more seen [] (Some d) e = (refl, by (among (common_bits d.message) seen))
  where
    by : (t : Bool) → ◌≡◌ {A = ℕ} (when t 1 1) 1
    by true = refl
    by false = refl
more seen (None ∷ hs) h e = let i = more seen hs h e in (i.0, ap suc i.1 ∙ omega arith)
more seen (Some d ∷ hs) h e = by (among (common d) seen) (more (common d ∷ seen) hs h) e
  where
    by : (t : Bool)
        → (first_agreeing (common d ∷ seen) hs ≡ None → (first_agreeing (common d ∷ seen) (hs ++ (h ∷ [])) ≡ settled_by h (seen_all (common d ∷ seen) hs)) × (read_until (common d ∷ seen) (hs ++ (h ∷ [])) ≡ length hs + 1))
        → when t (Some (common d)) (first_agreeing (common d ∷ seen) hs) ≡ None
        → (when t (Some (common d)) (first_agreeing (common d ∷ seen) (hs ++ (h ∷ []))) ≡ settled_by h (seen_all (common d ∷ seen) hs)) × (when t 1 (suc (read_until (common d ∷ seen) (hs ++ (h ∷ [])))) ≡ suc (length hs) + 1)
    by true i e = absurd (settled_not (common d) e)
    by false i e = let j = i e in (j.0, ap suc j.1 ∙ omega arith)

-- where none of hs agrees, one more settles what it agrees in with an earlier one; then all of them are read
pub one_more : (hs : List Header) (h : Header) → first_agreeing [] hs ≡ None
    → first_agreeing [] (hs ++ (h ∷ [])) ≡ settled_by (get_or (hs ++ (h ∷ [])) (length hs) None) (seen_before (hs ++ (h ∷ [])) (length hs))
one_more hs h e =
    let gs = hs ++ (h ∷ []) in
    let size : length hs ≤ length gs = omega (arith, length-append hs (h ∷ [])) in
    let seen : seen_before gs (length hs) ≡ seen_all [] hs = seen_before_lem gs (length hs) size ∙ ap (seen_all []) (take-append_seam hs (h ∷ [])) in
    (more [] hs h e).0 ∙ rw (get_or-append_seam hs h [] None, seen)

pub one_more_read : (hs : List Header) (h : Header) → first_agreeing [] hs ≡ None → read_until [] (hs ++ (h ∷ [])) ≡ length hs + 1
one_more_read hs h e = (more [] hs h e).1
