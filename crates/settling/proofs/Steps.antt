-- The steps by which the code settles, one header at a time: what its functions find in the stored readings.
-- Assumes nothing.
use Rattle.std.specs.Prelude.{Some, None}
use Rattle.std.specs.Bool.{then_some}
use Rattle.std.specs.List.{list_any}
use Rattle.std.proofs.lemmas.List.Folds.{list_any_more}
use Prim.Native.Nat.{ℕ, zero, suc, ◌+◌, ◌≤◌, ◌<◌}
use mathlib.Core.Path.{◌≡◌, refl, ap, sym, ◌∙◌}
use mathlib.Core.List.{List, [], ◌∷◌}
use mathlib.Core.Bool.{Bool, true, false, ◌||◌}
use lib.Dec.{eqb}
use lib.ListN.{length, get_or, take, drop}
use lib.Seq.{drop-cons, drop-length}
use native.Mathlib.Numerals.{add-one}
use native.Mathlib.Omega.{arith}
use Rattle.lists.specs.Tests.{when}
use Rattle.lists.specs.Rows.{each_at}
use Rattle.message.specs.Message.{common_bits}
use Rattle.header.specs.declared.Decoded.{Decoded}
use Rattle.header.specs.Types.{Header}
use Rattle.choices.specs.Choices.{one_settles}
use Rattle.choices.specs.declared.Choices.{Choices}
use Rattle.settling.specs.Settling.{among, first_agreeing, only_one, or_else, settling}
use Rattle.settling.specs.Types.{Settlement}
use Rattle.header_readings.specs.Stored.{opened, open_all, length_open}
use Rattle.settling.specs.Steps.{with_seen, seen_before, settled_by, has_common}

-- ---- the stored readings, opened
pub open_at : (l : List ℕ) (k : ℕ) → k < length l → get_or (open_all l) k None ≡ opened (get_or l k 0)
unfolding open_all
open_at l k h = each_at (λ k. opened (get_or l k 0)) (length l) k None h

pub agreeing_step : (h : Header) (hs : List Header) (seen : List ℕ) → first_agreeing seen (h ∷ hs) ≡ or_else (settled_by h seen) (first_agreeing (with_seen h seen) hs)
unfolding first_agreeing
agreeing_step None hs seen = refl
agreeing_step (Some d) hs seen = by (among (common_bits d.message) seen)
  where
    by : (t : Bool) → when t (Some (common_bits d.message)) (first_agreeing (common_bits d.message ∷ seen) hs)
        ≡ or_else (when t (Some (common_bits d.message)) None) (first_agreeing (common_bits d.message ∷ seen) hs)
    by true = refl
    by false = refl

-- what is left to settle from header k on
pub agreeing_on : (hs : List Header) (k : ℕ) (s : Settlement) → k < length hs → s ≡ settled_by (get_or hs k None) (seen_before hs k)
    → first_agreeing (seen_before hs k) (drop k hs) ≡ or_else s (first_agreeing (seen_before hs (k + 1)) (drop (k + 1) hs))
unfolding seen_before
agreeing_on hs k s h e = rw (drop-cons hs k None h, add-one k, e) (agreeing_step (get_or hs k None) (drop (suc k) hs) (seen_before hs k))

pub agreeing_end : (hs : List Header) (seen : List ℕ) → first_agreeing seen (drop (length hs) hs) ≡ None
unfolding first_agreeing
agreeing_end hs seen = rw (drop-length hs)

-- ---- looking back for common bits
pub among_step : (hs : List Header) (c k : ℕ) → among c (seen_before hs (suc k)) ≡ when (has_common (get_or hs k None) c) true (among c (seen_before hs k))
unfolding seen_before
among_step hs c k = from (get_or hs k None)
  where
    from : (h : Header) → among c (with_seen h (seen_before hs k)) ≡ when (has_common h c) true (among c (seen_before hs k))
    from None = refl
    from (Some d) = refl

pub any_is_among : (l : List ℕ) (c k : ℕ) → k ≤ length l → list_any (λ x. has_common (opened x) c) (take k l) ≡ among c (seen_before (open_all l) k)
unfolding seen_before
any_is_among l c zero h = refl
any_is_among l c (suc k) h =
    let p : ℕ → Bool = λ x. has_common (opened x) c in
    let at : get_or (open_all l) k None ≡ opened (get_or l k 0) = open_at l k (omega arith) in
    rw (← add-one k, list_any_more p l k 0 (omega arith), any_is_among l c k (omega arith))
    (either (p (get_or l k 0)) (among c (seen_before (open_all l) k))
    ∙ sym (among_step (open_all l) c k ∙ ap (λ (h : Header). when (has_common h c) true (among c (seen_before (open_all l) k))) at))
  where
    either : (t u : Bool) → (u || t) ≡ when t true u
    either true true = refl
    either true false = refl
    either false true = refl
    either false false = refl

-- ---- an only header
abbrev pub only_by : Header → Settlement
only_by None = None
only_by (Some d) = when (eqb d.flips 0) (Some (common_bits d.message)) None

pub only_is : (hs : List Header) → length hs ≡ 1 → only_one hs ≡ only_by (get_or hs 0 None)
unfolding only_one
only_is [] e = absurd (omega arith)
only_is (None ∷ hs) e = refl
only_is (Some d ∷ []) e = refl
only_is (Some d ∷ h ∷ hs) e = absurd (omega arith)

-- ---- what the code's branches find
as_when : (t : Bool) (c : ℕ) → then_some t c ≡ when t (Some c) None
as_when true c = refl
as_when false c = refl

module _ (l : List ℕ) (k : ℕ) (h : k < length l) (r : Header) (e : r ≡ opened (get_or l k 0)) where
  pub found_at : get_or (open_all l) k None ≡ r
  found_at = open_at l k h ∙ sym e

  pub lost_settles_nothing : (seen : List ℕ) → r ≡ None → None ≡ settled_by (get_or (open_all l) k None) seen
  lost_settles_nothing seen q = rw (found_at, q)

  pub seen_settles : (seen : List ℕ) (d : Decoded) (c : ℕ) (t : Bool) (s : Settlement) → r ≡ Some d → c ≡ common_bits d.message → t ≡ among c seen → s ≡ then_some t c
      → s ≡ settled_by (get_or (open_all l) k None) seen
  seen_settles seen d c t s q ec et es =
      let st : s ≡ then_some (among (common_bits d.message) seen) (common_bits d.message) = es ∙ ap (λ (t : Bool). then_some t c) et ∙ ap (λ (x : ℕ). then_some (among x seen) x) ec in
      rw (found_at, q) (st ∙ as_when (among (common_bits d.message) seen) (common_bits d.message))

module _ (l : List ℕ) (one : length l ≡ 1) (r : Header) (e : r ≡ opened (get_or l 0 0)) where
  pub only_found : only_one (open_all l) ≡ only_by r
  only_found = only_is (open_all l) (length_open l ∙ one) ∙ ap only_by (found_at l 0 (omega arith) r e)

  pub only_lost : r ≡ None → None ≡ only_one (open_all l)
  only_lost q = rw (only_found, q)

  pub only_clean : (d : Decoded) (c : ℕ) (s : Settlement) → r ≡ Some d → c ≡ common_bits d.message → s ≡ then_some (eqb d.flips 0) c → s ≡ only_one (open_all l)
  only_clean d c s q ec es = rw (only_found, q) (es ∙ ap (λ (x : ℕ). then_some (eqb d.flips 0) x) ec ∙ as_when (eqb d.flips 0) (common_bits d.message))

-- ---- what is settled in the end: two that agree, or one alone where it is asked for
module _ (ch : Choices) (hs : List Header) (s : Settlement) (e : s ≡ first_agreeing [] hs) where
  pub settled_alone : (o : Settlement) → s ≡ None → one_settles ch ≡ true → o ≡ only_one hs → o ≡ settling ch hs
  unfolding settling
  settled_alone o q t eo = rw (sym e ∙ q, t) eo

  pub settled_nothing : s ≡ None → one_settles ch ≡ false → None ≡ settling ch hs
  unfolding settling
  settled_nothing q t = rw (sym e ∙ q, t)

  pub settled_by_two : (c : ℕ) → s ≡ Some c → Some c ≡ settling ch hs
  unfolding settling
  settled_by_two c q = rw (sym e ∙ q)
