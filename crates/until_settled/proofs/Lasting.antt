-- Which answers stay however a recording grows (02, C-11): settings and 17 that two headers settled, 12 and 15. 13, 14 and 16 need not: there more octets
-- can settle, if fewer than 255 multiframes came.
-- Assumes nothing.
use Rattle.std.specs.Prelude.{ℕ, ◌+◌, ◌-◌, ◌≤◌, ◌<◌, Bool, length, get_or, eqb, Some, None, Ok, Err}
use Rattle.std.proofs.Math.Path.{◌≡◌, refl}
use Rattle.std.proofs.Common.{ap, sym, ◌∙◌, subst, inl, inr, length-append}
use mathlib.Core.List.{List, [], ◌++◌, append-nil}
use Rattle.std.proofs.Math.Bool.{true, false}
use Rattle.std.proofs.Math.ListN.{get_or-append}
use Rattle.std.proofs.lemmas.List.{take-append-le}
use native.Mathlib.Omega.{arith}
use Rattle.lists.specs.Tests.{when}
use Rattle.choices.specs.Choices.{one_settles}
use Rattle.choices.specs.declared.Choices.{Choices}
use Rattle.message.specs.Message.{settings_of}
use Rattle.refusals.specs.declared.Reading.{Reading as Refusal}
use Rattle.refusals.specs.declared.Reading.TheVariants.{WrongTables, NegativeThreshold, Unknown, CutShort, Empty, TooMany, Unsettled, Unfit, IndexShort, ReportShort, AllBad}
use Rattle.cutting.specs.declared.Piece.{Piece}
use Rattle.cutting.specs.declared.Piece.TheVariants as P
use Rattle.cutting.specs.Cutting.{Ending, whole, refused, Cutting, ended, step, cutting}
use Rattle.cutting.specs.Laws.{Says}
use Rattle.cutting.proofs.Laws.{at_place}
use Rattle.cutting.specs.Reached.{Here, Meets, Reason}
use Rattle.cutting.proofs.ReachedLaws.{here_piece, ends_exactly}
use Rattle.header_readings.specs.Readings.{readings}
use Rattle.settling.specs.Settling.{first_agreeing, settling}
use Rattle.unfit.specs.Unfit.{unfit}
use Rattle.settling.proofs.Laws.{not_one}
use Rattle.settling.specs.Types.{Settlement}
use Rattle.until_settled.specs.Types.{Answer}
use Rattle.until_settled.specs.declared.Beginning.{Beginning}
use Rattle.until_settled.specs.UntilSettled.{settled_answer, end_answer, unsettled_answer, answer_by, until_settled}
use Rattle.until_settled.specs.Front.{Front, reached_front, goes, same_front, same_readings}
use Rattle.until_settled.specs.Laws.{headers, Agreed, multiframes_read}
use Rattle.until_settled.proofs.Laws.{ends_here, longer, at_least_two, read_count}
use Rattle.until_settled.specs.Lasting.{OfTwo}

module _ (ch : Choices) (s : List ℕ) (of_two : OfTwo ch (until_settled ch s)) where
  -- what cutting refuses does not come of two headers
  cut_not : (r : Refusal) → Reason s r → OfTwo ch (Err r) → ⊥
  cut_not WrongTables h t = h
  cut_not (NegativeThreshold k) h t = h
  cut_not (Unknown p) h t = t
  cut_not (CutShort p) h t = t
  cut_not (Empty n) h t = h
  cut_not (TooMany p) h t = t
  cut_not Unsettled h t = h
  cut_not Unfit h t = h
  cut_not (IndexShort n) h t = h
  cut_not (ReportShort n) h t = h
  cut_not AllBad h t = h

  module _ (none : first_agreeing [] (headers s) ≡ None) where
    quiet : one_settles ch ≡ false → settling ch (headers s) ≡ None
    unfolding settling
    quiet o = rw (none, o)

    -- nor what the end of the octets gives
    end_not : (x : Settlement) (n : ℕ) → settling ch (headers s) ≡ x → length (headers s) ≡ n → OfTwo ch (settled_answer n x) → ⊥
    end_not None n ex en t = t
    end_not (Some c) n ex en t = one (unfit c) t
      where
        asked : (one_settles ch ≡ false → ⊥) × (2 ≤ n → ⊥)
        asked = (
          λ o. let u : None ≡ Some c = sym (quiet o) ∙ ex in let z : ◌≡◌ {A = ℕ} 0 1 = cc in omega arith,
          λ two. let u : None ≡ Some c = sym (not_one ch (headers s) (λ e. omega arith) ∙ none) ∙ ex in let z : ◌≡◌ {A = ℕ} 0 1 = cc in omega arith,
        )

        one : (b : Bool) → OfTwo ch (when b (Err Unfit) (Ok (record { settings = settings_of c; multiframes = n }))) → ⊥
        one true t = asked.0 t
        one false (inl o) = asked.0 o
        one false (inr two) = asked.1 two

    by_ending : (e : Ending) → (cutting s).ending ≡ e → OfTwo ch (unsettled_answer ch (length s) (headers s) e) → ⊥
    unfolding end_answer
    by_ending (refused r) e t = cut_not r ((ends_exactly s (refused r)).0 e) t
    by_ending whole e t = at (eqb (length (headers s)) 0) t
      where
        at : (b : Bool) → OfTwo ch (when b (Err (Empty (length s))) (settled_answer (length (headers s)) (settling ch (headers s)))) → ⊥
        at true t = t
        at false t = end_not (settling ch (headers s)) (length (headers s)) refl refl t

  found : (x : Settlement) → first_agreeing [] (headers s) ≡ x → OfTwo ch (answer_by ch (length s) (headers s) (cutting s).ending x) → (c : ℕ) × Agreed s c
  found (Some c) e t = (c, e)
  found None e t = absurd (by_ending e (cutting s).ending refl t)

  -- two headers agree
  pub two_agreed : (c : ℕ) × Agreed s c
  unfolding until_settled
  two_agreed = found (first_agreeing [] (headers s)) refl of_two

  -- and at least two multiframes are read
  pub two_or_more_read : (b : Beginning) → until_settled ch s ≡ Ok b → 2 ≤ b.multiframes
  two_or_more_read b e = subst (λ (k : ℕ). 2 ≤ k) (sym (read_count ch s b e two_agreed.0 two_agreed.1)) (at_least_two s two_agreed.0 two_agreed.1)

  -- SO IT IS THAT OF EVERY LONGER RECORDING THAT BEGINS WITH THE SAME OCTETS
  pub stays_longer : (more : List ℕ) → until_settled ch (s ++ more) ≡ until_settled ch s
  stays_longer more = longer s two_agreed.0 two_agreed.1 ch more

-- WHAT IS ANSWERED BY DEFAULT IS OF TWO MULTIFRAMES OR MORE (C-20)
pub default_two : (ch : Choices) (s : List ℕ) → one_settles ch ≡ false → (b : Beginning) → until_settled ch s ≡ Ok b → 2 ≤ b.multiframes
default_two ch s o b e = two_or_more_read ch s (subst (OfTwo ch) (sym e) (inl o)) b e

-- ---- 12 AND 15 STAY TOO, whatever was chosen: what begins nothing known goes on doing so, and a sync after 255 multiframes stays one too many

-- more octets behind them do not change what these two say of the octets at p
longer_unknown : (n k a b c m : ℕ) → (2 ≤ n → c ≡ b) → Says n a b m P.Unknown → Says (n + k) a c m P.Unknown
longer_unknown n k a b c m same h =
    (omega (arith, h.0), (λ e. let f = h.1 e in (omega (arith, f.0), λ g. f.1 (sym (same f.0) ∙ g))), λ e. let f = h.2 e in (omega (arith, f.0), λ g. f.1 (sym (same f.0) ∙ g)))

longer_many : (n k a b c m : ℕ) → (2 ≤ n → c ≡ b) → Says n a b m P.TooMany → Says (n + k) a c m P.TooMany
longer_many n k a b c m same h = (omega (arith, h.0), omega (arith, h.1), h.2, h.3, same h.1 ∙ h.4)

module _ (ch : Choices) (s more : List ℕ) where
  length_all : length (s ++ more) ≡ length s + length more
  length_all = length-append s more

  same_at : (i : ℕ) → i < length s → get_or (s ++ more) i 0 ≡ get_or s i 0
  same_at i h = get_or-append s more 0 i h

  module _ (p : ℕ) (q : Piece) (r : Refusal) (stops : (v w : Cutting) → step q p v w ≡ ended (refused r))
      (longer-so : (n k a b c m : ℕ) → (2 ≤ n → c ≡ b) → Says n a b m q → Says (n + k) a c m q) (some : (n a b m : ℕ) → Says n a b m q → 0 < n)
      (none : first_agreeing [] (headers s) ≡ None) (meets : Meets s p q) where
    abbrev m : ℕ
    m = meets.0

    abbrev f : (ps : List ℕ) × (Front s p ps × (length ps ≡ m))
    f = reached_front s meets.1.0

    abbrev ps : List ℕ
    ps = f.0

    inside : p < length s
    inside = omega (arith, some (length s - p) (get_or s p 0) (get_or s (p + 1) 0) m meets.1.1)

    -- nothing is met behind p
    all_met : (cutting s).places ≡ ps
    all_met =
        let w = at_place s p (length ps) q (here_piece s p (length ps) q (subst (λ (k : ℕ). Here s p k q) (sym f.1.1) meets.1.1)) ∙ stops _ _ in
        (goes s f.1.0).all ∙ ap (λ (v : Cutting). ps ++ v.places) w ∙ append-nil ps

    there : Front (s ++ more) p ps
    there = same_front s (s ++ more) p (omega (arith, inside)) (take-append-le p s more (omega (arith, inside))) f.1.0 (omega arith)

    read_alike : readings (s ++ more) ps ≡ headers s
    read_alike = same_readings s (s ++ more) p (omega (arith, inside)) (take-append-le p s more (omega (arith, inside))) f.1.0 (omega arith) ∙ ap (readings s) (sym all_met)

    second : 2 ≤ length s - p → get_or (s ++ more) (p + 1) 0 ≡ get_or s (p + 1) 0
    second h = same_at (p + 1) (omega arith)

    here : Here (s ++ more) p (length ps) q
    here =
        let size : length s - p + length more ≡ length (s ++ more) - p = omega (arith, length_all, inside) in
        subst (λ (k : ℕ). Here (s ++ more) p k q) (sym f.1.1)
        (subst (λ (k : ℕ). Says k (get_or (s ++ more) p 0) (get_or (s ++ more) (p + 1) 0) m q) size
        (subst (λ (a : ℕ). Says (length s - p + length more) a (get_or (s ++ more) (p + 1) 0) m q) (sym (same_at p inside))
        (longer-so (length s - p) (length more) (get_or s p 0) (get_or s (p + 1) 0) (get_or (s ++ more) (p + 1) 0) m second meets.1.1)))

    lasts : until_settled ch (s ++ more) ≡ Err r
    lasts =
        sym (ends_here ch (s ++ more) there (refused r) (at_place (s ++ more) p (length ps) q (here_piece (s ++ more) p (length ps) q here) ∙ stops _ _) (ap (first_agreeing []) read_alike ∙ none))

  -- such a refusal is what cutting met, with no two headers that agree
  cut_by : (r : Refusal) → (◌≡◌ {A = Answer} (Err Unfit) (Err r) → ⊥) → (◌≡◌ {A = Answer} (Err Unsettled) (Err r) → ⊥) → (◌≡◌ {A = Answer} (Err (Empty (length s))) (Err r) → ⊥) → until_settled ch s ≡ Err r
      → (first_agreeing [] (headers s) ≡ None) × ((cutting s).ending ≡ refused r)
  unfolding until_settled end_answer
  cut_by r unfit-not unsettled-not empty-not = by (first_agreeing [] (headers s)) refl
    where
      settled_not : (k : ℕ) (x : Settlement) → settled_answer k x ≡ Err r → ⊥
      settled_not k None e = unsettled-not e
      settled_not k (Some c) e = at (unfit c) e
        where
          at : (b : Bool) → when {A = Answer} b (Err Unfit) (Ok (record { settings = settings_of c; multiframes = k })) ≡ Err r → ⊥
          at true e = unfit-not e
          at false e = let z : ◌≡◌ {A = ℕ} 0 1 = cc in omega arith

      ended_by : (e : Ending) → (cutting s).ending ≡ e → unsettled_answer ch (length s) (headers s) e ≡ Err r → (cutting s).ending ≡ refused r
      ended_by (refused q) ee e = let y : q ≡ r = cc in ee ∙ ap refused y
      ended_by whole ee e = absurd (at (eqb (length (headers s)) 0) e)
        where
          at : (b : Bool) → when {A = Answer} b (Err (Empty (length s))) (settled_answer (length (headers s)) (settling ch (headers s))) ≡ Err r → ⊥
          at true e = empty-not e
          at false e = settled_not (length (headers s)) (settling ch (headers s)) e

      by : (x : Settlement) → first_agreeing [] (headers s) ≡ x → answer_by ch (length s) (headers s) (cutting s).ending x ≡ Err r
          → (first_agreeing [] (headers s) ≡ None) × ((cutting s).ending ≡ refused r)
      by (Some c) ex e = absurd (settled_not (multiframes_read s) (Some c) e)
      by None ex e = (ex, ended_by (cutting s).ending refl e)

  pub unknown_stays : (p : ℕ) → until_settled ch s ≡ Err (Unknown p) → until_settled ch (s ++ more) ≡ Err (Unknown p)
  unknown_stays p e =
      let c = cut_by (Unknown p) (λ z. (let y : ◌≡◌ {A = ℕ} 0 1 = cc in omega arith)) (λ z. (let y : ◌≡◌ {A = ℕ} 0 1 = cc in omega arith)) (λ z. (let y : ◌≡◌ {A = ℕ} 0 1 = cc in omega arith)) e in
      lasts p P.Unknown (Unknown p) (λ v w. refl) longer_unknown (λ n a b m h. h.0) c.0 ((ends_exactly s (refused (Unknown p))).0 c.1)

  pub too_many_stays : (p : ℕ) → until_settled ch s ≡ Err (TooMany p) → until_settled ch (s ++ more) ≡ Err (TooMany p)
  too_many_stays p e =
      let c = cut_by (TooMany p) (λ z. (let y : ◌≡◌ {A = ℕ} 0 1 = cc in omega arith)) (λ z. (let y : ◌≡◌ {A = ℕ} 0 1 = cc in omega arith)) (λ z. (let y : ◌≡◌ {A = ℕ} 0 1 = cc in omega arith)) e in
      lasts p P.TooMany (TooMany p) (λ v w. refl) longer_many (λ n a b m h. h.0) c.0 ((ends_exactly s (refused (TooMany p))).0 c.1)
