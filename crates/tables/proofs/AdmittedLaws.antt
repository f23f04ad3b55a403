-- What turns the tables away, and when: `admission` says exactly whether they are right, and else which refusal is theirs.
-- Assumes nothing.
use Rattle.std.specs.Prelude.{ℕ, ◌≡◌, Bool, not, Result, Ok, Err, ◌↔◌, pos, length, T}
use Rattle.std.proofs.Math.Path.{refl}
use Rattle.std.proofs.Common.{sym, ap, subst, ◌∙◌, arith}
use Rattle.std.proofs.Math.Bool.{true, false}
use Rattle.std.proofs.lemmas.List.{length-replicate, get_or-replicate}
use Rattle.std.proofs.Math.Dec.{eqb}
use borrow.Author.Tests.{eq-eqb, eqb-true}
use Rattle.lists.specs.Tests.{when, both, by_test, true_false, all, all_holds}
use Rattle.lists.specs.Search as S
use Rattle.layout.specs.Layout.{codebook_numbers, threshold_numbers}
use Rattle.refusals.specs.declared.Reading.{Reading}
use Rattle.refusals.specs.declared.Reading.TheVariants as R
use Rattle.tables.specs.Tables.{Tables, at, negative, RightSizes, NoneNegative, RightTables, FirstNegative, sizes_right, first_negative, sign_admission, admission, without_tables, zero_tables}
use Rattle.tables.specs.Admitted.{Shown}

module _ (tables : Tables) where
  -- ---- the sizes
  pub sizes_pass : RightSizes tables → sizes_right tables ≡ true
  unfolding sizes_right
  sizes_pass h = rw (eq-eqb (length tables.codebook) codebook_numbers h.0, eq-eqb (length tables.thresholds) threshold_numbers h.1)

  pub pass_sizes : sizes_right tables ≡ true → RightSizes tables
  unfolding sizes_right
  pass_sizes = by (eqb (length tables.codebook) codebook_numbers) refl
    where
      by : (a : Bool) → eqb (length tables.codebook) codebook_numbers ≡ a → both a (eqb (length tables.thresholds) threshold_numbers) ≡ true → RightSizes tables
      by true ea eb = (eqb-true (length tables.codebook) codebook_numbers ea, eqb-true (length tables.thresholds) threshold_numbers eb)
      by false ea eb = absurd (true_false (sym eb))

  -- ---- what each admission shows
  abbrev test : ℕ → Bool
  test k = negative (at tables.thresholds k)

  -- so what holds of 11 and of 10 holds of every refusal that is shown
  pub by_shown : (P : Reading → Type 0) → ((RightSizes tables → ⊥) → P R.WrongTables)
      → ((k : ℕ) → RightSizes tables × FirstNegative tables k → P (R.NegativeThreshold k)) → (r : Reading) → Shown tables (Err r) → P r
  by_shown P eleven ten R.WrongTables h = eleven h
  by_shown P eleven ten (R.NegativeThreshold k) h = ten k h
  by_shown P eleven ten (R.Unknown p) h = absurd h
  by_shown P eleven ten (R.CutShort p) h = absurd h
  by_shown P eleven ten (R.Empty n) h = absurd h
  by_shown P eleven ten (R.TooMany p) h = absurd h
  by_shown P eleven ten R.Unsettled h = absurd h
  by_shown P eleven ten R.Unfit h = absurd h
  by_shown P eleven ten (R.IndexShort n) h = absurd h
  by_shown P eleven ten (R.ReportShort n) h = absurd h
  by_shown P eleven ten R.AllBad h = absurd h

  shown_sign : RightSizes tables → (s : S.Search) → S.Says test 0 threshold_numbers s → Shown tables (sign_admission tables s)
  shown_sign h (S.at k) e = (h, (omega (arith, e.1), e.2, λ i l. e.3 i (omega arith) l))
  shown_sign h S.nowhere e = (h, λ k l. e k (omega arith) (omega arith))

  pub shown : Shown tables (admission tables)
  unfolding admission
  shown =
      by_test (Shown tables) (sizes_right tables) (λ e. shown_sign (pass_sizes e) (first_negative tables) (S.first_says test 0 threshold_numbers))
      (λ e h. true_false (sym (sizes_pass h) ∙ e))

  -- ---- and what leads to each
  -- past 11 the signs decide
  pub signs_next : RightSizes tables → admission tables ≡ sign_admission tables (first_negative tables)
  unfolding admission
  signs_next h = rw (sizes_pass h)

  pub right_passes : RightTables tables → admission tables ≡ Ok tables
  right_passes h = signs_next h.0 ∙ ap (sign_admission tables) (S.says_is test 0 threshold_numbers S.nowhere (λ i a b. h.1 i (omega arith)))

  pub wrong_sizes : (RightSizes tables → ⊥) → admission tables ≡ Err R.WrongTables
  unfolding admission
  wrong_sizes h = by (sizes_right tables) refl
    where
      by : (a : Bool) → sizes_right tables ≡ a → when a (sign_admission tables (first_negative tables)) (Err R.WrongTables) ≡ Err R.WrongTables
      by true e = absurd (h (pass_sizes e))
      by false e = refl

  pub negative_refused : (k : ℕ) → RightSizes tables → FirstNegative tables k → admission tables ≡ Err (R.NegativeThreshold k)
  negative_refused k h f =
      signs_next h ∙ ap (sign_admission tables) (S.says_is test 0 threshold_numbers (S.at k) (omega arith, omega (arith, f.0), f.1, λ i a b. f.2 i b))

  -- ---- so each exactly
  pub passes_right : {admitted : Tables} → admission tables ≡ Ok admitted → RightTables tables
  passes_right e = subst (Shown tables) e shown

  -- and what is admitted are these tables
  pub admitted_is : {admitted : Tables} → admission tables ≡ Ok admitted → admitted ≡ tables
  admitted_is e = let same = sym e ∙ right_passes (passes_right e) in cc

  pub right_exactly : (admission tables ≡ Ok tables) ↔ RightTables tables
  right_exactly = (passes_right, right_passes)

  pub eleven_exactly : (admission tables ≡ Err R.WrongTables) ↔ (RightSizes tables → ⊥)
  eleven_exactly = (λ e. subst (Shown tables) e shown, wrong_sizes)

  pub ten_exactly : (k : ℕ) → (admission tables ≡ Err (R.NegativeThreshold k)) ↔ (RightSizes tables × FirstNegative tables k)
  ten_exactly k = (λ e. subst (Shown tables) e shown, λ h. negative_refused k h.0 h.1)

  -- ---- each exactly, too, where the tables themselves are not handed out
  abbrev ShownAlone : Result Unit Reading → Type 0
  ShownAlone (Ok u) = RightTables tables
  ShownAlone (Err r) = Shown tables (Err r)

  shown_alone : (a : Result Tables Reading) → Shown tables a → ShownAlone (without_tables a)
  shown_alone (Ok admitted) h = h
  shown_alone (Err r) h = h

  pub alone_right : (without_tables (admission tables) ≡ Ok tt) ↔ RightTables tables
  alone_right = (λ e. subst ShownAlone e (shown_alone (admission tables) shown), λ h. ap without_tables (right_passes h))

  pub alone_eleven : (without_tables (admission tables) ≡ Err R.WrongTables) ↔ (RightSizes tables → ⊥)
  alone_eleven = (λ e. subst ShownAlone e (shown_alone (admission tables) shown), λ h. ap without_tables (wrong_sizes h))

  pub alone_ten : (k : ℕ) → (without_tables (admission tables) ≡ Err (R.NegativeThreshold k)) ↔ (RightSizes tables × FirstNegative tables k)
  alone_ten k = (λ e. subst ShownAlone e (shown_alone (admission tables) shown), λ h. ap without_tables (negative_refused k h.0 h.1))

-- whether no threshold is negative, computed
pub none_by_test : (tables : Tables) → T (all (λ k. not (negative (at tables.thresholds k))) threshold_numbers) → NoneNegative tables
none_by_test tables t k l = holds (negative (at tables.thresholds k)) (all_holds (λ i. not (negative (at tables.thresholds i))) threshold_numbers t k l)
  where
    holds : (b : Bool) → T (not b) → b ≡ false
    holds true t = absurd t
    holds false t = refl

-- tables of zeros are right
pub zero_right : RightTables zero_tables
zero_right = (
  (length-replicate codebook_numbers (pos 0), length-replicate threshold_numbers (pos 0)),
  λ k l. ap negative (get_or-replicate threshold_numbers k (pos 0) (pos 0) l),
)
