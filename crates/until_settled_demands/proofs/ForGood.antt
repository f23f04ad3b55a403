-- What is refused for good: 12 and 15 that are given of a beginning are what the full reading gives, with the same place, of all octets that begin so. A
-- caller who is given one of them need not wait for the rest, nor read it.
-- Assumes nothing.
use Rattle.std.specs.Prelude.{ℕ, ◌≡◌, refl, List, [], ◌++◌, Bool, true, false, Some, None, Err}
use Rattle.std.proofs.Common.{sym, ◌∙◌, arith}
use Rattle.choices.specs.declared.Choices.{Choices}
use Rattle.tables.specs.Tables.{Tables, RightTables}
use Rattle.refusals.specs.declared.Reading.{Reading as Refusal}
use Rattle.refusals.specs.declared.Reading.TheVariants.{Unknown, TooMany, Unfit}
use Rattle.settling.specs.Settling.{first_agreeing}
use Rattle.unfit.specs.Unfit.{unfit}
use Rattle.unfit.specs.Laws.{fit_says, unfit_says}
use Rattle.settling.specs.Types.{Settlement}
use Rattle.reader.specs.Reading.{reading}
use Rattle.until_settled.specs.Types.{Answer}
use Rattle.until_settled.specs.UntilSettled.{until_settled}
use Rattle.until_settled.specs.Laws.{headers, Agreed}
use Rattle.until_settled.proofs.Laws.{settled_read, settled_unfit}
use Rattle.until_settled.proofs.Lasting.{unknown_stays, too_many_stays}
use Rattle.until_settled_demands.proofs.FullLaws.{refuses_as_full}

-- where two headers agree, nothing is refused but with 17
module _ (ch : Choices) (s : List ℕ) (r : Refusal) (not-17 : ◌≡◌ {A = Answer} (Err Unfit) (Err r) → ⊥) (e : until_settled ch s ≡ Err r) where
  agreed_not : (c : ℕ) → Agreed s c → (t : Bool) → unfit c ≡ t → ⊥
  agreed_not c a false h = let u = sym (settled_read s c a ch (fit_says c h)) ∙ e in let z : ◌≡◌ {A = ℕ} 0 1 = cc in omega arith
  agreed_not c a true h = not-17 (sym (settled_unfit s c a ch (unfit_says c h)) ∙ e)

  pub none_agree : first_agreeing [] (headers s) ≡ None
  none_agree = by (first_agreeing [] (headers s)) refl
    where
      by : (x : Settlement) → first_agreeing [] (headers s) ≡ x → first_agreeing [] (headers s) ≡ None
      by None a = a
      by (Some c) a = absurd (agreed_not c a (unfit c) refl)

module _ (ch : Choices) (s more : List ℕ) (tables : Tables) (right : RightTables tables) (index report : List ℕ) (p : ℕ) where
  -- THE FULL READING REFUSES ALL OCTETS THAT BEGIN SO, by the same choice, whatever follows and whatever room was lent
  pub unknown_for_good : until_settled ch s ≡ Err (Unknown p) → (reading ch (s ++ more) tables index report).answer ≡ Err (Unknown p)
  unknown_for_good e =
      let l = unknown_stays ch s more p e in
      refuses_as_full ch (s ++ more) tables index report right
      (none_agree ch (s ++ more) (Unknown p) (λ z. (let y : ◌≡◌ {A = ℕ} 0 1 = cc in omega arith)) l) (Unknown p) l

  pub too_many_for_good : until_settled ch s ≡ Err (TooMany p) → (reading ch (s ++ more) tables index report).answer ≡ Err (TooMany p)
  too_many_for_good e =
      let l = too_many_stays ch s more p e in
      refuses_as_full ch (s ++ more) tables index report right
      (none_agree ch (s ++ more) (TooMany p) (λ z. (let y : ◌≡◌ {A = ℕ} 0 1 = cc in omega arith)) l) (TooMany p) l
