-- Uses of these theorems where they only just hold, so that a weaker wording of them is noticed.
-- Assumes nothing.
use Rattle.std.specs.Prelude.{ℕ, ◌≤◌, ◌≡◌, refl, ◌⊎◌, List, [], ◌∷◌, ◌++◌, length, get_or, Some, None, Ok, Err}
use Rattle.std.proofs.Common.{ap, sym, ◌∙◌, subst, inl, inr, arith}
use Rattle.choices.specs.Choices.{by_default, by_one_header}
use Rattle.choices.specs.declared.Choices.{Choices}
use Rattle.tables.specs.Tables.{Tables}
use Rattle.message.specs.Message.{settings_of}
use Rattle.refusals.specs.declared.Reading.TheVariants.{Unknown, CutShort, TooMany, Unfit}
use Rattle.refusals.specs.declared.Reading.{Reading as Refusal}
use Rattle.settling.specs.Settling.{first_agreeing}
use Rattle.unfit.specs.Laws.{Usable, Unusable}
use Rattle.reader.specs.Reading.{reading}
use Rattle.entries.specs.Entries.{Returned, returned, dsr_read}
use Rattle.entries.specs.Settle.{settle_numbers, beginning_numbers, dsr_settle}
use Rattle.demands.proofs.WholeLaws.{front_at}
use Rattle.page_received.specs.Received.{headed}
use Rattle.page_received.specs.Settled.{sixteen1}
use Rattle.until_settled.specs.UntilSettled.{until_settled}
use Rattle.until_settled.specs.Laws.{headers, multiframes_read}
use Rattle.until_settled.proofs.Lasting.{default_two}
use Rattle.until_settled_demands.specs.Full.{CutSays, FullSays}
use Rattle.until_settled_demands.proofs.FullLaws.{full}
use Rattle.until_settled_demands.proofs.Numbers.{settle_zero, c_settled}
use Rattle.until_settled_demands.proofs.EntryLaws.{c_settle_stays, c_as_read}
use Rattle.until_settled_demands.proofs.LiterallyLaws.{literally}

-- ---- "WHERE THE FULL READING REFUSES FURTHER ON, THIS CALL STILL GIVES THE SETTINGS, OR 17": 12, 13 and 15 in full, and two headers that agree
module _ (ch : Choices) (s : List ℕ) (agree : first_agreeing [] (headers s) ≡ None → ⊥) where
  abbrev pub Still : Type 0
  Still = ((c : ℕ) × (until_settled ch s ≡ Ok (record { settings = settings_of c; multiframes = multiframes_read s }))) ⊎ (until_settled ch s ≡ Err Unfit)

  still : (r : Refusal) → CutSays ch s r → Still
  still r (inr x) = absurd (agree x.0)
  still r (inl x) = by x.answer
    where
      by : (Usable x.common × (until_settled ch s ≡ Ok (record { settings = settings_of x.common; multiframes = multiframes_read s }))) ⊎ (Unusable x.common × (until_settled ch s ≡ Err Unfit)) → Still
      by (inl u) = inl (x.common, u.1)
      by (inr u) = inr u.1

  module _ (tables : Tables) (index report : List ℕ) (p : ℕ) where
    pub still_12 : (reading ch s tables index report).answer ≡ Err (Unknown p) → Still
    still_12 e = still (Unknown p) (subst (FullSays ch s) e (full ch s tables index report))

    pub still_13 : (reading ch s tables index report).answer ≡ Err (CutShort p) → Still
    still_13 e = still (CutShort p) (subst (FullSays ch s) e (full ch s tables index report))

    pub still_15 : (reading ch s tables index report).answer ≡ Err (TooMany p) → Still
    still_15 e = still (TooMany p) (subst (FullSays ch s) e (full ch s tables index report))

-- ---- by default, where dsr_read finds two multiframes, dsr_settle has read two: no more than there are, and two at least
pub c_two_are_two : (octets answer : List ℕ) (place : ℕ) (tables : Tables) (index report six : List ℕ) (at : ℕ) → settle_numbers ≤ length answer
    → (dsr_read octets (Some by_default) tables index report six at).number ≡ 0 → get_or (dsr_read octets (Some by_default) tables index report six at).answer 2 0 ≡ 2
    → get_or (dsr_settle octets (Some by_default) answer place).answer 2 0 ≡ 2
c_two_are_two octets answer place tables index report six at room z two =
    let r = c_as_read octets answer place by_default tables index report six at room z in
    let b = settle_zero octets answer place by_default r.number in
    let third : get_or (dsr_settle octets (Some by_default) answer place).answer 2 0 ≡ b.1.0.multiframes =
    ap (λ (x : Returned). get_or x.answer 2 0) (c_settled octets answer place by_default room b.1.0 b.1.1) ∙ front_at answer (beginning_numbers b.1.0) settle_numbers 2 (omega arith) in
    let least = default_two by_default octets refl b.1.0 b.1.1 in
    omega (arith, r.multiframes, third, two, least)

-- ---- two multiframes are enough for an answer to stay by the old rule too
pub stays_two : (more : List ℕ) → dsr_settle ((headed sixteen1 ++ headed sixteen1) ++ more) (Some by_one_header) (9 ∷ 9 ∷ 9 ∷ 9 ∷ []) 7 ≡ returned 0 [] [] (3 ∷ 1 ∷ 2 ∷ 9 ∷ []) 7
stays_two more =
    let e = (literally by_one_header).sixteen in
    c_settle_stays (headed sixteen1 ++ headed sixteen1) (9 ∷ 9 ∷ 9 ∷ 9 ∷ []) 7 by_one_header (ap (λ (x : Returned). x.number) e) (inr (subst (λ (k : ℕ). 2 ≤ k) (sym (ap (λ (x : Returned). get_or x.answer 2 0) e)) (omega arith))) more ∙ e
