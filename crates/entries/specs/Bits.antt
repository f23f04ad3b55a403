-- What the entries of the hunting reader answer, in numbers, and what they leave in lent memory.
-- Assumes nothing.
use Rattle.std.specs.Prelude.{◌≡◌, refl, List, [], ◌∷◌, ◌++◌, ℕ, ltb, length, Some, None, Ok, Err}
use Rattle.std.proofs.Common.{ap}
use native.Mathlib.Omega.{arith}
use Rattle.lists.specs.Tests.{by_test}
use Rattle.choices.specs.declared.Choices.{Choices}
use Rattle.choices.specs.Types.{Asked}
use Rattle.tables.specs.Tables.{Tables}
use Rattle.hunt.specs.Hunt as H
use Rattle.hunt.specs.Types.{Hunted, found_at}
use Rattle.refusals.specs.Refusals.{success, hunt_number, hunt_place, hunt_tested, hunting_number, hunting_place}
use Rattle.refusals.specs.declared.Hunt.{Hunt as HuntRefusal}
use Rattle.hunting.specs.Hunting.{Outcome, hunting_reading}
use Rattle.hunting.proofs.Says.{never_12_to_14}
use Rattle.hunting.specs.declared.Counted.{Counted}
use Rattle.hunting.specs.Types.{Answer}
use Rattle.entries.specs.Entries.{summary_numbers, Told, told, Given, given, Returned, answered, returning, unchosen, choosing}

-- ---- the hunt: its number, and the three lent numbers
pub record HuntReturned : Type 0 where
  pub number : ℕ
  pub found : ℕ
  pub tested : ℕ
  pub place : ℕ

abbrev pub hunt_returned : ℕ → ℕ → ℕ → ℕ → HuntReturned
hunt_returned n f t p = record { number = n; found = f; tested = t; place = p }

-- success gives 0, the place found and how many were tested; a refusal its number, how many were tested, and its place. f and p came
abbrev pub hunt_returning : ℕ → ℕ → Hunted → HuntReturned
hunt_returning f p (Ok w) = hunt_returned success w.place w.tested p
hunt_returning f p (Err r) = hunt_returned (hunt_number r) f (hunt_tested r) (hunt_place r)

-- ---- the hunting reading: eight numbers, those of the octet reader and then the bits outside and the places tested
abbrev pub counted_numbers : ℕ
counted_numbers = 8

abbrev pub numbers_of : Counted → List ℕ
numbers_of c = summary_numbers c.summary ++ (c.outside ∷ c.tested ∷ [])

-- the hunting reading in numbers
abbrev pub bits_told : Answer → Told
bits_told = told numbers_of hunting_number hunting_place

abbrev pub bits_given : Outcome → Given
bits_given o = given (bits_told o.answer) o.index o.report

-- ---- what the entries give, for every input: their contracts are equations with these
-- dsr_hunt: its number and the three lent numbers; found and place as they came
abbrev pub dsr_hunt : List ℕ → ℕ → ℕ → ℕ → ℕ → HuntReturned
dsr_hunt octets from least found place = hunt_returning found place (H.hunted octets from least)

-- dsr_read_bits: its number, both buffers, the lent numbers and the place, by what was asked for
abbrev pub dsr_read_bits : List ℕ → ℕ → ℕ → Asked → Tables → List ℕ → List ℕ → List ℕ → ℕ → Returned
dsr_read_bits octets from least q tables index report answer place =
    choosing counted_numbers answer place index report (λ ch. bits_given (hunting_reading ch octets from least tables index report)) q

-- ---- the entries' ends
pub hunt_found : (f p q n : ℕ) (h : Hunted) → found_at q n ≡ h → hunt_returned success q n p ≡ hunt_returning f p h
hunt_found f p q n h e = ap (hunt_returning f p) e

pub hunt_refused : (f p n t q : ℕ) (r : HuntRefusal) (h : Hunted) → Err r ≡ h → n ≡ hunt_number r → t ≡ hunt_tested r → q ≡ hunt_place r
    → hunt_returned n f t q ≡ hunt_returning f p h
hunt_refused f p n t q r h e en et eq = rw (en, et, eq) (ap (hunt_returning f p) e)

-- 12 TO 14 ARE NEVER RETURNED
module _ (s : List ℕ) (from least : ℕ) (tables : Tables) (index report a : List ℕ) (p : ℕ) where
  abbrev read : Choices → Outcome
  read ch = hunting_reading ch s from least tables index report

  abbrev NoCut : ℕ → Type 0
  NoCut n = (n ≡ 12 → ⊥) × (n ≡ 13 → ⊥) × (n ≡ 14 → ⊥)

  answered_uncut : (ch : Choices) (x : Answer) → (read ch).answer ≡ x → NoCut (answered counted_numbers a p (read ch).index (read ch).report (bits_told x)).number
  answered_uncut ch (Ok c) e = (λ e. omega arith, λ e. omega arith, λ e. omega arith)
  answered_uncut ch (Err r) e = never_12_to_14 ch s from least tables index report r e

  pub returned_uncut : (q : Asked) → NoCut (dsr_read_bits s from least q tables index report a p).number
  unfolding returning unchosen
  returned_uncut (Some ch) =
      by_test (λ (x : Returned). NoCut x.number) (ltb (length a) counted_numbers) (λ h. (λ e. omega arith, λ e. omega arith, λ e. omega arith)) (λ h.
      answered_uncut ch (read ch).answer refl)
  returned_uncut None =
      by_test (λ (x : Returned). NoCut x.number) (ltb (length a) counted_numbers) (λ h. (λ e. omega arith, λ e. omega arith, λ e. omega arith)) (λ h.
      (λ e. omega arith, λ e. omega arith, λ e. omega arith))
