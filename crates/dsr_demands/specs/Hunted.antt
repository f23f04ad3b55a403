-- THE HUNT AT dsr_hunt: 0 gives the smallest place from the first bit on that passes the test, and how many were tested; 21 comes exactly if T is not 12
-- to 16, and else 22 exactly if none does. What is not named stays.
-- Assumes nothing.
use Rattle.std.specs.Prelude.{◌≡◌, refl, Bool, true, false, List, ℕ, suc, ◌+◌, ◌-◌, ◌≤◌, ◌<◌, Err, Ok}
use Rattle.std.proofs.Common.{sym, ap, ◌∙◌, subst}
use Rattle.lists.specs.Tests.{true_false}
use Rattle.bits.specs.Bits.{bits}
use Rattle.hunt.specs.Hunt.{multiframe_bits, in_range, passes, searched, places_left, hunted, hunted_from}
use Rattle.hunt.specs.Laws.{Says}
use Rattle.hunt.proofs.Laws.{range_says, in_range_lem, says, range_exactly, hunts}
use Rattle.hunt.specs.Types.{Hunted, found_at}
use Rattle.refusals.specs.declared.Hunt.TheVariants.{MatchRange, Nowhere}
use Rattle.entries.specs.Bits.{HuntReturned, hunt_returning, dsr_hunt}

module _ (s : List ℕ) (from least found place : ℕ) where
  abbrev c : HuntReturned
  c = dsr_hunt s from least found place

  -- the place found is the smallest that passes
  pub record Smallest : Type 0 where
    pub low : 12 ≤ least
    pub high : least ≤ 16
    pub begins : from ≤ c.found
    pub inside : c.found + multiframe_bits ≤ searched (bits s)
    pub passes_there : passes least (bits s) c.found ≡ true
    pub none_before : (t : ℕ) → from ≤ t → t < c.found → passes least (bits s) t ≡ false
    pub tested : c.tested ≡ suc c.found - from
    pub place_stays : c.place ≡ place

  -- no place from the first bit on passes, and all were tested
  pub record None : Type 0 where
    pub number : c.number ≡ 22
    pub none : (t : ℕ) → from ≤ t → t + multiframe_bits ≤ searched (bits s) → passes least (bits s) t ≡ false
    pub tested : c.tested ≡ places_left (bits s) from
    pub place_is : c.place ≡ from
    pub found_stays : c.found ≡ found

  -- T is not 12 to 16
  pub record OutOfRange : Type 0 where
    pub number : c.number ≡ 21
    pub outside : (12 ≤ least) × (least ≤ 16) → ⊥
    pub tested : c.tested ≡ 0
    pub place_is : c.place ≡ least
    pub found_stays : c.found ≡ found

  pub data HuntEnds : Type 0 where
    at_once : c.number ≡ 0 → Smallest → HuntEnds
    nowhere : None → HuntEnds
    bad_range : OutOfRange → HuntEnds

  -- it ends in one of the three ways
  pub c_hunt : HuntEnds
  c_hunt = by_range (in_range least) refl
    where
      found_case : (h : Hunted) → hunted s from least ≡ h → Says least (bits s) from h → in_range least ≡ true → HuntEnds
      found_case (Ok w) e x r =
          let q : c ≡ hunt_returning found place (found_at w.place w.tested) = ap (hunt_returning found place) e in
          let f : c.found ≡ w.place = ap (λ (w : HuntReturned). w.found) q in
          at_once (ap (λ (w : HuntReturned). w.number) q)
          (record {
            low = (range_says least r).0;
            high = (range_says least r).1;
            begins = subst (λ (i : ℕ). from ≤ i) (sym f) x.0;
            inside = subst (λ (i : ℕ). i + multiframe_bits ≤ searched (bits s)) (sym f) x.1;
            passes_there = ap (passes least (bits s)) f ∙ x.2;
            none_before = subst (λ (i : ℕ). (t : ℕ) → from ≤ t → t < i → passes least (bits s) t ≡ false) (sym f) x.3;
            tested = ap (λ (w : HuntReturned). w.tested) q ∙ x.4 ∙ ap (λ (i : ℕ). suc i - from) (sym f);
            place_stays = ap (λ (w : HuntReturned). w.place) q;
          })
      found_case (Err (Nowhere f n)) e x r =
          let q : c ≡ hunt_returning found place (Err (Nowhere f n)) = ap (hunt_returning found place) e in
          nowhere
          (record {
            number = ap (λ (w : HuntReturned). w.number) q;
            none = x.1;
            tested = ap (λ (w : HuntReturned). w.tested) q ∙ x.2;
            place_is = ap (λ (w : HuntReturned). w.place) q ∙ x.0;
            found_stays = ap (λ (w : HuntReturned). w.found) q;
          })
      found_case (Err (MatchRange t)) e x r = absurd x

      by_range : (b : Bool) → in_range least ≡ b → HuntEnds
      by_range true r = found_case (hunted_from (bits s) from least) (hunts s from least r) (says least (bits s) from) r
      by_range false r =
          let e : hunted s from least ≡ Err (MatchRange least) = (range_exactly s from least).1 r in
          let q : c ≡ hunt_returning found place (Err (MatchRange least)) = ap (hunt_returning found place) e in
          bad_range
          (record {
            number = ap (λ (w : HuntReturned). w.number) q;
            outside = λ h. true_false (sym (in_range_lem least h.0 h.1) ∙ r);
            tested = ap (λ (w : HuntReturned). w.tested) q;
            place_is = ap (λ (w : HuntReturned). w.place) q;
            found_stays = ap (λ (w : HuntReturned). w.found) q;
          })
