-- What finding the multiframes says: how many places were tested, when nothing is found, and which match is one too many.
-- Assumes nothing.
use Prim.Native.Nat.{ℕ, zero, suc, ◌+◌, ◌-◌, ◌≤◌}
use Rattle.std.specs.Prelude.{◌≡◌, refl, List, [], ◌∷◌, Bool, true, Err, Ok}
use Rattle.std.proofs.Math.Path.{ap}
use Rattle.std.proofs.Common.{subst, arith}
use Rattle.hunt.specs.Hunt.{multiframe_bits, passes, places_left, hunted_from}
use Rattle.hunt.specs.Laws as Hunt
use Rattle.hunt.proofs.Laws as HuntLaws
use Rattle.hunt.specs.Types.{Hunted}
use Rattle.refusals.specs.declared.Hunt.TheVariants as HR
use Rattle.gathering.specs.Gathering.{whole, too_many, Gathering, ended, step, last, gathering}
use Rattle.gathering.specs.Laws.{Apart}
use Rattle.gathering.specs.Says.{last_of, NonePasses, Tested, Beyond}
use Rattle.gathering.proofs.Laws.{apart}

module _ (l : List Bool) (least : ℕ) where
  last_later : (at p : ℕ) (ps : List ℕ) → Apart l least at (p ∷ ps) → at ≤ last_of p ps
  last_later at p [] a = a.0
  last_later at p (q ∷ ps) a = let i = last_later (p + multiframe_bits) q ps a.3 in omega (arith, a.0)

  tested_more : (at p n more : ℕ) (ps : List ℕ) → at ≤ p → n ≡ suc p - at → Apart l least (p + multiframe_bits) ps → Tested l least (p + multiframe_bits) more ps → Tested l least at (n + more) (p ∷ ps)
  tested_more at p n more [] le e a i = omega arith
  tested_more at p n more (q ∷ ps) le e a i = omega (arith, last_later (p + multiframe_bits) q ps a)

  tested_done : (at : ℕ) (h : Hunted) → Hunt.Says least l at h → (last h).ending ≡ whole → Tested l least at (last h).tested (last h).places
  tested_done at (Ok w) a e = let z : ◌≡◌ {A = ℕ} 0 1 = cc in absurd (omega arith)
  tested_done at (Err (HR.Nowhere q n)) a e = a.2
  tested_done at (Err (HR.MatchRange q)) a e = absurd a

  tested_step : (at : ℕ) (h : Hunted) (on : ℕ → Gathering) → Hunt.Says least l at h → ((p : ℕ) → Apart l least (p + multiframe_bits) (on p).places)
      → ((p : ℕ) → (on p).ending ≡ whole → Tested l least (p + multiframe_bits) (on p).tested (on p).places) → (step h on).ending ≡ whole
      → Tested l least at (step h on).tested (step h on).places
  tested_step at (Ok w) on a far next e = tested_more at w.place w.tested (on w.place).tested (on w.place).places a.0 a.4 (far w.place) (next w.place e)
  tested_step at (Err (HR.Nowhere q n)) on a far next e = a.2
  tested_step at (Err (HR.MatchRange q)) on a far next e = absurd a

  pub tested_says : (k at : ℕ) → (gathering l least k at).ending ≡ whole → Tested l least at (gathering l least k at).tested (gathering l least k at).places
  unfolding gathering
  tested_says zero at e = tested_done at (hunted_from l at least) (HuntLaws.says least l at) e
  tested_says (suc k) at e =
      tested_step at (hunted_from l at least) (λ p. gathering l least k (p + multiframe_bits)) (HuntLaws.says least l at) (λ p. apart l least k (p + multiframe_bits))
      (λ p. tested_says k (p + multiframe_bits)) e

  -- nothing is found exactly if no place passes
  none_step : (at : ℕ) (h : Hunted) (on : ℕ → Gathering) → Hunt.Says least l at h → (step h on).places ≡ [] → NonePasses l least at
  none_step at (Ok w) on a e = let z : ◌≡◌ {A = ℕ} 0 1 = cc in absurd (omega arith)
  none_step at (Err (HR.Nowhere q n)) on a e = a.1
  none_step at (Err (HR.MatchRange q)) on a e = absurd a

  pub none_found : (k at : ℕ) → (gathering l least (suc k) at).places ≡ [] → NonePasses l least at
  unfolding gathering
  none_found k at e = none_step at (hunted_from l at least) (λ p. gathering l least k (p + multiframe_bits)) (HuntLaws.says least l at) e

  pub nothing_found : (k at : ℕ) → NonePasses l least at → gathering l least (suc k) at ≡ ended whole (places_left l at)
  unfolding gathering
  nothing_found k at none = ap (λ (h : Hunted). step h (λ p. gathering l least k (p + multiframe_bits))) ((HuntLaws.nowhere_exactly least l at).1 none)

  many_done : (at p : ℕ) (h : Hunted) → Hunt.Says least l at h → (last h).ending ≡ too_many p → Beyond l least 0 at p (last h).places
  many_done at p (Ok w) a e =
      let z : w.place ≡ p = cc in
      record {
        count = refl;
        behind = omega (arith, a.0);
        first = λ t h i. a.3 t h (omega arith);
        room = omega (arith, a.1);
        matches = subst (λ (x : ℕ). passes least l x ≡ true) z a.2;
      }
  many_done at p (Err r) a e = let z : ◌≡◌ {A = ℕ} 0 1 = cc in absurd (omega arith)

  many_step : (k at p : ℕ) (h : Hunted) (on : ℕ → Gathering) → ((q : ℕ) → (on q).ending ≡ too_many p → Beyond l least k (q + multiframe_bits) p (on q).places) → (step h on).ending ≡ too_many p
      → Beyond l least (suc k) at p (step h on).places
  many_step k at p (Ok w) on next e =
      let i = next w.place e in
      record { count = omega (arith, i.count); behind = i.behind; first = i.first; room = i.room; matches = i.matches }
  many_step k at p (Err r) on next e = let z : ◌≡◌ {A = ℕ} 0 1 = cc in absurd (omega arith)

  pub many_says : (k at p : ℕ) → (gathering l least k at).ending ≡ too_many p → Beyond l least k at p (gathering l least k at).places
  unfolding gathering
  many_says zero at p e = many_done at p (hunted_from l at least) (HuntLaws.says least l at) e
  many_says (suc k) at p e = many_step k at p (hunted_from l at least) (λ q. gathering l least k (q + multiframe_bits)) (λ q. many_says k (q + multiframe_bits) p) e
