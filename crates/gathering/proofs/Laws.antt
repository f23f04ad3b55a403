-- What a reader of 02 would ask of finding the multiframes.
-- Assumes nothing.
use Prim.Native.Nat.{ℕ, zero, suc, ◌+◌, ◌-◌, ◌*◌, ◌≤◌, ◌<◌}
use Rattle.std.specs.Prelude.{◌≡◌, refl, ◌⊎◌, Bool, true, length, Err, Ok}
use Rattle.std.proofs.Common.{sym, ap, ◌∙◌, inl, inr, arith, length-append}
use mathlib.Core.List.{List, [], ◌∷◌, ◌++◌, append_assoc}
use Rattle.std.proofs.Math.Decide.{dec_lt, ℕ_discrete}
use Rattle.lists.specs.Tests.{true_false}
use Rattle.layout.specs.Layout.{sync_octets, multiframe_octets}
use Rattle.bits.proofs.Laws.{length_octets}
use Rattle.hunt.specs.Hunt.{multiframe_bits, searched, passes, hunted_from}
use Rattle.hunt.specs.Laws.{Says}
use Rattle.hunt.proofs.Laws.{says}
use Rattle.hunt.specs.Types.{Hunted}
use Rattle.refusals.specs.declared.Hunt.TheVariants as HR
use Rattle.gathering.specs.Laws.{Among, Overlapped, Ends, Apart}
use Rattle.gathering.specs.Gathering.{Gathering, step, last, gathering, aligned, image_of}

module _ (l : List Bool) (least t : ℕ) (room : t + multiframe_bits ≤ searched l) (own : passes least l t ≡ true) where
  met : (at : ℕ) (h : Hunted) (on : ℕ → Gathering) → at ≤ t → Says least l at h
      → ((p : ℕ) → p + multiframe_bits ≤ t → Ends (on p).ending → Among t (on p).places ⊎ Overlapped t (on p).places)
      → Ends (step h on).ending → Among t (step h on).places ⊎ Overlapped t (step h on).places
  met at (Ok w) on le s next e =
      elim (ℕ_discrete w.place t) [
        | yes q ↦ inl (inl q)
        | no d ↦
            elim (dec_lt t w.place) [
              | yes y ↦ absurd (true_false (sym own ∙ s.3 t le y))
              | no y ↦
                  elim (dec_lt t (w.place + multiframe_bits)) [
                    | yes z ↦ inr (inl (omega arith, z))
                    | no z ↦ beyond (next w.place (omega arith) e)
                  ]
            ]
      ]
    where
      beyond : Among t (on w.place).places ⊎ Overlapped t (on w.place).places → Among t (w.place ∷ (on w.place).places) ⊎ Overlapped t (w.place ∷ (on w.place).places)
      beyond (inl a) = inl (inr a)
      beyond (inr a) = inr (inr a)
  met at (Err (HR.Nowhere f n)) on le s next e = absurd (true_false (sym own ∙ s.1 t le room))
  met at (Err (HR.MatchRange k)) on le s next e = absurd s

  met_last : (at : ℕ) (h : Hunted) → at ≤ t → Says least l at h → Ends (last h).ending → ⊥
  met_last at (Ok w) le s e = e
  met_last at (Err (HR.Nowhere f n)) le s e = absurd (true_false (sym own ∙ s.1 t le room))
  met_last at (Err (HR.MatchRange k)) le s e = s

  -- A WHOLE MULTIFRAME whose own place passes the test IS TAKEN, or an earlier one that was taken overlaps it
  pub taken : (k at : ℕ) → at ≤ t → Ends (gathering l least k at).ending → Among t (gathering l least k at).places ⊎ Overlapped t (gathering l least k at).places
  unfolding gathering
  taken zero at le e = absurd (met_last at (hunted_from l at least) le (says least l at) e)
  taken (suc k) at le e =
      met at (hunted_from l at least) (λ p. gathering l least k (p + multiframe_bits)) le (says least l at)
      (λ p h. taken k (p + multiframe_bits) h) e

-- ---- the multiframes taken stand apart, inside the bits searched, and pass the test
module _ (l : List Bool) (least : ℕ) where
  apart_step : (at : ℕ) (h : Hunted) (on : ℕ → Gathering) → Says least l at h → ((p : ℕ) → Apart l least (p + multiframe_bits) (on p).places) → Apart l least at (step h on).places
  apart_step at (Ok w) on s next = (s.0, s.1, s.2, next w.place)
  apart_step at (Err r) on s next = tt

  apart_last : (at : ℕ) (h : Hunted) → Apart l least at (last h).places
  apart_last at (Ok w) = tt
  apart_last at (Err r) = tt

  pub apart : (k at : ℕ) → Apart l least at (gathering l least k at).places
  unfolding gathering
  apart zero at = apart_last at (hunted_from l at least)
  apart (suc k) at =
      apart_step at (hunted_from l at least) (λ p. gathering l least k (p + multiframe_bits)) (says least l at) (λ p. apart k (p + multiframe_bits))

-- ---- the image
pub length_aligned : (s : List ℕ) (p : ℕ) → length (aligned s p) ≡ multiframe_octets
unfolding aligned
length_aligned s p = ap (λ (n : ℕ). suc (suc n)) (length_octets (multiframe_octets - sync_octets) _)

pub length_image : (s ps : List ℕ) → length (image_of s ps) ≡ multiframe_octets * length ps
unfolding image_of
length_image s [] = refl
length_image s (p ∷ ps) = length-append (aligned s p) (image_of s ps) ∙ omega (arith, length_aligned s p, length_image s ps)

pub image_more : (s ps : List ℕ) (p : ℕ) → image_of s (ps ++ (p ∷ [])) ≡ image_of s ps ++ aligned s p
unfolding image_of
image_more s [] p = mathlib.Core.List.append-nil (aligned s p)
image_more s (q ∷ ps) p = ap (λ (x : List ℕ). aligned s q ++ x) (image_more s ps p) ∙ sym (append_assoc (aligned s q) (image_of s ps) (aligned s p))

-- ---- how many there are
module _ (l : List Bool) (least : ℕ) where
  at_most_step : (k : ℕ) (h : Hunted) (on : ℕ → Gathering) → ((p : ℕ) → length (on p).places ≤ k) → length (step h on).places ≤ suc k
  at_most_step k (Ok w) on next = let i = next w.place in omega arith
  at_most_step k (Err r) on next = omega arith

  at_most_last : (h : Hunted) → length (last h).places ≤ 0
  at_most_last (Ok w) = omega arith
  at_most_last (Err r) = omega arith

  pub at_most : (k at : ℕ) → length (gathering l least k at).places ≤ k
  unfolding gathering
  at_most zero at = at_most_last (hunted_from l at least)
  at_most (suc k) at = at_most_step k (hunted_from l at least) (λ p. gathering l least k (p + multiframe_bits)) (λ p. at_most k (p + multiframe_bits))

  -- BITS OUTSIDE: the multiframes have room behind the first bit searched, so that all other bits from it on are outside
  pub room_for : (at : ℕ) (ps : List ℕ) → Apart l least at ps → 0 < length ps → at + multiframe_bits * length ps ≤ searched l
  room_for at [] a h = absurd (omega arith)
  room_for at (p ∷ []) a h = omega (arith, a.0, a.1)
  room_for at (p ∷ q ∷ ps) a h = let i = room_for (p + multiframe_bits) (q ∷ ps) a.3 (omega arith) in omega (arith, a.0)
