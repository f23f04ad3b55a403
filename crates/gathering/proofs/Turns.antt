-- The turns of `gather`: what is still to be found, laid behind the multiframes already taken, makes the whole.
-- Assumes nothing.
use Rattle.gathering.specs.Types.{whole_of, too_many_at}
use Rattle.std.specs.Prelude.{Err}
use Prim.Native.Nat.{ℕ, zero, suc, ◌+◌, ◌-◌, ◌*◌, ◌≤◌, ◌<◌}
use mathlib.Core.Path.{◌≡◌, refl, sym, ap, ap₂, ◌∙◌, subst}
use mathlib.Core.List.{List, [], ◌∷◌, ◌++◌, append_assoc, append-nil}
use mathlib.Core.Bool.{Bool}
use native.Mathlib.Omega.{arith}
use lib.ListN.{length, take, length-append}
use Rattle.lists.specs.Parts.{over, length_over, take_over}
use Rattle.layout.specs.Layout.{multiframe_octets, most_multiframes}
use Rattle.bits.specs.Bits.{bits}
use Rattle.hunt.specs.Hunt.{multiframe_bits, searched, hunted_from}
use Rattle.refusals.specs.Refusals.{hunt_tested}
use Rattle.hunt.specs.Laws.{Says}
use Rattle.hunt.proofs.Laws.{says}
use Rattle.hunt.specs.Types.{Hunted, found_at}
use Rattle.refusals.specs.declared.Hunt.{Hunt as Refusal}
use Rattle.refusals.specs.declared.Hunt.TheVariants as HR
use Rattle.gathering.specs.Gathering.{Ending, whole, too_many, Gathering, ended, prepend, step, last, gathering, aligned, image_of, answered_by, answered, LaidBy, Laid}
use Rattle.gathering.proofs.Laws.{length_aligned, image_more}

-- ---- the recursion, by what the hunt answers
module _ (l : List Bool) (least at : ℕ) where
  gathering_found : (k p n : ℕ) → found_at p n ≡ hunted_from l at least → 0 < k → gathering l least k at ≡ prepend p n (gathering l least (k - 1) (p + multiframe_bits))
  unfolding gathering
  gathering_found zero p n e h = absurd (omega arith)
  gathering_found (suc k) p n e h =
      let z : k ≡ suc k - 1 = omega arith in
      ap (λ (x : Hunted). step x (λ p. gathering l least k (p + multiframe_bits))) (sym e) ∙ ap (λ (j : ℕ). prepend p n (gathering l least j (p + multiframe_bits))) z

  gathering_full : (p n : ℕ) → found_at p n ≡ hunted_from l at least → gathering l least 0 at ≡ ended (too_many p) n
  unfolding gathering
  gathering_full p n e = ap last (sym e)

  gathering_done : (k : ℕ) (r : Refusal) → Err r ≡ hunted_from l at least → gathering l least k at ≡ ended whole (hunt_tested r)
  unfolding gathering
  gathering_done zero r e = ap last (sym e)
  gathering_done (suc k) r e = ap (λ (x : Hunted). step x (λ p. gathering l least k (p + multiframe_bits))) (sym e)

-- where not all multiframes that an utterance may have were taken
pub room_for_more : (m : ℕ) → m ≤ most_multiframes → (m ≡ most_multiframes → ⊥) → m < most_multiframes
room_for_more m h k = omega arith

-- m multiframes were found from `from` on, the next place is `at`
module _ (s : List ℕ) (from least : ℕ) where
  abbrev all : Gathering
  all = gathering (bits s) least most_multiframes from

  abbrev left : ℕ → ℕ → Gathering
  left m at = gathering (bits s) least (most_multiframes - m) at

  pub record Going (image : List ℕ) (m at tested : ℕ) : Type 0 where
    pub ps : List ℕ
    pub count : length ps ≡ m
    pub few : m ≤ most_multiframes
    pub size : length image ≡ multiframe_octets * most_multiframes
    pub front : take (multiframe_octets * m) image ≡ image_of s ps
    pub places : all.places ≡ ps ++ (left m at).places
    pub ending : all.ending ≡ (left m at).ending
    pub total : all.tested ≡ tested + (left m at).tested
    pub spent : from + tested ≤ at
    pub countable : tested ≤ searched (bits s)

  pub begun : (image : List ℕ) → length image ≡ multiframe_octets * most_multiframes → Going image 0 from 0
  unfolding image_of
  begun image h =
      record { ps = []; count = refl; few = omega arith; size = h; front = refl; places = refl; ending = refl; total = omega arith; spent = omega arith; countable = omega arith }

  module _ (image : List ℕ) (m at tested : ℕ) (g : Going image m at tested) where
    -- a multiframe more
    module _ (p n : ℕ) (e : found_at p n ≡ hunted_from (bits s) at least) where
      found_says : Says least (bits s) at (found_at p n)
      found_says = subst (Says least (bits s) at) (sym e) (says least (bits s) at)

      pub in_bits : p + multiframe_bits ≤ searched (bits s)
      in_bits = found_says.1

      pub few_tested : tested + n ≤ searched (bits s)
      few_tested = let f = found_says in omega (arith, f.0, f.1, f.4, g.spent)

      pub going_on : (next : List ℕ) → (m ≡ most_multiframes → ⊥) → next ≡ over image (multiframe_octets * m) multiframe_octets (aligned s p) → Going next (m + 1) (p + multiframe_bits) (tested + n)
      going_on next room en =
          let f = found_says in
          let less : m < most_multiframes = room_for_more m g.few room in
          let w : left m at ≡ prepend p n (left (m + 1) (p + multiframe_bits)) =
          gathering_found (bits s) least at (most_multiframes - m) p n e (omega arith) ∙ ap (λ (k : ℕ). prepend p n (gathering (bits s) least k (p + multiframe_bits))) (omega arith) in
          let r : multiframe_octets * m + multiframe_octets ≤ length image = omega (arith, g.size) in
          let a = aligned s p in
          let na : length a ≡ multiframe_octets = length_aligned s p in
          let d : multiframe_octets * (m + 1) ≡ multiframe_octets * m + multiframe_octets = omega arith in
          record {
            ps = g.ps ++ (p ∷ []);
            count = length-append g.ps (p ∷ []) ∙ omega (arith, g.count);
            few = omega arith;
            size = ap length en ∙ length_over image a (multiframe_octets * m) multiframe_octets r na ∙ g.size;
            front =
                ap (λ (x : List ℕ). take (multiframe_octets * (m + 1)) x) en ∙ ap (λ (k : ℕ). take k (over image (multiframe_octets * m) multiframe_octets a)) d ∙ take_over image a (multiframe_octets * m) multiframe_octets r na
                ∙ ap (λ (x : List ℕ). x ++ a) g.front ∙ sym (image_more s g.ps p);
            places = g.places ∙ ap (λ (v : Gathering). g.ps ++ v.places) w ∙ sym (append_assoc g.ps (p ∷ []) (left (m + 1) (p + multiframe_bits)).places);
            ending = g.ending ∙ ap (λ (v : Gathering). v.ending) w;
            total = g.total ∙ ap (λ (v : Gathering). tested + v.tested) w ∙ omega arith;
            spent = omega (arith, f.0, f.4, g.spent);
            countable = few_tested;
          }

      -- one too many
      pub too_many_lem : (out : List ℕ) → m ≡ most_multiframes → (too_many_at p ≡ answered all) × Laid s all out
      too_many_lem out z =
          let k : most_multiframes - m ≡ 0 = omega arith in
          let w : all.ending ≡ too_many p =
          g.ending ∙ ap (λ (k : ℕ). (gathering (bits s) least k at).ending) k ∙ ap (λ (v : Gathering). v.ending) (gathering_full (bits s) least at p n e) in
          (sym (ap (answered_by (length all.places) all.tested) w), subst (λ (x : Ending). LaidBy s all.places x out) (sym w) tt)

    -- no more
    module _ (r : Refusal) (e : Err r ≡ hunted_from (bits s) at least) where
      nothing_left : left m at ≡ ended whole (hunt_tested r)
      nothing_left = gathering_done (bits s) least at (most_multiframes - m) r e

      all_places : all.places ≡ g.ps
      all_places = g.places ∙ ap (λ (v : Gathering). g.ps ++ v.places) nothing_left ∙ append-nil g.ps

      all_ended : all.ending ≡ whole
      all_ended = g.ending ∙ ap (λ (v : Gathering). v.ending) nothing_left

      pub few_tested_last : tested + hunt_tested r ≤ searched (bits s) + 1
      few_tested_last = by r (subst (Says least (bits s) at) (sym e) (says least (bits s) at))
        where
          by : (q : Refusal) → Says least (bits s) at (Err q) → tested + hunt_tested q ≤ searched (bits s) + 1
          by (HR.MatchRange t) h = absurd h
          by (HR.Nowhere f n) h = omega (arith, h.2, g.spent, g.countable)

      pub finished : (n : ℕ) → n ≡ hunt_tested r → (whole_of m (tested + n) ≡ answered all) × Laid s all image
      finished n en =
          let c : length all.places ≡ m = ap length all_places ∙ g.count in
          let t : all.tested ≡ tested + n = g.total ∙ ap (λ (v : Gathering). tested + v.tested) nothing_left ∙ ap (λ (k : ℕ). tested + k) (sym en) in (
            sym (ap (answered_by (length all.places) all.tested) all_ended ∙ ap₂ whole_of c t),
            subst (λ (x : Ending). LaidBy s all.places x image) (sym all_ended)
                (ap (λ (k : ℕ). take (multiframe_octets * k) image) c ∙ g.front ∙ ap (image_of s) (sym all_places)),
          )
