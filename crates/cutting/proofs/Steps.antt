-- The turns of `cut_into`: what is still to be cut, laid behind the places already stored, makes the whole answer and the whole buffer.
-- Assumes nothing.
use Rattle.std.specs.Prelude.{Ok, Err}
use Prim.Native.Nat.{ℕ, suc, ◌+◌, ◌≤◌, ◌<◌}
use mathlib.Core.Path.{◌≡◌, refl, ap, sym, ◌∙◌, subst}
use mathlib.Core.List.{List, [], ◌∷◌, append_assoc}
use lib.ListN.{length, get_or, drop, set, length-drop, length-set}
use lib.Seq.{take-suc-set, drop-set-lt}
use native.Mathlib.Numerals.{add-one}
use native.Mathlib.Omega.{arith}
use Rattle.lists.specs.Parts.{over_none}
use Rattle.layout.specs.Layout.{multiframe_octets, sync_octets, most_multiframes}
use Rattle.refusals.specs.declared.Reading.TheVariants as R
use Rattle.cutting.specs.declared.Piece.{Piece}
use Rattle.cutting.specs.declared.Piece.TheVariants.{End, Multiframe, Inverse, Unknown, CutShort, TooMany}
use Rattle.cutting.specs.Types.{Cut}
use Rattle.cutting.specs.Cutting.{piece_of, Ending, whole, refused, Cutting, step, walk, cutting, answered_by, answered, laid}
use Rattle.cutting.specs.Laws.{Says}
use Rattle.cutting.proofs.Laws.{says, at_place}

-- one more stored at the front of what is still to be laid
laid_next : (k x : ℕ) (r l : List ℕ) → k < length l → laid (k + 1) r (set l k x) ≡ laid k (x ∷ r) l
laid_next k x r l h =
    let e : k + 1 + length r ≡ k + suc (length r) = omega arith in
    rw (add-one, take-suc-set l k x h, ← add-one, drop-set-lt (k + 1 + length r) l k x (omega arith), append_assoc, e)

-- the answer, with m multiframes stored before
abbrev told : ℕ → Cutting → Cut
told m w = answered_by (m + length w.places) w.ending

-- m multiframes of s are stored in b, which was b₀, and p is the next octet
pub record Going (s b₀ b : List ℕ) (p m : ℕ) : Type 0 where
  pub within : p ≤ length s
  pub few : m ≤ most_multiframes
  pub room : length b ≡ most_multiframes
  pub same : told m (walk 0 (drop p s) p m) ≡ answered (cutting s)
  pub full : laid m (walk 0 (drop p s) p m).places b ≡ laid 0 (cutting s).places b₀

pub begun : (s b : List ℕ) → length b ≡ most_multiframes → Going s b b 0 0
begun s b h =
    let z : 0 + length (cutting s).places ≡ length (cutting s).places = omega arith in
    record { within = omega arith; few = omega arith; room = h; same = ap (λ (n : ℕ). answered_by n (cutting s).ending) z; full = refl }

-- what the function must have at its end
abbrev pub Done : (s b₀ b : List ℕ) → Cut → Type 0
Done s b₀ b r = (r ≡ answered (cutting s)) × (b ≡ laid 0 (cutting s).places b₀)

-- what each piece asks of its turn
abbrev pub Next : (s b₀ b : List ℕ) (p m : ℕ) → Piece → Type 0
Next s b₀ b p m End = Done s b₀ b (Ok m)
Next s b₀ b p m Multiframe = (p + multiframe_octets ≤ length s) × (m < most_multiframes) × Going s b₀ (set b m p) (p + multiframe_octets) (m + 1)
Next s b₀ b p m Inverse = (p + sync_octets ≤ length s) × Going s b₀ b (p + sync_octets) m
Next s b₀ b p m Unknown = Done s b₀ b (Err (R.Unknown p))
Next s b₀ b p m CutShort = Done s b₀ b (Err (R.CutShort p))
Next s b₀ b p m TooMany = Done s b₀ b (Err (R.TooMany p))

module _ (s b₀ b : List ℕ) (p m : ℕ) (g : Going s b₀ b p m) where
  ended_here : (e : Ending) → walk 0 (drop p s) p m ≡ record { places = []; ending = e } → Done s b₀ b (answered_by m e)
  ended_here e w =
      let z : m + 0 ≡ m = omega arith in
      (sym (ap (λ (n : ℕ). answered_by n e) z) ∙ sym (ap (told m) w) ∙ g.same, over_none b m ∙ sym (ap (λ (v : Cutting). laid m v.places b) w) ∙ g.full)

  going : (q : Piece) → Says (length (drop p s)) (get_or (drop p s) 0 0) (get_or (drop p s) 1 0) m q
      → walk 0 (drop p s) p m ≡ step q p (walk 0 (drop (p + multiframe_octets) s) (p + multiframe_octets) (m + 1)) (walk 0 (drop (p + sync_octets) s) (p + sync_octets) m)
      → Next s b₀ b p m q
  going End a w = ended_here whole w
  going Unknown a w = ended_here (refused (R.Unknown p)) w
  going CutShort a w = ended_here (refused (R.CutShort p)) w
  going TooMany a w = ended_here (refused (R.TooMany p)) w
  going Inverse a w =
      let n = length-drop p s in (
        omega (arith, n, a.0, g.within),
        record {
          within = omega (arith, n, a.0, g.within);
          few = g.few;
          room = g.room;
          same = sym (ap (told m) w) ∙ g.same;
          full = sym (ap (λ (v : Cutting). laid m v.places b) w) ∙ g.full;
        },
      )
  going Multiframe a w =
      let n = length-drop p s in
      let below : m < 255 = less m g.few a.1 in
      let v = walk 0 (drop (p + multiframe_octets) s) (p + multiframe_octets) (m + 1) in
      let c : m + 1 + length v.places ≡ m + suc (length v.places) = omega arith in (
        omega (arith, n, a.0, g.within),
        below,
        record {
          within = omega (arith, n, a.0, g.within);
          few = omega arith;
          room = simp length-set g.room;
          same = ap (λ (k : ℕ). answered_by k v.ending) c ∙ sym (ap (told m) w) ∙ g.same;
          full = laid_next m p v.places b (omega (arith, g.room)) ∙ sym (ap (λ (u : Cutting). laid m u.places b) w) ∙ g.full;
        },
      )
    where
      less : (m : ℕ) → m ≤ 255 → (m ≡ 255 → ⊥) → m < 255
      less m h k = omega arith

  pub next : (q : Piece) → piece_of (drop p s) m ≡ q → Next s b₀ b p m q
  next q e =
      going q (subst (Says (length (drop p s)) (get_or (drop p s) 0 0) (get_or (drop p s) 1 0) m) e (says (length (drop p s)) (get_or (drop p s) 0 0) (get_or (drop p s) 1 0) m))
      (at_place s p m q e)
