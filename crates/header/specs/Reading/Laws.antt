-- What the laws on the reading rest on: the reading is open below its own file alone, so this stands here and they in `proofs/Laws.antt`.
-- Assumes nothing.
use Rattle.std.specs.Prelude.{◌≡◌, leb, Some, None}
use Rattle.std.proofs.Math.Path.{refl, subst}
use Rattle.std.proofs.Common.{sym}
use Prim.Native.Nat.{ℕ, zero, suc, ◌^◌, ◌≤◌, ◌<◌}
use Rattle.std.proofs.Math.Decide.{ℕ_discrete}
use native.Mathlib.Omega.{arith}
use borrow.Author.Tests.{leb-true, leb-false}
use Rattle.lists.specs.Tests.{by_test}
use Rattle.header_code.specs.Code.{flips_to}
use Rattle.header.specs.Reading.{mendable, decoded_as, within, reading_up_to, reading}
use Rattle.header.specs.Types.{Header}

-- ---- a reading that mends at most `most` flips
module _ (most w : ℕ) where
  -- what 01's sentence says of that many flips, among the messages below n
  unfoldable pub Among : ℕ → Header → Type 0
  Among n (Some d) = (d.message < n) × (d ≡ decoded_as w d.message) × (d.flips ≤ most)
  Among n None = (m : ℕ) → m < n → most < flips_to w m

  one_more : (n : ℕ) (h : Header) → most < flips_to w n → Among n h → Among (suc n) h
  unfolding Among
  one_more n (Some d) l a = (omega (arith, a.0), a.1, a.2)
  one_more n None l a = λ m h. elim (ℕ_discrete m n) [ yes e ↦ subst (λ (k : ℕ). most < flips_to w k) (sym e) l | no d ↦ a m (omega arith) ]

  pub among : (n : ℕ) → Among n (within most w n)
  unfolding within Among
  among zero = λ m h. absurd (omega arith)
  among (suc n) =
      by_test (Among (suc n)) (leb (flips_to w n) most) (λ t. (omega arith, refl, leb-true (flips_to w n) most t))
      (λ t. one_more n (within most w n) (leb-false (flips_to w n) most t) (among n))

  -- all messages are looked at
  pub all_messages : reading_up_to most w ≡ within most w (2 ^ 16)
  unfolding reading_up_to
  all_messages = refl

-- the reading of 01 mends as many flips as are mendable
pub is_upto : (w : ℕ) → reading w ≡ reading_up_to mendable w
unfolding reading
is_upto w = refl
