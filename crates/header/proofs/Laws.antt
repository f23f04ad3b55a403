-- The reading is the one answer that 01's sentence admits; up to two flips are mended and counted, three are always lost. Proved once of a
-- reading that mends at most `most` flips, where that is no more than two; of 01's reading each law is the instance.
-- Assumes nothing.
use Rattle.std.specs.Prelude.{◌≡◌, Bool, true, false, Some, None}
use Rattle.std.proofs.Math.Path.{refl, subst}
use Rattle.std.proofs.Common.{sym, ap, ◌∙◌, mod-lt, pow_pos}
use Prim.Native.Nat.{ℕ, ◌+◌, ◌%◌, ◌^◌, ◌≤◌, ◌<◌}
use Rattle.std.proofs.Math.Decide.{ℕ_discrete, dec_le}
use native.Mathlib.Omega.{arith}
use Rattle.std.specs.Int.Bits.{bit_xor}
use Rattle.std.proofs.lemmas.Nat.{xor_comm}
use Rattle.std.specs.Int.Count.{ones}
use borrow.Author.Tests.{eqb-true, eqb-false}
use Rattle.lists.specs.Tests.{when, by_test, true_false}
use Rattle.polynomials.specs.Xor.{xor_twice}
use Rattle.header_code.specs.Code.{codeword, is_codeword, flips_to}
use Rattle.header_code.specs.Code.Distance.{codeword_low, far_from_one, nearest, no_flips, itself_near}
use Rattle.header.specs.Reading.{mendable, decoded_as, ReadUpTo, ReadAs, within, reading_up_to, reading}
use Rattle.header.specs.Reading.Laws.{Among, among, all_messages, is_upto}
use Rattle.header.specs.declared.Decoded.{Decoded}
use Rattle.header.specs.Types.{Header}

-- ---- a header that is read, and one that is lost
is_read : Header → Bool
is_read (Some d) = true
is_read None = false

pub lost_not_read : (d : Decoded) → None ≡ Some d → ⊥
unfolding is_read
lost_not_read d e = true_false (sym (ap is_read e))

message_in : Header → ℕ
message_in (Some d) = d.message
message_in None = 0

pub same_message : (a b : Decoded) → Some a ≡ Some b → a.message ≡ b.message
unfolding message_in
same_message a b e = ap message_in e

-- the flips of what was read are the distance from its codeword
pub flips_counted : (w : ℕ) (d : Decoded) → d ≡ decoded_as w d.message → d.flips ≡ flips_to w d.message
flips_counted w d e = ap (λ (x : Decoded). x.flips) e

-- ---- a reading that mends at most `most` flips
module _ (most w : ℕ) where
  as_read : (h : Header) → Among most w (2 ^ 16) h → ReadUpTo most w h
  unfolding Among
  as_read (Some d) a = a
  as_read None a = a

  -- READS: the reading is what 01's sentence says of that many flips
  pub reads_upto : ReadUpTo most w (reading_up_to most w)
  reads_upto = subst (ReadUpTo most w) (sym (all_messages most w)) (as_read (within most w (2 ^ 16)) (among most w (2 ^ 16)))

  module _ (few : most ≤ mendable) where
    -- ONCE: a word is read in one way
    pub once_upto : (r s : Header) → ReadUpTo most w r → ReadUpTo most w s → r ≡ s
    once_upto (Some a) (Some b) p q =
        let f = flips_counted w a p.1 in
        let g = flips_counted w b q.1 in
        let e : a.message ≡ b.message = nearest w a.message b.message p.0 q.0 (omega (arith, f, p.2)) (omega (arith, g, q.2)) in
        ap Some (p.1 ∙ ap (decoded_as w) e ∙ sym q.1)
    once_upto (Some a) None p q = absurd (omega (arith, flips_counted w a p.1, p.2, q a.message p.0))
    once_upto None (Some b) p q = absurd (omega (arith, flips_counted w b q.1, q.2, p b.message q.0))
    once_upto None None p q = refl

    pub only_upto : (r : Header) → ReadUpTo most w r → r ≡ reading_up_to most w
    only_upto r p = once_upto r (reading_up_to most w) p reads_upto

    -- within so many bits of a codeword, the word is read as it
    pub near_upto : (m : ℕ) → m < 2 ^ 16 → flips_to w m ≤ most → reading_up_to most w ≡ Some (decoded_as w m)
    near_upto m h l = sym (only_upto (Some (decoded_as w m)) (h, refl, l))

    -- farther from a codeword, but not so far that another may be near, the word is lost: two codewords are six apart
    pub beyond_upto : (m : ℕ) → m < 2 ^ 16 → most < flips_to w m → flips_to w m + most < 6 → reading_up_to most w ≡ None
    beyond_upto m hm more less = sym (only_upto None far)
      where
        far : (k : ℕ) → k < 2 ^ 16 → most < flips_to w k
        far k hk =
            elim (ℕ_discrete m k) [
              | yes p ↦ subst (λ (i : ℕ). most < flips_to w i) p more
              | no d ↦ omega (arith, far_from_one w m k hm hk d)
            ]

-- with no flip mended a word is read exactly if it is a codeword, and then as itself
pub upto_zero : (w : ℕ) → reading_up_to 0 w ≡ when (is_codeword w) (Some (decoded_as w (w % 2 ^ 16))) None
upto_zero w =
    by_test (λ (h : Header). reading_up_to 0 w ≡ h) (is_codeword w)
    (λ t. near_upto 0 w (omega arith) m small (subst (λ (n : ℕ). n ≤ 0) (sym (itself_near w m (eqb-true (codeword m) w t))) (omega arith)))
    (λ t. sym (only_upto 0 w (omega arith) None (far (eqb-false (codeword m) w t))))
  where
    m : ℕ
    m = w % 2 ^ 16

    small : m < 2 ^ 16
    small = mod-lt w (pow_pos 16)

    far : (codeword m ≡ w → ⊥) → (k : ℕ) → k < 2 ^ 16 → 0 < flips_to w k
    far d k hk =
        elim (dec_le 1 (flips_to w k)) [
          | yes l ↦ l
          | no l ↦
              let e : w ≡ codeword k = no_flips w k (omega arith) in
              absurd (d (ap codeword (ap (λ (x : ℕ). x % 2 ^ 16) e ∙ codeword_low k hk) ∙ sym e))
        ]

-- ---- the reading of 01
module _ (w : ℕ) where
  -- READS: the reading is what 01 says
  pub reads : ReadAs w (reading w)
  reads = subst (ReadAs w) (sym (is_upto w)) (reads_upto mendable w)

  -- ONCE: a word is read in one way
  pub read_once : (r s : Header) → ReadAs w r → ReadAs w s → r ≡ s
  read_once = once_upto mendable w (omega arith)

  pub reading_only : (r : Header) → ReadAs w r → r ≡ reading w
  reading_only r p = only_upto mendable w (omega arith) r p ∙ sym (is_upto w)

  -- within two bits of a codeword, the word is read as it, with that distance
  pub near : (m : ℕ) → m < 2 ^ 16 → flips_to w m ≤ 2 → reading w ≡ Some (decoded_as w m)
  near m h l = is_upto w ∙ near_upto mendable w (omega arith) m h l

  -- three bits from a codeword, the word is near no other
  pub lost_at_three : (m : ℕ) → m < 2 ^ 16 → flips_to w m ≡ 3 → reading w ≡ None
  lost_at_three m h e = is_upto w ∙ beyond_upto mendable w (omega arith) m h (omega arith) (omega arith)

-- ---- the same over the pattern of the flipped bits
pub flips_of : (m e : ℕ) → flips_to (bit_xor (codeword m) e) m ≡ ones e
unfolding flips_to
flips_of m e =
    ap ones (ap (λ (x : ℕ). bit_xor x (codeword m)) (xor_comm (codeword m) e) ∙ xor_twice e (codeword m))

-- MENDED: a codeword with up to two flips is read as that codeword, with their number
pub mended : (m e : ℕ) → m < 2 ^ 16 → ones e ≤ 2
    → (reading (bit_xor (codeword m) e) ≡ Some (decoded_as (bit_xor (codeword m) e) m)) × ((decoded_as (bit_xor (codeword m) e) m).flips ≡ ones e)
mended m e h l =
    let f = flips_of m e in
    (near (bit_xor (codeword m) e) m h (omega arith), f)

-- THREE: three flips of a codeword are always lost
pub three_lost : (m e : ℕ) → m < 2 ^ 16 → ones e ≡ 3 → reading (bit_xor (codeword m) e) ≡ None
three_lost m e h l = lost_at_three (bit_xor (codeword m) e) m h (flips_of m e ∙ l)
