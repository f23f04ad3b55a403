-- What a reader of 01 would ask of the header notes.
-- Assumes nothing.
use Rattle.std.specs.Prelude.{ℕ, ◌+◌, ◌/◌, ◌%◌, ◌≤◌, ◌≡◌, refl, Bool, true, false, eqb, Some, None}
use Rattle.std.proofs.Common.{arith}
use borrow.Author.Tests.{eq-eqb, eqb-true}
use Rattle.lists.specs.Tests.{when}
use Rattle.message.specs.Message.{count_of, common_bits}
use Rattle.header.specs.declared.Decoded.{Decoded}
use Rattle.header_notes.specs.HeaderNotes.{header_note}

-- the note says how many flips were mended, whether the counter is in step and whether the common bits are the settled ones
module _ (c k : ℕ) (d : Decoded) (mended : d.flips ≤ 2) where
  abbrev f : ℕ
  f = d.flips

  flips_by : (s t : Bool) → (f + when s 0 4 + when t 0 8) % 4 ≡ f
  flips_by true true = omega arith
  flips_by true false = omega arith
  flips_by false true = omega arith
  flips_by false false = omega arith

  step_by : (s t : Bool) → (f + when s 0 4 + when t 0 8) / 4 % 2 ≡ when s 0 1
  step_by true true = omega arith
  step_by true false = omega arith
  step_by false true = omega arith
  step_by false false = omega arith

  same_by : (s t : Bool) → (f + when s 0 4 + when t 0 8) / 8 ≡ when t 0 1
  same_by true true = omega arith
  same_by true false = omega arith
  same_by false true = omega arith
  same_by false false = omega arith

  pub note_flips : header_note c k (Some d) % 4 ≡ d.flips
  unfolding header_note
  note_flips = flips_by (eqb (count_of d.message) ((k + 1) % 16)) (eqb (common_bits d.message) c)

  pub note_counter : header_note c k (Some d) / 4 % 2 ≡ when (eqb (count_of d.message) ((k + 1) % 16)) 0 1
  unfolding header_note
  note_counter = step_by (eqb (count_of d.message) ((k + 1) % 16)) (eqb (common_bits d.message) c)

  pub note_common : header_note c k (Some d) / 8 ≡ when (eqb (common_bits d.message) c) 0 1
  unfolding header_note
  note_common = same_by (eqb (count_of d.message) ((k + 1) % 16)) (eqb (common_bits d.message) c)

  zero_by : (s t : Bool) → f + when s 0 4 + when t 0 8 ≡ 0 → (f ≡ 0) × (s ≡ true) × (t ≡ true)
  zero_by true true e = (omega arith, refl, refl)
  zero_by true false e = absurd (omega arith)
  zero_by false true e = absurd (omega arith)
  zero_by false false e = absurd (omega arith)

  -- a note of 0: clean, in step, and as settled
  pub note_zero : header_note c k (Some d) ≡ 0 → (d.flips ≡ 0) × (count_of d.message ≡ (k + 1) % 16) × (common_bits d.message ≡ c)
  unfolding header_note
  note_zero e =
      let z = zero_by (eqb (count_of d.message) ((k + 1) % 16)) (eqb (common_bits d.message) c) e in
      (z.0, eqb-true (count_of d.message) ((k + 1) % 16) z.1, eqb-true (common_bits d.message) c z.2)

-- and a clean header that is in step and as settled has the note 0
pub clean_note : (c k : ℕ) (d : Decoded) → d.flips ≡ 0 → count_of d.message ≡ (k + 1) % 16 → common_bits d.message ≡ c → header_note c k (Some d) ≡ 0
unfolding header_note
clean_note c k d z e s = rw (z, eq-eqb (count_of d.message) ((k + 1) % 16) e, eq-eqb (common_bits d.message) c s)

-- a lost header is noted as lost, and no other is: its note is 3, where a readable one's flips are at most 2
pub note_lost : (c k : ℕ) → header_note c k None ≡ 3
unfolding header_note
note_lost c k = refl
