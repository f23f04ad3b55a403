-- The bad pairs of a damaged image: the damaged ones, and those that 01's consistency rule makes bad. What it is that a test tells them and that a
-- number counts them.
-- Assumes nothing.
use Rattle.std.specs.Prelude.{◌≡◌, Bool, true, ◌⊎◌}
use Rattle.std.proofs.Math.Bool.{false}
use mathlib.Core.List.{List}
use Prim.Native.Nat.{ℕ, zero, suc, ◌<◌}
use Rattle.layout.specs.Layout.{first_frame, second_frame}
use Rattle.tables.specs.Tables.{Tables}
use Rattle.packet.specs.Packet.{frame_at}
use Rattle.consistency.specs.Consistency.{inconsistent}
use Rattle.writer.specs.Utterance.{Utterance, pairs_of, image_of}
use Rattle.damage.specs.Damage.{Touched}

-- ---- 01's bad pairs, of a damaged image: said of the utterance and the damage alone
module _ (u : Utterance) (s : List ℕ) (tables : Tables) where
  -- pair q as it was written is inconsistent
  abbrev pub Inconsistent : ℕ → Type 0
  Inconsistent q = inconsistent tables (frame_at u.indices (first_frame q)) (frame_at u.indices (second_frame q)) ≡ true

  -- the next pair is damaged; the last has none after it
  abbrev pub NextTouched : ℕ → Type 0
  NextTouched q = (suc q < pairs_of u) × Touched (image_of u) s (suc q)

  -- 01's consistency rule: "An inconsistent pair is bad too if either the next pair's CRC fails or the pair before it is bad"
  abbrev pub RuledBad : ℕ → Type 0 → Type 0
  RuledBad q before = Inconsistent q × (NextTouched q ⊎ before)

  -- the pair before pair q is bad: it is damaged, or the rule makes it bad; the first has none before it
  unfoldable pub BadBefore : ℕ → Type 0
  BadBefore zero = ⊥
  BadBefore (suc q) = Touched (image_of u) s q ⊎ RuledBad q (BadBefore q)

  abbrev pub ByRule : ℕ → Type 0
  ByRule q = RuledBad q (BadBefore q)

  abbrev pub BadPair : ℕ → Type 0
  BadPair q = Touched (image_of u) s q ⊎ ByRule q

-- ---- a test that tells whether something is so
pub data Tells (A : Type 0) (b : Bool) : Type 0 where
  is_so : A → b ≡ true → Tells A b
  not_so : (A → ⊥) → b ≡ false → Tells A b

-- ---- c of the numbers below n are so
unfoldable pub Count : (ℕ → Type 0) → ℕ → ℕ → Type 0
Count P zero c = c ≡ 0
Count P (suc n) zero = (P 0 → ⊥) × Count (λ k. P (suc k)) n zero
Count P (suc n) (suc c) = (P 0 × Count (λ k. P (suc k)) n c) ⊎ ((P 0 → ⊥) × Count (λ k. P (suc k)) n (suc c))
