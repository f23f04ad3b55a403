-- What a reader of 01 would ask of the settings; proofs/Laws.antt shows that it is so.
-- Assumes nothing.
use Rattle.std.specs.Prelude.{ℕ, zero, suc, ◌≤◌, ◌<◌, ◌≡◌, ◌⊎◌, true, List, [], ◌∷◌, Some, None}
use Rattle.message.specs.Message.{common_bits}
use Rattle.choices.specs.Choices.{one_settles}
use Rattle.choices.specs.declared.Choices.{Choices}
use Rattle.header.specs.declared.Decoded.{Decoded}
use Rattle.header.specs.Types.{Header}
use Rattle.settling.specs.Settling.{among}
use Rattle.settling.specs.Types.{Settlement}

-- ---- the settled common bits are those of two headers, and of the first two that agree

-- header k is read as a codeword with these common bits
abbrev pub Has : List Header → ℕ → ℕ → Type 0
Has [] k c = ⊥
Has (None ∷ hs) zero c = ⊥
Has (Some d ∷ hs) zero c = common_bits d.message ≡ c
Has (h ∷ hs) (suc k) c = Has hs k c

-- header k agrees in its common bits c with an earlier readable one, or with those already seen
pub record Earlier (hs : List Header) (k c : ℕ) : Type 0 where
  pub at : ℕ
  pub less : at < k
  pub has : Has hs at c

pub record Agrees (seen : List ℕ) (hs : List Header) (k c : ℕ) : Type 0 where
  pub has : Has hs k c
  pub with : (among c seen ≡ true) ⊎ Earlier hs k c

-- header k is the first that agrees
pub record First (seen : List ℕ) (hs : List Header) (c : ℕ) : Type 0 where
  pub at : ℕ
  pub agrees : Agrees seen hs at c
  pub none : (i d : ℕ) → i < at → Agrees seen hs i d → ⊥

-- what `first_agreeing` gives
abbrev pub Says : List ℕ → List Header → Settlement → Type 0
Says seen hs (Some c) = First seen hs c
Says seen hs None = (k d : ℕ) → Agrees seen hs k d → ⊥

-- all headers are read with the common bits c: once one was seen the next settles them
abbrev pub AllHave : List Header → ℕ → Type 0
AllHave [] c = Unit
AllHave (None ∷ hs) c = ⊥
AllHave (Some d ∷ hs) c = (common_bits d.message ≡ c) × AllHave hs c

-- so many headers may be enough to settle: two or more, or one where the caller asks for the old rule
abbrev pub Enough : Choices → ℕ → Type 0
Enough ch m = (2 ≤ m) ⊎ (one_settles ch ≡ true)

-- an only header settles nothing but its own common bits, only if it is a codeword, and only where the caller asks for it
pub record OnlySettles (ch : Choices) (h : Header) (c : ℕ) : Type 0 where
  pub asked_for : one_settles ch ≡ true
  pub decoded : Decoded
  pub read_as : h ≡ Some decoded
  pub clean : decoded.flips ≡ 0
  pub bits : common_bits decoded.message ≡ c
