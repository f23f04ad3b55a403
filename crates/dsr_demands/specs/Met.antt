-- What is lent where the premises of the theorems at the entries are met (proofs/MetLaws): room for the numbers, and for an image.
-- Assumes nothing.
use Rattle.std.specs.Prelude.{List, ℕ, replicate}
use Rattle.writer.specs.Writing.{needed}
use Rattle.writer.specs.Utterance.{Utterance}

-- room for six numbers, and for eight
abbrev pub six : List ℕ
six = replicate 6 0

abbrev pub eight : List ℕ
eight = replicate 8 0

module _ (u : Utterance) where
  abbrev pub room_for : List ℕ
  room_for = replicate (needed u.indices) 0
