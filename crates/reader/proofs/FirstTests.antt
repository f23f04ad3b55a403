-- The first tests of a reading, as the code makes them. Nothing that 01 says stands here.
-- Assumes nothing.
use Rattle.std.specs.Prelude.{ℕ, ◌≡◌, Ok, Err}
use Rattle.std.proofs.Math.Path.{ap}
use Rattle.std.proofs.Common.{◌∙◌}
use mathlib.Core.List.{List}
use Rattle.choices.specs.declared.Choices.{Choices}
use Rattle.tables.specs.Tables.{Tables, admission}
use Rattle.cutting.specs.Cutting.{whole, refused, cutting}
use Rattle.reader.specs.Reading.{verdict, Outcome, outcome, reading_found, reading}
use Rattle.refusals.specs.declared.Reading.{Reading as Refusal}

-- ---- the first tests of a reading
module _ (ch : Choices) (octets : List ℕ) (tables : Tables) (index report : List ℕ) where
  pub not_admitted : (r : Refusal) → admission tables ≡ Err r → outcome (Err r) index report ≡ reading ch octets tables index report
  unfolding reading verdict
  not_admitted r e = rw e

  module _ {admitted : Tables} (right : admission tables ≡ Ok admitted) where
    pub not_cut : (r : Refusal) → (cutting octets).ending ≡ refused r → outcome (Err r) index report ≡ reading ch octets tables index report
    unfolding reading verdict
    not_cut r e = rw (right, e)

    pub whole_reading : (o : Outcome) (places : List ℕ) → (cutting octets).ending ≡ whole → places ≡ (cutting octets).places
        → o ≡ reading_found ch octets tables index report places → o ≡ reading ch octets tables index report
    unfolding reading verdict
    whole_reading o places e ep eo = rw (right, e) (eo ∙ ap (λ (ps : List ℕ). reading_found ch octets tables index report ps) ep)
