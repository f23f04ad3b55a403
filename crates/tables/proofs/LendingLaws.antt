-- An admission that hands tables out says what the definitions' admission says: the tables that are lent, or the very same refusal.
-- Assumes nothing.
use Rattle.std.specs.Prelude.{◌≡◌, ◌↔◌, Result, Ok, Err}
use Rattle.std.proofs.Math.Path.{refl}
use Rattle.refusals.specs.declared.Reading.{Reading}
use Rattle.tables.specs.Lending.{lent_tables, admitted_as}
use Rattle.tables.specs.declared.lending.Tables as D

pub handed_out : (t : D.Tables) → admitted_as (Ok t) ≡ Ok (lent_tables t)
handed_out t = refl

pub turned_away : (a : Result D.Tables Reading) (r : Reading) → (admitted_as a ≡ Err r) ↔ (a ≡ Err r)
turned_away (Ok t) r = (λ e. cc, λ e. cc)
turned_away (Err x) r = (λ e. cc, λ e. cc)
