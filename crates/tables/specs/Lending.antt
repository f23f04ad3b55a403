-- The tables that code lends, as the definitions' record; and an admission that hands them out, as the definitions' admission.
-- Assumes nothing.
use Rattle.std.specs.Prelude.{Result, Ok, Err}
use Rattle.refusals.specs.declared.Reading.{Reading}
use Rattle.tables.specs.Tables.{Tables, tables_of}
use Rattle.tables.specs.declared.lending.Tables as D

-- the codebook and the thresholds that are lent
abbrev pub lent_tables : D.Tables → Tables
lent_tables t = tables_of t.codebook.now t.thresholds.now

-- the tables that are handed out, or the refusal as it is
abbrev pub admitted_as : Result D.Tables Reading → Result Tables Reading
admitted_as (Ok t) = Ok (lent_tables t)
admitted_as (Err r) = Err r
