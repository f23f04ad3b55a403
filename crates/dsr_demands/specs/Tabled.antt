-- The tables with which what a caller in C is told of the tables (02, C-12; proofs/Tabled) only just holds.
-- Assumes nothing.
use Rattle.std.specs.Prelude.{[], ◌∷◌, ◌++◌, pos, negsuc, replicate}
use Rattle.tables.specs.Tables.{Tables, tables_of}

-- of 14 thresholds the last alone is negative, by 1
abbrev pub last_negative : Tables
last_negative = tables_of (replicate 1280 (pos 0)) (replicate 13 (pos 0) ++ (negsuc 0 ∷ []))
