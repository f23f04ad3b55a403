-- The sixteen message bits of a header (01, "Header"): SampRate 2, feType 1, MframeCnt 4, EXP1 to EXP9, each field's first bit its least.
-- EXP1 to EXP9 are one number of 0 to 511. The definitions are shut: whoever stands above uses the laws of the module below this one.
-- Assumes nothing.
use Rattle.std.specs.Prelude.{ℕ, ◌+◌, ◌*◌, ◌/◌, ◌%◌}
use Rattle.settings.specs.declared.Settings.{Settings}
use Rattle.settings.specs.Settings.{settings}
use Rattle.message.specs.declared.Fields.{Fields}
pub mod Laws

-- the message of its fields; of a number too large for its field the low bits count
pub message : Settings → ℕ → ℕ → ℕ
message s count exp = s.rate % 4 + 4 * (s.kind % 2) + 8 * (count % 16) + 128 * (exp % 512)

pub rate_of : ℕ → ℕ
rate_of m = m % 4

pub type_of : ℕ → ℕ
type_of m = m / 4 % 2

-- its settings, both in one record: open, since the two are shut
abbrev pub settings_of : ℕ → Settings
settings_of m = settings (rate_of m) (type_of m)

pub count_of : ℕ → ℕ
count_of m = m / 8 % 16

pub exp_of : ℕ → ℕ
exp_of m = m / 128 % 512

-- all its fields
abbrev pub fields_of : ℕ → Fields
fields_of m = record { settings = settings_of m; count = count_of m; exp = exp_of m }

-- the common bits are SampRate, feType and EXP (01, "Settings"): the message with its counter 0
pub common_bits : ℕ → ℕ
common_bits m = message (settings_of m) 0 (exp_of m)
