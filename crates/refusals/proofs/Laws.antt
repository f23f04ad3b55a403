-- No refusal has the number of success or one of the house, and no number stands for two cases: `writing_of` and its like give back the case from number and
-- place alone.
-- Assumes nothing.
use Rattle.std.specs.Prelude.{ℕ, ◌+◌, ◌-◌, ◌≡◌, refl}
use Rattle.std.proofs.Common.{sym, ap, ◌∙◌, arith}
use Rattle.layout.specs.declared.Frame.{Frame}
use Rattle.refusals.specs.Refusals.{success, writing_number, writing_place, reading_number, reading_place, hunt_number, hunt_place, hunt_tested, hunting_number, hunting_place}
use Rattle.refusals.specs.declared.Writing.{Writing}
use Rattle.refusals.specs.declared.Writing.TheVariants as W
use Rattle.refusals.specs.declared.Reading.{Reading}
use Rattle.refusals.specs.declared.Reading.TheVariants as R
use Rattle.refusals.specs.declared.Hunt.{Hunt}
use Rattle.refusals.specs.declared.Hunt.TheVariants as H
use Rattle.refusals.specs.declared.Hunting.{Hunting}
use Rattle.refusals.specs.declared.Hunting.TheVariants as G
use Rattle.refusals.specs.Laws.{Between, hunt_of, hunting_of, hunting_tested, reading_of, writing_of}

-- ---- the writer's
pub writing_between : (r : Writing) → Between (writing_number r)
writing_between W.WrongSettings = (omega arith, omega arith)
writing_between (W.PartFrame n) = (omega arith, omega arith)
writing_between (W.TooMany n) = (omega arith, omega arith)
writing_between (W.WideIndex f) = (omega arith, omega arith)
writing_between (W.ZeroFrame f) = (omega arith, omega arith)
writing_between (W.OutputShort n) = (omega arith, omega arith)

pub writing_no_success : (r : Writing) → writing_number r ≡ success → ⊥
writing_no_success r e = omega (arith, writing_between r)

from_1 : (f : Frame) → record { 0 = f.0 + 1 - 1 } ≡ f
from_1 f = let e : f.0 + 1 - 1 ≡ f.0 = omega arith in rw e

pub writing_told : (r : Writing) → writing_of (writing_number r) (writing_place r) ≡ r
unfolding writing_of
writing_told W.WrongSettings = refl
writing_told (W.PartFrame n) = refl
writing_told (W.TooMany n) = refl
writing_told (W.WideIndex f) = ap W.WideIndex (from_1 f)
writing_told (W.ZeroFrame f) = ap W.ZeroFrame (from_1 f)
writing_told (W.OutputShort n) = refl

-- so two refusals with one number are one case, each with its own place
pub writing_one_case : (r q : Writing) → writing_number r ≡ writing_number q → writing_of (writing_number q) (writing_place r) ≡ r
writing_one_case r q e = ap (λ (n : ℕ). writing_of n (writing_place r)) (sym e) ∙ writing_told r

-- ---- the reader's
pub reading_between : (r : Reading) → Between (reading_number r)
reading_between R.WrongTables = (omega arith, omega arith)
reading_between (R.NegativeThreshold k) = (omega arith, omega arith)
reading_between (R.Unknown p) = (omega arith, omega arith)
reading_between (R.CutShort p) = (omega arith, omega arith)
reading_between (R.Empty n) = (omega arith, omega arith)
reading_between (R.TooMany p) = (omega arith, omega arith)
reading_between R.Unsettled = (omega arith, omega arith)
reading_between R.Unfit = (omega arith, omega arith)
reading_between (R.IndexShort n) = (omega arith, omega arith)
reading_between (R.ReportShort n) = (omega arith, omega arith)
reading_between R.AllBad = (omega arith, omega arith)

pub reading_no_success : (r : Reading) → reading_number r ≡ success → ⊥
reading_no_success r e = omega (arith, reading_between r)

pub reading_told : (r : Reading) → reading_of (reading_number r) (reading_place r) ≡ r
unfolding reading_of
reading_told R.WrongTables = refl
reading_told (R.NegativeThreshold k) = refl
reading_told (R.Unknown p) = refl
reading_told (R.CutShort p) = refl
reading_told (R.Empty n) = refl
reading_told (R.TooMany p) = refl
reading_told R.Unsettled = refl
reading_told R.Unfit = refl
reading_told (R.IndexShort n) = refl
reading_told (R.ReportShort n) = refl
reading_told R.AllBad = refl

pub reading_one_case : (r q : Reading) → reading_number r ≡ reading_number q → reading_of (reading_number q) (reading_place r) ≡ r
reading_one_case r q e = ap (λ (n : ℕ). reading_of n (reading_place r)) (sym e) ∙ reading_told r

-- ---- the hunt's, told by the places tested besides
pub hunt_between : (r : Hunt) → Between (hunt_number r)
hunt_between (H.MatchRange least) = (omega arith, omega arith)
hunt_between (H.Nowhere from n) = (omega arith, omega arith)

pub hunt_no_success : (r : Hunt) → hunt_number r ≡ success → ⊥
hunt_no_success r e = omega (arith, hunt_between r)

pub hunt_told : (r : Hunt) → hunt_of (hunt_number r) (hunt_place r) (hunt_tested r) ≡ r
unfolding hunt_of
hunt_told (H.MatchRange least) = refl
hunt_told (H.Nowhere from n) = refl

pub hunt_one_case : (r q : Hunt) → hunt_number r ≡ hunt_number q → hunt_of (hunt_number q) (hunt_place r) (hunt_tested r) ≡ r
hunt_one_case r q e = ap (λ (n : ℕ). hunt_of n (hunt_place r) (hunt_tested r)) (sym e) ∙ hunt_told r

-- ---- the hunting reader's. 15 is the octet reader's case too, but a hunting reading never answers that one: it hands on at most 255
-- multiframes, with nothing between them (`never_octet_15` of hunting)
pub hunting_between : (r : Hunting) → Between (hunting_number r)
hunting_between (G.Octets r) = reading_between r
hunting_between (G.MatchRange least) = (omega arith, omega arith)
hunting_between (G.Nowhere from n) = (omega arith, omega arith)
hunting_between (G.TooMany p) = (omega arith, omega arith)

pub hunting_no_success : (r : Hunting) → hunting_number r ≡ success → ⊥
hunting_no_success r e = omega (arith, hunting_between r)

pub hunting_told : (r : Hunting) → ((p : ℕ) → r ≡ G.Octets (R.TooMany p) → ⊥) → hunting_of (hunting_number r) (hunting_place r) (hunting_tested r) ≡ r
unfolding hunting_of reading_of
hunting_told (G.Octets R.WrongTables) h = refl
hunting_told (G.Octets (R.NegativeThreshold k)) h = refl
hunting_told (G.Octets (R.Unknown p)) h = refl
hunting_told (G.Octets (R.CutShort p)) h = refl
hunting_told (G.Octets (R.Empty n)) h = refl
hunting_told (G.Octets (R.TooMany p)) h = absurd (h p refl)
hunting_told (G.Octets R.Unsettled) h = refl
hunting_told (G.Octets R.Unfit) h = refl
hunting_told (G.Octets (R.IndexShort n)) h = refl
hunting_told (G.Octets (R.ReportShort n)) h = refl
hunting_told (G.Octets R.AllBad) h = refl
hunting_told (G.MatchRange least) h = refl
hunting_told (G.Nowhere from n) h = refl
hunting_told (G.TooMany p) h = refl

pub hunting_one_case : (r q : Hunting) → ((p : ℕ) → r ≡ G.Octets (R.TooMany p) → ⊥) → hunting_number r ≡ hunting_number q
    → hunting_of (hunting_number q) (hunting_place r) (hunting_tested r) ≡ r
hunting_one_case r q h e = ap (λ (n : ℕ). hunting_of n (hunting_place r) (hunting_tested r)) (sym e) ∙ hunting_told r h
