-- The writer's and the reader's equations put one behind the other; that it comes back is the theorem "reads back". Assumes nothing.
use Rattle.std.specs.Prelude.{◌≡◌, refl, Result, Ok, Err}
use Rattle.std.specs.Result.{MatchResult, IsErrAnd}
use Rattle.std.proofs.Common.{◌∙◌}
use Rattle.std.proofs.lemmas.Result.{err_from_is_err_and}
use mathlib.Core.Path.{sym, ap}
use lib.Seq.{length-take-le}
use Rattle.reader.specs.Types as Ra
use Rattle.roundtrip.specs.Types.{Trip}
use Rattle.roundtrip.specs.declared.Failure.TheVariants.{NotRead, NotWritten}
use Rattle.roundtrip.specs.Trip.{trip_of}
use Rattle.roundtrip.proofs.TripLaws.{ends_unwritten, ends_read, fits_output, meets}
use Rattle.tables.specs.Tables.{tables_of}
use Rattle.roundtrip.proofs.write_and_read.Goals as goal

-- a result whose refusal `map_err` put into another kind
module _ {T E D : Type 0} (f : E → D) where
  abbrev Mapped : Result T E → Result T D → Type 0
  Mapped r s = MatchResult r (λ x. s ≡ Ok x) (λ e. IsErrAnd s (λ d. d ≡ f e))

  mapped_ok : (r : Result T E) (s : Result T D) (x : T) → Mapped r s → s ≡ Ok x → r ≡ Ok x
  mapped_ok (Ok y) s x m e = let z : ◌≡◌ {A = Result T D} (Ok y) (Ok x) = sym m ∙ e in let q : y ≡ x = cc in ap Ok q
  mapped_ok (Err y) (Ok z) x m e = elim m [ ]
  mapped_ok (Err y) (Err d) x m e = absurd (cc)

  mapped_err : (r : Result T E) (s : Result T D) (d : D) → Mapped r s → s ≡ Err d → (y : E) × ((r ≡ Err y) × (d ≡ f y))
  mapped_err (Ok y) s d m e = absurd (let z : ◌≡◌ {A = Result T D} (Ok y) (Err d) = sym m ∙ e in cc)
  mapped_err (Err y) (Ok z) d m e = elim m [ ]
  mapped_err (Err y) (Err b) d m e = let q : b ≡ d = cc in (y, (refl, sym q ∙ m))

read_is : (r : Ra.Answer) (s : Trip) → Mapped NotRead r s → trip_of r ≡ s
read_is (Ok x) s m = sym m
read_is (Err e) (Ok x) m = elim m [ ]
read_is (Err e) (Err d) m = ap Err (sym m)

pub slice_bounds-read-end : goal.slice_bounds-read-end
slice_bounds-read-end c =
    fits_output c.args.settings c.args.indices.now (tables_of c.args.codebook.now c.args.thresholds.now) c.args.out.now c.args.index.now c.args.report.now _ _ _ c.write.ensures.all (mapped_ok NotWritten _ _ _ c.map_err.ensures.cases c.in_ok-octets.was)

pub slice_bounds-read-end-2 : goal.slice_bounds-read-end-2
slice_bounds-read-end-2 c =
    sym (length-take-le _ _ (fits_output c.args.settings c.args.indices.now (tables_of c.args.codebook.now c.args.thresholds.now) c.args.out.now c.args.index.now c.args.report.now _ _ _ c.write.ensures.all (mapped_ok NotWritten _ _ _ c.map_err.ensures.cases c.in_ok-octets.was)))

pub returns : goal.returns
returns c =
    let e = ends_read c.args.settings c.args.indices.now (tables_of c.args.codebook.now c.args.thresholds.now) c.args.out.now c.args.index.now c.args.report.now _ _ _ _ _ _ _ c.write.ensures.all (mapped_ok NotWritten _ _ _ c.map_err.ensures.cases c.in_ok-octets.was) c.read.ensures.all (read_is _ _ c.map_err-2.ensures.cases) in
    let m = meets c.args.settings c.args.indices.now (tables_of c.args.codebook.now c.args.thresholds.now) c.args.out.now c.args.index.now c.args.report.now (λ i. (c.type_inv.indices i).fits) e in
    record { all = m.0; back = m.1.0; unread = m.1.1.0; unwritten = m.1.1.1 }

pub returns-in_err-octets : goal.returns-in_err-octets
returns-in_err-octets c =
    let p = err_from_is_err_and c.from_residual.result c.from_residual.ensures.1 in
    let w = mapped_err NotWritten _ _ _ c.map_err.ensures.cases c.in_err-octets.was in
    let e = ends_unwritten c.args.settings c.args.indices.now (tables_of c.args.codebook.now c.args.thresholds.now) c.args.out.now c.args.index.now c.args.report.now _ _ _ c.write.ensures.all w.1.0 in
    let m = meets c.args.settings c.args.indices.now (tables_of c.args.codebook.now c.args.thresholds.now) c.args.out.now c.args.index.now c.args.report.now (λ i. (c.type_inv.indices i).fits) e in
    rw (p.1, p.2, w.1.1) (record { all = m.0; back = m.1.0; unread = m.1.1.0; unwritten = m.1.1.1 })
