-- `replace` meets its contract: a good pair is passed, and a run of bad pairs is filled at once (`Turns`).
-- Assumes nothing.
use native.Mathlib.Omega.{arith}
use mathlib.Core.Path.{◌≡◌, subst}
use lib.ListN.{length}
use Rattle.replacing.proofs.Laws.{not_all_bad}
use Rattle.replacing.proofs.Turns.{Going, begun, good_turn, the_run, run_turn, done}
use Rattle.replacing.proofs.replace.Goals as goal

pub loop-k-init : goal.loop-k-init
loop-k-init c = begun _ _

pub loop-k-preserved-then-notes-k-eq-GOOD : goal.loop-k-preserved-then-notes-k-eq-GOOD
loop-k-preserved-then-notes-k-eq-GOOD c = good_turn _ _ _ _ (omega arith) c.loop-k.invariant c.if-notes-k-eq-GOOD.true

-- `the_run` is the run that was met
pub fill_run-requires : goal.fill_run-requires
fill_run-requires c =
    let r = the_run _ _ c.loop-k.index c.loop-k.k (omega arith) c.loop-k.invariant c.requires.1 c.if-notes-k-eq-GOOD.false c.run_end-b.result.0 c.run_end-b.ensures in
    (r.some, r.within, omega arith, not_all_bad c.args.notes.now c.requires.1 c.loop-k.k c.run_end-b.result.0 r)

pub loop-k-smaller : goal.loop-k-smaller
loop-k-smaller c = let r = the_run _ _ c.loop-k.index c.loop-k.k (omega arith) c.loop-k.invariant c.requires.1 c.if-notes-k-eq-GOOD.false c.run_end-b.result.0 c.run_end-b.ensures in omega (arith, r.some, r.within)

pub loop-k-preserved : goal.loop-k-preserved
loop-k-preserved c =
    run_turn _ _ c.loop-k.index c.loop-k.k (omega arith) c.loop-k.invariant c.requires.1 c.if-notes-k-eq-GOOD.false c.run_end-b.result.0 c.run_end-b.ensures _ c.fill_run.ensures

pub returns : goal.returns
returns c =
    let e : c.loop-k.k ≡ length c.args.notes.now = omega arith in
    done c.args.notes.now c.args.index.now c.loop-k.index c.requires.0 (subst (Going c.args.notes.now c.args.index.now c.loop-k.index) e c.loop-k.invariant)
