-- `gather` meets its contract: each turn takes what the hunt finds (`Turns`). Assumes nothing.
use mathlib.Core.Path.{refl, ◌∙◌}
use native.Mathlib.Omega.{arith}
use Rattle.bits.specs.Bits.{bits}
use Rattle.hunt.proofs.Laws.{searched_lt}
use Rattle.gathering.proofs.Turns.{begun, room_for_more, in_bits, few_tested, going_on, too_many_lem, few_tested_last, finished}
use Rattle.gathering.proofs.gather.Goals as goal

pub loop-found-init : goal.loop-found-init
loop-found-init c = (begun _ _ _ _ c.requires, refl)

pub returns-then-m-eq-MULTIFRAMES : goal.returns-then-m-eq-MULTIFRAMES
returns-then-m-eq-MULTIFRAMES c =
    let w = too_many_lem _ _ _ _ _ _ _ c.loop-found.invariant.0 _ _ c.in-Ok.ensures _ c.if-m-eq-MULTIFRAMES.true in
    record { answer = w.0; image = w.1 }

pub put_found-requires : goal.put_found-requires
put_found-requires c =
    (in_bits _ _ _ _ _ _ _ c.loop-found.invariant.0 _ _ c.in-Ok.ensures, room_for_more _ c.loop-found.invariant.0.few c.if-m-eq-MULTIFRAMES.false, omega (arith, c.loop-found.invariant.0.size))

pub overflow_add-m : goal.overflow_add-m
overflow_add-m c =
    record { fits = omega (arith, c.loop-found.invariant.0.few) }

pub overflow_add-at : goal.overflow_add-at
overflow_add-at c =
    record { fits = omega (arith, in_bits _ _ _ _ _ _ _ c.loop-found.invariant.0 _ _ c.in-Ok.ensures, searched_lt (bits c.args.octets.now)) }

pub overflow_add-tested : goal.overflow_add-tested
overflow_add-tested c =
    record { fits = omega (arith, few_tested _ _ _ _ _ _ _ c.loop-found.invariant.0 _ _ c.in-Ok.ensures, searched_lt (bits c.args.octets.now)) }

pub loop-found-smaller : goal.loop-found-smaller
loop-found-smaller c =
    let h = room_for_more _ c.loop-found.invariant.0.few c.if-m-eq-MULTIFRAMES.false in
    omega arith

pub loop-found-preserved : goal.loop-found-preserved
loop-found-preserved c =
    (going_on _ _ _ _ _ _ _ c.loop-found.invariant.0 _ _ c.in-Ok.ensures _ c.if-m-eq-MULTIFRAMES.false c.put_found.ensures, c.put_found.auto.image ∙ c.loop-found.invariant.1)

pub overflow_add-result : goal.overflow_add-result
overflow_add-result c =
    record { fits = omega (arith, c.tested.ensures, few_tested_last _ _ _ _ _ _ _ c.loop-found.invariant.0 _ c.in-Err.ensures, searched_lt (bits c.args.octets.now)) }

pub returns-in-Err : goal.returns-in-Err
returns-in-Err c =
    let w = finished _ _ _ _ _ _ _ c.loop-found.invariant.0 _ c.in-Err.ensures _ c.tested.ensures in
    record { answer = w.0; image = w.1 }
