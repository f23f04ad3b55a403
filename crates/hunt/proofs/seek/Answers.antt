-- `seek` meets its contract: what was passed does not fit. Assumes nothing.
use Rattle.std.proofs.Common.{◌<◌, sym, ◌∙◌, arith}
use Rattle.bits.specs.Bits.{bits}
use Rattle.hunt.specs.Hunt.{places_left, at_once}
use Rattle.hunt.proofs.Steps.{seeking_begun, seeking_on, seeking_past, seeking_found, seeking_done, word_room, bits_left, at_place, far_left, far_fails}
use Rattle.hunt.proofs.seek.Goals as goal

pub loop-t-init : goal.loop-t-init
loop-t-init c = seeking_begun _ _ _

pub word-requires : goal.word-requires
word-requires c =
    let h : c.loop-t.t < places_left (bits c.args.octets.now) 0 = omega arith in
    word_room c.args.octets.now c.loop-t.t h

-- eight places are left, and far
pub overflow_add-t : goal.overflow_add-t
overflow_add-t c = let left = far_left _ _ _ (sym c.are_far.ensures ∙ c.if-are_far.true) in record { fits = omega (arith, left) }

pub loop-t-smaller-then-are_far : goal.loop-t-smaller-then-are_far
loop-t-smaller-then-are_far c = let left = far_left _ _ _ (sym c.are_far.ensures ∙ c.if-are_far.true) in omega (arith, left)

pub loop-t-preserved-then-are_far : goal.loop-t-preserved-then-are_far
loop-t-preserved-then-are_far c =
    let far = sym c.are_far.ensures ∙ c.if-are_far.true in
    let left = far_left _ _ _ far in
    seeking_past _ _ _ at_once c.loop-t.t c.loop-t.invariant (omega (arith, left))
    (far_fails c.args.octets.now _ _ c.loop-t.t c.word.result (bits_left (bits c.args.octets.now) c.loop-t.t (omega arith)) c.word.ensures far)

-- the test's answer is the place's
pub returns-then-passes : goal.returns-then-passes
returns-then-passes c =
    let o = c.args.octets.now in
    let passed =
    at_place o _ c.loop-t.t c.word.result c.passes.result (bits_left (bits o) c.loop-t.t (omega arith)) c.word.ensures c.passes.ensures in
    seeking_found _ _ _ c.loop-t.t c.loop-t.invariant (omega arith) (sym passed ∙ c.if-passes.true)

pub loop-t-preserved : goal.loop-t-preserved
loop-t-preserved c =
    let o = c.args.octets.now in
    let passed =
    at_place o _ c.loop-t.t c.word.result c.passes.result (bits_left (bits o) c.loop-t.t (omega arith)) c.word.ensures c.passes.ensures in
    seeking_on _ _ _ c.loop-t.t c.loop-t.invariant (omega arith) (sym passed ∙ c.if-passes.false)

pub returns : goal.returns
returns c = seeking_done _ _ _ c.loop-t.t c.loop-t.invariant (omega arith)
