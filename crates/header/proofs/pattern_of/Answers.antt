-- A pattern that was found fits, and past all columns no pattern of one or two flips does. Assumes nothing.
use mathlib.Core.Path.{◌≡◌, refl}
use Prim.Native.Nat.{ℕ, ◌<◌}
use native.Mathlib.Omega.{arith}
use borrow.Author.Count.{below_more}
use lib.ListN.{get_or}
use Rattle.std.proofs.Common.{rules}
use Rattle.header.proofs.Search.{miss_one, fit_one, miss_two, fit_two}
use Rattle.header.proofs.pattern_of.Goals as goal
use Rattle.header.proofs.pattern_of.Goals.{In_default, In-Some}

pub returns-in-Some : goal.returns-in-Some
returns-in-Some c =
    let i = c.in-Some.i in
    let h : i < 32 = search rules in
    let t : get_or c.columns-columns.result i 0 ≡ c.args.wrong = search rules in
    λ w es. fit_one w _ _ i _ _ h refl c.bit.ensures es (c.columns-columns.ensures i h) t

pub loop-j-preserved : goal.loop-j-preserved
loop-j-preserved c =
    let i = c.loop-i.i in
    let j = c.loop-j.j in
    λ w es.
    below_more _ _ (c.loop-j.invariant w es)
    (λ _. miss_two w _ i j _ _ es (c.columns-columns.ensures i (omega arith)) (c.columns-columns.ensures j (omega arith)) c.if-columns-j.false)

pub returns-then-columns-j : goal.returns-then-columns-j
returns-then-columns-j c =
    let i = c.loop-i.i in
    let j = c.loop-j.j in
    let h : i < 32 = omega arith in
    let g : j < 32 = omega arith in
    λ w es.
    fit_two w _ _ _ i j _ _ _ h g refl c.bit-then-columns-j.ensures c.bit-then-columns-j-2.ensures es (c.columns-columns.ensures i h)
    (c.columns-columns.ensures j g) c.if-columns-j.true

-- past all columns: none was the syndrome, and no two were it together
pub returns : goal.returns
returns c =
    let columns = c.columns-columns.result in
    let none : (i : ℕ) → i < 32 → get_or columns i 0 ≡ c.args.wrong → ⊥ = λ i h t. search rules in
    λ w es. (
      λ i h. miss_one w _ i _ es (c.columns-columns.ensures i h) (none i h),
      λ i j h g. c.loop-i.invariant w es i (omega arith) j h g,
    )
