-- `copy` meets its contract: after so many words the bits of so many octets are copied. Assumes nothing.
use Rattle.std.proofs.Common.{ℕ, ◌≡◌, ◌+◌, ◌-◌, ◌*◌, ◌/◌, ◌%◌, ◌≤◌, ap, ◌∙◌, arith, length}
use Rattle.lists.specs.Parts.{over}
use Rattle.bits.proofs.Copied.{copied, copied_none, word_more}
use Rattle.bits.proofs.copy.Goals as goal

pub loop-j-init : goal.loop-j-init
loop-j-init c = copied_none c.args.s.now c.args.from c.args.out.now c.args.to

pub loop-j-preserved : goal.loop-j-preserved
loop-j-preserved c =
    let j = 7 * c.loop-j.j in
    let t = c.args.from + 56 * c.loop-j.j in
    let d : 8 * (t / 8) + t % 8 ≡ c.args.from + 8 * j = omega arith in
    let i : t / 8 + 8 ≤ length c.args.s.now = omega arith in
    let k : t % 8 + 56 ≤ 64 = omega arith in
    let e : j + 7 ≡ 7 * (c.loop-j.j + 1) = omega arith in
    word_more c.args.s.now c.args.from c.args.out.now c.loop-j.out _ c.args.to j (omega arith) c.loop-j.invariant (t / 8) (t % 8) 7 c.word.result i k d (omega arith)
    c.word.ensures c.store.ensures
    ∙ ap (λ (x : ℕ). over c.args.out.now c.args.to x (copied c.args.s.now c.args.from x)) e

pub returns : goal.returns
returns c =
    let b = (c.args.n - 1) / 7 in
    let j = 7 * b in
    let i = (c.args.from + 8 * c.args.n + 7) / 8 - 8 in
    let k = c.args.from + 8 * j - 8 * i in
    let all : c.loop-j.j ≡ b = omega arith in
    let m : c.loop-j.out ≡ over c.args.out.now c.args.to j (copied c.args.s.now c.args.from j) = rw all at c.loop-j.invariant in
    let d : 8 * i + k ≡ c.args.from + 8 * j = omega arith in
    let h : i + 8 ≤ length c.args.s.now = omega arith in
    let r : k + 8 * (c.args.n - j) ≤ 64 = omega arith in
    let e : j + (c.args.n - j) ≡ c.args.n = omega arith in
    word_more c.args.s.now c.args.from c.args.out.now c.loop-j.out _ c.args.to j (omega arith) m i k (c.args.n - j) c.word-2.result h r d (omega arith)
    c.word-2.ensures c.store-2.ensures
    ∙ ap (λ (x : ℕ). over c.args.out.now c.args.to x (copied c.args.s.now c.args.from x)) e
