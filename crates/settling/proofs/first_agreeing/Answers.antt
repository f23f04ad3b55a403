-- `first_agreeing` meets its contract: what is left to settle from each header on is what was left at the first. Assumes nothing.
use Rattle.std.proofs.Common.{◌≡◌, ℕ, ◌+◌, ◌<◌, refl, sym, ap, ◌∙◌, arith, length, drop}
use Rattle.settling.specs.Settling.{first_agreeing, or_else}
use Rattle.settling.specs.Types.{Settlement}
use Rattle.header_readings.specs.Stored.{open_all, length_open}
use Rattle.settling.specs.Steps.{seen_before}
use Rattle.settling.proofs.Steps.{agreeing_on, agreeing_end}
use Rattle.settling.proofs.first_agreeing.Goals as goal

pub loop-k-init : goal.loop-k-init
unfolding seen_before
loop-k-init c = refl

pub returns-in-Some : goal.returns-in-Some
returns-in-Some c =
    let l = c.loop-k in
    let hs = open_all c.args.headers.now in
    let h : l.k < length hs = rw length_open (omega arith) in
    sym (l.invariant ∙ agreeing_on hs l.k c.agreed.result h c.agreed.ensures ∙ ap (λ (s : Settlement). or_else s (first_agreeing (seen_before hs (l.k + 1)) (drop (l.k + 1) hs))) c.in-Some.is)

pub loop-k-preserved : goal.loop-k-preserved
loop-k-preserved c =
    let l = c.loop-k in
    let hs = open_all c.args.headers.now in
    let h : l.k < length hs = rw length_open (omega arith) in
    l.invariant ∙ agreeing_on hs l.k c.agreed.result h c.agreed.ensures ∙ ap (λ (s : Settlement). or_else s (first_agreeing (seen_before hs (l.k + 1)) (drop (l.k + 1) hs))) c.in_default.is

pub returns : goal.returns
returns c =
    let l = c.loop-k in
    let hs = open_all c.args.headers.now in
    let e : l.k ≡ length hs = rw length_open (omega arith) in
    sym (l.invariant ∙ ap (λ (n : ℕ). first_agreeing (seen_before hs l.k) (drop n hs)) e ∙ agreeing_end hs (seen_before hs l.k))
