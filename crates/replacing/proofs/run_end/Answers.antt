-- `run_end` meets its contract: the notes taken are the bad ones at the front.
-- Assumes nothing.
use Prim.Native.Nat.{◌+◌}
use Rattle.std.proofs.Common.{◌∙◌, ap, not, eqb, drop, rules, tests, ℕ}
use Rattle.std.proofs.lemmas.List.{take_rest}
use Rattle.std.proofs.lemmas.List.Folds.{length-prefix_len}
use Rattle.std.proofs.lemmas.Iterator.{YieldsList-from_slice}
use Rattle.std.proofs.lemmas.Iterator.Consumers.{count_from_yields_List}
use Rattle.std.proofs.lemmas.Iterator.Search.{YieldsList-from_take_while}
use Rattle.replacing.proofs.Laws.{leading_counted}
use Rattle.replacing.proofs.run_end.Goals as goal

pub returns : goal.returns
returns c =
    let isBad = λ (n : ℕ). not (eqb n 0) in
    let behind = drop c.args.q.0 c.args.notes.now in
    ap (λ (k : ℕ). c.args.q.0 + k) (count_from_yields_List c.take_while.result _ c.count-bad.ensures.ran
    (YieldsList-from_take_while _ isBad (YieldsList-from_slice behind (cc (take_rest c.args.notes.now c.args.q.0)))
    c.take_while.ensures.closure c.take_while.ensures.done (λ x b q k. search (rules, tests)))
    ∙ length-prefix_len isBad behind ∙ leading_counted behind)
