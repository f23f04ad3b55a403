-- `was_seen` meets its contract: whether one of the headers before it has the common bits is whether they were seen. Assumes nothing.
use Rattle.std.proofs.Common.{rules, ◌≤◌, ◌∙◌, arith, length, take}
use borrow.Author.Tests.{tests}
use Rattle.std.proofs.lemmas.Iterator.{YieldsList-from_slice}
use Rattle.std.proofs.lemmas.Iterator.Search.{any_from_yields_List}
use Rattle.header_readings.specs.Stored.{opened}
use Rattle.settling.specs.Steps.{has_common}
use Rattle.settling.proofs.Steps.{any_is_among}
use Rattle.settling.proofs.was_seen.Goals as goal

pub returns : goal.returns
returns c =
    let few : c.args.k.0 ≤ length c.args.headers.now = c.requires in
    let l = take c.args.k.0 c.args.headers.now in
    any_from_yields_List (λ x. has_common (opened x) c.args.common) _ _ c.any.result c.any.ensures.ran (YieldsList-from_slice l (grind arith)) (λ x b q k. search (rules, tests))
    ∙ any_is_among c.args.headers.now c.args.common c.args.k.0 few
